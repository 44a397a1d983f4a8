-- A thread run alone is a row of plain step acts: the same event, count, sleepers woken and world, for every world of the right sizes,
-- thread and budget, refusals too. So a run ends in a sound world. The definitions and the statements. Assumes nothing.
use Rattle.std.specs.Prelude.{◌≡◌, true, false, cond, ℕ, zero, suc, ◌+◌, ◌≤◌, ◌<◌, replicate}
use Rattle.queue.specs.Row.{THREADS}
use Rattle.calls.specs.declared.Event.{Event}
use Rattle.calls.specs.declared.Event.TheVariants as E
use Rattle.calls.specs.Events.{value_of, woken_of, goes_on, is_step}
use Rattle.world.specs.declared.World.{World}
use Rattle.world.specs.World.{thread_at}
use Rattle.sound.specs.Sound.{sound_world}
use Rattle.acts.specs.declared.Fields.{Fields}
use Rattle.acts.specs.Refusals.{STEP, step_refusal}
use Rattle.acts.specs.Acts.{act_of, acts_of}
use Rattle.solo.specs.Run.{Ran, refused_run, solo_of}
use Rattle.kept.specs.Shape.{Shaped}

-- a plain step of thread t, as an act
abbrev pub plain_step : ℕ → Fields
plain_step t = record { act = STEP; choice = 0; thread = t; object = 0; value = 0 }

-- a run by acts: at most n more, after `count` that woke `woken`, up to the first that does not move
unfoldable pub acts_from : ℕ → ℕ → ℕ → World → ℕ → Ran
acts_from zero count woken w t = record { event = E.Moved 0; count = count; woken = woken; world = w }
acts_from (suc n) count woken w t =
    let a = act_of w (plain_step t) in
    let k = woken + woken_of a.event in
    let stopped : Ran = record { event = a.event; count = count + 1; woken = k; world = a.world } in
    cond (goes_on a.event) (acts_from n (count + 1) k a.world t) stopped

-- .. or the refusal of the first, for a budget of 0 too
unfoldable pub solo_by_acts : World → ℕ → ℕ → Ran
solo_by_acts w t budget =
    let event = (act_of w (plain_step t)).event in
    cond (is_step event) (acts_from budget 0 0 w t) (refused_run (value_of event) w)

-- a thread that may be stepped, in a sound world
pub record Steppable (w : World) (t : ℕ) : Type 0 where
  pub sound : sound_world w ≡ true
  pub shaped : Shaped w
  pub there : t < THREADS
  pub allowed : step_refusal (thread_at w t) 0 ≡ 0

-- The row, act by act: what the act after j others answers, and the sleepers that the first k wake.
unfoldable pub event_at : World → ℕ → ℕ → Event
event_at w t j = (act_of (acts_of w (replicate j (plain_step t))) (plain_step t)).event

unfoldable pub woken_by : ℕ → World → ℕ → ℕ
woken_by zero w t = 0
woken_by (suc k) w t = let a = act_of w (plain_step t) in woken_of a.event + woken_by k a.world t

-- how a run of k acts under a budget of n ended: all of them moved and the budget is used up, or all but the last did
pub data Ended (w : World) (t n k : ℕ) (event : Event) : Type 0 where
  by-budget : k ≡ n → ((i : ℕ) → i < k → goes_on (event_at w t i) ≡ true) → event ≡ E.Moved 0 → Ended w t n k event
  by-stop :
      (j : ℕ) → k ≡ suc j → ((i : ℕ) → i < j → goes_on (event_at w t i) ≡ true) → event ≡ event_at w t j →
      is_step event ≡ true → goes_on event ≡ false → Ended w t n k event

-- the run r is the row of its count of acts: the world that they lead to, the sleepers that they wake, the event that ended it
pub record Row (w : World) (t n : ℕ) (r : Ran) : Type 0 where
  pub within : r.count ≤ n
  pub reached : r.world ≡ acts_of w (replicate r.count (plain_step t))
  pub wakes : r.woken ≡ woken_by r.count w t
  pub ended : Ended w t n r.count r.event

-- a run is a row of acts
abbrev pub SoloIsActs : Type 0
SoloIsActs = (w : World) (t budget : ℕ) → Shaped w → solo_of w t budget ≡ solo_by_acts w t budget

abbrev pub SoloKeeps : Type 0
SoloKeeps =
    (w : World) (t budget : ℕ) → sound_world w ≡ true → Shaped w →
    (sound_world (solo_of w t budget).world ≡ true) × Shaped (solo_of w t budget).world

-- the run of a thread that may be stepped, act by act
abbrev pub SoloRow : Type 0
SoloRow = (w : World) (t budget : ℕ) → Steppable w t → Row w t budget (solo_of w t budget)
