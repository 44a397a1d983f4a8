-- A thread stepped alone, plain steps under a budget: the event that stopped it, or none where the budget did; the count of steps to
-- that stop; the sleepers woken; the world. Assumes nothing.
use Rattle.std.specs.Prelude.{ℕ, zero, suc, ◌+◌, false, cond, eqb, ltb}
use Rattle.queue.specs.Row.{THREADS}
use Rattle.calls.specs.declared.Event.{Event}
use Rattle.calls.specs.declared.Event.TheVariants as E
use Rattle.calls.specs.Events.{woken_of, goes_on}
use Rattle.world.specs.declared.World.{World}
use Rattle.world.specs.World.{thread_at}
use Rattle.step.specs.Step.{step_of}
use Rattle.sound.specs.Sound.{sound_world}
use Rattle.acts.specs.Refusals.{step_refusal}

-- the event is a stop, a refusal, or Moved for a run that its budget ended
pub record Ran : Type 0 where
  pub event : Event
  pub count : ℕ
  pub woken : ℕ
  pub world : World

-- at most n more steps, after `count` that woke `woken`
unfoldable pub run_from : ℕ → ℕ → ℕ → World → ℕ → Ran
run_from zero count woken w t = record { event = E.Moved 0; count = count; woken = woken; world = w }
run_from (suc n) count woken w t =
    let a = step_of w t false in
    let k = woken + woken_of a.event in
    let stopped : Ran = record { event = a.event; count = count + 1; woken = k; world = a.world } in
    cond (goes_on a.event) (run_from n (count + 1) k a.world t) stopped

abbrev pub refused_run : ℕ → World → Ran
refused_run number w = record { event = E.Refused number; count = 0; woken = 0; world = w }

-- the refusals of a step, once, then the steps
unfoldable pub solo_of : World → ℕ → ℕ → Ran
solo_of w t budget =
    cond (sound_world w)
    (cond (ltb t THREADS)
    (cond (eqb (step_refusal (thread_at w t) 0) 0) (run_from budget 0 0 w t) (refused_run (step_refusal (thread_at w t) 0) w))
    (refused_run 2 w))
    (refused_run 19 w)
