-- One step of a world: the thread's plan over the word that it is about, applied. Assumes nothing.
use Rattle.std.specs.Prelude.{ℕ, ◌+◌, Bool, true, false, cond, List, [], ◌∷◌, ltb, length, get_or, set}
use Rattle.words.specs.Atomic.{wrapping_add, wrapping_sub}
use Rattle.words.specs.declared.Hold.{Hold}
use Rattle.words.specs.declared.Hold.TheVariants as H
use Rattle.words.specs.declared.Wake.{Wake}
use Rattle.words.specs.declared.Wake.TheVariants as W
use Rattle.queue.specs.declared.Row.{Row}
use Rattle.queue.specs.Row.{Taken, THREADS, queue_of, place_of, take_out_of, without_of, push_of}
use Rattle.calls.specs.declared.Thread.{Thread}
use Rattle.calls.specs.declared.Plan.{Plan}
use Rattle.calls.specs.declared.Event.TheVariants as E
use Rattle.calls.specs.Events.{tell_of}
use Rattle.calls.specs.Objects.{WORDS}
use Rattle.calls.specs.Plans.{awake, decide_of}
use Rattle.calls.specs.Positions.{operand_of, after_wait}
use Rattle.world.specs.declared.World.{World}
use Rattle.step.specs.declared.Acted.{Acted}
use Rattle.world.specs.World.{thread_at, word_at, sleeps_on, on_word, with_sleepers}
use Rattle.world.specs.Holds.{mutex_slot, lock_slot}

-- a thread's record after a wake: it stands after its futex_wait
abbrev pub roused : Thread → Thread
roused th = awake (after_wait th.at)

-- every record of those who sleep on word k so, the first record being thread t's
unfoldable pub rouse_all : ℕ → ℕ → List Thread → List Thread
rouse_all k t [] = []
rouse_all k t (th ∷ ths) = cond (sleeps_on k t th) (roused th) th ∷ rouse_all k (t + 1) ths

-- a world, and how many woke on the way to it
pub record Woken : Type 0 where
  pub world : World
  pub count : ℕ

-- a sleeper that was taken out of the row wakes; where none was, nobody does
abbrev pub woken_one : World → Taken → Woken
woken_one w taken =
    cond taken.ok
    (record {
      world = with_sleepers w (set w.threads taken.thread (roused (thread_at w taken.thread))) taken.row;
      count = 1;
    })
    (record { world = w; count = 0 })

-- everyone on word k wakes
abbrev pub woken_all : World → ℕ → Woken
woken_all w k = record {
  world = with_sleepers w (rouse_all k 0 w.threads) (without_of (on_word w.threads k) w.sleepers);
  count = length (queue_of (on_word w.threads k) w.sleepers);
}

-- the wakes of a step on word k, with the place in the row of the longest asleep on it; past the row where nobody is
unfoldable pub wakes_of : World → ℕ → ℕ → Wake → Woken
wakes_of w k place W.None = record { world = w; count = 0 }
wakes_of w k place W.One = woken_one w (take_out_of w.sleepers place)
wakes_of w k place W.All = woken_all w k

-- a hold after a step
abbrev pub locked_after : Hold → Bool → Bool
locked_after H.Same b = b
locked_after H.TakeMutex b = true
locked_after H.FreeMutex b = false
locked_after H.TakeRead b = b
locked_after H.FreeRead b = b
locked_after H.TakeWrite b = b
locked_after H.FreeWrite b = b
locked_after H.Downgrade b = b

abbrev pub written_after : Hold → Bool → Bool
written_after H.Same b = b
written_after H.TakeMutex b = b
written_after H.FreeMutex b = b
written_after H.TakeRead b = b
written_after H.FreeRead b = b
written_after H.TakeWrite b = true
written_after H.FreeWrite b = false
written_after H.Downgrade b = false

abbrev pub reads_after : Hold → ℕ → ℕ
reads_after H.Same n = n
reads_after H.TakeMutex n = n
reads_after H.FreeMutex n = n
reads_after H.TakeRead n = wrapping_add n 1
reads_after H.FreeRead n = wrapping_sub n 1
reads_after H.TakeWrite n = n
reads_after H.FreeWrite n = n
reads_after H.Downgrade n = wrapping_add n 1

-- the row with t behind the others, where it fell asleep
abbrev pub slept_row : Bool → Row → ℕ → Row
slept_row sleeps row t = cond sleeps (push_of row t).row row

-- the stepping thread's own part: the word, its hold, its record, its place behind the sleepers
unfoldable pub own_plan : World → ℕ → ℕ → Plan → World
own_plan v t k p =
    let m = mutex_slot t p.object in
    let l = lock_slot t p.object in
    record {
      words = set v.words k p.word;
      locked = set v.locked m (locked_after p.hold (get_or v.locked m false));
      written = set v.written l (written_after p.hold (get_or v.written l false));
      reads = set v.reads l (reads_after p.hold (get_or v.reads l 0));
      forgotten = v.forgotten;
      threads = set v.threads t p.next;
      sleepers = slept_row p.next.asleep v.sleepers t;
      started = true;
    }

-- the plan of thread t carried out, over word k: the wakes, then its own part
unfoldable pub apply_plan : World → ℕ → ℕ → ℕ → Plan → Acted
apply_plan w t k place p =
    let a = wakes_of w k place p.wake in
    record { event = tell_of p.event a.count; world = own_plan a.world t k p }

abbrev pub refused : ℕ → World → Acted
refused number w = record { event = E.Refused number; world = w }

-- a step of thread t; one that has no word (idle, in a closure, on an object that does not exist) stays
unfoldable pub step_of : World → ℕ → Bool → Acted
step_of w t fails =
    let at = (thread_at w t).at in
    let k = operand_of t at in
    let place = place_of (on_word w.threads k) w.sleepers in
    cond (ltb k WORDS) (apply_plan w t k place (decide_of at fails (word_at w k) (ltb place THREADS))) (refused 19 w)
