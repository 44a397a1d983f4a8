-- What the acts other than step store in thread records and sleepers: begin, a spurious wake, and the end of a closure. Assumes nothing.
use Rattle.std.specs.Prelude.{ℕ, Bool, true, false, List, set, replicate}
use Rattle.queue.specs.declared.Row.{Row}
use Rattle.queue.specs.Row.{THREADS, is_wanted, place_of, take_out_of}
use Rattle.once.specs.declared.Ending.{Ending}
use Rattle.once.specs.Once as On
use Rattle.calls.specs.declared.At.{At}
use Rattle.calls.specs.declared.At.TheVariants as A
use Rattle.calls.specs.declared.Thread.{Thread}
use Rattle.calls.specs.declared.Event.{Event}
use Rattle.calls.specs.declared.Event.TheVariants as E
use Rattle.calls.specs.Plans.{awake}
use Rattle.world.specs.declared.World.{World}
use Rattle.step.specs.declared.Acted.{Acted}
use Rattle.world.specs.World.{thread_at}
use Rattle.step.specs.Step.{roused}

-- thread t has another record, and the row of sleepers is another; the world is in motion
unfoldable pub recorded : World → ℕ → Thread → Row → Event → Acted
recorded w t th row event = record {
  event = event;
  world = record {
    words = w.words;
    locked = w.locked;
    written = w.written;
    reads = w.reads;
    forgotten = w.forgotten;
    threads = set w.threads t th;
    sleepers = row;
    started = true;
  };
}

-- begin: the thread stands at the start of a call
unfoldable pub begin_of : World → ℕ → At → Acted
begin_of w t at = recorded w t (awake at) w.sleepers E.Begun

-- a flag for thread t alone
abbrev pub only_of : ℕ → List Bool
only_of t = set (replicate THREADS false) t true

-- a spurious wake: the thread leaves the row, from wherever it stands there
unfoldable pub wake_of : World → ℕ → Acted
wake_of w t =
    recorded w t (roused (thread_at w t)) (take_out_of w.sleepers (place_of (is_wanted (only_of t)) w.sleepers)).row E.Woken

-- the closure of thread t ends
abbrev pub closed_at : Ending → At → At
closed_at ending A.Idle = A.Idle
closed_at ending (A.Mutex mutex p) = A.Mutex mutex p
closed_at ending (A.RwLock lock p) = A.RwLock lock p
closed_at ending (A.Condvar condvar p) = A.Condvar condvar p
closed_at ending (A.Once once p) = A.Once once (On.close_of ending p)
closed_at ending (A.Parker p) = A.Parker p

unfoldable pub close_of : World → ℕ → Ending → Acted
close_of w t ending = recorded w t (awake (closed_at ending (thread_at w t).at)) w.sleepers E.Closed
