-- Every contract of this crate determines its result: any two results that it allows are equal. Assumes nothing.
use Rattle.std.proofs.Common.{ℕ, Bool, ◌≡◌, sym, ◌∙◌}
use Rattle.words.specs.Determined.{Determined, determined}
use Rattle.words.specs.Atomic.{exchanges, wrapping_add, wrapping_sub}
use Rattle.words.specs.Counter.{incremented}
use Rattle.words.specs.Mutex.{is_contended, is_locked, is_unlocked as is_mutex_unlocked}
use Rattle.words.specs.declared.Hold.{Hold}
use Rattle.words.specs.declared.Panic.{Panic}
use Rattle.words.specs.declared.Step.{Step}
use Rattle.words.specs.declared.Wake.{Wake}
use Rattle.words.specs.Steps.{moves_with, moves, sleeps, ends, panics, enters, map_step, then_step}
use Rattle.words.specs.Once.{is_queued, state_of, running_with, with_queued}
use Rattle.words.specs.Panic.{number_of}
use Rattle.words.specs.Parker.{PARKED, is_notified, is_parked, less_one}
use Rattle.words.specs.RwLock.{count, is_unlocked, is_write_locked, has_readers_waiting, has_writers_waiting, is_read_lockable, is_read_lockable_after_wakeup, has_reached_max_readers, read_locked, read_unlocked, write_locked, write_unlocked, downgraded, with_write_locked, with_readers_waiting, without_readers_waiting, with_writers_waiting}

pub exchanges-determined : (word : ℕ) (expected : ℕ) (fails : Bool) → Determined (exchanges word expected fails)
exchanges-determined word expected fails = determined (exchanges word expected fails)

pub fetch-add-determined : (word : ℕ) (n : ℕ) → Determined (wrapping_add word n)
fetch-add-determined word n = determined (wrapping_add word n)

pub fetch-sub-determined : (word : ℕ) (n : ℕ) → Determined (wrapping_sub word n)
fetch-sub-determined word n = determined (wrapping_sub word n)

pub MutexWord-is-unlocked-determined : (state : ℕ) → Determined (is_mutex_unlocked state)
MutexWord-is-unlocked-determined state = determined (is_mutex_unlocked state)

pub MutexWord-is-locked-determined : (state : ℕ) → Determined (is_locked state)
MutexWord-is-locked-determined state = determined (is_locked state)

pub MutexWord-is-contended-determined : (state : ℕ) → Determined (is_contended state)
MutexWord-is-contended-determined state = determined (is_contended state)

pub ParkerWord-is-parked-determined : (state : ℕ) → Determined (is_parked PARKED state)
ParkerWord-is-parked-determined state = determined (is_parked PARKED state)

pub ParkerWord-is-notified-determined : (state : ℕ) → Determined (is_notified state)
ParkerWord-is-notified-determined state = determined (is_notified state)

pub ParkerWord-less-one-determined : (state : ℕ) → Determined (less_one PARKED state)
ParkerWord-less-one-determined state = determined (less_one PARKED state)

pub CounterWord-incremented-determined : (word : ℕ) → Determined (incremented word)
CounterWord-incremented-determined word = determined (incremented word)

pub OnceWord-state-determined : (seen : ℕ) → Determined (state_of seen)
OnceWord-state-determined seen = determined (state_of seen)

pub OnceWord-is-queued-determined : (seen : ℕ) → Determined (is_queued seen)
OnceWord-is-queued-determined seen = determined (is_queued seen)

pub OnceWord-with-queued-determined : (seen : ℕ) → Determined (with_queued seen)
OnceWord-with-queued-determined seen = determined (with_queued seen)

pub OnceWord-running-determined : (queued : Bool) → Determined (running_with queued)
OnceWord-running-determined queued = determined (running_with queued)

pub RwLockWord-count-determined : (state : ℕ) → Determined (count state)
RwLockWord-count-determined state = determined (count state)

pub RwLockWord-is-unlocked-determined : (state : ℕ) → Determined (is_unlocked state)
RwLockWord-is-unlocked-determined state = determined (is_unlocked state)

pub RwLockWord-is-write-locked-determined : (state : ℕ) → Determined (is_write_locked state)
RwLockWord-is-write-locked-determined state = determined (is_write_locked state)

pub RwLockWord-has-readers-waiting-determined : (state : ℕ) → Determined (has_readers_waiting state)
RwLockWord-has-readers-waiting-determined state = determined (has_readers_waiting state)

pub RwLockWord-has-writers-waiting-determined : (state : ℕ) → Determined (has_writers_waiting state)
RwLockWord-has-writers-waiting-determined state = determined (has_writers_waiting state)

pub RwLockWord-is-read-lockable-determined : (state : ℕ) → Determined (is_read_lockable state)
RwLockWord-is-read-lockable-determined state = determined (is_read_lockable state)

pub RwLockWord-is-read-lockable-after-wakeup-determined : (state : ℕ) → Determined (is_read_lockable_after_wakeup state)
RwLockWord-is-read-lockable-after-wakeup-determined state = determined (is_read_lockable_after_wakeup state)

pub RwLockWord-has-reached-max-readers-determined : (state : ℕ) → Determined (has_reached_max_readers state)
RwLockWord-has-reached-max-readers-determined state = determined (has_reached_max_readers state)

pub RwLockWord-read-locked-determined : (state : ℕ) → Determined (read_locked state)
RwLockWord-read-locked-determined state = determined (read_locked state)

pub RwLockWord-read-unlocked-determined : (state : ℕ) → Determined (read_unlocked state)
RwLockWord-read-unlocked-determined state = determined (read_unlocked state)

pub RwLockWord-write-locked-determined : (state : ℕ) → Determined (write_locked state)
RwLockWord-write-locked-determined state = determined (write_locked state)

pub RwLockWord-write-unlocked-determined : (state : ℕ) → Determined (write_unlocked state)
RwLockWord-write-unlocked-determined state = determined (write_unlocked state)

pub RwLockWord-downgraded-determined : (state : ℕ) → Determined (downgraded state)
RwLockWord-downgraded-determined state = determined (downgraded state)

pub RwLockWord-with-write-locked-determined : (state : ℕ) → Determined (with_write_locked state)
RwLockWord-with-write-locked-determined state = determined (with_write_locked state)

pub RwLockWord-with-readers-waiting-determined : (state : ℕ) → Determined (with_readers_waiting state)
RwLockWord-with-readers-waiting-determined state = determined (with_readers_waiting state)

pub RwLockWord-without-readers-waiting-determined : (state : ℕ) → Determined (without_readers_waiting state)
RwLockWord-without-readers-waiting-determined state = determined (without_readers_waiting state)

pub RwLockWord-with-writers-waiting-determined : (state : ℕ) → Determined (with_writers_waiting state)
RwLockWord-with-writers-waiting-determined state = determined (with_writers_waiting state)

pub Panic-number-determined : (panic : Panic) → Determined (number_of panic)
Panic-number-determined panic = determined (number_of panic)

-- of each position a step is made so
module _ {A : Type 0} (word : ℕ) (at : A) where
  pub Step-moves-with-determined : (hold : Hold) (wake : Wake) → Determined (moves_with word at hold wake)
  Step-moves-with-determined hold wake = determined (moves_with word at hold wake)

  pub Step-moves-determined : Determined (moves word at)
  Step-moves-determined = determined (moves word at)

  pub Step-enters-determined : Determined (enters word at)
  Step-enters-determined = determined (enters word at)

pub Step-sleeps-determined : {A : Type 0} (word : ℕ) → Determined {A = Step A} (sleeps word)
Step-sleeps-determined word = determined (sleeps word)

pub Step-ends-determined : {A : Type 0} (word : ℕ) (value : ℕ) (hold : Hold) (wake : Wake) → Determined {A = Step A} (ends word value hold wake)
Step-ends-determined word value hold wake = determined (ends word value hold wake)

pub Step-panics-determined : {A : Type 0} (word : ℕ) (panic : Panic) (wake : Wake) → Determined {A = Step A} (panics word panic wake)
Step-panics-determined word panic wake = determined (panics word panic wake)

-- at each place of a call in a greater one
pub Step-map-determined : {A B : Type 0} (within : A → B) (s : Step A) → Determined (map_step within s)
Step-map-determined within s = determined (map_step within s)

pub Step-then-determined : {A B : Type 0} (within : A → B) (after : B) (s : Step A) → Determined (then_step within after s)
Step-then-determined within after s = determined (then_step within after s)
