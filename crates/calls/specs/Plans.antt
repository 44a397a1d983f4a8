-- What one step of a thread does, over the word that it is about: each module's step as one of a call on one of its objects. Assumes nothing.
use Rattle.std.specs.Prelude.{ℕ, Bool, true, false}
use Rattle.words.specs.Parker.{PARKED}
use Rattle.words.specs.declared.Hold.{Hold}
use Rattle.words.specs.declared.Hold.TheVariants as H
use Rattle.words.specs.declared.Wake.{Wake}
use Rattle.words.specs.declared.Wake.TheVariants as W
use Rattle.words.specs.declared.Next.{Next}
use Rattle.words.specs.declared.Next.TheVariants as Nx
use Rattle.words.specs.declared.Step.{Step}
use Rattle.words.specs.Panic.{number_of}
use Rattle.words.specs.Steps.{map_step}
use Rattle.mutex.specs.declared.MutexAt.{MutexAt}
use Rattle.rwlock.specs.declared.RwLockAt.{RwLockAt}
use Rattle.condvar.specs.declared.CondvarAt.{CondvarAt}
use Rattle.once.specs.declared.OnceAt.{OnceAt}
use Rattle.thread_parking.specs.declared.ParkerAt.{ParkerAt}
use Rattle.mutex.specs.Mutex as Mx
use Rattle.rwlock.specs.RwLock as Rw
use Rattle.condvar.specs.Condvar as Cv
use Rattle.once.specs.Once as On
use Rattle.thread_parking.specs.ThreadParking as Pk
use Rattle.calls.specs.declared.At.{At}
use Rattle.calls.specs.declared.At.TheVariants as A
use Rattle.calls.specs.declared.Thread.{Thread}
use Rattle.calls.specs.declared.Event.TheVariants as E
use Rattle.calls.specs.declared.Plan.{Plan}

abbrev pub awake : At → Thread
awake at = record { at = at; asleep = false }

abbrev pub asleep : At → Thread
asleep at = record { at = at; asleep = true }

-- an idle thread
abbrev pub idle : Thread
idle = awake A.Idle

-- a step leads on, sleeps where it stands, ends the call, panics, or enters a closure; after an end or a panic the thread is idle
unfoldable pub moved : ℕ → At → Hold → ℕ → Wake → Plan
moved word at hold object wake = record { word = word; next = awake at; hold = hold; object = object; wake = wake; event = E.Moved 0 }

unfoldable pub slept : ℕ → At → Hold → ℕ → Wake → Plan
slept word at hold object wake = record { word = word; next = asleep at; hold = hold; object = object; wake = wake; event = E.Slept }

unfoldable pub done : ℕ → ℕ → Hold → ℕ → Wake → Plan
done word value hold object wake = record { word = word; next = idle; hold = hold; object = object; wake = wake; event = E.Done value 0 }

unfoldable pub panicked : ℕ → ℕ → Hold → ℕ → Wake → Plan
panicked word number hold object wake = record { word = word; next = idle; hold = hold; object = object; wake = wake; event = E.Panic number 0 }

unfoldable pub entered : ℕ → At → Hold → ℕ → Wake → Plan
entered word at hold object wake = record { word = word; next = awake at; hold = hold; object = object; wake = wake; event = E.Closure }

-- a step as what the thread at `at` does, about the hold of an object
abbrev pub plan_next : At → ℕ → ℕ → Hold → Wake → Next At → Plan
plan_next at object word hold wake (Nx.Moved q) = moved word q hold object wake
plan_next at object word hold wake Nx.Asleep = slept word at hold object wake
plan_next at object word hold wake (Nx.Ended value) = done word value hold object wake
plan_next at object word hold wake (Nx.Panics panic) = panicked word (number_of panic) hold object wake
plan_next at object word hold wake (Nx.Closure q) = entered word q hold object wake

unfoldable pub plan_of : At → ℕ → Step At → Plan
plan_of at object s = plan_next at object s.word s.hold s.wake s.next

-- each module's step so
abbrev pub mutex_plan : ℕ → MutexAt → Step MutexAt → Plan
mutex_plan mutex p s = plan_of (A.Mutex mutex p) mutex (map_step (A.Mutex mutex) s)

abbrev pub rwlock_plan : ℕ → RwLockAt → Step RwLockAt → Plan
rwlock_plan lock p s = plan_of (A.RwLock lock p) lock (map_step (A.RwLock lock) s)

abbrev pub condvar_plan : ℕ → CondvarAt → ℕ → Step CondvarAt → Plan
condvar_plan condvar p object s = plan_of (A.Condvar condvar p) object (map_step (A.Condvar condvar) s)

abbrev pub once_plan : ℕ → OnceAt → Step OnceAt → Plan
once_plan once p s = plan_of (A.Once once p) 0 (map_step (A.Once once) s)

abbrev pub parker_plan : ParkerAt → Step ParkerAt → Plan
parker_plan p s = plan_of (A.Parker p) 0 (map_step A.Parker s)

-- one step of a thread at a position, over the word that it is about; `anyone`: whether somebody is asleep on that word.
-- An idle thread has no step: it stays.
unfoldable pub decide_of : At → Bool → ℕ → Bool → Plan
decide_of A.Idle fails word anyone = moved word A.Idle H.Same 0 W.None
decide_of (A.Mutex mutex p) fails word anyone = mutex_plan mutex p (Mx.decide_of p fails word anyone)
decide_of (A.RwLock lock p) fails word anyone = rwlock_plan lock p (Rw.decide_of p fails word anyone)
decide_of (A.Condvar condvar p) fails word anyone = condvar_plan condvar p (Cv.object_of condvar p) (Cv.decide_of p fails word anyone)
decide_of (A.Once once p) fails word anyone = once_plan once p (On.decide_of p fails word anyone)
decide_of (A.Parker p) fails word anyone = parker_plan p (Pk.decide_of PARKED p fails word anyone)
