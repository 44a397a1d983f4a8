-- The cases that the sentences speak of, as lists of acts: a thread asleep on a mutex or an RwLock that is held, and on one that is just freed.
-- The holder frees and takes again between the sleeper's first steps, so that its spinning ends at once. Assumes nothing.
use Rattle.std.specs.Prelude.{◌≡◌, true, List, [], ◌∷◌, ◌++◌, ℕ}
use Rattle.words.specs.declared.Kind.TheVariants as K
use Rattle.mutex.specs.declared.UnlockAt.TheVariants as U
use Rattle.mutex.specs.declared.MutexAt.TheVariants as M
use Rattle.rwlock.specs.declared.WakeAt.{WakeAt}
use Rattle.rwlock.specs.declared.RwLockAt.{RwLockAt}
use Rattle.rwlock.specs.declared.RwLockAt.TheVariants as X
use Rattle.calls.specs.declared.At.TheVariants as A
use Rattle.calls.specs.Plans.{awake, asleep}
use Rattle.world.specs.World.{thread_at}
use Rattle.acts.specs.declared.Fields.{Fields}
use Rattle.claims.specs.Claims.{of-mutex, reached, history, Nobody, Somebody, LockFree, LockHeld, SleepsOn, SleepsOnLock, Quiet}
use Rattle.claims_examples.specs.Lists.{begin, step, write, write-unlock}

-- a thread begins lock and unlock on mutex 0, and read on RwLock 0
abbrev pub lock : ℕ → Fields
lock thread = begin 0 thread 0 0

abbrev pub unlock : ℕ → Fields
unlock thread = begin 2 thread 0 0

abbrev pub read : ℕ → Fields
read thread = begin 3 thread 0 0

-- thread 0 has mutex 0, and thread 1 sleeps on it
unfoldable pub mutex-held : List Fields
mutex-held =
    lock 0 ∷ step 0 ∷ lock 1 ∷ step 1 ∷ unlock 0 ∷ step 0 ∷ step 1 ∷ lock 0 ∷ step 0 ∷ step 1 ∷ step 1 ∷ step 1 ∷ []

-- thread 0 has RwLock 0 for writing, and thread 1 sleeps on it in read, or in write
unfoldable pub reader-held : List Fields
reader-held =
    write 0 ∷ step 0 ∷ read 1 ∷ step 1 ∷ write-unlock 0 ∷ step 0 ∷ step 1 ∷ write 0 ∷ step 0 ∷ step 1 ∷ step 1 ∷ step 1 ∷ []

unfoldable pub writer-held : List Fields
writer-held =
    write 0 ∷ step 0 ∷ write 1 ∷ step 1 ∷ write-unlock 0 ∷ step 0 ∷ step 1 ∷ write 0 ∷ step 0 ∷ step 1 ∷ step 1 ∷ step 1 ∷ step 1 ∷ step 1 ∷ []

-- .. and thread 0 frees it
abbrev pub mutex-freed : List Fields
mutex-freed = mutex-held ++ (unlock 0 ∷ step 0 ∷ [])

abbrev pub reader-freed : List Fields
reader-freed = reader-held ++ (write-unlock 0 ∷ step 0 ∷ [])

abbrev pub writer-freed : List Fields
writer-freed = writer-held ++ (write-unlock 0 ∷ step 0 ∷ [])

-- thread 1 sleeps on mutex 0, which nobody holds, and thread 0 is at unlock's wake
pub record MutexFreed (acts : List Fields) : Type 0 where
  pub sleeps : SleepsOn (reached acts) K.Mutex 0 1
  pub free : Nobody of-mutex 0 (history acts)
  pub waker : thread_at (reached acts) 0 ≡ awake (A.Mutex 0 (M.Unlock U.Wake))

-- thread 1 sleeps on RwLock 0 at a position, nobody holds it, and thread 0 is in write_unlock's wake
pub record LockFreed (acts : List Fields) (at : RwLockAt) (next : WakeAt) : Type 0 where
  pub sleeps : SleepsOnLock (reached acts) 0 1
  pub sleeper : thread_at (reached acts) 1 ≡ asleep (A.RwLock 0 at)
  pub free : LockFree 0 (history acts)
  pub waker : thread_at (reached acts) 0 ≡ awake (A.RwLock 0 (X.Wake true next))

-- nobody but thread 1 is in a call, it sleeps on mutex 0 or on RwLock 0, and somebody holds that
pub record MutexQuiet (acts : List Fields) : Type 0 where
  pub quiet : Quiet (reached acts)
  pub sleeps : SleepsOn (reached acts) K.Mutex 0 1
  pub held : Somebody of-mutex 0 (history acts)

pub record LockQuiet (acts : List Fields) (at : RwLockAt) : Type 0 where
  pub quiet : Quiet (reached acts)
  pub sleeps : SleepsOnLock (reached acts) 0 1
  pub sleeper : thread_at (reached acts) 1 ≡ asleep (A.RwLock 0 at)
  pub held : LockHeld 0 (history acts)
