-- The value that a step tells, 1 or 0 where a call is done and a panic's number, is at most 3. Assumes nothing.
use mathlib.Core.Path.{◌≡◌, refl}
use mathlib.Core.Bool.{Bool, true, false, not, ◌&&◌, ◌||◌}
use Prim.Native.Nat.{ℕ, ◌+◌}
use lib.Dec.{eqb, leb}
use Rattle.words.proofs.Cond.{either}
use Rattle.words.specs.Atomic.{exchanges}
use Rattle.words.specs.Mutex as MxW
use Rattle.words.specs.Once.{INCOMPLETE, POISONED, COMPLETE, state_of, is_queued}
use Rattle.words.specs.Parker.{PARKED, is_notified, is_parked}
use Rattle.words.specs.RwLock as RwW
use Rattle.words.specs.declared.Hold.{Hold}
use Rattle.words.specs.declared.Wake.{Wake}
use Rattle.words.specs.declared.Step.{Step}
use Rattle.words.specs.Steps.{map_step}
use Rattle.mutex.specs.declared.LockAt.{LockAt}
use Rattle.mutex.specs.declared.UnlockAt.{UnlockAt}
use Rattle.mutex.specs.declared.MutexAt.{MutexAt}
use Rattle.mutex.specs.declared.MutexAt.TheVariants as M
use Rattle.mutex.specs.Mutex as Mx
use Rattle.rwlock.specs.declared.ReadAt.{ReadAt}
use Rattle.rwlock.specs.declared.ReadAt.TheVariants as R
use Rattle.rwlock.specs.declared.TryAt.{TryAt}
use Rattle.rwlock.specs.declared.TryAt.TheVariants as T
use Rattle.rwlock.specs.declared.WriteAt.{WriteAt}
use Rattle.rwlock.specs.declared.WriteAt.TheVariants as Wr
use Rattle.rwlock.specs.declared.WakeAt.{WakeAt}
use Rattle.rwlock.specs.declared.WakeAt.TheVariants as Wk
use Rattle.rwlock.specs.declared.DowngradeAt.{DowngradeAt}
use Rattle.rwlock.specs.declared.DowngradeAt.TheVariants as D
use Rattle.rwlock.specs.declared.RwLockAt.{RwLockAt}
use Rattle.rwlock.specs.declared.RwLockAt.TheVariants as X
use Rattle.rwlock.specs.RwLock as Rw
use Rattle.condvar.specs.declared.WaitAt.TheVariants as CW
use Rattle.condvar.specs.declared.NotifyAt.TheVariants as Nf
use Rattle.condvar.specs.declared.CondvarAt.{CondvarAt}
use Rattle.condvar.specs.declared.CondvarAt.TheVariants as Cd
use Rattle.condvar.specs.Condvar as Cv
use Rattle.once.specs.declared.CallAt.{CallAt}
use Rattle.once.specs.declared.CallAt.TheVariants as C
use Rattle.once.specs.declared.WaitAt as OnWait
use Rattle.once.specs.declared.WaitAt.TheVariants as OW
use Rattle.once.specs.declared.OnceAt.{OnceAt}
use Rattle.once.specs.declared.OnceAt.TheVariants as O
use Rattle.once.specs.Once as On
use Rattle.thread_parking.specs.declared.ParkAt.TheVariants as P
use Rattle.thread_parking.specs.declared.UnparkAt.TheVariants as U
use Rattle.thread_parking.specs.declared.ParkerAt.{ParkerAt}
use Rattle.thread_parking.specs.declared.ParkerAt.TheVariants as K
use Rattle.thread_parking.specs.ThreadParking as Pk
use Rattle.kept.proofs.Mutex.{LockDid, lock-moves, lock-marks, lock-sleeps, lock-takes, lock-did, UnlockDid, unlock-wakes-next, unlock-ends, unlock-wakes, unlock-did}
use Rattle.calls.specs.declared.At.{At}
use Rattle.calls.specs.declared.At.TheVariants as A
use Rattle.calls.specs.declared.Plan.{Plan}
use Rattle.calls.specs.Events.{value_of}
use Rattle.calls.specs.Plans.{moved, slept, done, panicked, entered, mutex_plan, rwlock_plan, condvar_plan, once_plan, parker_plan, decide_of, plan_of}

-- the largest number of a panic; a value of done is less
abbrev pub MOST : ℕ
MOST = 3

-- a step of a module, as a plan, tells no larger value
pub record Told {A : Type 0} (plan : A → Plan) (s : A) : Type 0 where
  pub told : leb (value_of (plan s).event) MOST ≡ true

tells : {A : Type 0} {plan : A → Plan} {s : A} → leb (value_of (plan s).event) MOST ≡ true → Told plan s
tells e = record { told = e }

-- mutex: lock and unlock return nothing, which is told as 1
module _ (m : ℕ) (word : ℕ) where
  lock-told : (p : LockAt) (s : Step LockAt) → LockDid p word s → Told (mutex_plan m (M.Lock p)) (map_step M.Lock s)
  unfolding value_of plan_of moved slept done
  lock-told p s (lock-moves _ _) = tells refl
  lock-told p s (lock-marks _) = tells refl
  lock-told p s (lock-sleeps _ _) = tells refl
  lock-told p s (lock-takes _ _ _ _) = tells refl

  unlock-told : (p : UnlockAt) (s : Step UnlockAt) → UnlockDid word p s → Told (mutex_plan m (M.Unlock p)) (map_step M.Unlock s)
  unfolding value_of plan_of moved done
  unlock-told p s (unlock-wakes-next _) = tells refl
  unlock-told p s (unlock-ends _) = tells refl
  unlock-told p s unlock-wakes = tells refl

  mutex-told : (p : MutexAt) (f a : Bool) → Told (mutex_plan m p) (Mx.decide_of p f word a)
  unfolding value_of plan_of done Mx.decide_of Mx.try_lock_of
  mutex-told (M.Lock p) f a = lock-told p _ (lock-did p word)
  mutex-told M.TryLock f a = either (Told (mutex_plan m M.TryLock)) (MxW.is_unlocked word) _ _ (tells refl) (tells refl)
  mutex-told (M.Unlock p) f a = unlock-told p _ (unlock-did p word)

-- condvar
module _ (c object word : ℕ) where
  relock-told : (at : CondvarAt) (mutex : ℕ) (p : LockAt) (s : Step LockAt) → LockDid p word s → Told (condvar_plan c at object) (Cv.relock_step mutex s)
  unfolding value_of plan_of moved slept done Cv.relock_step
  relock-told at mutex p s (lock-moves _ _) = tells refl
  relock-told at mutex p s (lock-marks _) = tells refl
  relock-told at mutex p s (lock-sleeps _ _) = tells refl
  relock-told at mutex p s (lock-takes _ _ _ _) = tells refl

  release-told :
      (at : CondvarAt) (mutex sequence : ℕ) (p : UnlockAt) (s : Step UnlockAt) → UnlockDid word p s →
      Told (condvar_plan c at object) (Cv.unlock_step mutex sequence s)
  unfolding value_of plan_of moved Cv.unlock_step
  release-told at mutex sequence p s (unlock-wakes-next _) = tells refl
  release-told at mutex sequence p s (unlock-ends _) = tells refl
  release-told at mutex sequence p s unlock-wakes = tells refl

  condvar-told : (p : CondvarAt) (f a : Bool) → Told (condvar_plan c p object) (Cv.decide_of p f word a)
  unfolding value_of plan_of moved slept done Cv.decide_of Cv.wait_of Cv.notify_of Cv.unlock_step Cv.relock_step
  condvar-told (Cd.Wait mutex CW.Load) f a = tells refl
  condvar-told (Cd.Wait mutex (CW.Unlock sequence p)) f a =
      release-told (Cd.Wait mutex (CW.Unlock sequence p)) mutex sequence p _ (unlock-did p word)
  condvar-told (Cd.Wait mutex (CW.Wait sequence)) f a =
      either (Told (condvar_plan c (Cd.Wait mutex (CW.Wait sequence)) object)) (eqb word sequence) _ _ (tells refl) (tells refl)
  condvar-told (Cd.Wait mutex (CW.Relock p)) f a = relock-told (Cd.Wait mutex (CW.Relock p)) mutex p _ (lock-did p word)
  condvar-told (Cd.Notify all Nf.Add) f a = tells refl
  condvar-told (Cd.Notify all Nf.Wake) f a = tells refl

-- thread_parking
parker-told : (p : ParkerAt) (f : Bool) (word : ℕ) (a : Bool) → Told (parker_plan p) (Pk.decide_of PARKED p f word a)
unfolding value_of plan_of moved slept done Pk.decide_of Pk.park_of Pk.unpark_of
parker-told (K.Park P.Subtract) f word a = either (Told (parker_plan (K.Park P.Subtract))) (is_notified word) _ _ (tells refl) (tells refl)
parker-told (K.Park P.Wait) f word a = either (Told (parker_plan (K.Park P.Wait))) (is_parked PARKED word) _ _ (tells refl) (tells refl)
parker-told (K.Park P.Exchange) f word a = either (Told (parker_plan (K.Park P.Exchange))) (is_notified word) _ _ (tells refl) (tells refl)
parker-told (K.Unpark thread U.Swap) f word a = either (Told (parker_plan (K.Unpark thread U.Swap))) (is_parked PARKED word) _ _ (tells refl) (tells refl)
parker-told (K.Unpark thread U.Wake) f word a = tells refl

-- once
module _ (o : ℕ) (at : OnceAt) (word : ℕ) where
  abbrev OnceTold : Step OnceAt → Type 0
  OnceTold = Told (once_plan o at)

  call-top-told : (i : Bool) → OnceTold (On.call_top i word)
  unfolding value_of plan_of moved done panicked On.call_top On.queues
  call-top-told i = either OnceTold (eqb (state_of word) COMPLETE) _ _ (tells refl) (either OnceTold (eqb (state_of word) POISONED && not i) _ _ (tells refl) (either OnceTold (eqb (state_of word) POISONED || eqb (state_of word) INCOMPLETE) _ _ (tells refl) (either OnceTold (is_queued word) _ _ (tells refl) (tells refl))))

  wait-top-told : (i : Bool) → OnceTold (On.wait_top i word)
  unfolding value_of plan_of moved done panicked On.wait_top On.queues
  wait-top-told i = either OnceTold (eqb (state_of word) COMPLETE) _ _ (tells refl) (either OnceTold (eqb (state_of word) POISONED && not i) _ _ (tells refl) (either OnceTold (is_queued word) _ _ (tells refl) (tells refl)))

  finishes-told : (panicking : Bool) (new : ℕ) (wake : Wake) → OnceTold (On.finishes panicking new wake)
  unfolding value_of plan_of done panicked On.finishes
  finishes-told panicking new wake = either OnceTold panicking _ _ (tells refl) (tells refl)

  call-told : (i : Bool) (p : CallAt) (f : Bool) → OnceTold (On.call_of i p f word)
  unfolding value_of plan_of moved slept entered On.call_of
  call-told i C.Load f = call-top-told i
  call-told i (C.ExchangeRunning seen) f = either OnceTold (exchanges word seen f) _ _ (tells refl) (call-top-told i)
  call-told i C.Closure f = tells refl
  call-told i (C.Swap ending) f = either OnceTold (is_queued word) _ _ (tells refl) (finishes-told (On.is_panicked ending) (On.drops_to ending) _)
  call-told i (C.WakeAll panicking) f = finishes-told panicking word _
  call-told i (C.ExchangeQueued seen) f = either OnceTold (exchanges word (state_of seen) f) _ _ (tells refl) (call-top-told i)
  call-told i (C.Wait seen) f = either OnceTold (eqb word seen) _ _ (tells refl) (tells refl)

  wait-told : (i : Bool) (p : OnWait.WaitAt) (f : Bool) → OnceTold (On.wait_of i p f word)
  unfolding value_of plan_of moved slept On.wait_of
  wait-told i OW.Load f = wait-top-told i
  wait-told i (OW.ExchangeQueued seen) f = either OnceTold (exchanges word (state_of seen) f) _ _ (tells refl) (wait-top-told i)
  wait-told i (OW.Wait seen) f = either OnceTold (eqb word seen) _ _ (tells refl) (tells refl)

once-told : (o : ℕ) (p : OnceAt) (f : Bool) (word : ℕ) (a : Bool) → Told (once_plan o p) (On.decide_of p f word a)
unfolding value_of plan_of done On.decide_of On.is_completed_of
once-told o (O.Call i p) f word a = call-told o (O.Call i p) word i p f
once-told o (O.Wait i p) f word a = wait-told o (O.Wait i p) word i p f
once-told o O.IsCompleted f word a = tells (either (λ (n : ℕ). leb n MOST ≡ true) (eqb word COMPLETE) 1 0 refl refl)

-- rwlock
module _ (l : ℕ) (at : RwLockAt) (word : ℕ) where
  abbrev LockTold : Step RwLockAt → Type 0
  LockTold = Told (rwlock_plan l at)

  read-top-told : (slept : Bool) → LockTold (Rw.read_top slept word)
  unfolding value_of plan_of moved panicked Rw.read_top
  read-top-told slept = either LockTold (Rw.may_read slept word) _ _ (tells refl) (either LockTold (RwW.has_reached_max_readers word) _ _ (tells refl) (either LockTold (RwW.has_readers_waiting word) _ _ (tells refl) (tells refl)))

  read_told : (p : ReadAt) (f : Bool) → LockTold (Rw.read_of p f word)
  unfolding value_of plan_of moved slept done Rw.read_of
  read_told R.Load f = either LockTold (RwW.is_read_lockable word) _ _ (tells refl) (tells refl)
  read_told (R.Exchange seen) f = either LockTold (exchanges word seen f) _ _ (tells refl) (tells refl)
  read_told (R.Spin slept left) f = either LockTold (Rw.stops_read word || eqb left 0) _ _ (read-top-told slept) (tells refl)
  read_told (R.ExchangeContended slept seen) f = either LockTold (exchanges word seen f) _ _ (tells refl) (read-top-told slept)
  read_told (R.SetWaiting slept seen) f = either LockTold (eqb word seen) _ _ (tells refl) (read-top-told slept)
  read_told (R.Wait seen) f = either LockTold (eqb word seen) _ _ (tells refl) (tells refl)

  try-read-told : (p : TryAt) (f : Bool) → LockTold (Rw.try_read_of p f word)
  unfolding value_of plan_of moved done Rw.try_read_of Rw.try_read_top
  try-read-told T.Load f = either LockTold (RwW.is_read_lockable word) _ _ (tells refl) (tells refl)
  try-read-told (T.Exchange seen) f = either LockTold (exchanges word seen f) _ _ (tells refl) (either LockTold (RwW.is_read_lockable word) _ _ (tells refl) (tells refl))

  try-write-told : (p : TryAt) (f : Bool) → LockTold (Rw.try_write_of p f word)
  unfolding value_of plan_of moved done Rw.try_write_of Rw.try_write_top
  try-write-told T.Load f = either LockTold (RwW.is_unlocked word) _ _ (tells refl) (tells refl)
  try-write-told (T.Exchange seen) f = either LockTold (exchanges word seen f) _ _ (tells refl) (either LockTold (RwW.is_unlocked word) _ _ (tells refl) (tells refl))

  write-top-told : (others : Bool) → LockTold (Rw.write_top others word)
  unfolding value_of plan_of moved Rw.write_top
  write-top-told others = either LockTold (RwW.is_unlocked word) _ _ (tells refl) (either LockTold (RwW.has_writers_waiting word) _ _ (tells refl) (tells refl))

  write-told : (p : WriteAt) (f : Bool) → LockTold (Rw.write_of p f word)
  unfolding value_of plan_of moved slept done Rw.write_of
  write-told Wr.Exchange f = either LockTold (exchanges word 0 f) _ _ (tells refl) (tells refl)
  write-told (Wr.Spin others left) f = either LockTold (Rw.stops_write word || eqb left 0) _ _ (write-top-told others) (tells refl)
  write-told (Wr.ExchangeContended others seen) f = either LockTold (exchanges word seen f) _ _ (tells refl) (write-top-told others)
  write-told (Wr.SetWaiting others seen) f = either LockTold (eqb word seen) _ _ (tells refl) (write-top-told others)
  write-told Wr.LoadSequence f = tells refl
  write-told (Wr.LoadState sequence) f = either LockTold (RwW.is_unlocked word || not (RwW.has_writers_waiting word)) _ _ (write-top-told true) (tells refl)
  write-told (Wr.Wait sequence) f = either LockTold (eqb word sequence) _ _ (tells refl) (tells refl)

  wake-rest-told : (writer : Bool) (seen : ℕ) (hold : Hold) → LockTold (Rw.wake_rest writer seen hold)
  unfolding value_of plan_of moved done Rw.wake_rest
  wake-rest-told writer seen hold = either LockTold (eqb seen (RwW.READERS_WAITING + RwW.WRITERS_WAITING)) _ _ (tells refl) (either LockTold (eqb seen RwW.READERS_WAITING) _ _ (tells refl) (tells refl))

  wake-top-told : (writer : Bool) (seen : ℕ) (hold : Hold) → LockTold (Rw.wake_top writer seen hold)
  unfolding value_of plan_of moved Rw.wake_top
  wake-top-told writer seen hold = either LockTold (eqb seen RwW.WRITERS_WAITING) _ _ (tells refl) (wake-rest-told writer seen hold)

  read-unlock-told : LockTold (Rw.read_unlock_of word)
  unfolding value_of plan_of done Rw.read_unlock_of
  read-unlock-told =
      let state = RwW.read_unlocked word in
      either LockTold (RwW.is_unlocked state && RwW.has_writers_waiting state) _ _ (wake-top-told false state _) (tells refl)

  write-unlock-told : LockTold (Rw.write_unlock_of word)
  unfolding value_of plan_of done Rw.write_unlock_of
  write-unlock-told =
      let state = RwW.write_unlocked word in
      either LockTold (RwW.has_writers_waiting state || RwW.has_readers_waiting state) _ _ (wake-top-told true state _) (tells refl)

  wake-told : (writer : Bool) (p : WakeAt) (a : Bool) → LockTold (Rw.wake_of writer p word a)
  unfolding value_of plan_of moved done Rw.wake_of
  wake-told writer Wk.ExchangeWriters a = either LockTold (eqb word RwW.WRITERS_WAITING) _ _ (tells refl) (wake-rest-told writer word _)
  wake-told writer Wk.ExchangeBoth a = either LockTold (eqb word (RwW.READERS_WAITING + RwW.WRITERS_WAITING)) _ _ (tells refl) (tells refl)
  wake-told writer (Wk.Notify both) a = tells refl
  wake-told writer (Wk.WakeWriter both) a = either LockTold (both && not a) _ _ (tells refl) (tells refl)
  wake-told writer Wk.ExchangeReaders a = either LockTold (eqb word RwW.READERS_WAITING) _ _ (tells refl) (tells refl)
  wake-told writer Wk.WakeReaders a = tells refl

  downgrade-told : (p : DowngradeAt) → LockTold (Rw.downgrade_of p word)
  unfolding value_of plan_of moved done Rw.downgrade_of
  downgrade-told D.Add = either LockTold (RwW.has_readers_waiting word) _ _ (tells refl) (tells refl)
  downgrade-told D.Subtract = tells refl
  downgrade-told D.WakeReaders = tells refl

rwlock-told : (l : ℕ) (p : RwLockAt) (f : Bool) (word : ℕ) (a : Bool) → Told (rwlock_plan l p) (Rw.decide_of p f word a)
unfolding Rw.decide_of
rwlock-told l (X.Read p) f word a = read_told l (X.Read p) word p f
rwlock-told l (X.TryRead p) f word a = try-read-told l (X.TryRead p) word p f
rwlock-told l X.ReadUnlock f word a = read-unlock-told l X.ReadUnlock word
rwlock-told l (X.Write p) f word a = write-told l (X.Write p) word p f
rwlock-told l (X.TryWrite p) f word a = try-write-told l (X.TryWrite p) word p f
rwlock-told l X.WriteUnlock f word a = write-unlock-told l X.WriteUnlock word
rwlock-told l (X.Wake writer p) f word a = wake-told l (X.Wake writer p) word writer p a
rwlock-told l (X.Downgrade p) f word a = downgrade-told l (X.Downgrade p) word p

-- every plan does
pub plan-told : (at : At) (f : Bool) (word : ℕ) (a : Bool) → leb (value_of (decide_of at f word a).event) MOST ≡ true
unfolding value_of moved decide_of
plan-told A.Idle f word a = refl
plan-told (A.Mutex m p) f word a = (mutex-told m word p f a).told
plan-told (A.RwLock l p) f word a = (rwlock-told l p f word a).told
plan-told (A.Condvar c p) f word a = (condvar-told c (Cv.object_of c p) word p f a).told
plan-told (A.Once o p) f word a = (once-told o p f word a).told
plan-told (A.Parker p) f word a = (parker-told p f word a).told
