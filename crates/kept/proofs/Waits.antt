-- What a wake and the end of a closure keep: where a thread stands after its futex_wait, and after its closure. Assumes nothing.
use mathlib.Core.Path.{◌≡◌, refl}
use mathlib.Core.Bool.{Bool, true}
use Prim.Native.Nat.{ℕ}
use Rattle.words.proofs.Cond.{either}
use Rattle.words.specs.declared.Needs.TheVariants as N
use Rattle.mutex.specs.declared.LockAt.{LockAt}
use Rattle.mutex.specs.declared.LockAt.TheVariants as L
use Rattle.mutex.specs.declared.MutexAt.{MutexAt}
use Rattle.mutex.specs.declared.MutexAt.TheVariants as M
use Rattle.rwlock.specs.declared.ReadAt.{ReadAt}
use Rattle.rwlock.specs.declared.ReadAt.TheVariants as R
use Rattle.rwlock.specs.declared.WriteAt.{WriteAt}
use Rattle.rwlock.specs.declared.WriteAt.TheVariants as Wr
use Rattle.rwlock.specs.declared.RwLockAt.{RwLockAt}
use Rattle.rwlock.specs.declared.RwLockAt.TheVariants as X
use Rattle.condvar.specs.declared.WaitAt.TheVariants as CW
use Rattle.condvar.specs.declared.CondvarAt.{CondvarAt}
use Rattle.condvar.specs.declared.CondvarAt.TheVariants as C
use Rattle.once.specs.declared.CallAt.{CallAt}
use Rattle.once.specs.declared.CallAt.TheVariants as OC
use Rattle.once.specs.declared.WaitAt.TheVariants as OW
use Rattle.once.specs.declared.OnceAt.{OnceAt}
use Rattle.once.specs.declared.OnceAt.TheVariants as O
use Rattle.once.specs.declared.Ending.{Ending}
use Rattle.thread_parking.specs.declared.ParkerAt.{ParkerAt}
use Rattle.thread_parking.specs.declared.ParkerAt.TheVariants as Pr
use Rattle.mutex.specs.Mutex as Mx
use Rattle.rwlock.specs.RwLock as Rw
use Rattle.rwlock.specs.Positions as RwP
use Rattle.condvar.specs.Condvar as Cv
use Rattle.once.specs.Once as On
use Rattle.thread_parking.specs.ThreadParking as Pk
use Rattle.calls.specs.declared.At.{At}
use Rattle.calls.specs.declared.At.TheVariants as A
use Rattle.calls.specs.Positions.{after_wait, exists, need_of, passed_of, waits_of}
use Rattle.kept.proofs.Tests.{no_way}
use Rattle.kept.specs.Laws.{Goes, ended, staying, locking, reading, writing, waiting, calling, awaiting, parking}
use Rattle.kept.proofs.Places.{goes-exists}

-- after a wait: the same call on the same objects
mutex-goes : (m : ℕ) (p : MutexAt) → Goes (A.Mutex m p) (A.Mutex m (Mx.after_wait p))
unfolding Mx.after_wait
mutex-goes m (M.Lock p) = locking
mutex-goes m M.TryLock = staying
mutex-goes m (M.Unlock p) = staying

rwlock-goes : (l : ℕ) (p : RwLockAt) → Goes (A.RwLock l p) (A.RwLock l (RwP.after_wait p))
unfolding RwP.after_wait
rwlock-goes l (X.Read p) = reading
rwlock-goes l (X.TryRead p) = staying
rwlock-goes l X.ReadUnlock = staying
rwlock-goes l (X.Write p) = writing
rwlock-goes l (X.TryWrite p) = staying
rwlock-goes l X.WriteUnlock = staying
rwlock-goes l (X.Wake writer p) = staying
rwlock-goes l (X.Downgrade p) = staying

condvar-goes : (c : ℕ) (p : CondvarAt) → Goes (A.Condvar c p) (A.Condvar c (Cv.after_wait p))
unfolding Cv.after_wait
condvar-goes c (C.Wait m p) = waiting
condvar-goes c (C.Notify all p) = staying

once-goes : (o : ℕ) (p : OnceAt) → Goes (A.Once o p) (A.Once o (On.after_wait p))
unfolding On.after_wait
once-goes o (O.Call i p) = calling
once-goes o (O.Wait i p) = awaiting
once-goes o O.IsCompleted = staying

parker-goes : (p : ParkerAt) → Goes (A.Parker p) (A.Parker (Pk.after_wait p))
unfolding Pk.after_wait
parker-goes (Pr.Park p) = parking
parker-goes (Pr.Unpark thread p) = staying

pub goes-after-wait : (at : At) → Goes at (after_wait at)
unfolding after_wait
goes-after-wait A.Idle = ended
goes-after-wait (A.Mutex m p) = mutex-goes m p
goes-after-wait (A.RwLock l p) = rwlock-goes l p
goes-after-wait (A.Condvar c p) = condvar-goes c p
goes-after-wait (A.Once o p) = once-goes o p
goes-after-wait (A.Parker p) = parker-goes p

pub exists-after-wait : (at : At) → exists at ≡ true → exists (after_wait at) ≡ true
exists-after-wait at = goes-exists (goes-after-wait at)

-- .. with the spins or the values that it starts anew with
lock-passed : (p : LockAt) → Mx.lock_passed p ≡ true → Mx.lock_passed (Mx.lock_after_wait p) ≡ true
unfolding Mx.lock_passed Mx.lock_after_wait
lock-passed L.Exchange e = e
lock-passed (L.Spin left) e = e
lock-passed L.ExchangeAgain e = e
lock-passed L.Swap e = e
lock-passed L.Wait e = refl
lock-passed (L.SpinAgain left) e = e

mutex-passed : (p : MutexAt) → Mx.passed_of p ≡ true → Mx.passed_of (Mx.after_wait p) ≡ true
unfolding Mx.passed_of Mx.after_wait
mutex-passed (M.Lock p) e = lock-passed p e
mutex-passed M.TryLock e = e
mutex-passed (M.Unlock p) e = e

read-passed : (p : ReadAt) → RwP.read_passed p ≡ true → RwP.read_passed (Rw.read_after_wait p) ≡ true
unfolding RwP.read_passed Rw.read_after_wait
read-passed R.Load e = e
read-passed (R.Exchange seen) e = e
read-passed (R.Spin slept left) e = e
read-passed (R.ExchangeContended slept seen) e = e
read-passed (R.SetWaiting slept seen) e = e
read-passed (R.Wait seen) e = refl

write-passed : (p : WriteAt) → RwP.write_passed p ≡ true → RwP.write_passed (Rw.write_after_wait p) ≡ true
unfolding RwP.write_passed Rw.write_after_wait
write-passed Wr.Exchange e = e
write-passed (Wr.Spin others left) e = e
write-passed (Wr.ExchangeContended others seen) e = e
write-passed (Wr.SetWaiting others seen) e = e
write-passed Wr.LoadSequence e = e
write-passed (Wr.LoadState sequence) e = e
write-passed (Wr.Wait sequence) e = refl

rwlock-passed : (p : RwLockAt) → RwP.passed_of p ≡ true → RwP.passed_of (RwP.after_wait p) ≡ true
unfolding RwP.passed_of RwP.after_wait
rwlock-passed (X.Read p) e = read-passed p e
rwlock-passed (X.TryRead p) e = e
rwlock-passed X.ReadUnlock e = e
rwlock-passed (X.Write p) e = write-passed p e
rwlock-passed (X.TryWrite p) e = e
rwlock-passed X.WriteUnlock e = e
rwlock-passed (X.Wake writer p) e = e
rwlock-passed (X.Downgrade p) e = e

condvar-passed : (p : CondvarAt) → Cv.passed_of p ≡ true → Cv.passed_of (Cv.after_wait p) ≡ true
unfolding Cv.passed_of Cv.wait_passed Cv.after_wait Cv.wait_after_wait Mx.lock_passed
condvar-passed (C.Wait m CW.Load) e = e
condvar-passed (C.Wait m (CW.Unlock sequence p)) e = e
condvar-passed (C.Wait m (CW.Wait sequence)) e = refl
condvar-passed (C.Wait m (CW.Relock p)) e = lock-passed p e
condvar-passed (C.Notify all p) e = e

call-passed : (i : Bool) (p : CallAt) → On.call_passed i p ≡ true → On.call_passed i (On.call_after_wait p) ≡ true
unfolding On.call_passed On.call_after_wait
call-passed i OC.Load e = e
call-passed i (OC.ExchangeRunning seen) e = e
call-passed i OC.Closure e = e
call-passed i (OC.Swap ending) e = e
call-passed i (OC.WakeAll panicking) e = e
call-passed i (OC.ExchangeQueued seen) e = e
call-passed i (OC.Wait seen) e = refl

once-passed : (p : OnceAt) → On.passed_of p ≡ true → On.passed_of (On.after_wait p) ≡ true
unfolding On.passed_of On.wait_passed On.after_wait On.wait_after_wait
once-passed (O.Call i p) e = call-passed i p e
once-passed (O.Wait i OW.Load) e = e
once-passed (O.Wait i (OW.ExchangeQueued seen)) e = e
once-passed (O.Wait i (OW.Wait seen)) e = refl
once-passed O.IsCompleted e = e

pub passed-after-wait : (at : At) → passed_of at ≡ true → passed_of (after_wait at) ≡ true
unfolding passed_of after_wait Pk.passed_of
passed-after-wait A.Idle e = e
passed-after-wait (A.Mutex m p) e = mutex-passed p e
passed-after-wait (A.RwLock l p) e = rwlock-passed p e
passed-after-wait (A.Condvar c p) e = condvar-passed p e
passed-after-wait (A.Once o p) e = once-passed p e
passed-after-wait (A.Parker p) e = refl

-- .. and with the same need
mutex-needs : (p : MutexAt) → Mx.needs_of (Mx.after_wait p) ≡ Mx.needs_of p
unfolding Mx.needs_of Mx.after_wait
mutex-needs (M.Lock p) = refl
mutex-needs M.TryLock = refl
mutex-needs (M.Unlock p) = refl

rwlock-needs : (p : RwLockAt) → RwP.needs_of (RwP.after_wait p) ≡ RwP.needs_of p
unfolding RwP.needs_of RwP.after_wait
rwlock-needs (X.Read p) = refl
rwlock-needs (X.TryRead p) = refl
rwlock-needs X.ReadUnlock = refl
rwlock-needs (X.Write p) = refl
rwlock-needs (X.TryWrite p) = refl
rwlock-needs X.WriteUnlock = refl
rwlock-needs (X.Wake writer p) = refl
rwlock-needs (X.Downgrade p) = refl

pub need-after-wait : (at : At) → need_of (after_wait at) ≡ need_of at
unfolding need_of after_wait Cv.needs_of Cv.wait_needs Cv.mutex_of Cv.after_wait Cv.wait_after_wait On.needs_of Pk.needs_of
need-after-wait A.Idle = refl
need-after-wait (A.Mutex m p) = rw (mutex-needs p)
need-after-wait (A.RwLock l p) = rw (rwlock-needs p)
need-after-wait (A.Condvar c (C.Wait m CW.Load)) = refl
need-after-wait (A.Condvar c (C.Wait m (CW.Unlock sequence p))) = refl
need-after-wait (A.Condvar c (C.Wait m (CW.Wait sequence))) = refl
need-after-wait (A.Condvar c (C.Wait m (CW.Relock p))) = refl
need-after-wait (A.Condvar c (C.Notify all p)) = refl
need-after-wait (A.Once o p) = refl
need-after-wait (A.Parker p) = refl

-- which is none: a thread at a futex_wait asks for no hold
mutex-none : (p : MutexAt) → Mx.waits_of p ≡ true → Mx.needs_of p ≡ N.Nothing
unfolding Mx.waits_of Mx.needs_of
mutex-none (M.Lock p) e = refl
mutex-none M.TryLock e = refl
mutex-none (M.Unlock p) e = no_way e

rwlock-none : (p : RwLockAt) → RwP.waits_of p ≡ true → RwP.needs_of p ≡ N.Nothing
unfolding RwP.waits_of RwP.needs_of
rwlock-none (X.Read p) e = refl
rwlock-none (X.TryRead p) e = refl
rwlock-none X.ReadUnlock e = no_way e
rwlock-none (X.Write p) e = refl
rwlock-none (X.TryWrite p) e = refl
rwlock-none X.WriteUnlock e = no_way e
rwlock-none (X.Wake writer p) e = refl
rwlock-none (X.Downgrade p) e = no_way e

condvar-none : (p : CondvarAt) → Cv.waits_of p ≡ true → Cv.needs_of p ≡ N.Nothing
unfolding Cv.waits_of Cv.wait_waits Cv.needs_of Cv.wait_needs
condvar-none (C.Wait m CW.Load) e = no_way e
condvar-none (C.Wait m (CW.Unlock sequence p)) e = no_way e
condvar-none (C.Wait m (CW.Wait sequence)) e = refl
condvar-none (C.Wait m (CW.Relock p)) e = refl
condvar-none (C.Notify all p) e = refl

pub need-waiting : (at : At) → waits_of at ≡ true → (need_of at).hold ≡ N.Nothing
unfolding waits_of need_of On.needs_of Pk.needs_of
need-waiting A.Idle e = refl
need-waiting (A.Mutex m p) e = mutex-none p e
need-waiting (A.RwLock l p) e = rwlock-none p e
need-waiting (A.Condvar c p) e = condvar-none p e
need-waiting (A.Once o p) e = refl
need-waiting (A.Parker p) e = refl

pub need-woken : (at : At) → waits_of at ≡ true → (need_of (after_wait at)).hold ≡ N.Nothing
need-woken at e = rw (need-after-wait at) (need-waiting at e)

-- the end of a closure
module _ (ending : Ending) (o : ℕ) where
  pub goes-closed : (p : OnceAt) → Goes (A.Once o p) (A.Once o (On.close_of ending p))
  unfolding On.close_of
  goes-closed (O.Call i p) = calling
  goes-closed (O.Wait i p) = staying
  goes-closed O.IsCompleted = staying

  pub exists-closed : (p : OnceAt) → exists (A.Once o p) ≡ true → exists (A.Once o (On.close_of ending p)) ≡ true
  exists-closed p = goes-exists (goes-closed p)

  pub passed-closed : (p : OnceAt) → passed_of (A.Once o p) ≡ true → passed_of (A.Once o (On.close_of ending p)) ≡ true
  unfolding passed_of On.passed_of On.call_passed On.close_of
  passed-closed (O.Call i p) e =
      either (λ (q : CallAt). On.call_passed i q ≡ true) (On.call_in_closure p) (OC.Swap ending) p refl e
  passed-closed (O.Wait i p) e = e
  passed-closed O.IsCompleted e = e

  pub need-closed : (p : OnceAt) → need_of (A.Once o (On.close_of ending p)) ≡ need_of (A.Once o p)
  unfolding need_of On.needs_of
  need-closed p = refl
