-- Where an awake thread answers for those who sleep on a mutex, and what one step over the mutex's word does to that. Assumes nothing.
use mathlib.Core.Path.{◌≡◌, refl, sym, ap, ◌∙◌}
use mathlib.Core.Logic.{◌⊎◌, inl, inr}
use mathlib.Core.Bool.{Bool, true, false}
use Prim.Native.Nat.{ℕ}
use native.Mathlib.Omega.{arith}
use borrow.Author.Tests.{eqb-true}
use Rattle.words.specs.Mutex.{CONTENDED, is_unlocked}
use Rattle.words.specs.declared.Hold.TheVariants as H
use Rattle.words.specs.declared.Kind.{Kind}
use Rattle.words.specs.declared.Kind.TheVariants as K
use Rattle.words.specs.declared.Wake.TheVariants as W
use Rattle.words.specs.declared.Step.{Step}
use Rattle.words.specs.Steps.{map_step}
use Rattle.mutex.specs.declared.LockAt.{LockAt}
use Rattle.mutex.specs.declared.LockAt.TheVariants as L
use Rattle.mutex.specs.declared.UnlockAt.{UnlockAt}
use Rattle.mutex.specs.declared.MutexAt.{MutexAt}
use Rattle.mutex.specs.declared.MutexAt.TheVariants as M
use Rattle.mutex.specs.Mutex as Mx
use Rattle.rwlock.specs.declared.WriteAt.{WriteAt}
use Rattle.rwlock.specs.declared.WriteAt.TheVariants as Wr
use Rattle.rwlock.specs.declared.WakeAt.{WakeAt}
use Rattle.rwlock.specs.declared.WakeAt.TheVariants as Wk
use Rattle.rwlock.specs.declared.RwLockAt.{RwLockAt}
use Rattle.rwlock.specs.declared.RwLockAt.TheVariants as X
use Rattle.rwlock.specs.Positions as RwP
use Rattle.once.specs.Once as On
use Rattle.thread_parking.specs.ThreadParking as Pk
use Rattle.words.proofs.Cond.{either}
use Rattle.condvar.specs.declared.WaitAt.{WaitAt}
use Rattle.condvar.specs.declared.WaitAt.TheVariants as Wt
use Rattle.condvar.specs.declared.CondvarAt.{CondvarAt}
use Rattle.condvar.specs.declared.CondvarAt.TheVariants as C
use Rattle.condvar.specs.Condvar as Cv
use Rattle.calls.specs.declared.At.{At}
use Rattle.calls.specs.declared.At.TheVariants as A
use Rattle.calls.specs.declared.Plan.{Plan}
use Rattle.calls.specs.Plans.{moved, slept, done, mutex_plan, condvar_plan, decide_of, plan_of}
use Rattle.calls.specs.Positions.{operand_of, after_wait, waits_of}
use Rattle.kept.proofs.Tests.{decided, no_way}
use Rattle.kept.specs.Laws.{kind_of}
use Rattle.kept.proofs.Mutex.{late, LockDid, lock-moves, lock-marks, lock-sleeps, lock-takes, lock-did, UnlockDid, unlock-wakes-next, unlock-ends, unlock-wakes, unlock-did}

-- the positions that answer: unlock's wake, and the positions of `lock_contended`'s loop; a condvar wait's unlock and lock too
unfoldable pub wait_helps : WaitAt → Bool
wait_helps Wt.Load = false
wait_helps (Wt.Unlock sequence p) = Mx.unlock_may_wake p
wait_helps (Wt.Wait sequence) = false
wait_helps (Wt.Relock p) = late p

unfoldable pub mutex_helps : MutexAt → Bool
mutex_helps (M.Lock p) = late p
mutex_helps M.TryLock = false
mutex_helps (M.Unlock p) = Mx.unlock_may_wake p

unfoldable pub condvar_helps : CondvarAt → Bool
condvar_helps (C.Wait mutex p) = wait_helps p
condvar_helps (C.Notify all p) = false

unfoldable pub helps : At → Bool
helps A.Idle = false
helps (A.Mutex mutex p) = mutex_helps p
helps (A.RwLock lock p) = false
helps (A.Condvar condvar p) = condvar_helps p
helps (A.Once once p) = false
helps (A.Parker p) = false

-- what a step over a mutex's word leaves of the answers for its sleepers: the word is marked as contended after it; or the stepping thread
-- itself answers on; or it did not, and a word that was marked stays so; or it wakes one
pub data Leaves (at : At) (word : ℕ) (p : Plan) : Type 0 where
  marked : p.word ≡ CONTENDED → Leaves at word p
  answering :
      p.next.asleep ≡ false → helps p.next.at ≡ true → ((t : ℕ) → operand_of t p.next.at ≡ operand_of t at) → Leaves at word p
  apart : p.next.asleep ≡ false → helps at ≡ false → (word ≡ CONTENDED → p.word ≡ CONTENDED) → Leaves at word p
  wakes-one : p.next.asleep ≡ false → p.wake ≡ W.One → Leaves at word p

two_ways : (b : Bool) → (b ≡ true) ⊎ (b ≡ false)
two_ways true = inl refl
two_ways false = inr refl

not-marked : (word : ℕ) {P : Type 0} → word ≡ 0 → word ≡ CONTENDED → P
not-marked word e q = absurd (omega arith)

module _ (m word : ℕ) where
  lock-leaves : (p : LockAt) (s : Step LockAt) → LockDid p word s → Leaves (A.Mutex m (M.Lock p)) word (mutex_plan m (M.Lock p) (map_step M.Lock s))
  unfolding plan_of moved slept done helps mutex_helps operand_of Mx.operand_of
  lock-leaves p s (lock-moves {q} _ l) = by (two_ways (late p))
    where
      by :
          (late p ≡ true) ⊎ (late p ≡ false) →
          Leaves (A.Mutex m (M.Lock p)) word (moved word (A.Mutex m (M.Lock q)) H.Same m W.None)
      by (inl e) = answering refl (l e) (λ t. refl)
      by (inr e) = apart refl e (λ h. h)
  lock-leaves p s (lock-marks h) = marked refl
  lock-leaves p s (lock-sleeps h e) = marked e
  lock-leaves p s (lock-takes {new} e n h l) = by (two_ways (late p))
    where
      by : (late p ≡ true) ⊎ (late p ≡ false) → Leaves (A.Mutex m (M.Lock p)) word (done new 1 H.TakeMutex m W.None)
      by (inl c) = marked (l c)
      by (inr c) = apart refl c (not-marked word e)

  unlock-leaves :
      (p : UnlockAt) (s : Step UnlockAt) → UnlockDid word p s → Leaves (A.Mutex m (M.Unlock p)) word (mutex_plan m (M.Unlock p) (map_step M.Unlock s))
  unfolding plan_of moved slept done helps mutex_helps Mx.unlock_may_wake operand_of Mx.operand_of
  unlock-leaves p s (unlock-wakes-next e) = answering refl refl (λ t. refl)
  unlock-leaves p s (unlock-ends n) = apart refl refl (λ e. absurd (n e))
  unlock-leaves p s unlock-wakes = wakes-one refl refl

  try-leaves : Leaves (A.Mutex m M.TryLock) word (mutex_plan m M.TryLock (Mx.try_lock_of word))
  unfolding plan_of Mx.try_lock_of done helps mutex_helps
  try-leaves =
      decided (λ (s : Step MutexAt). Leaves (A.Mutex m M.TryLock) word (mutex_plan m M.TryLock s)) (is_unlocked word) _ _
      (λ e. apart refl refl (not-marked word (eqb-true word 0 e)))
      (λ _. apart refl refl (λ e. e))

module _ (c m word : ℕ) where
  relock-leaves :
      (p : LockAt) (s : Step LockAt) → LockDid p word s →
      Leaves (A.Condvar c (C.Wait m (Wt.Relock p))) word (condvar_plan c (C.Wait m (Wt.Relock p)) m (Cv.relock_step m s))
  unfolding plan_of Cv.relock_step moved slept done helps condvar_helps wait_helps operand_of Cv.operand_of Cv.wait_operand Cv.object_of Cv.wait_object
  relock-leaves p s (lock-moves {q} _ l) = by (two_ways (late p))
    where
      by :
          (late p ≡ true) ⊎ (late p ≡ false) →
          Leaves (A.Condvar c (C.Wait m (Wt.Relock p))) word (moved word (A.Condvar c (C.Wait m (Wt.Relock q))) H.Same m W.None)
      by (inl e) = answering refl (l e) (λ t. refl)
      by (inr e) = apart refl e (λ h. h)
  relock-leaves p s (lock-marks h) = marked refl
  relock-leaves p s (lock-sleeps h e) = marked e
  relock-leaves p s (lock-takes {new} e n h l) = by (two_ways (late p))
    where
      by : (late p ≡ true) ⊎ (late p ≡ false) → Leaves (A.Condvar c (C.Wait m (Wt.Relock p))) word (done new 1 H.TakeMutex m W.None)
      by (inl q) = marked (l q)
      by (inr q) = apart refl q (not-marked word e)

  wait-unlock-leaves :
      (sequence : ℕ) (p : UnlockAt) (s : Step UnlockAt) → UnlockDid word p s →
      Leaves (A.Condvar c (C.Wait m (Wt.Unlock sequence p))) word (condvar_plan c (C.Wait m (Wt.Unlock sequence p)) m (Cv.unlock_step m sequence s))
  unfolding plan_of Cv.unlock_step moved slept done helps condvar_helps wait_helps Mx.unlock_may_wake operand_of Cv.operand_of Cv.wait_operand Cv.object_of Cv.wait_object
  wait-unlock-leaves sequence p s (unlock-wakes-next e) = answering refl refl (λ t. refl)
  wait-unlock-leaves sequence p s (unlock-ends n) = apart refl refl (λ e. absurd (n e))
  wait-unlock-leaves sequence p s unlock-wakes = wakes-one refl refl

-- a position whose word is a mutex's is in a call on a mutex, or in a condvar wait's part on one
unfoldable is_mutex : Kind → Bool
is_mutex K.Nothing = false
is_mutex K.Mutex = true
is_mutex K.RwLock = false
is_mutex K.WriterNotify = false
is_mutex K.Condvar = false
is_mutex K.Once = false
is_mutex K.Parker = false

unfoldable on_mutex : At → Bool
on_mutex A.Idle = false
on_mutex (A.Mutex mutex p) = true
on_mutex (A.RwLock lock p) = false
on_mutex (A.Condvar condvar (C.Wait mutex Wt.Load)) = false
on_mutex (A.Condvar condvar (C.Wait mutex (Wt.Unlock sequence p))) = true
on_mutex (A.Condvar condvar (C.Wait mutex (Wt.Wait sequence))) = false
on_mutex (A.Condvar condvar (C.Wait mutex (Wt.Relock p))) = true
on_mutex (A.Condvar condvar (C.Notify all p)) = false
on_mutex (A.Once once p) = false
on_mutex (A.Parker p) = false

write-kind : (p : WriteAt) → is_mutex (RwP.write_operand p) ≡ false
unfolding is_mutex RwP.write_operand
write-kind Wr.Exchange = refl
write-kind (Wr.Spin others left) = refl
write-kind (Wr.ExchangeContended others seen) = refl
write-kind (Wr.SetWaiting others seen) = refl
write-kind Wr.LoadSequence = refl
write-kind (Wr.LoadState sequence) = refl
write-kind (Wr.Wait sequence) = refl

wake-kind : (p : WakeAt) → is_mutex (RwP.wake_operand p) ≡ false
unfolding is_mutex RwP.wake_operand
wake-kind Wk.ExchangeWriters = refl
wake-kind Wk.ExchangeBoth = refl
wake-kind (Wk.Notify both) = refl
wake-kind (Wk.WakeWriter both) = refl
wake-kind Wk.ExchangeReaders = refl
wake-kind Wk.WakeReaders = refl

lock-kind : (p : RwLockAt) → is_mutex (RwP.operand_of p) ≡ false
unfolding is_mutex RwP.operand_of
lock-kind (X.Read p) = refl
lock-kind (X.TryRead p) = refl
lock-kind X.ReadUnlock = refl
lock-kind (X.Write p) = write-kind p
lock-kind (X.TryWrite p) = refl
lock-kind X.WriteUnlock = refl
lock-kind (X.Wake writer p) = wake-kind p
lock-kind (X.Downgrade p) = refl

on-mutex : (at : At) → is_mutex (kind_of at) ≡ on_mutex at
unfolding is_mutex on_mutex kind_of Mx.operand_of Cv.operand_of Cv.wait_operand On.operand_of Pk.operand_of
on-mutex A.Idle = refl
on-mutex (A.Mutex m p) = refl
on-mutex (A.RwLock l p) = lock-kind p
on-mutex (A.Condvar c (C.Wait m Wt.Load)) = refl
on-mutex (A.Condvar c (C.Wait m (Wt.Unlock sequence p))) = refl
on-mutex (A.Condvar c (C.Wait m (Wt.Wait sequence))) = refl
on-mutex (A.Condvar c (C.Wait m (Wt.Relock p))) = refl
on-mutex (A.Condvar c (C.Notify all p)) = refl
on-mutex (A.Once o p) = either (λ (k : Kind). is_mutex k ≡ false) (On.in_closure p) _ _ refl refl
on-mutex (A.Parker p) = refl

is-on-mutex : (at : At) → kind_of at ≡ K.Mutex → on_mutex at ≡ true
unfolding is_mutex
is-on-mutex at e = sym (on-mutex at) ∙ ap is_mutex e

-- every step over a mutex's word
leaves-on : (at : At) (f : Bool) (word : ℕ) (a : Bool) → on_mutex at ≡ true → Leaves at word (decide_of at f word a)
unfolding on_mutex decide_of Mx.decide_of Cv.decide_of Cv.wait_of Cv.object_of Cv.wait_object
leaves-on A.Idle f word a k = no_way k
leaves-on (A.Mutex m (M.Lock p)) f word a k = lock-leaves m word p _ (lock-did p word)
leaves-on (A.Mutex m M.TryLock) f word a k = try-leaves m word
leaves-on (A.Mutex m (M.Unlock p)) f word a k = unlock-leaves m word p _ (unlock-did p word)
leaves-on (A.RwLock l p) f word a k = no_way k
leaves-on (A.Condvar c (C.Wait m Wt.Load)) f word a k = no_way k
leaves-on (A.Condvar c (C.Wait m (Wt.Unlock sequence p))) f word a k = wait-unlock-leaves c m word sequence p _ (unlock-did p word)
leaves-on (A.Condvar c (C.Wait m (Wt.Wait sequence))) f word a k = no_way k
leaves-on (A.Condvar c (C.Wait m (Wt.Relock p))) f word a k = relock-leaves c m word p _ (lock-did p word)
leaves-on (A.Condvar c (C.Notify all p)) f word a k = no_way k
leaves-on (A.Once o p) f word a k = no_way k
leaves-on (A.Parker p) f word a k = no_way k

pub leaves : (at : At) (f : Bool) (word : ℕ) (a : Bool) → kind_of at ≡ K.Mutex → Leaves at word (decide_of at f word a)
leaves at f word a k = leaves-on at f word a (is-on-mutex at k)

-- who is woken from a mutex answers for the others: it stands at the spin before its next swap
woken-lock : (p : LockAt) → Mx.lock_waits p ≡ true → late (Mx.lock_after_wait p) ≡ true
unfolding Mx.lock_waits Mx.lock_after_wait late
woken-lock L.Exchange e = no_way e
woken-lock (L.Spin left) e = no_way e
woken-lock L.ExchangeAgain e = no_way e
woken-lock L.Swap e = no_way e
woken-lock L.Wait e = refl
woken-lock (L.SpinAgain left) e = no_way e

woken-on : (at : At) → on_mutex at ≡ true → waits_of at ≡ true → helps (after_wait at) ≡ true
unfolding on_mutex waits_of Mx.waits_of Cv.waits_of Cv.wait_waits after_wait Mx.after_wait Cv.after_wait Cv.wait_after_wait helps mutex_helps condvar_helps wait_helps
woken-on A.Idle k e = no_way k
woken-on (A.Mutex m (M.Lock p)) k e = woken-lock p e
woken-on (A.Mutex m M.TryLock) k e = no_way e
woken-on (A.Mutex m (M.Unlock p)) k e = no_way e
woken-on (A.RwLock l p) k e = no_way k
woken-on (A.Condvar c (C.Wait m Wt.Load)) k e = no_way k
woken-on (A.Condvar c (C.Wait m (Wt.Unlock sequence p))) k e = no_way e
woken-on (A.Condvar c (C.Wait m (Wt.Wait sequence))) k e = no_way k
woken-on (A.Condvar c (C.Wait m (Wt.Relock p))) k e = woken-lock p e
woken-on (A.Condvar c (C.Notify all p)) k e = no_way k
woken-on (A.Once o p) k e = no_way k
woken-on (A.Parker p) k e = no_way k

woken-there : (t : ℕ) (at : At) → on_mutex at ≡ true → operand_of t (after_wait at) ≡ operand_of t at
unfolding on_mutex after_wait Mx.after_wait Cv.after_wait Cv.wait_after_wait operand_of Mx.operand_of Cv.operand_of Cv.wait_operand Cv.object_of Cv.wait_object
woken-there t A.Idle k = no_way k
woken-there t (A.Mutex m p) k = refl
woken-there t (A.RwLock l p) k = no_way k
woken-there t (A.Condvar c (C.Wait m Wt.Load)) k = no_way k
woken-there t (A.Condvar c (C.Wait m (Wt.Unlock sequence p))) k = refl
woken-there t (A.Condvar c (C.Wait m (Wt.Wait sequence))) k = no_way k
woken-there t (A.Condvar c (C.Wait m (Wt.Relock p))) k = refl
woken-there t (A.Condvar c (C.Notify all p)) k = no_way k
woken-there t (A.Once o p) k = no_way k
woken-there t (A.Parker p) k = no_way k

pub woken-helps : (t : ℕ) (at : At) → kind_of at ≡ K.Mutex → waits_of at ≡ true → (helps (after_wait at) ≡ true) × (operand_of t (after_wait at) ≡ operand_of t at)
woken-helps t at k e = (woken-on at (is-on-mutex at k) e, woken-there t at (is-on-mutex at k))
