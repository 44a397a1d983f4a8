-- What a step on a condvar keeps, the mutex's part of a wait included. Assumes nothing.
use mathlib.Core.Path.{refl}
use mathlib.Core.Logic.{inl, inr}
use mathlib.Core.Bool.{Bool, cond}
use Prim.Native.Nat.{ℕ, ◌^◌, ◌<◌}
use native.Mathlib.Omega.{arith}
use lib.Dec.{eqb}
use Rattle.words.proofs.Cond.{either}
use Rattle.words.specs.Atomic.{wrapping_add}
use Rattle.words.specs.Counter.{incremented}
use Rattle.words.specs.Mutex.{UNLOCKED, CONTENDED}
use Rattle.words.specs.declared.Hold.TheVariants as H
use Rattle.words.specs.declared.Wake.TheVariants as W
use Rattle.words.specs.declared.Step.{Step}
use Rattle.mutex.specs.declared.LockAt.{LockAt}
use Rattle.mutex.specs.declared.LockAt.TheVariants as L
use Rattle.mutex.specs.declared.UnlockAt.{UnlockAt}
use Rattle.mutex.specs.declared.UnlockAt.TheVariants as U
use Rattle.mutex.specs.Mutex as Mx
use Rattle.condvar.specs.declared.WaitAt.{WaitAt}
use Rattle.condvar.specs.declared.WaitAt.TheVariants as Wt
use Rattle.condvar.specs.declared.NotifyAt.{NotifyAt}
use Rattle.condvar.specs.declared.NotifyAt.TheVariants as Nf
use Rattle.condvar.specs.declared.CondvarAt.{CondvarAt}
use Rattle.condvar.specs.declared.CondvarAt.TheVariants as C
use Rattle.condvar.specs.Condvar as Cv
use Rattle.calls.specs.declared.At.TheVariants as A
use Rattle.calls.specs.Plans.{condvar_plan, decide_of, plan_of}
use Rattle.calls.specs.Positions.{passed_of, waits_of, need_of}
use Rattle.kept.specs.Laws.{Kept, Did, mutex-same, mutex-taken, mutex-freed, largest, kind_of, object_of, asks, held_kind, waiting, notifying}
use Rattle.kept.proofs.Laws.{stores_same, kept-moved, kept_on, kept-done, kept-end, kept-slept}
use Rattle.kept.proofs.Mutex.{LockDid, lock-moves, lock-marks, lock-sleeps, lock-takes, lock-did, UnlockDid, unlock-wakes-next, unlock-ends, unlock-wakes, unlock-did}

module _ (c m word : ℕ) where
  relock-kept :
      (p : LockAt) (s : Step LockAt) → LockDid p word s →
      Kept (A.Condvar c (C.Wait m (Wt.Relock p))) word (condvar_plan c (C.Wait m (Wt.Relock p)) m (Cv.relock_step m s))
  unfolding plan_of Cv.relock_step Mx.lock_passed Cv.passed_of Cv.wait_passed Cv.waits_of Cv.wait_waits Cv.needs_of Cv.wait_needs Cv.operand_of Cv.wait_operand Cv.object_of Cv.wait_object passed_of waits_of need_of kind_of object_of largest Did asks held_kind
  relock-kept p s (lock-moves {q} h _) =
      kept_on _ word word (A.Condvar c (C.Wait m (Wt.Relock q))) m W.None waiting (λ e _ _. h e) (stores_same _ word) (inl refl)
  relock-kept p s (lock-marks h) =
      kept_on _ word CONTENDED (A.Condvar c (C.Wait m (Wt.Relock L.Wait))) m W.None waiting (λ _ _ _. refl)
      (record { wide = λ _. omega arith; small = λ _ _. omega arith; did = λ _. mutex-same (λ e. absurd (h e)) (λ e. omega arith) })
      (inl refl)
  relock-kept p s (lock-sleeps h _) = kept-slept _ word m h
  relock-kept p s (lock-takes {new} e n l _) =
      kept-done _ word new 1 H.TakeMutex m W.None
      (record { wide = λ _. omega arith; small = λ _ _. l; did = λ _. mutex-taken e n })
      (inl refl) (inr (refl, λ t. refl))

  unlock-kept :
      (sequence : ℕ) (p : UnlockAt) (s : Step UnlockAt) → UnlockDid word p s →
      Kept (A.Condvar c (C.Wait m (Wt.Unlock sequence p))) word (condvar_plan c (C.Wait m (Wt.Unlock sequence p)) m (Cv.unlock_step m sequence s))
  unfolding plan_of Cv.unlock_step Cv.passed_of Cv.wait_passed Cv.mutex_of Cv.needs_of Cv.wait_needs Mx.unlock_needs Cv.operand_of Cv.wait_operand Cv.object_of Cv.wait_object passed_of need_of kind_of object_of largest Did asks held_kind
  unlock-kept sequence p s (unlock-wakes-next _) =
      kept-moved _ word UNLOCKED (A.Condvar c (C.Wait m (Wt.Unlock sequence U.Wake))) H.FreeMutex m W.None waiting (λ _ _ _. refl)
      (record { wide = λ _. omega arith; small = λ _ _. omega arith; did = λ _. mutex-freed refl })
      (inl refl) (inr refl) (inr (refl, λ t. refl))
  unlock-kept sequence p s (unlock-ends _) =
      kept-moved _ word UNLOCKED (A.Condvar c (C.Wait m (Wt.Wait sequence))) H.FreeMutex m W.None waiting (λ _ _ _. refl)
      (record { wide = λ _. omega arith; small = λ _ _. omega arith; did = λ _. mutex-freed refl })
      (inl refl) (inr refl) (inr (refl, λ t. refl))
  unlock-kept sequence p s unlock-wakes =
      kept_on _ word word (A.Condvar c (C.Wait m (Wt.Wait sequence))) m W.One waiting (λ _ _ _. refl) (stores_same _ word) (inl refl)

  wait-kept :
      (p : WaitAt) → Kept (A.Condvar c (C.Wait m p)) word (condvar_plan c (C.Wait m p) (Cv.object_of c (C.Wait m p)) (Cv.wait_of m p word))
  unfolding plan_of Cv.wait_of Cv.wait_after_wait Cv.object_of Cv.wait_object Cv.passed_of Cv.wait_passed Mx.lock_passed Cv.mutex_of Cv.needs_of Cv.wait_needs Mx.unlock_needs Cv.waits_of Cv.wait_waits passed_of need_of waits_of
  wait-kept Wt.Load =
      kept_on _ word word (A.Condvar c (C.Wait m (Wt.Unlock word U.Swap))) c W.None waiting (λ _ _ _. refl) (stores_same _ word) (inr (refl, refl))
  wait-kept (Wt.Unlock sequence p) = unlock-kept sequence p _ (unlock-did p word)
  wait-kept (Wt.Wait sequence) =
      either (λ (s : Step CondvarAt). Kept (A.Condvar c (C.Wait m (Wt.Wait sequence))) word (condvar_plan c (C.Wait m (Wt.Wait sequence)) c s))
      (eqb word sequence) _ _
      (kept-slept _ word c refl)
      (kept_on _ word word (A.Condvar c (C.Wait m (Wt.Relock L.Exchange))) c W.None waiting (λ _ _ _. refl) (stores_same _ word) (inl refl))
  wait-kept (Wt.Relock p) = relock-kept p _ (lock-did p word)

more-one : (word : ℕ) → incremented word < 2 ^ 32
unfolding wrapping_add
more-one word = omega arith

notify-kept :
    (c word : ℕ) (all : Bool) (p : NotifyAt) → Kept (A.Condvar c (C.Notify all p)) word (condvar_plan c (C.Notify all p) c (Cv.notify_of all p word))
unfolding plan_of Cv.notify_of Cv.passed_of Cv.needs_of Cv.operand_of passed_of need_of kind_of largest Did
notify-kept c word all Nf.Add =
    let h : incremented word < 2 ^ 32 = more-one word in
    kept_on _ word (incremented word) (A.Condvar c (C.Notify all Nf.Wake)) c W.None notifying (λ _ _ _. refl)
    (record { wide = λ _. h; small = λ _ _. omega arith; did = λ _. refl })
    (inl refl)
notify-kept c word all Nf.Wake = kept-end _ word word 1 c (cond all W.All W.One) (stores_same _ word)

pub condvar-kept : (c word : ℕ) (p : CondvarAt) (f a : Bool) → Kept (A.Condvar c p) word (decide_of (A.Condvar c p) f word a)
unfolding decide_of Cv.decide_of Cv.object_of
condvar-kept c word (C.Wait m p) f a = wait-kept c m word p
condvar-kept c word (C.Notify all p) f a = notify-kept c word all p
