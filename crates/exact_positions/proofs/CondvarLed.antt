-- Every position of a condvar's calls that passes is led to from the start of a call; the mutex's part of a wait as in `lock`. Assumes nothing.
use mathlib.Core.Path.{◌≡◌, refl, ap}
use mathlib.Core.Bool.{true, false}
use Prim.Native.Nat.{ℕ, ◌^◌, ◌≤◌, ◌<◌}
use native.Mathlib.Omega.{arith}
use Rattle.words.specs.declared.Next.TheVariants as Nx
use Rattle.words.specs.Steps.{map_next}
use Rattle.mutex.specs.declared.LockAt.{LockAt}
use Rattle.mutex.specs.declared.LockAt.TheVariants as L
use Rattle.mutex.specs.declared.UnlockAt.TheVariants as U
use Rattle.mutex.specs.Mutex as Mx
use Rattle.condvar.specs.declared.WaitAt.{WaitAt}
use Rattle.condvar.specs.declared.WaitAt.TheVariants as Wt
use Rattle.condvar.specs.declared.NotifyAt.TheVariants as Nf
use Rattle.condvar.specs.declared.CondvarAt.{CondvarAt}
use Rattle.condvar.specs.declared.CondvarAt.TheVariants as C
use Rattle.condvar.specs.Condvar as Cv
use Rattle.calls.specs.declared.At.{At}
use Rattle.calls.specs.declared.At.TheVariants as A
use Rattle.calls.specs.Plans.{moved, decide_of, plan_of}
use Rattle.calls.specs.Positions.{entry_of, after_wait, waits_of, in_closure, is_idle}
use Rattle.acts.specs.Refusals.{step_refusal, wake_refusal}
use Rattle.kept.specs.Laws.{kind_of, largest}
use Rattle.exact_positions.specs.Exact.{Led, stepped, woken, condvar_carries, wait_carries}
use Rattle.exact_positions.proofs.Starts.{begins}
use Rattle.exact_positions.proofs.Lock.{lock-led}

module _ (P : At → Type 0) (led : (at : At) → Led P at → P at) (c : ℕ) where
  step :
      (p q : CondvarAt) (word : ℕ) → word ≤ largest (Cv.operand_of p) → (Cv.decide_of p false word false).next ≡ Nx.Moved q →
      P (A.Condvar c p) → P (A.Condvar c q)
  unfolding decide_of plan_of moved step_refusal is_idle in_closure kind_of
  step p q word h e x = rw e at (led (decide_of (A.Condvar c p) false word false).next.at (stepped (A.Condvar c p) 0 word false x refl h))

  module _ (m : ℕ) where
    -- the sequence seen is any of 32 bits
    unlock : (sequence : ℕ) → sequence < 2 ^ 32 → P (A.Condvar c (C.Wait m (Wt.Unlock sequence U.Swap)))
    unfolding entry_of Cv.entry_of Cv.decide_of Cv.wait_of Cv.operand_of Cv.wait_operand largest
    unlock sequence h =
        step (C.Wait m Wt.Load) (C.Wait m (Wt.Unlock sequence U.Swap)) sequence (omega arith) refl (begins P led 10 c m (omega arith))

    wait : (sequence : ℕ) → sequence < 2 ^ 32 → P (A.Condvar c (C.Wait m (Wt.Wait sequence)))
    unfolding Cv.decide_of Cv.wait_of Cv.unlock_step Mx.unlock_of Cv.operand_of Cv.wait_operand largest
    wait sequence h =
        step (C.Wait m (Wt.Unlock sequence U.Swap)) (C.Wait m (Wt.Wait sequence)) 0 (omega arith) refl (unlock sequence h)

    relock-step :
        (p q : LockAt) (word : ℕ) → word ≤ 2 → (Mx.lock_of p word).next ≡ Nx.Moved q →
        P (A.Condvar c (C.Wait m (Wt.Relock p))) → P (A.Condvar c (C.Wait m (Wt.Relock q)))
    unfolding Cv.decide_of Cv.wait_of Cv.relock_step Cv.operand_of Cv.wait_operand largest
    relock-step p q word h e = step (C.Wait m (Wt.Relock p)) (C.Wait m (Wt.Relock q)) word h (ap (map_next (λ (q : LockAt). C.Wait m (Wt.Relock q))) e)

    wait-led : (p : WaitAt) → Cv.wait_passed p ≡ true → wait_carries p < 2 ^ 32 → P (A.Condvar c (C.Wait m p))
    unfolding entry_of Cv.entry_of Cv.wait_passed wait_carries after_wait Cv.after_wait Cv.wait_after_wait Mx.lock_after_wait waits_of Cv.waits_of Cv.wait_waits Mx.lock_waits wake_refusal is_idle Cv.decide_of Cv.wait_of Cv.unlock_step Mx.unlock_of Cv.operand_of Cv.wait_operand largest
    wait-led Wt.Load e h = begins P led 10 c m (omega arith)
    wait-led (Wt.Unlock sequence U.Swap) e h = unlock sequence h
    wait-led (Wt.Unlock sequence U.Wake) e h =
        step (C.Wait m (Wt.Unlock sequence U.Swap)) (C.Wait m (Wt.Unlock sequence U.Wake)) 2 (omega arith) refl (unlock sequence h)
    wait-led (Wt.Wait sequence) e h = wait sequence h
    wait-led (Wt.Relock p) e h =
        lock-led (λ (p : LockAt). P (A.Condvar c (C.Wait m (Wt.Relock p))))
        (led _ (woken (A.Condvar c (C.Wait m (Wt.Wait 0))) (wait 0 (omega arith)) refl refl)) relock-step
        (λ x. led _ (woken (A.Condvar c (C.Wait m (Wt.Relock L.Wait))) x refl refl)) p e

  pub condvar-led : (p : CondvarAt) → Cv.passed_of p ≡ true → condvar_carries p < 2 ^ 32 → P (A.Condvar c p)
  unfolding entry_of Cv.entry_of Cv.passed_of condvar_carries Cv.decide_of Cv.notify_of Cv.operand_of largest
  condvar-led (C.Wait m p) e h = wait-led m p e h
  condvar-led (C.Notify false Nf.Add) e h = begins P led 11 c 0 (omega arith)
  condvar-led (C.Notify true Nf.Add) e h = begins P led 12 c 0 (omega arith)
  condvar-led (C.Notify false Nf.Wake) e h = step (C.Notify false Nf.Add) (C.Notify false Nf.Wake) 0 (omega arith) refl (begins P led 11 c 0 (omega arith))
  condvar-led (C.Notify true Nf.Wake) e h = step (C.Notify true Nf.Add) (C.Notify true Nf.Wake) 0 (omega arith) refl (begins P led 12 c 0 (omega arith))
