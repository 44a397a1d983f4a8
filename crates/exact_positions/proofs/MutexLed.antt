-- Every position of a mutex's calls that passes is led to from the start of a call. Assumes nothing.
use mathlib.Core.Path.{◌≡◌, refl, ap}
use mathlib.Core.Bool.{true, false}
use Prim.Native.Nat.{ℕ, ◌≤◌}
use native.Mathlib.Omega.{arith}
use Rattle.words.specs.declared.Next.TheVariants as Nx
use Rattle.words.specs.Steps.{map_next}
use Rattle.mutex.specs.declared.LockAt.{LockAt}
use Rattle.mutex.specs.declared.LockAt.TheVariants as L
use Rattle.mutex.specs.declared.UnlockAt.TheVariants as U
use Rattle.mutex.specs.declared.MutexAt.{MutexAt}
use Rattle.mutex.specs.declared.MutexAt.TheVariants as M
use Rattle.mutex.specs.Mutex as Mx
use Rattle.calls.specs.declared.At.{At}
use Rattle.calls.specs.declared.At.TheVariants as A
use Rattle.calls.specs.Plans.{moved, decide_of, plan_of}
use Rattle.calls.specs.Positions.{entry_of, after_wait, waits_of, in_closure, is_idle}
use Rattle.acts.specs.Refusals.{step_refusal, wake_refusal}
use Rattle.kept.specs.Laws.{kind_of, largest}
use Rattle.exact_positions.specs.Exact.{Led, stepped, woken}
use Rattle.exact_positions.proofs.Starts.{begins}
use Rattle.exact_positions.proofs.Lock.{lock-led}

module _ (P : At → Type 0) (led : (at : At) → Led P at → P at) (m : ℕ) where
  -- where a step that moves leads
  step : (p q : MutexAt) (word : ℕ) → word ≤ 2 → (Mx.decide_of p false word false).next ≡ Nx.Moved q → P (A.Mutex m p) → P (A.Mutex m q)
  unfolding decide_of plan_of moved step_refusal is_idle in_closure kind_of Mx.operand_of largest
  step p q word h e x = rw e at (led (decide_of (A.Mutex m p) false word false).next.at (stepped (A.Mutex m p) 0 word false x refl h))

  lock-step : (p q : LockAt) (word : ℕ) → word ≤ 2 → (Mx.lock_of p word).next ≡ Nx.Moved q → P (A.Mutex m (M.Lock p)) → P (A.Mutex m (M.Lock q))
  unfolding Mx.decide_of
  lock-step p q word h e = step (M.Lock p) (M.Lock q) word h (ap (map_next M.Lock) e)

  pub mutex-led : (p : MutexAt) → Mx.passed_of p ≡ true → P (A.Mutex m p)
  unfolding entry_of Mx.entry_of Mx.passed_of after_wait Mx.after_wait Mx.lock_after_wait waits_of Mx.waits_of Mx.lock_waits wake_refusal is_idle Mx.decide_of Mx.unlock_of
  mutex-led (M.Lock p) e =
      lock-led (λ (p : LockAt). P (A.Mutex m (M.Lock p))) (begins P led 0 m 0 (omega arith)) lock-step
      (λ x. led _ (woken (A.Mutex m (M.Lock L.Wait)) x refl refl)) p e
  mutex-led M.TryLock e = begins P led 1 m 0 (omega arith)
  mutex-led (M.Unlock U.Swap) e = begins P led 2 m 0 (omega arith)
  mutex-led (M.Unlock U.Wake) e = step (M.Unlock U.Swap) (M.Unlock U.Wake) 2 (omega arith) refl (begins P led 2 m 0 (omega arith))
