-- The positions of `lock` that pass are all led to from its start, in a call of its own and inside a condvar wait alike. Assumes nothing.
use mathlib.Core.Path.{◌≡◌, refl}
use mathlib.Core.Bool.{true}
use Prim.Native.Nat.{ℕ, ◌-◌, ◌≤◌}
use native.Mathlib.Omega.{arith}
use lib.Dec.{leb}
use Rattle.words.specs.Atomic.{SPINS}
use Rattle.words.specs.declared.Next.TheVariants as Nx
use Rattle.mutex.specs.declared.LockAt.{LockAt}
use Rattle.mutex.specs.declared.LockAt.TheVariants as L
use Rattle.mutex.specs.Mutex.{lock_of, lock_passed, spun, contended}
use Rattle.exact_positions.proofs.Spins.{downwards}

-- Q holds at the start, where a step at a word of 0 to 2 leads, and after the wait
module _ (Q : LockAt → Type 0) (start : Q L.Exchange)
    (step : (p q : LockAt) (word : ℕ) → word ≤ 2 → (lock_of p word).next ≡ Nx.Moved q → Q p → Q q) (after : Q L.Wait → Q (L.SpinAgain SPINS)) where
  spin : (left : ℕ) → leb left SPINS ≡ true → Q (L.Spin left)
  unfolding lock_of
  spin =
      downwards (λ (left : ℕ). Q (L.Spin left)) (step L.Exchange (L.Spin SPINS) 1 (omega arith) refl start)
      (λ left n. step (L.Spin left) (L.Spin (left - 1)) 1 (omega arith) (rw n))

  wait : Q L.Wait
  unfolding lock_of spun contended
  wait = step (L.Spin 0) L.Wait 2 (omega arith) refl (spin 0 refl)

  spin-again : (left : ℕ) → leb left SPINS ≡ true → Q (L.SpinAgain left)
  unfolding lock_of
  spin-again =
      downwards (λ (left : ℕ). Q (L.SpinAgain left)) (after wait)
      (λ left n. step (L.SpinAgain left) (L.SpinAgain (left - 1)) 1 (omega arith) (rw n))

  pub lock-led : (p : LockAt) → lock_passed p ≡ true → Q p
  unfolding lock_passed lock_of spun contended
  lock-led L.Exchange e = start
  lock-led (L.Spin left) e = spin left e
  lock-led L.ExchangeAgain e = step (L.Spin 0) L.ExchangeAgain 0 (omega arith) refl (spin 0 refl)
  lock-led L.Swap e = step (L.Spin 0) L.Swap 1 (omega arith) refl (spin 0 refl)
  lock-led L.Wait e = wait
  lock-led (L.SpinAgain left) e = spin-again left e
