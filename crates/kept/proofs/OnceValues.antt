-- Which of a Once's eight values lead where: the tests at the tops of `call` and `wait` against the values that a position may carry.
-- Assumes nothing.
use mathlib.Core.Path.{◌≡◌, refl, sym}
use mathlib.Core.Bool.{Bool, true, false, not, ◌&&◌, ◌||◌}
use Prim.Native.Nat.{ℕ, zero, suc, ◌+◌, ◌/◌, ◌%◌, ◌^◌, ◌≤◌, ◌<◌}
use native.Mathlib.Omega.{arith}
use lib.Dec.{eqb}
use borrow.Author.Tests.{eqb-true}
use Rattle.words.specs.Atomic.{wrapping_add}
use Rattle.words.specs.Once.{INCOMPLETE, POISONED, RUNNING, COMPLETE, QUEUED, state_of, is_queued, with_queued, running_with}
use Rattle.once.specs.declared.Ending.{Ending}
use Rattle.once.specs.declared.Ending.TheVariants as E
use Rattle.once.specs.Once.{running_passed, queued_passed, drops_to}
use Rattle.kept.proofs.Tests.{no_way, and_right}

up-to-seven : (P : ℕ → Type 0) → P 0 → P 1 → P 2 → P 3 → P 4 → P 5 → P 6 → P 7 → (n : ℕ) → n ≤ 7 → P n
up-to-seven P p₀ p₁ p₂ p₃ p₄ p₅ p₆ p₇ zero l = p₀
up-to-seven P p₀ p₁ p₂ p₃ p₄ p₅ p₆ p₇ (suc zero) l = p₁
up-to-seven P p₀ p₁ p₂ p₃ p₄ p₅ p₆ p₇ (suc (suc zero)) l = p₂
up-to-seven P p₀ p₁ p₂ p₃ p₄ p₅ p₆ p₇ (suc (suc (suc zero))) l = p₃
up-to-seven P p₀ p₁ p₂ p₃ p₄ p₅ p₆ p₇ (suc (suc (suc (suc zero)))) l = p₄
up-to-seven P p₀ p₁ p₂ p₃ p₄ p₅ p₆ p₇ (suc (suc (suc (suc (suc zero))))) l = p₅
up-to-seven P p₀ p₁ p₂ p₃ p₄ p₅ p₆ p₇ (suc (suc (suc (suc (suc (suc zero)))))) l = p₆
up-to-seven P p₀ p₁ p₂ p₃ p₄ p₅ p₆ p₇ (suc (suc (suc (suc (suc (suc (suc zero))))))) l = p₇
up-to-seven P p₀ p₁ p₂ p₃ p₄ p₅ p₆ p₇ (suc (suc (suc (suc (suc (suc (suc (suc n)))))))) l = absurd (omega arith)

-- `call` goes on to its exchange for RUNNING
pub running-passes :
    (i : Bool) (seen : ℕ) → seen ≤ 7 → (eqb (state_of seen) POISONED && not i) ≡ false →
    (eqb (state_of seen) POISONED || eqb (state_of seen) INCOMPLETE) ≡ true → running_passed i seen ≡ true
unfolding state_of running_passed
running-passes true seen l =
    up-to-seven (λ (n : ℕ). (eqb (n % 4) POISONED && not true) ≡ false → (eqb (n % 4) POISONED || eqb (n % 4) INCOMPLETE) ≡ true → running_passed true n ≡ true)
    (λ _ e. no_way e) (λ _ e. no_way e) (λ _ _. refl) (λ _ _. refl) (λ _ e. no_way e) (λ _ e. no_way e) (λ _ _. refl) (λ _ _. refl) seen l
running-passes false seen l =
    up-to-seven (λ (n : ℕ). (eqb (n % 4) POISONED && not false) ≡ false → (eqb (n % 4) POISONED || eqb (n % 4) INCOMPLETE) ≡ true → running_passed false n ≡ true)
    (λ _ e. no_way e) (λ _ e. no_way e) (λ e _. no_way (sym e)) (λ _ _. refl) (λ _ e. no_way e) (λ _ e. no_way e) (λ e _. no_way (sym e)) (λ _ _. refl) seen l

-- .. or waits, for RUNNING, with QUEUED set or yet to be set
pub call-queued-passes :
    (seen : ℕ) → seen ≤ 7 → eqb (state_of seen) COMPLETE ≡ false → (eqb (state_of seen) POISONED || eqb (state_of seen) INCOMPLETE) ≡ false →
    is_queued seen ≡ true → eqb seen (RUNNING + QUEUED) ≡ true
unfolding state_of is_queued
call-queued-passes =
    up-to-seven (λ (n : ℕ). eqb (n % 4) COMPLETE ≡ false → (eqb (n % 4) POISONED || eqb (n % 4) INCOMPLETE) ≡ false → eqb (n / 4 % 2) 1 ≡ true → eqb n (RUNNING + QUEUED) ≡ true)
    (λ _ _ e. no_way e) (λ _ _ e. no_way e) (λ _ _ e. no_way e) (λ _ _ e. no_way e)
    (λ e _ _. no_way (sym e)) (λ _ _ _. refl) (λ _ e _. no_way (sym e)) (λ _ e _. no_way (sym e))

pub call-queues-passes :
    (seen : ℕ) → seen ≤ 7 → eqb (state_of seen) COMPLETE ≡ false → (eqb (state_of seen) POISONED || eqb (state_of seen) INCOMPLETE) ≡ false →
    is_queued seen ≡ false → eqb seen RUNNING ≡ true
unfolding state_of is_queued
call-queues-passes =
    up-to-seven (λ (n : ℕ). eqb (n % 4) COMPLETE ≡ false → (eqb (n % 4) POISONED || eqb (n % 4) INCOMPLETE) ≡ false → eqb (n / 4 % 2) 1 ≡ false → eqb n RUNNING ≡ true)
    (λ e _ _. no_way (sym e)) (λ _ _ _. refl) (λ _ e _. no_way (sym e)) (λ _ e _. no_way (sym e))
    (λ e _ _. no_way (sym e)) (λ _ _ e. no_way (sym e)) (λ _ e _. no_way (sym e)) (λ _ e _. no_way (sym e))

-- `wait` waits for all but COMPLETE, and POISONED where it is ignored
WaitQueued : Bool → ℕ → Type 0
WaitQueued i n =
    eqb (state_of n) COMPLETE ≡ false → (eqb (state_of n) POISONED && not i) ≡ false → is_queued n ≡ true → queued_passed i QUEUED n ≡ true

pub wait-queued-passes :
    (i : Bool) (seen : ℕ) → seen ≤ 7 → eqb (state_of seen) COMPLETE ≡ false → (eqb (state_of seen) POISONED && not i) ≡ false →
    is_queued seen ≡ true → queued_passed i QUEUED seen ≡ true
unfolding WaitQueued state_of is_queued queued_passed
wait-queued-passes true =
    up-to-seven (WaitQueued true)
    (λ _ _ e. no_way e) (λ _ _ e. no_way e) (λ _ _ e. no_way e) (λ _ _ e. no_way e)
    (λ e _ _. no_way (sym e)) (λ _ _ _. refl) (λ _ _ _. refl) (λ _ _ _. refl)
wait-queued-passes false =
    up-to-seven (WaitQueued false)
    (λ _ _ e. no_way e) (λ _ _ e. no_way e) (λ _ _ e. no_way e) (λ _ _ e. no_way e)
    (λ e _ _. no_way (sym e)) (λ _ _ _. refl) (λ _ e _. no_way (sym e)) (λ _ _ _. refl)

WaitQueues : Bool → ℕ → Type 0
WaitQueues i n =
    eqb (state_of n) COMPLETE ≡ false → (eqb (state_of n) POISONED && not i) ≡ false → is_queued n ≡ false → queued_passed i 0 n ≡ true

pub wait-queues-passes :
    (i : Bool) (seen : ℕ) → seen ≤ 7 → eqb (state_of seen) COMPLETE ≡ false → (eqb (state_of seen) POISONED && not i) ≡ false →
    is_queued seen ≡ false → queued_passed i 0 seen ≡ true
unfolding WaitQueues state_of is_queued queued_passed
wait-queues-passes true =
    up-to-seven (WaitQueues true)
    (λ e _ _. no_way (sym e)) (λ _ _ _. refl) (λ _ _ _. refl) (λ _ _ _. refl)
    (λ e _ _. no_way (sym e)) (λ _ _ e. no_way (sym e)) (λ _ _ e. no_way (sym e)) (λ _ _ e. no_way (sym e))
wait-queues-passes false =
    up-to-seven (WaitQueues false)
    (λ e _ _. no_way (sym e)) (λ _ _ _. refl) (λ _ e _. no_way (sym e)) (λ _ _ _. refl)
    (λ e _ _. no_way (sym e)) (λ _ _ e. no_way (sym e)) (λ _ _ e. no_way (sym e)) (λ _ _ e. no_way (sym e))

-- a value that may be queued is one of the eight, so that setting QUEUED leads to one that may be waited on
pub queues-small : (i : Bool) (seen : ℕ) → queued_passed i 0 seen ≡ true → seen ≤ 7
unfolding queued_passed
queues-small i seen = by (eqb seen 1) (eqb seen 3) refl refl
  where
    by : (a b : Bool) → eqb seen 1 ≡ a → eqb seen 3 ≡ b → (a || b || (i && eqb seen 2)) ≡ true → seen ≤ 7
    by true b p q h = let e : seen ≡ 1 = eqb-true seen 1 p in omega arith
    by false true p q h = let e : seen ≡ 3 = eqb-true seen 3 q in omega arith
    by false false p q h = let e : seen ≡ 2 = eqb-true seen 2 (and_right i (eqb seen 2) h) in omega arith

-- setting QUEUED on it
Queues : Bool → ℕ → Type 0
Queues i n = queued_passed i 0 n ≡ true → (queued_passed i QUEUED (with_queued n) ≡ true) × (with_queued n ≤ 7)

pub queues-on : (i : Bool) (seen : ℕ) → queued_passed i 0 seen ≡ true → (queued_passed i QUEUED (with_queued seen) ≡ true) × (with_queued seen ≤ 7)
unfolding Queues queued_passed wrapping_add
queues-on true seen e =
    up-to-seven (Queues true)
    (λ e. no_way e) (λ _. (refl, omega arith)) (λ _. (refl, omega arith)) (λ _. (refl, omega arith))
    (λ e. no_way e) (λ e. no_way e) (λ e. no_way e) (λ e. no_way e) seen (queues-small true seen e) e
queues-on false seen e =
    up-to-seven (Queues false)
    (λ e. no_way e) (λ _. (refl, omega arith)) (λ e. no_way e) (λ _. (refl, omega arith))
    (λ e. no_way e) (λ e. no_way e) (λ e. no_way e) (λ e. no_way e) seen (queues-small false seen e) e

pub call-queues-on : (seen : ℕ) → eqb seen RUNNING ≡ true → with_queued seen ≡ RUNNING + QUEUED
unfolding wrapping_add
call-queues-on seen e = let h : seen ≡ 1 = eqb-true seen 1 e in rw h

pub queued-wide : (seen : ℕ) → with_queued seen < 2 ^ 32
unfolding wrapping_add
queued-wide seen = omega arith

pub running-small : (b : Bool) → running_with b ≤ 7
running-small true = omega arith
running-small false = omega arith

pub drops-small : (ending : Ending) → drops_to ending ≤ 7
unfolding drops_to
drops-small E.Returned = omega arith
drops-small E.Poisoned = omega arith
drops-small E.Panicked = omega arith
