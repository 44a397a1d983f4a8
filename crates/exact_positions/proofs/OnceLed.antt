-- Every position of a Once's calls that passes is led to from the start of a call. Assumes nothing.
use mathlib.Core.Path.{◌≡◌, refl, sym, subst}
use mathlib.Core.Bool.{Bool, true, false, ◌&&◌, ◌||◌}
use Prim.Native.Nat.{ℕ, ◌+◌, ◌≤◌}
use native.Mathlib.Omega.{arith}
use lib.Dec.{eqb}
use borrow.Author.Tests.{eqb-true}
use Rattle.words.specs.Atomic.{exchanges}
use Rattle.words.specs.Once.{INCOMPLETE, POISONED, RUNNING, QUEUED, state_of, is_queued}
use Rattle.words.specs.declared.Next.TheVariants as Nx
use Rattle.once.specs.declared.Ending.TheVariants as E
use Rattle.once.specs.declared.CallAt.{CallAt}
use Rattle.once.specs.declared.CallAt.TheVariants as Ca
use Rattle.once.specs.declared.WaitAt.{WaitAt}
use Rattle.once.specs.declared.WaitAt.TheVariants as Wt
use Rattle.once.specs.declared.OnceAt.{OnceAt}
use Rattle.once.specs.declared.OnceAt.TheVariants as O
use Rattle.once.specs.Once as On
use Rattle.calls.specs.declared.At.{At}
use Rattle.calls.specs.declared.At.TheVariants as A
use Rattle.calls.specs.Plans.{moved, entered, decide_of, plan_of}
use Rattle.calls.specs.Positions.{entry_of, in_closure, is_idle}
use Rattle.acts.specs.Refusals.{step_refusal, close_refusal}
use Rattle.kept.specs.Laws.{kind_of, largest}
use Rattle.kept.proofs.Tests.{and_left, and_right, or_cases}
use Rattle.exact_positions.specs.Exact.{Led, stepped, closed}
use Rattle.exact_positions.proofs.Starts.{begins}

-- the values that a test of carried values names, one by one
named : (Q : ℕ → Type 0) (value seen : ℕ) → eqb seen value ≡ true → Q value → Q seen
named Q value seen e x = subst Q (sym (eqb-true seen value e)) x

pub running-each :
    (ignores : Bool) (Q : ℕ → Type 0) (seen : ℕ) → On.running_passed ignores seen ≡ true → Q 3 → Q 7 → (ignores ≡ true → Q 2) → (ignores ≡ true → Q 6) → Q seen
unfolding On.running_passed
running-each ignores Q seen e x₃ x₇ x₂ x₆ =
    or_cases (eqb seen INCOMPLETE || eqb seen (INCOMPLETE + QUEUED)) (ignores && (eqb seen POISONED || eqb seen (POISONED + QUEUED))) (Q seen) e
    (λ a. or_cases (eqb seen INCOMPLETE) (eqb seen (INCOMPLETE + QUEUED)) (Q seen) a (λ n. named Q 3 seen n x₃) (λ n. named Q 7 seen n x₇))
    (λ a. let i : ignores ≡ true = and_left ignores (eqb seen POISONED || eqb seen (POISONED + QUEUED)) a in
    or_cases (eqb seen POISONED) (eqb seen (POISONED + QUEUED)) (Q seen) (and_right ignores (eqb seen POISONED || eqb seen (POISONED + QUEUED)) a)
    (λ n. named Q 2 seen n (x₂ i)) (λ n. named Q 6 seen n (x₆ i)))

pub queued-each :
    (ignores : Bool) (flag : ℕ) (Q : ℕ → Type 0) (seen : ℕ) → On.queued_passed ignores flag seen ≡ true →
    Q (RUNNING + flag) → Q (INCOMPLETE + flag) → (ignores ≡ true → Q (POISONED + flag)) → Q seen
unfolding On.queued_passed
queued-each ignores flag Q seen e x₁ x₃ x₂ =
    or_cases (eqb seen (RUNNING + flag) || eqb seen (INCOMPLETE + flag)) (ignores && eqb seen (POISONED + flag)) (Q seen) e
    (λ a. or_cases (eqb seen (RUNNING + flag)) (eqb seen (INCOMPLETE + flag)) (Q seen) a
    (λ n. named Q (RUNNING + flag) seen n x₁) (λ n. named Q (INCOMPLETE + flag) seen n x₃))
    (λ a. named Q (POISONED + flag) seen (and_right ignores (eqb seen (POISONED + flag)) a) (x₂ (and_left ignores (eqb seen (POISONED + flag)) a)))

module _ (P : At → Type 0) (led : (at : At) → Led P at → P at) (o : ℕ) where
  step :
      (p q : OnceAt) (word : ℕ) → On.in_closure p ≡ false → word ≤ 7 → (On.decide_of p false word false).next ≡ Nx.Moved q → P (A.Once o p) → P (A.Once o q)
  unfolding decide_of plan_of moved step_refusal is_idle in_closure kind_of On.operand_of largest
  step p q word r h e x =
      rw e at (led (decide_of (A.Once o p) false word false).next.at (stepped (A.Once o p) 0 word false x (rw r) (rw r h)))

  call-load : (ignores : Bool) → P (A.Once o (O.Call ignores Ca.Load))
  unfolding entry_of On.entry_of
  call-load false = begins P led 13 o 0 (omega arith)
  call-load true = begins P led 14 o 0 (omega arith)

  wait-load : (ignores : Bool) → P (A.Once o (O.Wait ignores Wt.Load))
  unfolding entry_of On.entry_of
  wait-load false = begins P led 15 o 0 (omega arith)
  wait-load true = begins P led 16 o 0 (omega arith)

  -- the load leads to each of the exchanges, and to the wait where QUEUED is set
  call-top : (ignores : Bool) (q : CallAt) (word : ℕ) → word ≤ 7 → (On.call_top ignores word).next ≡ Nx.Moved (O.Call ignores q) → P (A.Once o (O.Call ignores q))
  unfolding On.decide_of On.call_of On.in_closure On.call_in_closure
  call-top ignores q word h e = step (O.Call ignores Ca.Load) (O.Call ignores q) word refl h e (call-load ignores)

  wait-top : (ignores : Bool) (q : WaitAt) (word : ℕ) → word ≤ 7 → (On.wait_top ignores word).next ≡ Nx.Moved (O.Wait ignores q) → P (A.Once o (O.Wait ignores q))
  unfolding On.decide_of On.wait_of On.in_closure
  wait-top ignores q word h e = step (O.Wait ignores Wt.Load) (O.Wait ignores q) word refl h e (wait-load ignores)

  closure : (ignores : Bool) → P (A.Once o (O.Call ignores Ca.Closure))
  unfolding On.decide_of On.call_of On.call_top On.in_closure On.call_in_closure exchanges state_of is_queued decide_of plan_of entered step_refusal is_idle in_closure kind_of On.operand_of largest
  closure ignores =
      led (A.Once o (O.Call ignores Ca.Closure))
      (stepped (A.Once o (O.Call ignores (Ca.ExchangeRunning 3))) 0 3 false (call-top ignores (Ca.ExchangeRunning 3) 3 (omega arith) refl) refl (omega arith))

  swap : (ignores : Bool) (ending : E.the_data) → P (A.Once o (O.Call ignores (Ca.Swap ending)))
  unfolding On.close_of On.call_in_closure close_refusal is_idle in_closure On.in_closure
  swap ignores ending = led _ (closed ending (A.Once o (O.Call ignores Ca.Closure)) (closure ignores) refl)

  call-led : (ignores : Bool) (p : CallAt) → On.call_passed ignores p ≡ true → P (A.Once o (O.Call ignores p))
  unfolding On.call_passed On.call_top On.queues state_of is_queued On.decide_of On.call_of On.is_panicked On.in_closure On.call_in_closure
  call-led ignores Ca.Load e = call-load ignores
  call-led ignores (Ca.ExchangeRunning seen) e =
      running-each ignores (λ (seen : ℕ). P (A.Once o (O.Call ignores (Ca.ExchangeRunning seen)))) seen e
      (call-top ignores (Ca.ExchangeRunning 3) 3 (omega arith) refl)
      (call-top ignores (Ca.ExchangeRunning 7) 7 (omega arith) refl)
      (λ i. call-top ignores (Ca.ExchangeRunning 2) 2 (omega arith) (rw i))
      (λ i. call-top ignores (Ca.ExchangeRunning 6) 6 (omega arith) (rw i))
  call-led ignores Ca.Closure e = closure ignores
  call-led ignores (Ca.Swap ending) e = swap ignores ending
  call-led ignores (Ca.WakeAll false) e =
      step (O.Call ignores (Ca.Swap E.Returned)) (O.Call ignores (Ca.WakeAll false)) 5 refl (omega arith) refl (swap ignores E.Returned)
  call-led ignores (Ca.WakeAll true) e =
      step (O.Call ignores (Ca.Swap E.Panicked)) (O.Call ignores (Ca.WakeAll true)) 5 refl (omega arith) refl (swap ignores E.Panicked)
  call-led ignores (Ca.ExchangeQueued seen) e =
      named (λ (seen : ℕ). P (A.Once o (O.Call ignores (Ca.ExchangeQueued seen)))) 1 seen e (call-top ignores (Ca.ExchangeQueued 1) 1 (omega arith) refl)
  call-led ignores (Ca.Wait seen) e =
      named (λ (seen : ℕ). P (A.Once o (O.Call ignores (Ca.Wait seen)))) 5 seen e (call-top ignores (Ca.Wait 5) 5 (omega arith) refl)

  wait-led : (ignores : Bool) (p : WaitAt) → On.wait_passed ignores p ≡ true → P (A.Once o (O.Wait ignores p))
  unfolding On.wait_passed On.wait_top On.queues state_of is_queued
  wait-led ignores Wt.Load e = wait-load ignores
  wait-led ignores (Wt.ExchangeQueued seen) e =
      queued-each ignores 0 (λ (seen : ℕ). P (A.Once o (O.Wait ignores (Wt.ExchangeQueued seen)))) seen e
      (wait-top ignores (Wt.ExchangeQueued 1) 1 (omega arith) refl)
      (wait-top ignores (Wt.ExchangeQueued 3) 3 (omega arith) refl)
      (λ i. wait-top ignores (Wt.ExchangeQueued 2) 2 (omega arith) (rw i))
  wait-led ignores (Wt.Wait seen) e =
      queued-each ignores 4 (λ (seen : ℕ). P (A.Once o (O.Wait ignores (Wt.Wait seen)))) seen e
      (wait-top ignores (Wt.Wait 5) 5 (omega arith) refl)
      (wait-top ignores (Wt.Wait 7) 7 (omega arith) refl)
      (λ i. wait-top ignores (Wt.Wait 6) 6 (omega arith) (rw i))

  pub once-led : (p : OnceAt) → On.passed_of p ≡ true → P (A.Once o p)
  unfolding entry_of On.entry_of On.passed_of
  once-led (O.Call ignores p) e = call-led ignores p e
  once-led (O.Wait ignores p) e = wait-led ignores p e
  once-led O.IsCompleted e = begins P led 17 o 0 (omega arith)
