-- What a step on a Once keeps. Assumes nothing.
use mathlib.Core.Path.{◌≡◌, refl}
use mathlib.Core.Logic.{inl}
use mathlib.Core.Bool.{Bool, cond, not, ◌&&◌, ◌||◌}
use Prim.Native.Nat.{ℕ, ◌+◌, ◌≤◌}
use native.Mathlib.Omega.{arith}
use lib.Dec.{eqb}
use borrow.Author.Tests.{eq-eqb}
use Rattle.words.proofs.Cond.{either}
use Rattle.words.specs.Atomic.{exchanges}
use Rattle.words.specs.Once.{INCOMPLETE, POISONED, RUNNING, COMPLETE, QUEUED, state_of, is_queued, with_queued, running_with}
use Rattle.words.specs.declared.Hold.TheVariants as H
use Rattle.words.specs.declared.Kind.{Kind}
use Rattle.words.specs.declared.Kind.TheVariants as K
use Rattle.words.specs.declared.Wake.{Wake}
use Rattle.words.specs.declared.Wake.TheVariants as W
use Rattle.words.specs.declared.Step.{Step}
use Rattle.once.specs.declared.CallAt.{CallAt}
use Rattle.once.specs.declared.CallAt.TheVariants as C
use Rattle.once.specs.declared.WaitAt.{WaitAt}
use Rattle.once.specs.declared.WaitAt.TheVariants as Wt
use Rattle.once.specs.declared.OnceAt.{OnceAt}
use Rattle.once.specs.declared.OnceAt.TheVariants as O
use Rattle.once.specs.Once as On
use Rattle.calls.specs.declared.At.TheVariants as A
use Rattle.calls.specs.Plans.{once_plan, moved, decide_of, plan_of}
use Rattle.calls.specs.Positions.{passed_of, waits_of, need_of}
use Rattle.kept.proofs.Tests.{decided}
use Rattle.kept.specs.Laws.{Kept, Stores, Did, Goes, Passes, largest, kind_of, calling, awaiting}
use Rattle.kept.proofs.Laws.{stores_same, kept_on, kept-end, kept-panicked, kept-slept, kept-entered}
use Rattle.kept.proofs.OnceValues.{running-passes, call-queued-passes, call-queues-passes, wait-queued-passes, wait-queues-passes, queues-on, call-queues-on, queued-wide, running-small, drops-small}

module _ (o word : ℕ) where
  -- nothing is held, whatever is stored
  did : (p : OnceAt) (new : ℕ) → Did (kind_of (A.Once o p)) word H.Same new
  unfolding kind_of On.operand_of Did
  did p new = either (λ (k : Kind). Did k word H.Same new) (On.in_closure p) K.Nothing K.Once refl refl

  moves :
      (p q : OnceAt) (new : ℕ) → Goes (A.Once o p) (A.Once o q) → Passes (A.Once o p) word (A.Once o q) → Stores (A.Once o p) word H.Same new →
      Kept (A.Once o p) word (moved new (A.Once o q) H.Same 0 W.None)
  unfolding On.needs_of need_of
  moves p q new g t s = kept_on (A.Once o p) word new (A.Once o q) 0 W.None g t s (inl refl)

  module _ (i : Bool) where
    -- the top of `call`'s loop, from any of its positions outside the closure
    call-top-kept : (p : CallAt) → kind_of (A.Once o (O.Call i p)) ≡ K.Once → Kept (A.Once o (O.Call i p)) word (once_plan o (O.Call i p) (On.call_top i word))
    unfolding plan_of On.call_top On.queues On.passed_of On.call_passed passed_of
    call-top-kept p k =
        decided P (eqb (state_of word) COMPLETE) _ _
        (λ _. kept-end _ word word 1 0 W.None (stores_same _ word))
        (λ e₀. decided P (eqb (state_of word) POISONED && not i) _ _
        (λ _. kept-panicked _ word word 2 0 W.None (stores_same _ word))
        (λ e₁. decided P (eqb (state_of word) POISONED || eqb (state_of word) INCOMPLETE) _ _
        (λ e₂. moves (O.Call i p) (O.Call i (C.ExchangeRunning word)) word calling (λ _ _ l. running-passes i word (l k) e₁ e₂) (stores_same _ word))
        (λ e₂. decided P (is_queued word) _ _
        (λ e₃. moves (O.Call i p) (O.Call i (C.Wait word)) word calling (λ _ _ l. call-queued-passes word (l k) e₀ e₂ e₃) (stores_same _ word))
        (λ e₃. moves (O.Call i p) (O.Call i (C.ExchangeQueued word)) word calling (λ _ _ l. call-queues-passes word (l k) e₀ e₂ e₃) (stores_same _ word)))))
      where
        P : Step OnceAt → Type 0
        P s = Kept (A.Once o (O.Call i p)) word (once_plan o (O.Call i p) s)

    -- the guard's last step
    finishes-kept :
        (p : OnceAt) (panicking : Bool) (new : ℕ) (wake : Wake) → Stores (A.Once o p) word H.Same new →
        Kept (A.Once o p) word (once_plan o p (On.finishes panicking new wake))
    unfolding plan_of On.finishes
    finishes-kept p panicking new wake s =
        either (λ (q : Step OnceAt). Kept (A.Once o p) word (once_plan o p q)) panicking _ _
        (kept-panicked _ word new 3 0 wake s)
        (kept-end _ word new 1 0 wake s)

    call_kept : (p : CallAt) (f : Bool) → Kept (A.Once o (O.Call i p)) word (once_plan o (O.Call i p) (On.call_of i p f word))
    unfolding plan_of On.call_of On.call_after_wait On.passed_of On.call_passed On.waits_of On.call_waits On.needs_of On.operand_of On.in_closure On.call_in_closure passed_of waits_of need_of kind_of largest
    call_kept C.Load f = call-top-kept C.Load refl
    call_kept (C.ExchangeRunning seen) f =
        let h : running_with (is_queued seen) ≤ 7 = running-small (is_queued seen) in
        either (λ (s : Step OnceAt). Kept (A.Once o (O.Call i (C.ExchangeRunning seen))) word (once_plan o (O.Call i (C.ExchangeRunning seen)) s))
        (exchanges word seen f) _ _
        (kept-entered _ word (running_with (is_queued seen)) (A.Once o (O.Call i C.Closure)) W.None calling (λ _ _ _. refl)
        (record { wide = λ _. omega arith; small = λ _ _. h; did = λ _. did (O.Call i (C.ExchangeRunning seen)) (running_with (is_queued seen)) })
        (inl refl))
        (call-top-kept (C.ExchangeRunning seen) refl)
    call_kept C.Closure f =
        kept-entered _ word word (A.Once o (O.Call i C.Closure)) W.None calling (λ _ _ _. refl) (stores_same _ word) (inl refl)
    call_kept (C.Swap ending) f =
        let h : On.drops_to ending ≤ 7 = drops-small ending in
        let s : Stores (A.Once o (O.Call i (C.Swap ending))) word H.Same (On.drops_to ending) =
        record { wide = λ _. omega arith; small = λ _ _. h; did = λ _. did (O.Call i (C.Swap ending)) (On.drops_to ending) } in
        either (λ (s : Step OnceAt). Kept (A.Once o (O.Call i (C.Swap ending))) word (once_plan o (O.Call i (C.Swap ending)) s)) (is_queued word) _ _
        (moves (O.Call i (C.Swap ending)) (O.Call i (C.WakeAll (On.is_panicked ending))) (On.drops_to ending) calling (λ _ _ _. refl) s)
        (finishes-kept (O.Call i (C.Swap ending)) (On.is_panicked ending) (On.drops_to ending) W.None s)
    call_kept (C.WakeAll panicking) f = finishes-kept (O.Call i (C.WakeAll panicking)) panicking word W.All (stores_same _ word)
    call_kept (C.ExchangeQueued seen) f =
        either (λ (s : Step OnceAt). Kept (A.Once o (O.Call i (C.ExchangeQueued seen))) word (once_plan o (O.Call i (C.ExchangeQueued seen)) s))
        (exchanges word (state_of seen) f) _ _
        (moves (O.Call i (C.ExchangeQueued seen)) (O.Call i (C.Wait (with_queued seen))) (with_queued seen) calling
        (λ e _ _. eq-eqb (with_queued seen) (RUNNING + QUEUED) (call-queues-on seen e))
        (record {
          wide = λ _. queued-wide seen;
          small = λ e _. omega (arith, call-queues-on seen (e refl));
          did = λ _. did (O.Call i (C.ExchangeQueued seen)) (with_queued seen);
        }))
        (call-top-kept (C.ExchangeQueued seen) refl)
    call_kept (C.Wait seen) f =
        either (λ (s : Step OnceAt). Kept (A.Once o (O.Call i (C.Wait seen))) word (once_plan o (O.Call i (C.Wait seen)) s)) (eqb word seen) _ _
        (kept-slept _ word 0 refl)
        (moves (O.Call i (C.Wait seen)) (O.Call i C.Load) word calling (λ _ _ _. refl) (stores_same _ word))

    -- the top of `wait`'s loop
    wait-top-kept : (p : WaitAt) → Kept (A.Once o (O.Wait i p)) word (once_plan o (O.Wait i p) (On.wait_top i word))
    unfolding plan_of On.wait_top On.queues On.passed_of On.wait_passed On.operand_of On.in_closure passed_of kind_of
    wait-top-kept p =
        decided P (eqb (state_of word) COMPLETE) _ _
        (λ _. kept-end _ word word 1 0 W.None (stores_same _ word))
        (λ e₀. decided P (eqb (state_of word) POISONED && not i) _ _
        (λ _. kept-panicked _ word word 2 0 W.None (stores_same _ word))
        (λ e₁. decided P (is_queued word) _ _
        (λ e₂. moves (O.Wait i p) (O.Wait i (Wt.Wait word)) word awaiting (λ _ _ l. wait-queued-passes i word (l refl) e₀ e₁ e₂) (stores_same _ word))
        (λ e₂. moves (O.Wait i p) (O.Wait i (Wt.ExchangeQueued word)) word awaiting (λ _ _ l. wait-queues-passes i word (l refl) e₀ e₁ e₂) (stores_same _ word))))
      where
        P : Step OnceAt → Type 0
        P s = Kept (A.Once o (O.Wait i p)) word (once_plan o (O.Wait i p) s)

    wait-kept : (p : WaitAt) (f : Bool) → Kept (A.Once o (O.Wait i p)) word (once_plan o (O.Wait i p) (On.wait_of i p f word))
    unfolding plan_of On.wait_of On.wait_after_wait On.passed_of On.wait_passed On.waits_of On.wait_waits On.operand_of On.in_closure passed_of waits_of kind_of largest
    wait-kept Wt.Load f = wait-top-kept Wt.Load
    wait-kept (Wt.ExchangeQueued seen) f =
        either (λ (s : Step OnceAt). Kept (A.Once o (O.Wait i (Wt.ExchangeQueued seen))) word (once_plan o (O.Wait i (Wt.ExchangeQueued seen)) s))
        (exchanges word (state_of seen) f) _ _
        (moves (O.Wait i (Wt.ExchangeQueued seen)) (O.Wait i (Wt.Wait (with_queued seen))) (with_queued seen) awaiting
        (λ e _ _. (queues-on i seen e).0)
        (record {
          wide = λ _. queued-wide seen;
          small = λ e _. (queues-on i seen (e refl)).1;
          did = λ _. did (O.Wait i (Wt.ExchangeQueued seen)) (with_queued seen);
        }))
        (wait-top-kept (Wt.ExchangeQueued seen))
    wait-kept (Wt.Wait seen) f =
        either (λ (s : Step OnceAt). Kept (A.Once o (O.Wait i (Wt.Wait seen))) word (once_plan o (O.Wait i (Wt.Wait seen)) s)) (eqb word seen) _ _
        (kept-slept _ word 0 refl)
        (moves (O.Wait i (Wt.Wait seen)) (O.Wait i Wt.Load) word awaiting (λ _ _ _. refl) (stores_same _ word))

  pub once-kept : (p : OnceAt) (f a : Bool) → Kept (A.Once o p) word (decide_of (A.Once o p) f word a)
  unfolding decide_of On.decide_of plan_of On.is_completed_of
  once-kept (O.Call i p) f a = call_kept i p f
  once-kept (O.Wait i p) f a = wait-kept i p f
  once-kept O.IsCompleted f a = kept-end _ word word (cond (eqb word COMPLETE) 1 0) 0 W.None (stores_same _ word)
