-- The run's definition, unrolled by one step: it goes on, it stops, its budget is used up. Assumes nothing.
use Prim.Native.Nat.{ℕ, suc, ◌+◌, ◌-◌, ◌≤◌, ◌<◌}
use mathlib.Core.Path.{◌≡◌, refl, sym, ap, ◌∙◌}
use mathlib.Core.Bool.{Bool, true, false}
use native.Mathlib.Omega.{arith}
use Rattle.calls.specs.declared.Event.TheVariants as E
use Rattle.calls.specs.Events.{woken_of, goes_on}
use Rattle.world.specs.declared.World.{World}
use Rattle.step.specs.declared.Acted.{Acted}
use Rattle.step.specs.Step.{step_of}
use Rattle.solo.specs.Run.{run_from}

module _ {a : Acted} {more : ℕ} {on : Bool} (budget n k : ℕ) (v : World) (t : ℕ) (e : a ≡ step_of v t false) (w : more ≡ woken_of a.event) (s : on ≡ goes_on a.event) where
  one : n < budget → run_from (budget - n) n k v t ≡ run_from (suc (budget - (n + 1))) n k v t
  one h = let q : budget - n ≡ suc (budget - (n + 1)) = omega arith in ap (λ (m : ℕ). run_from m n k v t) q

  -- the step moved: what is left of the run
  pub goes_on_lem : n < budget → on ≡ true → run_from (budget - (n + 1)) (n + 1) (k + more) a.world t ≡ run_from (budget - n) n k v t
  unfolding run_from
  goes_on_lem h moves = let q : goes_on a.event ≡ true = sym s ∙ moves in sym (one h ∙ rw (← e, q, w) refl)

  -- the step was a stop
  pub stops-here :
      n < budget → on ≡ false → run_from (budget - n) n k v t ≡ record { event = a.event; count = n + 1; woken = k + more; world = a.world }
  unfolding run_from
  stops-here h halts = let q : goes_on a.event ≡ false = sym s ∙ halts in one h ∙ rw (← e, q, w) refl

-- no step is left
pub used-up : (budget n k : ℕ) (v : World) (t : ℕ) → budget ≤ n → run_from (budget - n) n k v t ≡ record { event = E.Moved 0; count = n; woken = k; world = v }
unfolding run_from
used-up budget n k v t h = let q : budget - n ≡ 0 = omega arith in ap (λ (m : ℕ). run_from m n k v t) q

-- .. and the budget is what was used
pub all-used : (budget n k : ℕ) (v : World) (t : ℕ) → n ≡ budget → run_from (budget - n) n k v t ≡ record { event = E.Moved 0; count = budget; woken = k; world = v }
all-used budget n k v t h =
    let q : budget ≤ n = omega arith in
    used-up budget n k v t q ∙ ap (λ (m : ℕ). record { event = E.Moved 0; count = m; woken = k; world = v }) h
