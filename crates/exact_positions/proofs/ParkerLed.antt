-- Every position of park and unpark is led to from the start of a call. Assumes nothing.
use mathlib.Core.Path.{◌≡◌, refl}
use mathlib.Core.Bool.{false}
use Prim.Native.Nat.{ℕ, ◌^◌, ◌<◌}
use native.Mathlib.Omega.{arith}
use Rattle.words.specs.Parker.{PARKED}
use Rattle.words.specs.declared.Next.TheVariants as Nx
use Rattle.thread_parking.specs.declared.ParkAt.TheVariants as Pa
use Rattle.thread_parking.specs.declared.UnparkAt.TheVariants as Up
use Rattle.thread_parking.specs.declared.ParkerAt.{ParkerAt}
use Rattle.thread_parking.specs.declared.ParkerAt.TheVariants as Pr
use Rattle.thread_parking.specs.ThreadParking as Pk
use Rattle.calls.specs.declared.At.{At}
use Rattle.calls.specs.declared.At.TheVariants as A
use Rattle.calls.specs.Plans.{moved, decide_of, plan_of}
use Rattle.calls.specs.Positions.{entry_of, after_wait, waits_of, in_closure, is_idle}
use Rattle.acts.specs.Refusals.{step_refusal, wake_refusal}
use Rattle.kept.specs.Laws.{kind_of, largest}
use Rattle.exact_positions.specs.Exact.{Led, stepped, woken}
use Rattle.exact_positions.proofs.Starts.{begins}

module _ (P : At → Type 0) (led : (at : At) → Led P at → P at) where
  step : (p q : ParkerAt) (word : ℕ) → word < 2 ^ 32 → (Pk.decide_of PARKED p false word false).next ≡ Nx.Moved q → P (A.Parker p) → P (A.Parker q)
  unfolding decide_of plan_of moved step_refusal is_idle in_closure kind_of Pk.operand_of largest
  step p q word h e x = rw e at (led (decide_of (A.Parker p) false word false).next.at (stepped (A.Parker p) 0 word false x refl (omega arith)))

  pub parker-led : (p : ParkerAt) → P (A.Parker p)
  unfolding entry_of Pk.entry_of after_wait Pk.after_wait Pk.park_after_wait waits_of Pk.waits_of Pk.park_waits wake_refusal is_idle Pk.decide_of Pk.park_of Pk.unpark_of
  parker-led (Pr.Park Pa.Subtract) = begins P led 18 0 0 (omega arith)
  parker-led (Pr.Park Pa.Wait) = step (Pr.Park Pa.Subtract) (Pr.Park Pa.Wait) 0 (omega arith) refl (begins P led 18 0 0 (omega arith))
  parker-led (Pr.Park Pa.Exchange) =
      led _ (woken (A.Parker (Pr.Park Pa.Wait)) (step (Pr.Park Pa.Subtract) (Pr.Park Pa.Wait) 0 (omega arith) refl (begins P led 18 0 0 (omega arith))) refl refl)
  parker-led (Pr.Unpark thread Up.Swap) = begins P led 19 thread 0 (omega arith)
  parker-led (Pr.Unpark thread Up.Wake) =
      step (Pr.Unpark thread Up.Swap) (Pr.Unpark thread Up.Wake) PARKED (omega arith) refl (begins P led 19 thread 0 (omega arith))
