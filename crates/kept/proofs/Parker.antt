-- What a step on a Parker keeps. Assumes nothing.
use mathlib.Core.Path.{refl}
use mathlib.Core.Logic.{inl}
use mathlib.Core.Bool.{Bool}
use Prim.Native.Nat.{ℕ, ◌^◌, ◌<◌}
use native.Mathlib.Omega.{arith}
use Rattle.words.specs.Parker.{PARKED, EMPTY, NOTIFIED, is_parked, is_notified, less_one}
use Rattle.words.specs.declared.Hold.TheVariants as H
use Rattle.words.specs.declared.Wake.TheVariants as W
use Rattle.words.specs.declared.Step.{Step}
use Rattle.thread_parking.specs.declared.ParkAt.{ParkAt}
use Rattle.thread_parking.specs.declared.ParkAt.TheVariants as P
use Rattle.thread_parking.specs.declared.UnparkAt.{UnparkAt}
use Rattle.thread_parking.specs.declared.UnparkAt.TheVariants as U
use Rattle.thread_parking.specs.declared.ParkerAt.{ParkerAt}
use Rattle.thread_parking.specs.declared.ParkerAt.TheVariants as Pr
use Rattle.thread_parking.specs.ThreadParking as Pk
use Rattle.calls.specs.declared.At.TheVariants as A
use Rattle.calls.specs.Plans.{parker_plan, moved, decide_of, plan_of}
use Rattle.calls.specs.Positions.{passed_of, waits_of, need_of}
use Rattle.words.proofs.Cond.{either}
use Rattle.kept.specs.Laws.{Kept, Stores, Did, Goes, largest, kind_of, parking, unparking}
use Rattle.kept.proofs.Laws.{stores_same, kept_on, kept-end, kept-slept}

less-one : (word : ℕ) → less_one PARKED word < 2 ^ 32
unfolding less_one
less-one word = omega arith

module _ (word : ℕ) where
  -- any value of 32 bits may be stored
  stores : (p : ParkerAt) (new : ℕ) → new < 2 ^ 32 → Stores (A.Parker p) word H.Same new
  unfolding Pk.operand_of kind_of largest Did
  stores p new h = record { wide = λ _. h; small = λ _ _. omega arith; did = λ _. refl }

  moves : (p q : ParkerAt) (new : ℕ) → Goes (A.Parker p) (A.Parker q) → Stores (A.Parker p) word H.Same new → Kept (A.Parker p) word (moved new (A.Parker q) H.Same 0 W.None)
  unfolding Pk.passed_of Pk.needs_of passed_of need_of
  moves p q new g s = kept_on (A.Parker p) word new (A.Parker q) 0 W.None g (λ _ _ _. refl) s (inl refl)

  park-kept : (p : ParkAt) → Kept (A.Parker (Pr.Park p)) word (parker_plan (Pr.Park p) (Pk.park_of PARKED p word))
  unfolding plan_of Pk.park_of Pk.park_after_wait Pk.waits_of Pk.park_waits waits_of
  park-kept P.Subtract =
      either (λ (s : Step ParkerAt). Kept (A.Parker (Pr.Park P.Subtract)) word (parker_plan (Pr.Park P.Subtract) s)) (is_notified word) _ _
      (kept-end _ word (less_one PARKED word) 1 0 W.None (stores _ _ (less-one word)))
      (moves (Pr.Park P.Subtract) (Pr.Park P.Wait) (less_one PARKED word) parking (stores _ _ (less-one word)))
  park-kept P.Wait =
      either (λ (s : Step ParkerAt). Kept (A.Parker (Pr.Park P.Wait)) word (parker_plan (Pr.Park P.Wait) s)) (is_parked PARKED word) _ _
      (kept-slept _ word 0 refl)
      (moves (Pr.Park P.Wait) (Pr.Park P.Exchange) word parking (stores_same _ word))
  park-kept P.Exchange =
      either (λ (s : Step ParkerAt). Kept (A.Parker (Pr.Park P.Exchange)) word (parker_plan (Pr.Park P.Exchange) s)) (is_notified word) _ _
      (kept-end _ word EMPTY 1 0 W.None (stores _ _ (omega arith)))
      (moves (Pr.Park P.Exchange) (Pr.Park P.Wait) word parking (stores_same _ word))

  unpark-kept : (thread : ℕ) (p : UnparkAt) → Kept (A.Parker (Pr.Unpark thread p)) word (parker_plan (Pr.Unpark thread p) (Pk.unpark_of PARKED thread p word))
  unfolding plan_of Pk.unpark_of
  unpark-kept thread U.Swap =
      either (λ (s : Step ParkerAt). Kept (A.Parker (Pr.Unpark thread U.Swap)) word (parker_plan (Pr.Unpark thread U.Swap) s)) (is_parked PARKED word) _ _
      (moves (Pr.Unpark thread U.Swap) (Pr.Unpark thread U.Wake) NOTIFIED unparking (stores _ _ (omega arith)))
      (kept-end _ word NOTIFIED 1 0 W.None (stores _ _ (omega arith)))
  unpark-kept thread U.Wake = kept-end _ word word 1 0 W.One (stores_same _ word)

  pub parker-kept : (p : ParkerAt) (f a : Bool) → Kept (A.Parker p) word (decide_of (A.Parker p) f word a)
  unfolding decide_of Pk.decide_of
  parker-kept (Pr.Park p) f a = park-kept p
  parker-kept (Pr.Unpark thread p) f a = unpark-kept thread p
