-- No step on a Parker looks at the choice or at the sleepers, and only `unpark`'s wake wakes anybody. Assumes nothing.
use mathlib.Core.Path.{◌≡◌, refl}
use mathlib.Core.Bool.{Bool, false}
use Prim.Native.Nat.{ℕ}
use Rattle.words.proofs.Cond.{either}
use Rattle.words.specs.declared.Hold.TheVariants as H
use Rattle.words.specs.declared.Wake.TheVariants as W
use Rattle.words.specs.Parker.{is_parked, is_notified}
use Rattle.words.specs.declared.Step.{Step}
use Rattle.thread_parking.specs.declared.ParkAt.{ParkAt}
use Rattle.thread_parking.specs.declared.ParkAt.TheVariants as P
use Rattle.thread_parking.specs.declared.UnparkAt.{UnparkAt}
use Rattle.thread_parking.specs.declared.UnparkAt.TheVariants as U
use Rattle.thread_parking.specs.declared.ParkerAt.{ParkerAt}
use Rattle.thread_parking.specs.declared.ParkerAt.TheVariants as A
use Rattle.thread_parking.specs.ThreadParking.{park_of, unpark_of, decide_of, may_wake, unpark_may_wake}

-- the choice and the sleepers decide nothing
pub plain : (parked : ℕ) (at : ParkerAt) (f g : Bool) (word : ℕ) (a b : Bool) → decide_of parked at f word a ≡ decide_of parked at g word b
unfolding decide_of
plain parked (A.Park p) f g word a b = refl
plain parked (A.Unpark thread p) f g word a b = refl

park-calm : (parked : ℕ) (at : ParkAt) (word : ℕ) → (park_of parked at word).wake ≡ W.None
unfolding park_of
park-calm parked P.Subtract word = either (λ (s : Step ParkerAt). s.wake ≡ W.None) (is_notified word) _ _ refl refl
park-calm parked P.Wait word = either (λ (s : Step ParkerAt). s.wake ≡ W.None) (is_parked parked word) _ _ refl refl
park-calm parked P.Exchange word = either (λ (s : Step ParkerAt). s.wake ≡ W.None) (is_notified word) _ _ refl refl

unpark-calm :
    (parked thread : ℕ) (at : UnparkAt) (word : ℕ) → unpark_may_wake at ≡ false → (unpark_of parked thread at word).wake ≡ W.None
unfolding unpark_of unpark_may_wake
unpark-calm parked thread U.Swap word e = either (λ (s : Step ParkerAt). s.wake ≡ W.None) (is_parked parked word) _ _ refl refl
unpark-calm parked thread U.Wake word e = cc

-- where `may_wake` says no, a step wakes nobody
pub calm :
    (parked : ℕ) (at : ParkerAt) (f : Bool) (word : ℕ) (a : Bool) → may_wake at ≡ false → (decide_of parked at f word a).wake ≡ W.None
unfolding decide_of may_wake
calm parked (A.Park p) f word a e = park-calm parked p word
calm parked (A.Unpark thread p) f word a e = unpark-calm parked thread p word e

-- no step changes a hold
abbrev Same : Step ParkerAt → Type 0
Same s = s.hold ≡ H.Same

pub holds-same : (parked : ℕ) (at : ParkerAt) (f : Bool) (word : ℕ) (a : Bool) → (decide_of parked at f word a).hold ≡ H.Same
unfolding decide_of park_of unpark_of
holds-same parked (A.Park P.Subtract) f word a = either Same (is_notified word) _ _ refl refl
holds-same parked (A.Park P.Wait) f word a = either Same (is_parked parked word) _ _ refl refl
holds-same parked (A.Park P.Exchange) f word a = either Same (is_notified word) _ _ refl refl
holds-same parked (A.Unpark thread U.Swap) f word a = either Same (is_parked parked word) _ _ refl refl
holds-same parked (A.Unpark thread U.Wake) f word a = refl
