-- What stands in a list of one value is that value, past its end too. Assumes nothing.
use mathlib.Core.Path.{◌≡◌, refl}
use Prim.Native.Nat.{ℕ, zero, suc}
use lib.ListN.{get_or, replicate}

pub same-everywhere : {A : Type 0} (n i : ℕ) (a : A) → get_or (replicate n a) i a ≡ a
same-everywhere zero i a = refl
same-everywhere (suc n) zero a = refl
same-everywhere (suc n) (suc i) a = same-everywhere n i a
