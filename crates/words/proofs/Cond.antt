-- What holds of both sides of a test holds of what the test picks. Assumes nothing.
use Rattle.std.proofs.Common.{Bool, true, false, cond}

pub either : {A : Type 0} (P : A → Type 0) (b : Bool) (x y : A) → P x → P y → P (cond b x y)
either P true x y p q = p
either P false x y p q = q
