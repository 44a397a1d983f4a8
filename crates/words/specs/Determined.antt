-- A contract `r ≡ d` determines its result: any two results that it allows are equal. Assumes nothing.
use Rattle.std.specs.Prelude.{◌≡◌}
use Rattle.std.proofs.Common.{sym, ◌∙◌}

-- d is the only result that `r ≡ d` allows
abbrev pub Determined : {A : Type 0} → A → Type 0
Determined {A} d = (x y : A) → x ≡ d → y ≡ d → x ≡ y

pub determined : {A : Type 0} (d : A) → Determined d
determined d x y p q = p ∙ sym q
