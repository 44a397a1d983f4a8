-- A number below a bound, or none: what a search that tells a number past the end where it finds nothing has found. Assumes nothing.
use Rattle.std.specs.Prelude.{ℕ, Option, None, Some, cond, ltb}

abbrev pub found : ℕ → ℕ → Option ℕ
found n k = cond (ltb k n) (Some k) None
