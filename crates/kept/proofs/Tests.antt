-- What a proof by cases on a test knows on either side of it, and the tests that several modules share. Assumes nothing.
use mathlib.Core.Path.{◌≡◌, refl}
use mathlib.Core.Bool.{Bool, true, false, cond, not, ◌&&◌, ◌||◌, false≢true}
use Prim.Native.Nat.{ℕ, ◌-◌, ◌≤◌}
use native.Mathlib.Omega.{arith}
use lib.Dec.{eqb, leb}
use borrow.Author.Tests.{eqb-true, leb-true, le-leb}
use Rattle.words.specs.Atomic.{SPINS, exchanges}

-- what holds of each side of a test, given how the test came out, holds of what it picks
pub decided : {A : Type 0} (P : A → Type 0) (b : Bool) (x y : A) → (b ≡ true → P x) → (b ≡ false → P y) → P (cond b x y)
decided P true x y p q = p refl
decided P false x y p q = q refl

-- a test does not come out both ways
pub no_way : {A : Type 0} → false ≡ true → A
no_way e = absurd (false≢true e)

pub and_left : (a b : Bool) → (a && b) ≡ true → a ≡ true
and_left true b e = refl
and_left false b e = e

pub and_right : (a b : Bool) → (a && b) ≡ true → b ≡ true
and_right true b e = e
and_right false b e = no_way e

pub or_cases : (a b : Bool) (P : Type 0) → (a || b) ≡ true → (a ≡ true → P) → (b ≡ true → P) → P
or_cases true b P e p q = p refl
or_cases false b P e p q = q e

-- an exchange that stores found what it expected
pub exchanged : (word expected : ℕ) (fails : Bool) → exchanges word expected fails ≡ true → word ≡ expected
unfolding exchanges
exchanged word expected fails e = eqb-true word expected (and_left (eqb word expected) (not fails) e)

-- one spin less is no more than the most
pub one_less : (left : ℕ) → leb left SPINS ≡ true → leb (left - 1) SPINS ≡ true
one_less left e = let h : left ≤ SPINS = leb-true left SPINS e in le-leb (left - 1) SPINS (omega arith)
