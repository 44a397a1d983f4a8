-- A fresh world has the sizes of the code's worlds. Assumes nothing.
use mathlib.Core.Path.{◌≡◌, refl}
use mathlib.Core.Bool.{Bool, true, ◌&&◌}
use mathlib.Core.List.{List, [], ◌∷◌}
use Prim.Native.Nat.{ℕ, zero, suc, ◌^◌, ◌<◌}
use native.Mathlib.Omega.{arith}
use borrow.Author.Tests.{ltb-true}
use lib.Dec.{ltb}
use lib.ListN.{get_or}
use Rattle.world.specs.World.{fresh_world}
use Rattle.kept.proofs.Tests.{and_left, and_right}
use Rattle.kept.specs.Shape.{Shaped}

-- a list of numbers below 2 ^ 32, by computation
every_wide : List ℕ → Bool
every_wide [] = true
every_wide (x ∷ xs) = ltb x (2 ^ 32) && every_wide xs

each-wide : (l : List ℕ) → every_wide l ≡ true → (k : ℕ) → get_or l k 0 < 2 ^ 32
unfolding every_wide
each-wide [] e k = omega arith
each-wide (x ∷ xs) e zero = ltb-true x (2 ^ 32) (and_left (ltb x (2 ^ 32)) (every_wide xs) e)
each-wide (x ∷ xs) e (suc k) = each-wide xs (and_right (ltb x (2 ^ 32)) (every_wide xs) e) k

pub fresh-shaped : Shaped fresh_world
unfolding fresh_world every_wide
fresh-shaped = record {
  words = refl;
  locked = refl;
  written = refl;
  reads = refl;
  forgotten = refl;
  threads = refl;
  places = refl;
  wide = each-wide fresh_world.words refl;
}
