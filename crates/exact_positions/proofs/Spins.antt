-- Spins are counted down one at a time from the most, so that each number of spins left is come by. Assumes nothing.
use mathlib.Core.Path.{◌≡◌, sym, subst}
use mathlib.Core.Bool.{true, false}
use Prim.Native.Nat.{ℕ, zero, suc, ◌+◌, ◌-◌, ◌≤◌}
use native.Mathlib.Omega.{arith}
use lib.Dec.{eqb, leb}
use borrow.Author.Tests.{leb-true, ne_eqb}
use Rattle.words.specs.Atomic.{SPINS}

pub downwards : (Q : ℕ → Type 0) → Q SPINS → ((left : ℕ) → eqb left 0 ≡ false → Q left → Q (left - 1)) → (left : ℕ) → leb left SPINS ≡ true → Q left
downwards Q most down left e = let h : left ≤ SPINS = leb-true left SPINS e in below (SPINS - left) left (omega arith)
  where
    below : (gone left : ℕ) → left + gone ≡ SPINS → Q left
    below zero left h = let z : left ≡ SPINS = omega arith in subst Q (sym z) most
    below (suc gone) left h =
        let z : left + 1 - 1 ≡ left = omega arith in
        subst Q z (down (left + 1) (ne_eqb (left + 1) 0 (λ n. omega arith)) (below gone (left + 1) (omega arith)))
