-- Laws of a buffer that bytes are laid into: what is kept of it, and bytes laid one after the other. Assumes nothing.
use Prim.Native.Nat.{ℕ, ◌+◌, ◌≤◌}
use mathlib.Core.Bool.{true, false}
use mathlib.Core.Path.{◌≡◌, sym, ap, ◌∙◌}
use mathlib.Core.List.{List, [], ◌++◌, append_assoc}
use native.Mathlib.Nat.{add-zero}
use native.Mathlib.Omega.{arith}
use borrow.Rule.Slice.PartMut.{put_mid}
use lib.Dec.{leb}
use lib.ListN.{length, take, drop, length-append, length-drop, take-append-drop}
use lib.Seq.{drop-drop, take_at, drop_at, length-take-le}
use Rattle.lines.specs.Lines.{laid, lay_of, end_of}

-- bytes laid where they fit
module _ (out : List ℕ) (at : ℕ) (bytes : List ℕ) (room : at + length bytes ≤ length out) where
  long : length (take at out ++ bytes) ≡ at + length bytes
  long = length-append (take at out) bytes ∙ ap (λ (k : ℕ). k + length bytes) (length-take-le at out (omega arith))

  joined : laid out at bytes ≡ (take at out ++ bytes) ++ drop (at + length bytes) out
  unfolding laid
  joined = sym (append_assoc (take at out) bytes (drop (at + length bytes) out))

  pub laid-take : take (at + length bytes) (laid out at bytes) ≡ take at out ++ bytes
  laid-take = ap (take (at + length bytes)) joined ∙ take_at (take at out ++ bytes) (drop (at + length bytes) out) (at + length bytes) long

  pub laid-drop : drop (at + length bytes) (laid out at bytes) ≡ drop (at + length bytes) out
  laid-drop = ap (drop (at + length bytes)) joined ∙ drop_at (take at out ++ bytes) (drop (at + length bytes) out) (at + length bytes) long

  pub laid-length : length (laid out at bytes) ≡ length out
  laid-length =
      ap length joined
      ∙ (length-append (take at out ++ bytes) (drop (at + length bytes) out) ∙ omega (arith, long, length-drop (at + length bytes) out))

-- no bytes change nothing
pub laid_none : (out : List ℕ) (at : ℕ) → laid out at [] ≡ out
unfolding laid
laid_none out at = rw add-zero (take-append-drop at out)

-- bytes that fit, and bytes that do not
module _ (out : List ℕ) (at : ℕ) (bytes : List ℕ) where
  pub lay-fits : leb (at + length bytes) (length out) ≡ true → lay_of out at bytes ≡ laid out at bytes
  unfolding lay_of
  lay-fits e = simp e

  pub lay-not : leb (at + length bytes) (length out) ≡ false → lay_of out at bytes ≡ out
  unfolding lay_of
  lay-not e = simp e

  pub end_fits : leb (at + length bytes) (length out) ≡ true → end_of (length out) at bytes ≡ at + length bytes
  unfolding end_of
  end_fits e = simp e

  pub end-not : leb (at + length bytes) (length out) ≡ false → end_of (length out) at bytes ≡ at
  unfolding end_of
  end-not e = simp e

-- a part of the buffer written over
pub put_laid : (out ys : List ℕ) (at k : ℕ) → k ≡ length ys → put_mid at k out ys ≡ laid out at ys
unfolding laid
put_laid out ys at k e = ap (λ (l : List ℕ). take at out ++ (ys ++ l)) (drop-drop k at out ∙ ap (λ (n : ℕ). drop (at + n) out) e)
