-- The search for the first number of a list that passes a test: what is found is the first, and nothing is found exactly if all fail. Assumes nothing.
use mathlib.Core.Path.{◌≡◌, refl}
use mathlib.Core.Bool.{Bool, true, false}
use mathlib.Core.List.{List, [], ◌∷◌}
use mathlib.Core.Logic.{◌⊎◌, inl, inr}
use Prim.Native.Nat.{ℕ, zero, suc, ◌≤◌, ◌<◌}
use native.Mathlib.Omega.{arith}
use borrow.Author.Tests.{ltb-true, ltb-false, lt-ltb, le-ltb}
use lib.Dec.{ltb}
use lib.ListN.{length, get_or}
use Rattle.std.proofs.Common.{None, Some}
use Rattle.std.specs.List.{position, position_or_len}
use Rattle.std.specs.Option.{unwrap_or}
use Rattle.std.proofs.lemmas.List.Sums.{fails_before_first, passes_at_first}
use Rattle.words.specs.Found.{found}
use Rattle.queue.specs.Row.{THREADS, passing, removed_at}
use Rattle.queue.proofs.Part.{Agree, AllFail, agree-head, agree-tail, occ-place}

-- p is the place of the first in l that passes f
pub record Found (f : ℕ → Bool) (l : List ℕ) (p : ℕ) : Type 0 where
  pub below : p < length l
  pub passes : f (get_or l p 0) ≡ true
  pub before : (j : ℕ) → j < p → f (get_or l j 0) ≡ false

found-tail : (f : ℕ → Bool) (t : ℕ) (ts : List ℕ) (p : ℕ) → Found f (t ∷ ts) (suc p) → Found f ts p
found-tail f t ts p w = record {
  below = omega (arith, w.below);
  passes = w.passes;
  before = λ j h. w.before (suc j) (omega arith);
}

-- the search comes to the first
first_of_found : (f : ℕ → Bool) (l : List ℕ) (p : ℕ) → Found f l p → position_or_len f l ≡ p
first_of_found f [] p w = absurd (omega (arith, w.below))
first_of_found f (t ∷ ts) zero w = rw w.passes
first_of_found f (t ∷ ts) (suc p) w =
    let e : f t ≡ false = w.before zero (omega arith) in
    rw (e, first_of_found f ts p (found-tail f t ts p w)) (omega arith)

-- where all fail, the search comes to the end of the list
end_of_fails : (f : ℕ → Bool) (l : List ℕ) → AllFail f l → position_or_len f l ≡ length l
end_of_fails f [] h = refl
end_of_fails f (t ∷ ts) h =
    rw (agree-head f (λ (u : ℕ). false) t ts h, end_of_fails f ts (agree-tail f (λ (u : ℕ). false) t ts h)) (omega arith)

-- and where it comes to the end, all fail
fails_of_end : (f : ℕ → Bool) (l : List ℕ) → length l ≤ position_or_len f l → AllFail f l
fails_of_end f l h u k =
    let r : (i : ℕ) × ((i < length l) × (get_or l i 0 ≡ u)) = occ-place u l k in
    rw r.1.1 at (fails_before_first f l r.0 0 (omega (arith, r.1.0)))

-- two tests that agree on the list find the same place
pub position-agree : (f g : ℕ → Bool) (l : List ℕ) → Agree f g l → position f l ≡ position g l
position-agree f g l h = rw (same f g l h)
  where
    same : (f g : ℕ → Bool) (l : List ℕ) → Agree f g l → position_or_len f l ≡ position_or_len g l
    same f g [] h = refl
    same f g (t ∷ ts) h = rw (agree-head f g t ts h, same f g ts (agree-tail f g t ts h))

-- the place that is found in a list, THREADS where none is
abbrev pub place_in : (ℕ → Bool) → List ℕ → ℕ
place_in f l = unwrap_or (position f l) THREADS

-- the first is found
pub place_found : (f : ℕ → Bool) (l : List ℕ) (p : ℕ) → Found f l p → place_in f l ≡ p
place_found f l p w = rw (first_of_found f l p w, lt-ltb p (length l) w.below)

-- where all fail, none is found
pub place_none : (f : ℕ → Bool) (l : List ℕ) → AllFail f l → place_in f l ≡ THREADS
place_none f l h = rw (end_of_fails f l h, le-ltb (length l) (length l) (omega arith))

-- of a list no longer than there are threads
module _ (f : ℕ → Bool) (l : List ℕ) (k : length l ≤ THREADS) where
  -- the first that passes is found, or none is, and all fail
  abbrev Searched : Type 0
  Searched = (Found f l (place_in f l) × (position f l ≡ Some (place_in f l)) × (place_in f l < THREADS)) ⊎ (AllFail f l × (position f l ≡ None))

  searched : Searched
  searched = by (ltb (position_or_len f l) (length l)) refl
    where
      by :
          (c : Bool) → ltb (position_or_len f l) (length l) ≡ c →
          Searched
      by true e =
          let h : position_or_len f l < length l = ltb-true (position_or_len f l) (length l) e in
          rw e (inl (record { below = h; passes = passes_at_first f l 0 h; before = λ j m. fails_before_first f l j 0 m }, refl, omega arith))
      by false e = rw e (inr (fails_of_end f l (ltb-false (position_or_len f l) (length l) e), refl))

  -- what is found is the first
  pub is_found : place_in f l < THREADS → Found f l (place_in f l)
  is_found h = by searched
    where
      by : Searched → Found f l (place_in f l)
      by (inl w) = w.0
      by (inr n) = let e : place_in f l ≡ THREADS = place_none f l n.0 in absurd (omega arith)

  -- where nothing is found, all fail
  pub nothing : place_in f l ≡ THREADS → AllFail f l
  nothing e = by searched
    where
      by : Searched → AllFail f l
      by (inl w) = absurd (omega (arith, w.2))
      by (inr n) = n.0

  -- and there is no other answer
  pub place-bound : place_in f l ≤ THREADS
  place-bound = by searched
    where
      by : Searched → place_in f l ≤ THREADS
      by (inl w) = omega (arith, w.2)
      by (inr n) = let e : place_in f l ≡ THREADS = place_none f l n.0 in omega arith

  -- the place says what std's `position` says
  pub found-position : position f l ≡ found THREADS (place_in f l)
  found-position = by searched
    where
      by : Searched → position f l ≡ found THREADS (place_in f l)
      by (inl w) = rw (lt-ltb (place_in f l) THREADS w.2) w.1
      by (inr n) = rw n.1

-- the first to pass is the head of the part that passes
pub found_first : (f : ℕ → Bool) (l : List ℕ) (p : ℕ) → Found f l p → passing f l ≡ get_or l p 0 ∷ passing f (removed_at p l)
unfolding passing removed_at
found_first f [] p w = absurd (omega (arith, w.below))
found_first f (t ∷ ts) zero w = rw w.passes
found_first f (t ∷ ts) (suc p) w =
    let e : f t ≡ false = w.before zero (omega arith) in
    rw e (found_first f ts p (found-tail f t ts p w))
