-- What the loops over a row's places do, a turn at a time: the rest of them moved over one, one more pushed behind a part, a search for a place that is not 0. Assumes nothing.
use mathlib.Core.Path.{◌≡◌, refl, sym, ap, ◌∙◌}
use mathlib.Core.Bool.{Bool, true, false, cond, not}
use mathlib.Core.List.{List, [], ◌∷◌, ◌++◌, append-nil}
use Prim.Native.Nat.{ℕ, zero, suc, ◌+◌, ◌-◌, ◌≤◌, ◌<◌, min}
use native.Mathlib.Numerals.{add-one}
use native.Mathlib.Omega.{arith}
use borrow.Author.Tests.{lt-ltb, ltb-true, ltb-false}
use Rattle.std.specs.List.{copy_within}
use lib.Dec.{ltb}
use lib.ListN.{length, get_or, set, take, drop, replicate, length-append, length-drop, drop_of_length-le}
use lib.Seq.{take_all, take-append-le, drop-cons, set_at, set-append_seam, append_snoc, length-take-le}
use Rattle.queue.specs.declared.Row.{Row}
use Rattle.queue.specs.Row.{THREADS, sleepers, row_of, pushed, push_of, removed_at, removed, passing, failing}
use Rattle.queue.proofs.Part.{removed-length, passing-length}
use Rattle.std.proofs.lemmas.List.Elements.{filter_more}

-- the places behind one moved up, and 0 in the last
module _ (l : List ℕ) (p : ℕ) (h : p < length l) where
  pub length_removed : length (removed p l) ≡ length l
  unfolding removed
  length_removed =
      let e : length l ≡ suc (length (removed_at p l)) = removed-length l p h in
      simp length-append (omega arith)

  pub removed-moved : (n : ℕ) → n + 1 ≡ length l → set (copy_within l (p + 1) (n + 1) p) n 0 ≡ removed p l
  unfolding removed removed_at
  removed-moved n q =
      let b : length l ≡ suc (length (removed_at p l)) = removed-length l p h in
      let m : length (removed_at p l) ≡ n = omega arith in
      let e : take (n + 1 - (p + 1)) (drop (p + 1) l) ≡ drop (suc p) l =
      take_all (n + 1 - (p + 1)) (drop (p + 1) l) (simp length-drop (omega arith)) ∙ ap (λ (i : ℕ). drop i l) (add-one p) in
      let i : p + (n + 1 - (p + 1)) ≡ n = omega arith in
      let d : length l ≤ suc n = omega arith in
      let z : drop n l ≡ get_or l n 0 ∷ [] = rw (drop-cons l n 0 (omega arith), drop_of_length-le l d) in
      rw (e, i, z) (set_at (removed_at p l) (get_or l n 0) [] 0 n m)

-- of the places used, those without one
pub removed-take : (p n : ℕ) (l : List ℕ) → p ≤ n → n < length l → take n (removed p l) ≡ removed_at p (take (suc n) l)
unfolding removed removed_at
removed-take p n [] h k = absurd (omega arith)
removed-take zero n (x ∷ xs) h k = take-append-le n xs (0 ∷ []) (omega arith)
removed-take (suc p) zero (x ∷ xs) h k = absurd (omega arith)
removed-take (suc p) (suc n) (x ∷ xs) h k = ap (λ (r : List ℕ). x ∷ r) (removed-take p n xs (omega arith) (omega arith))

-- the places that are used: a count past the last means all
pub used-sleepers : (row : Row) (n : ℕ) → length row.places ≡ THREADS → n ≡ min row.count THREADS → take n row.places ≡ sleepers row
used-sleepers row n e q = by (ltb row.count THREADS) refl
  where
    by : (c : Bool) → ltb row.count THREADS ≡ c → take n row.places ≡ take row.count row.places
    by true k = let z : n ≡ row.count = omega (arith, ltb-true row.count THREADS k) in rw z
    by false k =
        let z : THREADS ≤ row.count = ltb-false row.count THREADS k in
        take_all n row.places (omega arith) ∙ sym (take_all row.count row.places (omega arith))

-- one more at the end of a part
pub row-push : (l : List ℕ) (t : ℕ) → length l < THREADS → (push_of (row_of l) t).row ≡ row_of (l ++ (t ∷ []))
unfolding push_of pushed row_of
row-push l t h =
    let n : length (l ++ (t ∷ [])) ≡ length l + 1 = length-append l (t ∷ []) in
    let e : THREADS - length l ≡ suc (THREADS - (length l + 1)) = omega arith in
    let z : List ℕ = replicate (THREADS - (length l + 1)) 0 in
    rw (lt-ltb (length l) THREADS h, n, e, set-append_seam l 0 z t, append_snoc l t z)

-- one more or none
pub bit-bound : (c : Bool) → cond c 1 0 ≤ 1
bit-bound true = omega arith
bit-bound false = omega arith

-- a row of those who fail a test among the first of a list, and one more of the list
module _ (f : ℕ → Bool) (l : List ℕ) (i : ℕ) (h : i < length l) where
  pub row-passes : f (get_or l i 0) ≡ true → row_of (failing f (take i l)) ≡ row_of (failing f (take (i + 1) l))
  unfolding row_of passing
  row-passes e = rw (filter_more (λ (t : ℕ). not (f t)) l i 0 h, e, append-nil)

  pub row-fails : length l ≤ THREADS → f (get_or l i 0) ≡ false → pushed (row_of (failing f (take i l))) (get_or l i 0) ≡ row_of (failing f (take (i + 1) l))
  unfolding pushed row_of passing
  row-fails k e =
      let x : ℕ = get_or l i 0 in
      let part : List ℕ = failing f (take i l) in
      let b : length part ≤ length (take i l) = passing-length (λ (t : ℕ). not (f t)) (take i l) in
      let c : length (take i l) ≡ i = length-take-le i l (omega arith) in
      let n : length (part ++ (x ∷ [])) ≡ length part + 1 = length-append part (x ∷ []) in
      let q : THREADS - length part ≡ suc (THREADS - (length part + 1)) = omega arith in
      let z : List ℕ = replicate (THREADS - (length part + 1)) 0 in
      rw (filter_more (λ (t : ℕ). not (f t)) l i 0 h, e, n, q, set-append_seam part 0 z x, append_snoc part x z)
