-- Tidy rows: each operation keeps them so, and there is only one with given sleepers. Assumes nothing.
use mathlib.Core.Path.{◌≡◌, refl, sym, ap, ◌∙◌}
use mathlib.Core.Bool.{Bool, true, false, cond, not, ◌&&◌, and-eq-true_iff}
use mathlib.Core.List.{List, [], ◌∷◌, ◌++◌}
use Prim.Native.Nat.{ℕ, zero, suc, ◌-◌, ◌≤◌, ◌<◌}
use native.Mathlib.Numerals.{add-one}
use native.Mathlib.Omega.{arith}
use borrow.Author.Tests.{leb-true, ltb-true, eqb-true, le-leb}
use lib.Dec.{eqb, ltb, leb}
use lib.ListN.{length, get_or, drop, replicate, length-take, length-drop, take-append-drop}
use lib.Seq.{drop-append_seam, drop-set-lt, length-take-le}
use Rattle.queue.specs.declared.Row.{Row}
use Rattle.queue.specs.Row.{Pushed, Taken, THREADS, sleepers, failing, row_of, empty_row, pushed, push_of, removed_at, removed, taken_out, refused, take_out_of, without_of, all_zero, is_tidy}
use Rattle.queue.proofs.Part.{passing-length}

-- lists of 0: made of them, one dropped, one more at the end, one taken out before them
zero-replicate : (n : ℕ) → all_zero (replicate n 0) ≡ true
unfolding all_zero
zero-replicate zero = refl
zero-replicate (suc n) = zero-replicate n

zero_is : (l : List ℕ) → all_zero l ≡ true → l ≡ replicate (length l) 0
unfolding all_zero
zero_is [] e = refl
zero_is (x ∷ xs) e =
    let b : (eqb x 0 ≡ true) × (all_zero xs ≡ true) = (and-eq-true_iff (eqb x 0) (all_zero xs)).0 e in
    rw (eqb-true x 0 b.0, ← zero_is xs b.1)

zero-nil : (n : ℕ) → all_zero (drop n []) ≡ true
unfolding all_zero
zero-nil zero = refl
zero-nil (suc n) = refl

zero-suc : (n : ℕ) (l : List ℕ) → all_zero (drop n l) ≡ true → all_zero (drop (suc n) l) ≡ true
unfolding all_zero
zero-suc zero [] e = refl
zero-suc (suc n) [] e = refl
zero-suc zero (x ∷ xs) e = ((and-eq-true_iff (eqb x 0) (all_zero xs)).0 e).1
zero-suc (suc n) (x ∷ xs) e = zero-suc n xs e

zero_more : (n : ℕ) (l : List ℕ) → all_zero (drop n l) ≡ true → all_zero (drop n (l ++ (0 ∷ []))) ≡ true
unfolding all_zero
zero_more zero [] e = refl
zero_more (suc zero) [] e = refl
zero_more (suc (suc n)) [] e = refl
zero_more zero (x ∷ xs) e =
    let b : (eqb x 0 ≡ true) × (all_zero xs ≡ true) = (and-eq-true_iff (eqb x 0) (all_zero xs)).0 e in
    rw b.0 (zero_more zero xs b.1)
zero_more (suc n) (x ∷ xs) e = zero_more n xs e

zero-removed : (p n : ℕ) (l : List ℕ) → p ≤ n → all_zero (drop (suc n) l) ≡ true → all_zero (drop n (removed p l)) ≡ true
unfolding removed removed_at all_zero
zero-removed zero n [] h e = zero_more n [] (zero-nil n)
zero-removed (suc p) n [] h e = zero_more n [] (zero-nil n)
zero-removed zero n (x ∷ xs) h e = zero_more n xs e
zero-removed (suc p) zero (x ∷ xs) h e = absurd (omega arith)
zero-removed (suc p) (suc n) (x ∷ xs) h e = zero-removed p n xs (omega arith) e

-- the two parts of being tidy
pub tidy-count : (row : Row) → is_tidy row ≡ true → row.count ≤ THREADS
unfolding is_tidy
tidy-count row e =
    leb-true row.count THREADS ((and-eq-true_iff (leb row.count THREADS) (all_zero (drop row.count row.places))).0 e).0

pub tidy-zero : (row : Row) → is_tidy row ≡ true → all_zero (drop row.count row.places) ≡ true
unfolding is_tidy
tidy-zero row e = ((and-eq-true_iff (leb row.count THREADS) (all_zero (drop row.count row.places))).0 e).1

pub tidy_of : (row : Row) → row.count ≤ THREADS → all_zero (drop row.count row.places) ≡ true → is_tidy row ≡ true
unfolding is_tidy
tidy_of row h e = rw (le-leb row.count THREADS h) e

-- a row made of its sleepers is tidy, and a tidy row is made of its sleepers
pub row-of-tidy : (l : List ℕ) → length l ≤ THREADS → is_tidy (row_of l) ≡ true
unfolding row_of
row-of-tidy l h =
    tidy_of (row_of l) h (ap all_zero (drop-append_seam l (replicate (THREADS - length l) 0)) ∙ zero-replicate (THREADS - length l))

pub tidy-is-row-of : (row : Row) → length row.places ≡ THREADS → is_tidy row ≡ true → row ≡ row_of (sleepers row)
unfolding row_of
tidy-is-row-of row l e =
    let h : row.count ≤ THREADS = tidy-count row e in
    let n : length (sleepers row) ≡ row.count = length-take-le row.count row.places (omega arith) in
    let m : length (drop row.count row.places) ≡ THREADS - row.count = simp (length-drop, l) in
    let z : drop row.count row.places ≡ replicate (THREADS - row.count) 0 =
    rw m at (zero_is (drop row.count row.places) (tidy-zero row e)) in
    let p : row.places ≡ sleepers row ++ replicate (THREADS - row.count) 0 =
    sym (take-append-drop row.count row.places) ∙ ap (λ (r : List ℕ). sleepers row ++ r) z in
    rw n (same row.places (sleepers row ++ replicate (THREADS - row.count) 0) row.count p)
  where
    same : (a b : List ℕ) (k : ℕ) → a ≡ b → ◌≡◌ {A = Row} (record { places = a; count = k }) (record { places = b; count = k })
    same a b k q = rw q

-- two tidy rows with the same sleepers are equal; how many places a row has is not in its type
pub tidy-equal :
    (a b : Row) → length a.places ≡ THREADS → length b.places ≡ THREADS → is_tidy a ≡ true → is_tidy b ≡ true →
    sleepers a ≡ sleepers b → a ≡ b
tidy-equal a b m n x y e = tidy-is-row-of a m x ∙ ap row_of e ∙ sym (tidy-is-row-of b n y)

-- each operation keeps a row tidy
pub empty-tidy : is_tidy empty_row ≡ true
unfolding is_tidy all_zero
empty-tidy = refl

pub push-tidy : (row : Row) (t : ℕ) → is_tidy row ≡ true → is_tidy (push_of row t).row ≡ true
unfolding push_of pushed
push-tidy row t e = by (ltb row.count THREADS) refl
  where
    by :
        (c : Bool) → ltb row.count THREADS ≡ c →
        is_tidy (cond {A = Pushed} c (record { row = pushed row t; ok = true }) (record { row = row; ok = false })).row ≡ true
    by true k =
        let h : row.count < THREADS = ltb-true row.count THREADS k in
        let q : row.count < suc row.count = omega arith in
        tidy_of (pushed row t) (omega arith)
        (rw (add-one row.count, drop-set-lt (suc row.count) row.places row.count t q)
        (zero-suc row.count row.places (tidy-zero row e)))
    by false k = e

pub take-out-tidy : (row : Row) (p : ℕ) → is_tidy row ≡ true → is_tidy (take_out_of row p).row ≡ true
unfolding take_out_of taken_out
take-out-tidy row p e = by (ltb p row.count) (ltb p THREADS) refl
  where
    by :
        (c d : Bool) → ltb p row.count ≡ c →
        is_tidy (cond {A = Taken} (c && d) (record { row = taken_out row p; thread = get_or row.places p 0; ok = true }) (refused row)).row ≡ true
    by true true k =
        let h : p < row.count = ltb-true p row.count k in
        let m : row.count ≤ THREADS = tidy-count row e in
        let q : suc (row.count - 1) ≡ row.count = omega arith in
        tidy_of (taken_out row p) (omega arith)
        (zero-removed p (row.count - 1) row.places (omega arith) (rw q (tidy-zero row e)))
    by true false k = e
    by false d k = e

pub without-tidy : (f : ℕ → Bool) (row : Row) → is_tidy row ≡ true → is_tidy (without_of f row) ≡ true
unfolding without_of
without-tidy f row e =
    let h : row.count ≤ THREADS = tidy-count row e in
    let a : length (sleepers row) ≤ row.count = simp length-take (omega arith) in
    let b : length (failing f (sleepers row)) ≤ length (sleepers row) = passing-length (λ (t : ℕ). not (f t)) (sleepers row) in
    row-of-tidy (failing f (sleepers row)) (omega arith)
