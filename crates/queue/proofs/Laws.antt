-- What each operation does to the sleepers, to the queue of each word, which is their part that passes a test, and to how often a thread sleeps. Assumes nothing.
use mathlib.Core.Path.{◌≡◌, refl, sym, ap, ◌∙◌}
use mathlib.Core.Bool.{Bool, true, false, cond, not, ◌&&◌}
use mathlib.Core.List.{List, [], ◌∷◌, ◌++◌}
use Prim.Native.Nat.{ℕ, suc, ◌+◌, ◌-◌, ◌≤◌, ◌<◌, min}
use native.Mathlib.Numerals.{add-one}
use native.Mathlib.Omega.{arith}
use borrow.Author.Tests.{lt-ltb, le-ltb, ltb-true, eqb-true}
use lib.Dec.{eqb, ltb}
use lib.ListN.{length, get_or, replicate, length-set, length-take, length-append, length-replicate}
use lib.Seq.{take-suc-set, take-append_seam, get_or-take, length-take-le}
use Rattle.std.specs.Prelude.{Option}
use Rattle.std.specs.List.{position}
use Rattle.std.specs.Option.{unwrap_or}
use Rattle.queue.specs.declared.Row.{Row}
use Rattle.words.specs.Found.{found}
use Rattle.queue.specs.Row.{THREADS, sleepers, passing, failing, queue_of, empty_row, row_of, pushed, push_of, removed_at, taken_out, refused, take_out_of, place_of, without_of, occ}
use Rattle.queue.proofs.Part.{Agree, none-passing, passing-append, passing-agree, passing-none, passing-length, passing-split, passing-failing, passing-others, passing-removed, occ-append, occ-passing, occ-removed, no_longer}
use Rattle.queue.proofs.Places.{length_removed, removed-take}
use Rattle.queue.proofs.Search.{Found, found-position, is_found, found_first, nothing, position-agree, place-bound, place_none}

pub empty-sleepers : sleepers empty_row ≡ []
empty-sleepers = refl

pub empty-length : length empty_row.places ≡ THREADS
empty-length = refl

pub row-of-sleepers : (l : List ℕ) → sleepers (row_of l) ≡ l
unfolding row_of
row-of-sleepers l = take-append_seam l (replicate (THREADS - length l) 0)

-- a push: accepted where there is room, and refused where there is none
pub push-accepted : (row : Row) (t : ℕ) → row.count < THREADS → push_of row t ≡ record { row = pushed row t; ok = true }
unfolding push_of
push-accepted row t h = rw (lt-ltb row.count THREADS h)

pub push-refused : (row : Row) (t : ℕ) → THREADS ≤ row.count → push_of row t ≡ record { row = row; ok = false }
unfolding push_of
push-refused row t h = rw (le-ltb row.count THREADS h)

-- who is pushed comes behind all the others: last in the queue of its own word, and into no other
module _ (row : Row) (t : ℕ) where
  pub push-count : (pushed row t).count ≡ row.count + 1
  unfolding pushed
  push-count = refl

  pub push-length : length (pushed row t).places ≡ length row.places
  unfolding pushed
  push-length = length-set row.places row.count t

  pub push-sleepers : row.count < length row.places → sleepers (pushed row t) ≡ sleepers row ++ (t ∷ [])
  unfolding pushed
  push-sleepers h = rw (add-one row.count) (take-suc-set row.places row.count t h)

  pub push-queue :
      (f : ℕ → Bool) → row.count < length row.places →
      queue_of f (pushed row t) ≡ queue_of f row ++ cond (f t) (t ∷ []) []
  unfolding queue_of passing
  push-queue f h = ap (passing f) (push-sleepers h) ∙ passing-append f (sleepers row) (t ∷ [])

  pub push-occ :
      (u : ℕ) → row.count < length row.places →
      occ u (sleepers (pushed row t)) ≡ occ u (sleepers row) + cond (eqb u t) 1 0
  unfolding occ
  push-occ u h = rw (push-sleepers h, occ-append u (sleepers row) (t ∷ [])) (omega arith)

-- there is room for a thread that does not sleep, where no thread stands in the row twice
pub push-room :
    (row : Row) (t : ℕ) → row.count ≤ length row.places → t < THREADS → occ t (sleepers row) ≡ 0 →
    ((u : ℕ) → 0 < occ u (sleepers row) → u < THREADS) → ((u : ℕ) → occ u (sleepers row) ≤ 1) → row.count < THREADS
unfolding occ
push-room row t k b z h o =
    let n : length (sleepers row) ≡ row.count = length-take-le row.count row.places k in
    omega (arith, no_longer THREADS (t ∷ sleepers row) (λ u. below u (eqb u t) refl) (λ u. once u (eqb u t) refl))
  where
    below : (u : ℕ) (c : Bool) → eqb u t ≡ c → 0 < cond c 1 0 + occ u (sleepers row) → u < THREADS
    below u true e p = rw (eqb-true u t e) b
    below u false e p = h u (omega arith)

    once : (u : ℕ) (c : Bool) → eqb u t ≡ c → cond c 1 0 + occ u (sleepers row) ≤ 1
    once u true e = rw (eqb-true u t e, z) (omega arith)
    once u false e = omega (arith, o u)

-- a thread is taken out where one sleeps, and refused elsewhere
pub take-out-accepted :
    (row : Row) (p : ℕ) → p < row.count → p < THREADS →
    take_out_of row p ≡ record { row = taken_out row p; thread = get_or row.places p 0; ok = true }
unfolding take_out_of
take-out-accepted row p h k = rw (lt-ltb p row.count h, lt-ltb p THREADS k)

pub take-out-refused : (row : Row) (p : ℕ) → min row.count THREADS ≤ p → take_out_of row p ≡ refused row
unfolding take_out_of
take-out-refused row p h = by (ltb p row.count) refl
  where
    by :
        (c : Bool) → ltb p row.count ≡ c →
        cond (c && ltb p THREADS) (record { row = taken_out row p; thread = get_or row.places p 0; ok = true }) (refused row) ≡ refused row
    by true e =
        let k : p < row.count = ltb-true p row.count e in
        rw (le-ltb p THREADS (omega arith))
    by false e = refl

-- who is taken out is missing from the queue of its own word, and from no other
module _ (row : Row) (p : ℕ) where
  pub take-out-count : (taken_out row p).count ≡ row.count - 1
  unfolding taken_out
  take-out-count = refl

  pub take-out-length : p < length row.places → length (taken_out row p).places ≡ length row.places
  unfolding taken_out
  take-out-length h = length_removed row.places p h

  -- the thread at a place, read in the row or among the sleepers
  pub thread-at : p < row.count → get_or (sleepers row) p 0 ≡ get_or row.places p 0
  thread-at h = get_or-take row.count row.places p 0 h

  -- what is found is a place where somebody sleeps, who passes the test
  module _ (f : ℕ → Bool) (w : Found f (sleepers row) p) where
    pub found_below : p < row.count
    found_below = let h : p < min row.count (length row.places) = rw length-take at w.below in omega arith

    pub found-passes : f (get_or row.places p 0) ≡ true
    found-passes = rw (thread-at found_below) at w.passes

  module _ (k : row.count ≤ length row.places) where
    below : p < row.count → p < length (sleepers row)
    below h = rw (length-take-le row.count row.places k) h

    pub take-out-sleepers : p < row.count → sleepers (taken_out row p) ≡ removed_at p (sleepers row)
    unfolding taken_out
    take-out-sleepers h =
        let e : suc (row.count - 1) ≡ row.count = omega arith in
        rw e at (removed-take p (row.count - 1) row.places (omega arith) (omega arith))

    pub take-out-others :
        (g : ℕ → Bool) → p < row.count → g (get_or row.places p 0) ≡ false →
        queue_of g (taken_out row p) ≡ queue_of g row
    unfolding queue_of
    take-out-others g h e = rw (take-out-sleepers h) (passing-removed (sleepers row) p (below h) g (rw (thread-at h) e))

    -- the first of a queue is its head
    pub take-out-first :
        (f : ℕ → Bool) → Found f (sleepers row) p →
        queue_of f row ≡ get_or row.places p 0 ∷ queue_of f (taken_out row p)
    unfolding queue_of
    take-out-first f w =
        let h : p < row.count = found_below f w in
        rw (take-out-sleepers h, ← thread-at h) (found_first f (sleepers row) p w)

    pub take-out-occ :
        (u : ℕ) → p < row.count →
        occ u (sleepers row) ≡ occ u (sleepers (taken_out row p)) + cond (eqb u (get_or row.places p 0)) 1 0
    take-out-occ u h = rw (take-out-sleepers h, ← thread-at h) (occ-removed (sleepers row) p (below h) u)

-- the row without those who pass a test: their queue is empty, and the queues of others are as they were
module _ (f : ℕ → Bool) (row : Row) where
  pub without-sleepers : sleepers (without_of f row) ≡ failing f (sleepers row)
  unfolding without_of
  without-sleepers = row-of-sleepers (failing f (sleepers row))

  pub without-queue : queue_of f (without_of f row) ≡ []
  unfolding queue_of
  without-queue = ap (passing f) without-sleepers ∙ passing-failing f (sleepers row)

  pub without-others :
      (g : ℕ → Bool) → ((u : ℕ) → 0 < occ u (sleepers row) → f u ≡ true → g u ≡ false) →
      queue_of g (without_of f row) ≡ queue_of g row
  unfolding queue_of
  without-others g h = ap (passing g) without-sleepers ∙ passing-others f g (sleepers row) h

  pub without-occ : (u : ℕ) → occ u (sleepers (without_of f row)) ≡ cond (f u) 0 (occ u (sleepers row))
  without-occ u = ap (occ u) without-sleepers ∙ occ-passing (λ (t : ℕ). not (f t)) u (sleepers row) ∙ by (f u) (occ u (sleepers row))
    where
      by : (c : Bool) (n : ℕ) → cond (not c) n 0 ≡ cond c 0 n
      by true n = refl
      by false n = refl

  -- as many leave as their queue was long
  pub without-count : row.count ≤ length row.places → row.count ≡ length (queue_of f row) + (without_of f row).count
  unfolding queue_of without_of row_of
  without-count k = sym (length-take-le row.count row.places k) ∙ passing-split f (sleepers row)

  pub without-length : row.count ≤ THREADS → length (without_of f row).places ≡ THREADS
  unfolding without_of row_of
  without-length k =
      let a : length (sleepers row) ≤ row.count = simp length-take (omega arith) in
      let b : length (failing f (sleepers row)) ≤ length (sleepers row) = passing-length (λ (t : ℕ). not (f t)) (sleepers row) in
      let n : ℕ = THREADS - length (failing f (sleepers row)) in
      let z : List ℕ = replicate n 0 in
      let e : length z ≡ n = length-replicate n 0 in
      simp length-append (omega arith)

-- the search: what is found is the first of the queue, and nothing is found exactly if the queue is empty
module _ (f : ℕ → Bool) (row : Row) where
  short : row.count ≤ THREADS → length (sleepers row) ≤ THREADS
  short k = simp length-take (omega arith)

  pub place-of-found : row.count ≤ THREADS → place_of f row < THREADS → Found f (sleepers row) (place_of f row)
  unfolding place_of
  place-of-found k h = is_found f (sleepers row) (short k) h

  pub place-of-nothing : row.count ≤ THREADS → place_of f row ≡ THREADS → queue_of f row ≡ []
  unfolding place_of queue_of
  place-of-nothing k e = passing-none f (sleepers row) (nothing f (sleepers row) (short k) e)

  pub nothing-place-of : queue_of f row ≡ [] → place_of f row ≡ THREADS
  unfolding place_of queue_of
  nothing-place-of e = place_none f (sleepers row) (none-passing f (sleepers row) e)

  pub place-of-bound : row.count ≤ THREADS → place_of f row ≤ THREADS
  unfolding place_of
  place-of-bound k = place-bound f (sleepers row) (short k)

  -- the place is what std's `position` finds
  pub place_is : length row.places ≤ THREADS → position f (sleepers row) ≡ found THREADS (place_of f row)
  unfolding place_of
  place_is k = found-position f (sleepers row) (simp length-take (omega arith))

  -- a place found or not says which it is, THREADS where there is none
  pub place-of-or : length row.places ≤ THREADS → unwrap_or (found THREADS (place_of f row)) THREADS ≡ place_of f row
  unfolding place_of
  place-of-or k =
      let h : length (sleepers row) ≤ THREADS = simp length-take (omega arith) in
      ap (λ (o : Option ℕ). unwrap_or o THREADS) (sym (found-position f (sleepers row) h))

  -- who is found is the head of the queue, and leaves the rest of it
  pub longest-first :
      row.count ≤ THREADS → row.count ≤ length row.places → place_of f row < THREADS →
      queue_of f row ≡ get_or row.places (place_of f row) 0 ∷ queue_of f (taken_out row (place_of f row))
  longest-first m k h = take-out-first row (place_of f row) k f (place-of-found m h)

-- tests that agree on the sleepers say the same
module _ (f g : ℕ → Bool) (row : Row) (h : Agree f g (sleepers row)) where
  pub queue-agree : queue_of f row ≡ queue_of g row
  unfolding queue_of
  queue-agree = passing-agree f g (sleepers row) h

  pub place-of-agree : place_of f row ≡ place_of g row
  unfolding place_of
  place-of-agree = ap (λ (o : Option ℕ). unwrap_or o THREADS) (position-agree f g (sleepers row) h)

  pub without-agree : without_of f row ≡ without_of g row
  unfolding without_of
  without-agree = ap row_of (passing-agree (λ (t : ℕ). not (f t)) (λ (t : ℕ). not (g t)) (sleepers row) (λ u k. ap not (h u k)))
