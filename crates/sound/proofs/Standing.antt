-- Who stands in the row of a sound world: threads alone, each at most once, and as many as sleep. Assumes nothing.
use mathlib.Core.Path.{◌≡◌, refl, sym, ◌∙◌}
use mathlib.Core.Bool.{Bool, true, false, cond}
use mathlib.Core.List.{List, [], ◌∷◌}
use Prim.Native.Nat.{ℕ, suc, ◌+◌, ◌≤◌, ◌<◌}
use native.Mathlib.Omega.{arith}
use borrow.Author.Tests.{eq-eqb, ne_eqb, ltb-true, ltb-false}
use lib.Dec.{eqb, ltb}
use lib.ListN.{length}
use lib.Seq.{length-take-le}
use Rattle.queue.specs.Row.{THREADS, sleepers, occ, is_tidy}
use Rattle.queue.proofs.Tidy.{tidy-count}
use Rattle.calls.specs.Positions.{waits_of}
use Rattle.world.specs.declared.World.{World}
use Rattle.world.specs.World.{thread_at}
use Rattle.sound.specs.Ranges.{sum_from, count_from}
use Rattle.sound.specs.Sound.{is_asleep, asleep_count}
use Rattle.sound.proofs.Ranges.{bit_le, sum-agree, sum-change, sum-none, sum-add}
use Rattle.sound.specs.Clauses.{Sleepers}

-- how often the numbers below n stand in a list, in all
total : List ℕ → ℕ → ℕ
total l n = sum_from (λ (t : ℕ). occ t l) n 0

single : ℕ → ℕ → ℕ
single x t = cond (eqb t x) 1 0

single-in : (x n : ℕ) → x < n → sum_from (single x) n 0 ≡ 1
unfolding single
single-in x n h =
    let e : sum_from (single x) n 0 + 0 ≡ sum_from (λ (j : ℕ). 0) n 0 + single x x =
    sum-change (λ (j : ℕ). 0) (single x) n x h (λ u l z. rw (ne_eqb u x z)) in
    let z : sum_from (λ (j : ℕ). 0) n 0 ≡ 0 = sum-none (λ (j : ℕ). 0) n (λ t k. refl) in
    let o : single x x ≡ 1 = rw (eq-eqb x x refl) in
    omega arith

single-out : (x n : ℕ) → n ≤ x → sum_from (single x) n 0 ≡ 0
unfolding single
single-out x n h = sum-none (single x) n (λ t k. rw (ne_eqb t x (λ e. omega arith)))

total-nil : (n : ℕ) → total [] n ≡ 0
unfolding occ total
total-nil n = sum-none (λ (t : ℕ). occ t []) n (λ t k. refl)

total-cons : (x : ℕ) (l : List ℕ) (n : ℕ) → total (x ∷ l) n ≡ sum_from (single x) n 0 + total l n
unfolding occ total single
total-cons x l n = sum-add (single x) (λ (t : ℕ). occ t l) n 0

-- one from n on stands there no more often than they leave room
stranger : (l : List ℕ) (n u : ℕ) → n ≤ u → total l n + occ u l ≤ length l
unfolding occ
stranger [] n u h = omega (arith, total-nil n)
stranger (x ∷ l) n u h = by (ltb x n) refl (stranger l n u h)
  where
    by : (c : Bool) → ltb x n ≡ c → total l n + occ u l ≤ length l → total (x ∷ l) n + (cond (eqb u x) 1 0 + occ u l) ≤ suc (length l)
    by true q k =
        let b : x < n = ltb-true x n q in
        let z : ◌≡◌ {A = ℕ} (cond (eqb u x) 1 0) 0 = rw (ne_eqb u x (λ e. omega arith)) in
        omega (arith, total-cons x l n, single-in x n b)
    by false q k = omega (arith, total-cons x l n, single-out x n (ltb-false x n q), bit_le (eqb u x))

-- where all are below n, they are all that stand there
all-below : (l : List ℕ) (n : ℕ) → ((u : ℕ) → 0 < occ u l → u < n) → total l n ≡ length l
unfolding occ
all-below [] n h = total-nil n
all-below (x ∷ l) n h =
    let own : 0 < occ x (x ∷ l) = rw (eq-eqb x x refl) (omega arith) in
    let r : total l n ≡ length l = all-below l n (λ u k. h u (omega arith)) in
    omega (arith, total-cons x l n, single-in x n (h x own))

module _ (w : World) (shaped : length w.sleepers.places ≡ THREADS) where
  row-length : is_tidy w.sleepers ≡ true → length (sleepers w.sleepers) ≡ w.sleepers.count
  row-length e =
      let h : w.sleepers.count ≤ THREADS = tidy-count w.sleepers e in
      length-take-le w.sleepers.count w.sleepers.places (omega arith)

  asleep-total :
      ((t : ℕ) → t < THREADS → occ t (sleepers w.sleepers) ≡ cond (thread_at w t).asleep 1 0) →
      total (sleepers w.sleepers) THREADS ≡ asleep_count w.threads
  unfolding asleep_count count_from sum_from is_asleep total
  asleep-total h =
      sum-agree (λ (t : ℕ). cond (thread_at w t).asleep 1 0) (λ (t : ℕ). occ t (sleepers w.sleepers)) THREADS h

  -- whoever stands in the row is a thread
  pub nobody-else : Sleepers w → (u : ℕ) → 0 < occ u (sleepers w.sleepers) → u < THREADS
  nobody-else s u h = by (ltb u THREADS) refl
    where
      by : (c : Bool) → ltb u THREADS ≡ c → u < THREADS
      by true q = ltb-true u THREADS q
      by false q =
          let k : THREADS ≤ u = ltb-false u THREADS q in
          absurd (omega (arith, stranger (sleepers w.sleepers) THREADS u k, asleep-total s.stands, row-length s.tidy, s.counted))

  -- and there once
  pub stands-once : Sleepers w → (u : ℕ) → occ u (sleepers w.sleepers) ≤ 1
  stands-once s u = by (ltb u THREADS) refl
    where
      by : (c : Bool) → ltb u THREADS ≡ c → occ u (sleepers w.sleepers) ≤ 1
      by true q = rw (s.stands u (ltb-true u THREADS q)) (bit_le (thread_at w u).asleep)
      by false q =
          let k : THREADS ≤ u = ltb-false u THREADS q in
          omega (arith, stranger (sleepers w.sleepers) THREADS u k, asleep-total s.stands, row-length s.tidy, s.counted)

  -- the sleepers are made so: that nobody else stands in the row is that whoever does is a thread
  pub sleepers-of :
      is_tidy w.sleepers ≡ true → ((t : ℕ) → t < THREADS → occ t (sleepers w.sleepers) ≡ cond (thread_at w t).asleep 1 0) →
      ((t : ℕ) → t < THREADS → (thread_at w t).asleep ≡ true → waits_of (thread_at w t).at ≡ true) →
      ((u : ℕ) → 0 < occ u (sleepers w.sleepers) → u < THREADS) → Sleepers w
  sleepers-of e s a o = record {
    tidy = e;
    stands = s;
    waits = a;
    counted = sym (row-length e) ∙ sym (all-below (sleepers w.sleepers) THREADS o) ∙ asleep-total s;
  }
