-- What a test, a sum or a count over a range says of one number in it, and what a change at one number does to it. Assumes nothing.
use mathlib.Core.Path.{◌≡◌, refl, sym, ap}
use mathlib.Core.Bool.{Bool, true, false, cond, not, ◌&&◌, and-eq-true_iff}
use Prim.Native.Nat.{ℕ, zero, suc, ◌+◌, ◌≤◌, ◌<◌}
use native.Mathlib.Omega.{arith}
use borrow.Author.Tests.{eqb-true, eqb-false, eq-eqb, ne_eqb}
use lib.Dec.{eqb}
use Rattle.std.specs.List.{range_with_len}
use Rattle.std.proofs.lemmas.List.Sums.{sum_by-cons}
use Rattle.sound.specs.Ranges.{all_from, sum_from, count_from}

-- all pass: then each does, and the other way round
all-from : (f : ℕ → Bool) (n i t : ℕ) → all_from f n i ≡ true → i ≤ t → t < i + n → f t ≡ true
unfolding all_from
all-from f zero i t e a b = absurd (omega arith)
all-from f (suc n) i t e a b =
    let p : (f i ≡ true) × (all_from f n (i + 1) ≡ true) = (and-eq-true_iff (f i) (all_from f n (i + 1))).0 e in
    by (eqb t i) refl p.0 (λ h. all-from f n (i + 1) t p.1 h (omega arith))
  where
    by : (c : Bool) → eqb t i ≡ c → f i ≡ true → (i + 1 ≤ t → f t ≡ true) → f t ≡ true
    by true q r k = rw (eqb-true t i q) r
    by false q r k = k (omega (arith, eqb-false t i q))

all_of : (f : ℕ → Bool) (n i : ℕ) → ((t : ℕ) → i ≤ t → t < i + n → f t ≡ true) → all_from f n i ≡ true
unfolding all_from
all_of f zero i h = refl
all_of f (suc n) i h =
    let k : (t : ℕ) → i + 1 ≤ t → t < i + 1 + n → f t ≡ true = λ t a b. h t (omega arith) (omega arith) in
    rw (h i (omega arith) (omega arith)) (all_of f n (i + 1) k)

pub all-at : (f : ℕ → Bool) (n t : ℕ) → all_from f n 0 ≡ true → t < n → f t ≡ true
all-at f n t e h = all-from f n 0 t e (omega arith) (omega arith)

pub all-make : (f : ℕ → Bool) (n : ℕ) → ((t : ℕ) → t < n → f t ≡ true) → all_from f n 0 ≡ true
all-make f n h = all_of f n 0 (λ t a b. h t (omega arith))

-- a sum is its first part and the rest; so is a count, which is a sum of 0 and 1
pub sum-first : (f : ℕ → ℕ) (n i : ℕ) → sum_from f (suc n) i ≡ f i + sum_from f n (i + 1)
unfolding sum_from
sum-first f n i = sum_by-cons f i (range_with_len (i + 1) n)

pub count-sum : (f : ℕ → Bool) (n i : ℕ) → count_from f n i ≡ sum_from (λ (j : ℕ). cond (f j) 1 0) n i
unfolding count_from sum_from
count-sum f n i = refl

count-first : (f : ℕ → Bool) (n i : ℕ) → count_from f (suc n) i ≡ cond (f i) 1 0 + count_from f n (i + 1)
unfolding count_from sum_from
count-first f n i = sum-first (λ (j : ℕ). cond (f j) 1 0) n i

-- .. and all but its last part and that
sum_last : (f : ℕ → ℕ) (n i j : ℕ) → j ≡ i + n → sum_from f (suc n) i ≡ sum_from f n i + f j
unfolding sum_from
sum_last f zero i j e = let h : j ≡ i = omega arith in rw h
sum_last f (suc n) i j e = omega (arith, sum-first f (suc n) i, sum-first f n i, sum_last f n (i + 1) j (omega arith))

pub sum-last : (f : ℕ → ℕ) (n : ℕ) → sum_from f (n + 1) 0 ≡ sum_from f n 0 + f n
sum-last f n = let e : n + 1 ≡ suc n = omega arith in rw e (sum_last f n 0 n (omega arith))

-- a sum says of each number that it adds no more than the sum; equal parts, equal sums; one part changed, the sum changed by as much
sum-part : (f : ℕ → ℕ) (n i t : ℕ) → i ≤ t → t < i + n → f t ≤ sum_from f n i
sum-part f zero i t a b = absurd (omega arith)
sum-part f (suc n) i t a b = rw (sum-first f n i) (by (eqb t i) refl (λ h. sum-part f n (i + 1) t h (omega arith)))
  where
    by : (c : Bool) → eqb t i ≡ c → (i + 1 ≤ t → f t ≤ sum_from f n (i + 1)) → f t ≤ f i + sum_from f n (i + 1)
    by true q k = rw (eqb-true t i q) (omega arith)
    by false q k = let r : f t ≤ sum_from f n (i + 1) = k (omega (arith, eqb-false t i q)) in omega arith

sum_same : (f g : ℕ → ℕ) (n i : ℕ) → ((t : ℕ) → i ≤ t → t < i + n → g t ≡ f t) → sum_from g n i ≡ sum_from f n i
unfolding sum_from
sum_same f g zero i h = refl
sum_same f g (suc n) i h =
    let k : (t : ℕ) → i + 1 ≤ t → t < i + 1 + n → g t ≡ f t = λ t a b. h t (omega arith) (omega arith) in
    rw (sum-first f n i, sum-first g n i, h i (omega arith) (omega arith), sum_same f g n (i + 1) k)

sum-but :
    (f g : ℕ → ℕ) (n i t : ℕ) → i ≤ t → t < i + n → ((u : ℕ) → i ≤ u → u < i + n → (u ≡ t → ⊥) → g u ≡ f u) →
    sum_from g n i + f t ≡ sum_from f n i + g t
sum-but f g zero i t a b h = absurd (omega arith)
sum-but f g (suc n) i t a b h =
    rw (sum-first f n i, sum-first g n i)
    (by (eqb t i) refl (λ l. sum-but f g n (i + 1) t l (omega arith) (λ u p q. h u (omega arith) (omega arith))))
  where
    by :
        (c : Bool) → eqb t i ≡ c → (i + 1 ≤ t → sum_from g n (i + 1) + f t ≡ sum_from f n (i + 1) + g t) →
        g i + sum_from g n (i + 1) + f t ≡ f i + sum_from f n (i + 1) + g t
    by true q k =
        let e : t ≡ i = eqb-true t i q in
        let s : sum_from g n (i + 1) ≡ sum_from f n (i + 1) =
        sum_same f g n (i + 1) (λ u p r. h u (omega arith) (omega arith) (λ z. omega arith)) in
        rw (e, s) (omega arith)
    by false q k =
        let z : t ≡ i → ⊥ = eqb-false t i q in
        let e : g i ≡ f i = h i (omega arith) (omega arith) (λ x. z (sym x)) in
        let s : sum_from g n (i + 1) + f t ≡ sum_from f n (i + 1) + g t = k (omega (arith, z)) in
        omega arith

pub sum-add : (f g : ℕ → ℕ) (n i : ℕ) → sum_from (λ (j : ℕ). f j + g j) n i ≡ sum_from f n i + sum_from g n i
unfolding sum_from
sum-add f g zero i = refl
sum-add f g (suc n) i =
    omega (arith, sum-first (λ (j : ℕ). f j + g j) n i, sum-first f n i, sum-first g n i, sum-add f g n (i + 1))

pub sum-at : (f : ℕ → ℕ) (n t : ℕ) → t < n → f t ≤ sum_from f n 0
sum-at f n t h = sum-part f n 0 t (omega arith) (omega arith)

pub sum-agree : (f g : ℕ → ℕ) (n : ℕ) → ((t : ℕ) → t < n → g t ≡ f t) → sum_from g n 0 ≡ sum_from f n 0
sum-agree f g n h = sum_same f g n 0 (λ t a b. h t (omega arith))

pub sum-change :
    (f g : ℕ → ℕ) (n t : ℕ) → t < n → ((u : ℕ) → u < n → (u ≡ t → ⊥) → g u ≡ f u) → sum_from g n 0 + f t ≡ sum_from f n 0 + g t
sum-change f g n t k h = sum-but f g n 0 t (omega arith) (omega arith) (λ u a b. h u (omega arith))

-- two numbers add no more than the sum
pub sum-two : (f : ℕ → ℕ) (n t u : ℕ) → t < n → u < n → (u ≡ t → ⊥) → f t + f u ≤ sum_from f n 0
sum-two f n t u a b d =
    let e : sum_from g n 0 + f t ≡ sum_from f n 0 + g t = sum-change f g n t a (λ x _ y. rw (ne_eqb x t y) refl) in
    let z : g t ≡ 0 = rw (eq-eqb t t refl) refl in
    let y : g u ≡ f u = rw (ne_eqb u t d) refl in
    let m : g u ≤ sum_from g n 0 = sum-at g n u b in
    omega arith
  where
    g : ℕ → ℕ
    g x = cond (eqb x t) 0 (f x)

-- so of a count
pub count_at : (f : ℕ → Bool) (n t : ℕ) → t < n → cond (f t) 1 0 ≤ count_from f n 0
unfolding count_from sum_from
count_at f n t h = sum-at (λ (j : ℕ). cond (f j) 1 0) n t h

pub count-agree : (f g : ℕ → Bool) (n : ℕ) → ((t : ℕ) → t < n → g t ≡ f t) → count_from g n 0 ≡ count_from f n 0
unfolding count_from sum_from
count-agree f g n h =
    sum-agree (λ (j : ℕ). cond (f j) 1 0) (λ (j : ℕ). cond (g j) 1 0) n (λ t k. ap (λ (b : Bool). cond b 1 0) (h t k))

pub count-change :
    (f g : ℕ → Bool) (n t : ℕ) → t < n → ((u : ℕ) → u < n → (u ≡ t → ⊥) → g u ≡ f u) →
    count_from g n 0 + cond (f t) 1 0 ≡ count_from f n 0 + cond (g t) 1 0
unfolding count_from sum_from
count-change f g n t k h =
    sum-change (λ (j : ℕ). cond (f j) 1 0) (λ (j : ℕ). cond (g j) 1 0) n t k (λ u l z. ap (λ (b : Bool). cond b 1 0) (h u l z))

-- a count is no more than the range is long; it is 0 exactly where none passes, above 0 only where one does, and 1 only where no other does
count_most : (f : ℕ → Bool) (n i : ℕ) → count_from f n i ≤ n
unfolding count_from sum_from
count_most f zero i = omega arith
count_most f (suc n) i = rw (count-first f n i) (by (f i) (count_most f n (i + 1)))
  where
    by : (c : Bool) → count_from f n (i + 1) ≤ n → cond c 1 0 + count_from f n (i + 1) ≤ suc n
    by true h = omega arith
    by false h = omega arith

pub count-le : (f : ℕ → Bool) (n : ℕ) → count_from f n 0 ≤ n
count-le f n = count_most f n 0

pub count_none : (f : ℕ → Bool) (n t : ℕ) → count_from f n 0 ≡ 0 → t < n → f t ≡ false
count_none f n t e h = by (f t) refl (count_at f n t h)
  where
    by : (c : Bool) → f t ≡ c → cond c 1 0 ≤ count_from f n 0 → c ≡ false
    by true q k = absurd (omega arith)
    by false q k = refl

zeros : (f : ℕ → ℕ) (n i : ℕ) → ((t : ℕ) → i ≤ t → t < i + n → f t ≡ 0) → sum_from f n i ≡ 0
unfolding sum_from
zeros f zero i h = refl
zeros f (suc n) i h =
    let k : (t : ℕ) → i + 1 ≤ t → t < i + 1 + n → f t ≡ 0 = λ t a b. h t (omega arith) (omega arith) in
    rw (sum-first f n i, h i (omega arith) (omega arith), zeros f n (i + 1) k)

pub sum-none : (f : ℕ → ℕ) (n : ℕ) → ((t : ℕ) → t < n → f t ≡ 0) → sum_from f n 0 ≡ 0
sum-none f n h = zeros f n 0 (λ t a b. h t (omega arith))

pub none-counts : (f : ℕ → Bool) (n : ℕ) → ((t : ℕ) → t < n → f t ≡ false) → count_from f n 0 ≡ 0
unfolding count_from sum_from
none-counts f n h = sum-none (λ (j : ℕ). cond (f j) 1 0) n (λ t k. ap (λ (b : Bool). cond b 1 0) (h t k))

-- a sum above 0 has a part above 0
part-from : (f : ℕ → ℕ) (n i : ℕ) → 0 < sum_from f n i → (t : ℕ) × ((i ≤ t) × ((t < i + n) × (0 < f t)))
unfolding sum_from
part-from f zero i h = absurd (omega arith)
part-from f (suc n) i h = by (f i) refl (part-from f n (i + 1))
  where
    by :
        (k : ℕ) → f i ≡ k → (0 < sum_from f n (i + 1) → (t : ℕ) × ((i + 1 ≤ t) × ((t < i + 1 + n) × (0 < f t)))) →
        (t : ℕ) × ((i ≤ t) × ((t < i + suc n) × (0 < f t)))
    by zero e rest =
        let w = rest (omega (arith, sum-first f n i)) in
        (w.0, (omega (arith, w.1.0), (omega (arith, w.1.1.0), w.1.1.1)))
    by (suc k) e rest = (i, (omega arith, (omega arith, omega arith)))

pub sum-some : (f : ℕ → ℕ) (n : ℕ) → 0 < sum_from f n 0 → (t : ℕ) × ((t < n) × (0 < f t))
sum-some f n h =
    let w : (t : ℕ) × ((0 ≤ t) × ((t < 0 + n) × (0 < f t))) = part-from f n 0 h in
    (w.0, (omega (arith, w.1.1.0), w.1.1.1))

some-from : (f : ℕ → Bool) (n i : ℕ) → 0 < count_from f n i → (t : ℕ) × ((i ≤ t) × ((t < i + n) × (f t ≡ true)))
unfolding count_from sum_from
some-from f zero i h = absurd (omega arith)
some-from f (suc n) i h = by (f i) refl (rw (count-first f n i) at h) (some-from f n (i + 1))
  where
    by :
        (c : Bool) → f i ≡ c → 0 < cond c 1 0 + count_from f n (i + 1) →
        (0 < count_from f n (i + 1) → (t : ℕ) × ((i + 1 ≤ t) × ((t < i + 1 + n) × (f t ≡ true)))) →
        (t : ℕ) × ((i ≤ t) × ((t < i + suc n) × (f t ≡ true)))
    by true q l k = (i, (omega arith, (omega arith, q)))
    by false q l k =
        let w : (t : ℕ) × ((i + 1 ≤ t) × ((t < i + 1 + n) × (f t ≡ true))) = k (omega arith) in
        (w.0, (omega (arith, w.1.0), (omega (arith, w.1.1.0), w.1.1.1)))

pub count-some : (f : ℕ → Bool) (n : ℕ) → 0 < count_from f n 0 → (t : ℕ) × ((t < n) × (f t ≡ true))
count-some f n h =
    let w : (t : ℕ) × ((0 ≤ t) × ((t < 0 + n) × (f t ≡ true))) = some-from f n 0 h in
    (w.0, (omega (arith, w.1.1.0), w.1.1.1))

-- with t left out the count of the others is one less
pub count-one : (f : ℕ → Bool) (n t u : ℕ) → count_from f n 0 ≤ 1 → t < n → u < n → f t ≡ true → f u ≡ true → u ≡ t
count-one f n t u h a b p q = by (eqb u t) refl
  where
    others : ℕ → Bool
    others j = f j && not (eqb j t)

    same : (j : ℕ) (c : Bool) → eqb j t ≡ c → (j ≡ t → ⊥) → f j && not c ≡ f j
    same j true e z = absurd (z (eqb-true j t e))
    same j false e z = right (f j)
      where
        right : (c : Bool) → c && true ≡ c
        right true = refl
        right false = refl

    by : (c : Bool) → eqb u t ≡ c → u ≡ t
    by true e = eqb-true u t e
    by false e =
        let own : others t ≡ false = rw (p, eq-eqb t t refl) in
        let other : others u ≡ true = rw (q, e) in
        let k : count_from others n 0 + cond (f t) 1 0 ≡ count_from f n 0 + cond (others t) 1 0 =
        count-change f others n t a (λ j l z. same j (eqb j t) refl z) in
        let one : ◌≡◌ {A = ℕ} (cond (f t) 1 0) 1 = rw p in
        let none : ◌≡◌ {A = ℕ} (cond (others t) 1 0) 0 = rw own in
        let some : ◌≡◌ {A = ℕ} (cond (others u) 1 0) 1 = rw other in
        absurd (omega (arith, count_at others n u b))

pub bit_le : (b : Bool) → cond b 1 0 ≤ 1
bit_le true = omega arith
bit_le false = omega arith
