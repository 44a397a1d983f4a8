-- The part of a list that passes a test, how often a number stands in a list, and what becomes of both when one element is taken out. Assumes nothing.
use mathlib.Core.Path.{◌≡◌, refl, sym, ap, ◌∙◌}
use mathlib.Core.Bool.{Bool, true, false, cond, not, ◌&&◌, true≢false, false≢true}
use mathlib.Core.List.{List, [], ◌∷◌, ◌++◌}
use Prim.Native.Nat.{ℕ, zero, suc, ◌+◌, ◌≤◌, ◌<◌}
use native.Mathlib.Nat.{zero-add}
use native.Mathlib.Omega.{arith}
use borrow.Author.Tests.{eq-eqb, eqb-true, eqb-false}
use lib.Dec.{eqb}
use lib.ListN.{length, get_or, take, drop, length-append, length-take, length-drop}
use lib.Seq.{split_at}
use Rattle.std.specs.List.{count_by}
use Rattle.std.proofs.lemmas.List.Elements.{filter-append}
use Rattle.std.proofs.lemmas.List.Filters.{length-filter_both}
use Rattle.std.proofs.lemmas.List.Recursion.{is_count_by}
use Rattle.std.proofs.lemmas.List.Sums.{length-filter, count_by-le-length}
use Rattle.queue.specs.Row.{passing, failing, occ, removed_at}

pub passing-append : (f : ℕ → Bool) (a b : List ℕ) → passing f (a ++ b) ≡ passing f a ++ passing f b
unfolding passing
passing-append f a b = filter-append f a b

pub passing-length : (f : ℕ → Bool) (l : List ℕ) → length (passing f l) ≤ length l
unfolding passing
passing-length f l = rw (length-filter f l) (count_by-le-length f l)

-- one test after another is both at once
pub passing-both : (f g : ℕ → Bool) (l : List ℕ) → passing g (passing f l) ≡ passing (λ (t : ℕ). f t && g t) l
unfolding passing
passing-both f g [] = refl
passing-both f g (t ∷ ts) = by (f t) (passing-both f g ts)
  where
    by :
        (c : Bool) → passing g (passing f ts) ≡ passing (λ (u : ℕ). f u && g u) ts →
        passing g (cond c (t ∷ passing f ts) (passing f ts))
        ≡ cond (c && g t) (t ∷ passing (λ (u : ℕ). f u && g u) ts) (passing (λ (u : ℕ). f u && g u) ts)
    by true e = rw e
    by false e = e

passing-no : (l : List ℕ) → passing (λ (t : ℕ). false) l ≡ []
unfolding passing
passing-no [] = refl
passing-no (t ∷ ts) = passing-no ts

-- how often a number stands in two lists
pub occ-append : (u : ℕ) (a b : List ℕ) → occ u (a ++ b) ≡ occ u a + occ u b
unfolding occ
occ-append u [] b = sym (zero-add (occ u b))
occ-append u (t ∷ ts) b = let e : occ u (ts ++ b) ≡ occ u ts + occ u b = occ-append u ts b in omega arith

-- who stands in a list has a place in it, and who has a place in it stands in it
occ-head : (t : ℕ) (ts : List ℕ) → 0 < occ t (t ∷ ts)
unfolding occ
occ-head t ts = rw (eq-eqb t t refl) (omega arith)

occ-tail : (u t : ℕ) (ts : List ℕ) → 0 < occ u ts → 0 < occ u (t ∷ ts)
unfolding occ
occ-tail u t ts h = omega arith

pub occ-at : (l : List ℕ) (i : ℕ) → i < length l → 0 < occ (get_or l i 0) l
occ-at [] i h = absurd (omega arith)
occ-at (t ∷ ts) zero h = occ-head t ts
occ-at (t ∷ ts) (suc i) h = occ-tail (get_or ts i 0) t ts (occ-at ts i (omega arith))

pub occ-place : (u : ℕ) (l : List ℕ) → 0 < occ u l → (i : ℕ) × ((i < length l) × (get_or l i 0 ≡ u))
unfolding occ
occ-place u [] h = absurd (omega arith)
occ-place u (t ∷ ts) h = by (eqb u t) refl h (occ-place u ts)
  where
    by :
        (c : Bool) → eqb u t ≡ c → 0 < cond c 1 0 + occ u ts →
        (0 < occ u ts → (i : ℕ) × ((i < length ts) × (get_or ts i 0 ≡ u))) →
        (i : ℕ) × ((i < suc (length ts)) × (get_or (t ∷ ts) i 0 ≡ u))
    by true e k rest = (zero, (omega arith, sym (eqb-true u t e)))
    by false e k rest =
        let r : (i : ℕ) × ((i < length ts) × (get_or ts i 0 ≡ u)) = rest (omega arith) in
        (suc r.0, (omega (arith, r.1.0), r.1.1))

-- two tests agree on all that stand in a list
abbrev pub Agree : (ℕ → Bool) → (ℕ → Bool) → List ℕ → Type 0
Agree f g l = (u : ℕ) → 0 < occ u l → f u ≡ g u

-- all that stand in a list fail a test
abbrev pub AllFail : (ℕ → Bool) → List ℕ → Type 0
AllFail f l = Agree f (λ (u : ℕ). false) l

pub agree-tail : (f g : ℕ → Bool) (t : ℕ) (ts : List ℕ) → Agree f g (t ∷ ts) → Agree f g ts
agree-tail f g t ts h u k = h u (occ-tail u t ts k)

pub agree-head : (f g : ℕ → Bool) (t : ℕ) (ts : List ℕ) → Agree f g (t ∷ ts) → f t ≡ g t
agree-head f g t ts h = h t (occ-head t ts)

pub passing-agree : (f g : ℕ → Bool) (l : List ℕ) → Agree f g l → passing f l ≡ passing g l
unfolding passing
passing-agree f g [] h = refl
passing-agree f g (t ∷ ts) h = rw (agree-head f g t ts h, passing-agree f g ts (agree-tail f g t ts h))

-- the part is empty exactly if all fail
pub passing-none : (f : ℕ → Bool) (l : List ℕ) → AllFail f l → passing f l ≡ []
passing-none f l h = passing-agree f (λ (t : ℕ). false) l h ∙ passing-no l

-- a number stands in the part as often as in the list, if it passes
pub occ-passing : (f : ℕ → Bool) (u : ℕ) (l : List ℕ) → occ u (passing f l) ≡ cond (f u) (occ u l) 0
unfolding passing occ
occ-passing f u [] = by (f u)
  where
    by : (c : Bool) → ◌≡◌ {A = ℕ} 0 (cond c 0 0)
    by true = refl
    by false = refl
occ-passing f u (t ∷ ts) = by (f t) (f u) (eqb u t) refl (λ e. ap f (sym (eqb-true u t e))) (occ-passing f u ts)
  where
    by :
        (a b c : Bool) → eqb u t ≡ c → (c ≡ true → a ≡ b) → occ u (passing f ts) ≡ cond b (occ u ts) 0 →
        occ u (cond a (t ∷ passing f ts) (passing f ts)) ≡ cond b (cond c 1 0 + occ u ts) 0
    by true true c e k r = rw (e, r)
    by true false true e k r = absurd (true≢false (k refl))
    by true false false e k r = rw (e, r)
    by false true true e k r = absurd (false≢true (k refl))
    by false true false e k r = r ∙ sym (zero-add (occ u ts))
    by false false c e k r = r

pub none-passing : (f : ℕ → Bool) (l : List ℕ) → passing f l ≡ [] → AllFail f l
unfolding occ
none-passing f l e u h = by (f u) (sym (occ-passing f u l) ∙ ap (occ u) e)
  where
    by : (c : Bool) → cond c (occ u l) 0 ≡ 0 → c ≡ false
    by true k = absurd (omega arith)
    by false k = refl

-- those who fail a test: none of them passes it, and another test does not miss those who pass it
fails_both : (c : Bool) → (not c && c) ≡ false
fails_both true = refl
fails_both false = refl

fails-other : (c d : Bool) → (c ≡ true → d ≡ false) → (not c && d) ≡ d
fails-other true d h = sym (h refl)
fails-other false d h = refl

pub passing-failing : (f : ℕ → Bool) (l : List ℕ) → passing f (failing f l) ≡ []
passing-failing f l =
    passing-both (λ (t : ℕ). not (f t)) f l ∙
    passing-none (λ (t : ℕ). not (f t) && f t) l (λ u h. fails_both (f u))

pub passing-others :
    (f g : ℕ → Bool) (l : List ℕ) → ((u : ℕ) → 0 < occ u l → f u ≡ true → g u ≡ false) →
    passing g (failing f l) ≡ passing g l
passing-others f g l h =
    passing-both (λ (t : ℕ). not (f t)) g l ∙
    passing-agree (λ (t : ℕ). not (f t) && g t) g l (λ u k. fails-other (f u) (g u) (h u k))

-- each number passes or fails
pub passing-split : (f : ℕ → Bool) (l : List ℕ) → length l ≡ length (passing f l) + length (failing f l)
unfolding passing
passing-split f l = sym (length-filter_both f (λ (t : ℕ). not (f t)) (λ t. refl) l)

-- a number stands in a list as often as std counts it there
pub occ-count : (u : ℕ) (l : List ℕ) → count_by (λ (t : ℕ). eqb t u) l ≡ occ u l
unfolding occ
occ-count u l = sym (is_count_by (occ u) (λ (t : ℕ). eqb t u) refl (λ t ts. by t ts (eqb u t) (eqb t u) refl refl) l)
  where
    by :
        (t : ℕ) (ts : List ℕ) (a b : Bool) → eqb u t ≡ a → eqb t u ≡ b →
        cond a 1 0 + occ u ts ≡ cond b (1 + occ u ts) (occ u ts)
    by t ts true true p q = refl
    by t ts false false p q = zero-add (occ u ts)
    by t ts true false p q = absurd (eqb-false t u q (sym (eqb-true u t p)))
    by t ts false true p q = absurd (eqb-false u t p (sym (eqb-true t u q)))

-- the part that is one number is as long as that number stands in the list often
pub occ-length : (u : ℕ) (l : List ℕ) → length (passing (eqb u) l) ≡ occ u l
unfolding passing occ
occ-length u [] = refl
occ-length u (t ∷ ts) = by (eqb u t) (occ-length u ts)
  where
    by : (c : Bool) → length (passing (eqb u) ts) ≡ occ u ts → length (cond c (t ∷ passing (eqb u) ts) (passing (eqb u) ts)) ≡ cond c 1 0 + occ u ts
    by true e = omega arith
    by false e = omega arith

-- a list of numbers below n in which none stands twice is no longer than n: without n - 1 it is one shorter at most
pub no_longer : (n : ℕ) (l : List ℕ) → ((u : ℕ) → 0 < occ u l → u < n) → ((u : ℕ) → occ u l ≤ 1) → length l ≤ n
no_longer zero [] h k = omega arith
no_longer zero (t ∷ ts) h k = absurd (omega (arith, h t (occ-head t ts)))
no_longer (suc n) l h k =
    let r : length (failing (eqb n) l) ≤ n =
    no_longer n (failing (eqb n) l) (λ u. below u (eqb n u) refl (others u)) (λ u. once u (eqb n u) (others u)) in
    omega (arith, passing-split (eqb n) l, occ-length n l, k n)
  where
    others : (u : ℕ) → occ u (failing (eqb n) l) ≡ cond (not (eqb n u)) (occ u l) 0
    others u = occ-passing (λ (t : ℕ). not (eqb n t)) u l

    below : (u : ℕ) (c : Bool) → eqb n u ≡ c → occ u (failing (eqb n) l) ≡ cond (not c) (occ u l) 0 → 0 < occ u (failing (eqb n) l) → u < n
    below u true q e p = absurd (omega arith)
    below u false q e p = apart (eqb-false n u q) (h u (rw e at p))
      where
        apart : (n ≡ u → ⊥) → u < suc n → u < n
        apart d b = omega arith

    once : (u : ℕ) (c : Bool) → occ u (failing (eqb n) l) ≡ cond (not c) (occ u l) 0 → occ u (failing (eqb n) l) ≤ 1
    once u true e = omega arith
    once u false e = omega (arith, k u)

-- a list from which the element at a place is taken
module _ (l : List ℕ) (p : ℕ) (h : p < length l) where
  pub removed-length : length l ≡ suc (length (removed_at p l))
  unfolding removed_at
  removed-length = simp (length-append, length-take, length-drop) (omega arith)

  pub occ-removed : (u : ℕ) → occ u l ≡ occ u (removed_at p l) + cond (eqb u (get_or l p 0)) 1 0
  unfolding removed_at occ
  occ-removed u =
      let e : occ u l ≡ occ u (take p l) + (cond (eqb u (get_or l p 0)) 1 0 + occ u (drop (suc p) l)) =
      ap (occ u) (split_at l p 0 h) ∙ occ-append u (take p l) (get_or l p 0 ∷ drop (suc p) l) in
      rw (occ-append u (take p l) (drop (suc p) l)) (omega arith)

  -- to a test that it fails the element is not missing
  pub passing-removed : (g : ℕ → Bool) → g (get_or l p 0) ≡ false → passing g (removed_at p l) ≡ passing g l
  unfolding removed_at passing
  passing-removed g e =
      let s : passing g l ≡ passing g (take p l) ++ cond (g (get_or l p 0)) (get_or l p 0 ∷ passing g (drop (suc p) l)) (passing g (drop (suc p) l)) =
      ap (passing g) (split_at l p 0 h) ∙ passing-append g (take p l) (get_or l p 0 ∷ drop (suc p) l) in
      passing-append g (take p l) (drop (suc p) l) ∙ sym (rw e at s)
