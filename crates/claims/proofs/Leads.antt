-- A part of a history leads from one count of a hold to another, and nothing in it ends that is not held then. Assumes nothing.
use mathlib.Core.Path.{◌≡◌, refl, ap, ◌∙◌, subst}
use mathlib.Core.Bool.{true, false}
use mathlib.Core.List.{List, [], ◌∷◌, ◌++◌}
use Prim.Native.Nat.{ℕ, zero, suc, ◌+◌, ◌≤◌, ◌<◌}
use native.Mathlib.Omega.{arith}
use lib.ListN.{length, take}
use borrow.Author.Tests.{eq-eqb}
use Rattle.claims.specs.Claims.{What, of-mutex, for-writing, for-reading, Mark, begins, ends, forgets, same_hold, begun, ended, held}

pub data Leads (what : What) (t object : ℕ) : ℕ → List Mark → ℕ → Type 0 where
  at-end : {n m : ℕ} → m ≡ n → Leads what t object n [] m
  it-begins :
      {n m l : ℕ} {kind : What} {u number : ℕ} {h : List Mark} → same_hold what t object kind u number ≡ true → l ≡ n + 1 →
      Leads what t object l h m → Leads what t object n (begins kind u number ∷ h) m
  it-ends :
      {n m l : ℕ} {kind : What} {u number : ℕ} {h : List Mark} → same_hold what t object kind u number ≡ true → n ≡ l + 1 →
      Leads what t object l h m → Leads what t object n (ends kind u number ∷ h) m
  other-begins :
      {n m : ℕ} {kind : What} {u number : ℕ} {h : List Mark} → same_hold what t object kind u number ≡ false →
      Leads what t object n h m → Leads what t object n (begins kind u number ∷ h) m
  other-ends :
      {n m : ℕ} {kind : What} {u number : ℕ} {h : List Mark} → same_hold what t object kind u number ≡ false →
      Leads what t object n h m → Leads what t object n (ends kind u number ∷ h) m
  one-forgets : {n m lock value : ℕ} {h : List Mark} → Leads what t object n h m → Leads what t object n (forgets lock value ∷ h) m

module _ (what : What) (t object : ℕ) where
  -- one part behind another
  pub leads-on :
      (n m l : ℕ) (g h : List Mark) → Leads what t object n g m → Leads what t object m h l → Leads what t object n (g ++ h) l
  leads-on n m l g h (at-end e) r = subst (λ (x : ℕ). Leads what t object x h l) e r
  leads-on n m l g h (it-begins {l = k} {h = rest} s e d) r = it-begins s e (leads-on k m l rest h d r)
  leads-on n m l g h (it-ends {l = k} {h = rest} s e d) r = it-ends s e (leads-on k m l rest h d r)
  leads-on n m l g h (other-begins {h = rest} s d) r = other-begins s (leads-on n m l rest h d r)
  leads-on n m l g h (other-ends {h = rest} s d) r = other-ends s (leads-on n m l rest h d r)
  leads-on n m l g h (one-forgets {h = rest} d) r = one-forgets (leads-on n m l rest h d r)

  -- the counts: what was there and what began is what ended and what is left
  pub leads-counts : (n m : ℕ) (h : List Mark) → Leads what t object n h m → n + begun what t object h ≡ ended what t object h + m
  unfolding begun ended
  leads-counts n m h (at-end e) = omega arith
  leads-counts n m h (it-begins {l = k} {h = rest} s e d) = rw s (omega (arith, leads-counts k m rest d))
  leads-counts n m h (it-ends {l = k} {h = rest} s e d) = rw s (omega (arith, leads-counts k m rest d))
  leads-counts n m h (other-begins {h = rest} s d) = rw s (omega (arith, leads-counts n m rest d))
  leads-counts n m h (other-ends {h = rest} s d) = rw s (omega (arith, leads-counts n m rest d))
  leads-counts n m h (one-forgets {h = rest} d) = leads-counts n m rest d

  -- nothing ends that had not begun, in every first part of it
  pub leads-below : (n m : ℕ) (h : List Mark) → Leads what t object n h m → (i : ℕ) → ended what t object (take i h) ≤ n + begun what t object (take i h)
  unfolding begun ended
  leads-below n m h d zero = omega arith
  leads-below n m h (at-end e) (suc i) = omega arith
  leads-below n m h (it-begins {l = k} {h = rest} s e d) (suc i) = rw s (omega (arith, leads-below k m rest d i))
  leads-below n m h (it-ends {l = k} {h = rest} s e d) (suc i) = rw s (omega (arith, leads-below k m rest d i))
  leads-below n m h (other-begins {h = rest} s d) (suc i) = rw s (omega (arith, leads-below n m rest d i))
  leads-below n m h (other-ends {h = rest} s d) (suc i) = rw s (omega (arith, leads-below n m rest d i))
  leads-below n m h (one-forgets {h = rest} d) (suc i) = leads-below n m rest d i

  -- from nothing: how often it is held
  pub leads-held : (m : ℕ) (h : List Mark) → Leads what t object 0 h m → held what t object h ≡ m
  unfolding held
  leads-held m h d = omega (arith, leads-counts 0 m h d)

-- an end in it is of a hold that is held then
same_self : (what : What) (t object : ℕ) → same_hold what t object what t object ≡ true
same_self of-mutex t object = rw (eq-eqb t t refl, eq-eqb object object refl)
same_self for-writing t object = rw (eq-eqb t t refl, eq-eqb object object refl)
same_self for-reading t object = rw (eq-eqb t t refl, eq-eqb object object refl)

take-to : (g h : List Mark) (x : Mark) → take (suc (length g)) (g ++ (x ∷ h)) ≡ g ++ (x ∷ [])
take-to [] h x = refl
take-to (y ∷ g) h x = ap (λ (l : List Mark). y ∷ l) (take-to g h x)

module _ (what : What) (t object : ℕ) where
  pub begun-append : (g h : List Mark) → begun what t object (g ++ h) ≡ begun what t object g + begun what t object h
  unfolding begun
  begun-append [] h = omega arith
  begun-append (begins kind u number ∷ g) h = omega (arith, begun-append g h)
  begun-append (ends kind u number ∷ g) h = begun-append g h
  begun-append (forgets lock value ∷ g) h = begun-append g h

  pub ended-append : (g h : List Mark) → ended what t object (g ++ h) ≡ ended what t object g + ended what t object h
  unfolding ended
  ended-append [] h = omega arith
  ended-append (begins kind u number ∷ g) h = ended-append g h
  ended-append (ends kind u number ∷ g) h = omega (arith, ended-append g h)
  ended-append (forgets lock value ∷ g) h = ended-append g h

  one_end : ended what t object (ends what t object ∷ []) ≡ 1
  unfolding ended
  one_end = rw (same_self what t object)

  no-begin : begun what t object (ends what t object ∷ []) ≡ 0
  unfolding begun
  no-begin = refl

  pub leads-end :
      (n m : ℕ) (g h : List Mark) → Leads what t object n (g ++ (ends what t object ∷ h)) m → ended what t object g < n + begun what t object g
  leads-end n m g h d =
      let l : ended what t object (take (suc (length g)) (g ++ (ends what t object ∷ h)))
      ≤ n + begun what t object (take (suc (length g)) (g ++ (ends what t object ∷ h))) =
      leads-below what t object n m (g ++ (ends what t object ∷ h)) d (suc (length g)) in
      let a : ended what t object (take (suc (length g)) (g ++ (ends what t object ∷ h))) ≡ ended what t object g + ended what t object (ends what t object ∷ []) =
      ap (ended what t object) (take-to g h (ends what t object)) ∙ ended-append g (ends what t object ∷ []) in
      let b : begun what t object (take (suc (length g)) (g ++ (ends what t object ∷ h))) ≡ begun what t object g + begun what t object (ends what t object ∷ []) =
      ap (begun what t object) (take-to g h (ends what t object)) ∙ begun-append g (ends what t object ∷ []) in
      omega (arith, one_end, no-begin)
