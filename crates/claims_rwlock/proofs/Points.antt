-- A table of what is known of each thread, f : ℕ → L, that changes at one thread: what stays true of some and of all. Nothing here knows a lock,
-- or how many threads there are. Assumes nothing.
use mathlib.Core.Path.{◌≡◌, sym, subst}
use mathlib.Core.Logic.{◌≢◌}
use mathlib.Core.Bool.{Bool, true}
use Prim.Native.Nat.{ℕ}
use native.Mathlib.Decide.{ℕ_discrete}

module _ {L : Type 0} where
  -- f' is f with v at t
  pub record Update (f f' : ℕ → L) (t : ℕ) (v : L) : Type 0 where
    pub same : f' t ≡ v
    pub other : (u : ℕ) → u ≢ t → f' u ≡ f u

  -- a thread has P, and all have it
  abbrev pub Some : (L → Bool) → (ℕ → L) → Type 0
  Some P f = (u : ℕ) × (P (f u) ≡ true)

  abbrev pub All : (L → Bool) → (ℕ → L) → Type 0
  All P f = (u : ℕ) → P (f u) ≡ true

  -- by cases: is u the thread that changed
  pub at-or-not :
      {f f' : ℕ → L} {t : ℕ} {v : L} → Update f f' t v → (Q : ℕ → L → Type 0) → Q t v → ((u : ℕ) → u ≢ t → Q u (f u)) → (u : ℕ) → Q u (f' u)
  at-or-not {f} {f'} {t} {v} U Q here there u = go (ℕ_discrete u t)
    where
      go : Dec (u ≡ t) → Q u (f' u)
      go (yes e) = subst (λ (x : ℕ). Q x (f' x)) (sym e) (subst (λ (l : L). Q t l) (sym U.same) here)
      go (no d) = subst (λ (l : L). Q u l) (sym (U.other u d)) (there u d)

  pub all-update : (P : L → Bool) {f f' : ℕ → L} {t : ℕ} {v : L} → Update f f' t v → P v ≡ true → All P f → All P f'
  all-update P U pv all = at-or-not U (λ u l. P l ≡ true) pv (λ u d. all u)

  -- a witness stays, unless it is the thread that changed
  pub some-update : (P : L → Bool) {f f' : ℕ → L} {t : ℕ} {v : L} → Update f f' t v → (P (f t) ≡ true → P v ≡ true) → Some P f → Some P f'
  some-update P {f} {f'} {t} {v} U keep (u, h) = go (ℕ_discrete u t)
    where
      go : Dec (u ≡ t) → Some P f'
      go (yes e) = (t, rw U.same (keep (rw e at h)))
      go (no d) = (u, rw (U.other u d) h)

  pub some-now : (P : L → Bool) {f f' : ℕ → L} {t : ℕ} {v : L} → Update f f' t v → P v ≡ true → Some P f'
  some-now P {t = t} U pv = (t, rw U.same pv)
