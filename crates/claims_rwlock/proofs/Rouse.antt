-- Sleepers of an RwLock that are woken, any number of them at once, keep R0 to R5. Assumes nothing.
use mathlib.Core.Path.{◌≡◌, refl, sym, ap, ◌∙◌, subst}
use mathlib.Core.Logic.{◌⊎◌, inl, inr, ⊎_map}
use mathlib.Core.Bool.{Bool, true, false}
use Prim.Native.Nat.{ℕ}
use native.Mathlib.Omega.{arith}
use Rattle.kept.proofs.Tests.{no_way}
use Rattle.claims_rwlock.proofs.Codes.{outside, in_write_beside_others, at_write_wait, at_exchange_writers, at_wake_readers, at_subtract, at_read_wait}
use Rattle.claims_rwlock.proofs.Points.{Some}
use Rattle.claims_rwlock.proofs.Moves.{Place, LockView, Invariant, stands, answers_both, answers_readers, answers_writers, about_to_notify, reader_sleeps, writer_sleeps, poised, in_time, up, down, Keeps}

-- a thread is where it was, or a sleeper that now is behind its wait
pub data Woke (l l' : Place) : Type 0 where
  unchanged : l' ≡ l → Woke l l'
  reader : (s : ℕ) → l ≡ down at_read_wait s → l' ≡ up outside s → Woke l l'
  writer : (s : ℕ) → l ≡ down at_write_wait s → l' ≡ up in_write_beside_others s → Woke l l'

-- what is true of a thread and never of a sleeper stays true of it
pub forward :
    (P : Place → Bool) → ((s : ℕ) → P (down at_read_wait s) ≡ false) → ((s : ℕ) → P (down at_write_wait s) ≡ false) → (l l' : Place) → Woke l l' →
    P l ≡ true → P l' ≡ true
forward P a b l l' (unchanged e) h = ap P e ∙ h
forward P a b l l' (reader s o e) h = no_way (sym (a s) ∙ sym (ap P o) ∙ h)
forward P a b l l' (writer s o e) h = no_way (sym (b s) ∙ sym (ap P o) ∙ h)

-- what is true of a thread and never of one just woken was true of it before
pub back :
    (Q : Place → Bool) → ((s : ℕ) → Q (up outside s) ≡ false) → ((s : ℕ) → Q (up in_write_beside_others s) ≡ false) → (l l' : Place) → Woke l l' →
    Q l' ≡ true → Q l ≡ true
back Q a b l l' (unchanged e) h = sym (ap Q e) ∙ h
back Q a b l l' (reader s o e) h = no_way (sym (a s) ∙ sym (ap Q e) ∙ h)
back Q a b l l' (writer s o e) h = no_way (sym (b s) ∙ sym (ap Q e) ∙ h)

time : (n : ℕ) (l l' : Place) → Woke l l' → in_time n l ≡ true → in_time n l' ≡ true
unfolding in_time
time n l l' (unchanged e) h = ap (in_time n) e ∙ h
time n l l' (reader s o e) h = ap (in_time n) e ∙ sym (ap (in_time n) o) ∙ h
time n l l' (writer s o e) h = ap (in_time n) e ∙ sym (ap (in_time n) o) ∙ h

module _ (X X' : LockView) (K : Keeps X X') (each : (u : ℕ) → Woke (X.of u) (X'.of u)) where
  some :
      (P : Place → Bool) → ((s : ℕ) → P (down at_read_wait s) ≡ false) → ((s : ℕ) → P (down at_write_wait s) ≡ false) → Some P X.of → Some P X'.of
  some P a b (u, h) = (u, forward P a b (X.of u) (X'.of u) (each u) h)

  or_some :
      {A A' : Type 0} (P : Place → Bool) → ((s : ℕ) → P (down at_read_wait s) ≡ false) → ((s : ℕ) → P (down at_write_wait s) ≡ false) → (A → A') →
      A ⊎ Some P X.of → A' ⊎ Some P X'.of
  or_some P a b f = ⊎_map f (some P a b)

  pub roused : {Few : Type 0} → Invariant Few X → Invariant Few X'
  unfolding stands answers_both answers_readers answers_writers about_to_notify reader_sleeps writer_sleeps poised
  roused I = record {
    r0 =
        λ t h. let (a, b) = I.r0 t (back (stands at_subtract) (λ _. refl) (λ _. refl) (X.of t) (X'.of t) (each t) h) in
        (K.readers-are ∙ a, K.count-is ∙ b);
    r1 =
        λ s h. or_some (stands at_wake_readers) (λ _. refl) (λ _. refl) (λ e. K.readers-are ∙ e)
        (I.r1 s (back reader_sleeps (λ _. refl) (λ _. refl) (X.of s) (X'.of s) (each s) h));
    r2 = λ a b c. two (I.r2 (omega (arith, K.count-is)) (omega (arith, K.count-is)) (sym K.readers-are ∙ c));
    r3w =
        λ a b c. some (stands at_exchange_writers) (λ _. refl) (λ _. refl)
        (I.r3w (sym K.count-is ∙ a) (sym K.readers-are ∙ b) (sym K.writers-are ∙ c));
    r3b = λ a b c. some answers_both (λ _. refl) (λ _. refl) (I.r3b (sym K.count-is ∙ a) (sym K.readers-are ∙ b) (sym K.writers-are ∙ c));
    r3r =
        λ few a b c. subst (λ (n : ℕ). Some (answers_readers n) X'.of) (sym K.adds-is)
        (some (answers_readers X.adds) (λ _. refl) (λ _. refl)
        (I.r3r few (sym K.count-is ∙ a) (sym K.readers-are ∙ b) (sym K.writers-are ∙ c)));
    r4 =
        λ few t h. or_some about_to_notify (λ _. refl) (λ _. refl) (λ e. K.writers-are ∙ e)
        (I.r4 few t
        (back (poised X.adds) (λ _. refl) (λ _. refl) (X.of t) (X'.of t) (each t)
        (subst (λ (n : ℕ). poised n (X'.of t) ≡ true) K.adds-is h)));
    r5 =
        λ few s h. or_some answers_writers (λ _. refl) (λ _. refl) (λ e. K.writers-are ∙ e)
        (I.r5 few s (back writer_sleeps (λ _. refl) (λ _. refl) (X.of s) (X'.of s) (each s) h));
    times = λ u. subst (λ (n : ℕ). in_time n (X'.of u) ≡ true) (sym K.adds-is) (time X.adds (X.of u) (X'.of u) (each u) (I.times u));
  }
    where
      two :
          (X.writers ≡ 1) ⊎ ((X.count ≡ 1) × Some (stands at_subtract) X.of) →
          (X'.writers ≡ 1) ⊎ ((X'.count ≡ 1) × Some (stands at_subtract) X'.of)
      two (inl e) = inl (K.writers-are ∙ e)
      two (inr (a, s)) = inr (K.count-is ∙ a, some (stands at_subtract) (λ _. refl) (λ _. refl) s)
