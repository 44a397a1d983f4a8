-- A step keeps the count of each mutex's holders against its word. Assumes nothing.
use mathlib.Core.Path.{◌≡◌, refl, sym, ap, ◌∙◌}
use mathlib.Core.Logic.{◌≢◌}
use mathlib.Core.Bool.{Bool, true, false, cond}
use mathlib.Core.List.{List}
use Prim.Native.Nat.{ℕ, ◌+◌, ◌≤◌, ◌<◌}
use native.Mathlib.Omega.{arith}
use lib.Dec.{eqb}
use lib.ListN.{length, get_or}
use lib.Seq.{set-get_or}
use borrow.Author.Tests.{eqb-true, eqb-false, eq-eqb, ne_eqb}
use Rattle.words.specs.declared.Hold.{Hold}
use Rattle.words.specs.declared.Hold.TheVariants as H
use Rattle.words.specs.declared.Kind.TheVariants as K
use Rattle.queue.specs.Row.{THREADS}
use Rattle.calls.specs.Objects.{MUTEXES}
use Rattle.world.specs.Holds.{MUTEXHOLDS, mutex_slot, holds_mutex}
use Rattle.step.specs.Step.{locked_after}
use Rattle.sound.specs.Sound.{mutex_holders}
use Rattle.sound.proofs.Ranges.{count_at}
use Rattle.sound.proofs.Holds.{mutex-holders-own, mutex-holders-other}
use Rattle.kept.specs.Laws.{MutexDid, mutex-same, mutex-taken, mutex-freed, held_kind}
use Rattle.keeps_counts.specs.Tables.{locked_new}

-- a change of other holds leaves it as it was
pub locked-same : (locked : List Bool) (t object : ℕ) (hold : Hold) → held_kind hold ≢ K.Mutex → locked_new locked t object hold ≡ locked
unfolding held_kind
locked-same locked t object H.Same n = set-get_or locked (mutex_slot t object) false
locked-same locked t object H.TakeMutex n = absurd (n refl)
locked-same locked t object H.FreeMutex n = absurd (n refl)
locked-same locked t object H.TakeRead n = set-get_or locked (mutex_slot t object) false
locked-same locked t object H.FreeRead n = set-get_or locked (mutex_slot t object) false
locked-same locked t object H.TakeWrite n = set-get_or locked (mutex_slot t object) false
locked-same locked t object H.FreeWrite n = set-get_or locked (mutex_slot t object) false
locked-same locked t object H.Downgrade n = set-get_or locked (mutex_slot t object) false

-- a thread that holds a mutex is one of its holders
pub mutex-part : (locked : List Bool) (m t : ℕ) → t < THREADS → cond (holds_mutex locked m t) 1 0 ≤ mutex_holders locked m
unfolding mutex_holders
mutex-part locked m t h = count_at (holds_mutex locked m) THREADS t h

zero_one : (word new : ℕ) → (word ≡ 0 → new ≡ 0) → (new ≡ 0 → word ≡ 0) → eqb word 0 ≡ eqb new 0
zero_one word new a b = by (eqb word 0) refl
  where
    by : (c : Bool) → eqb word 0 ≡ c → c ≡ eqb new 0
    by true e = sym (eq-eqb new 0 (a (eqb-true word 0 e)))
    by false e = sym (ne_eqb new 0 (λ z. eqb-false word 0 e (b z)))

module _ (locked : List Bool) (t m : ℕ) (shaped : length locked ≡ MUTEXHOLDS) (is-thread : t < THREADS) (is-mutex : m < MUTEXES) where
  taken : (before : ℕ) (c : Bool) → before ≡ 0 → cond c 1 0 ≤ before → (after : ℕ) → after + cond c 1 0 ≡ before + 1 → after ≡ 1
  taken before true z l after e = absurd (omega arith)
  taken before false z l after e = omega arith

  freed : (before : ℕ) (b c : Bool) → before ≡ cond b 0 1 → c ≡ true → (after : ℕ) → after + cond c 1 0 ≡ before + 0 → after ≡ 0
  freed before true c z k after e = let q : ◌≡◌ {A = ℕ} (cond c 1 0) 1 = rw k in omega arith
  freed before false c z k after e = let q : ◌≡◌ {A = ℕ} (cond c 1 0) 1 = rw k in omega arith

  -- the mutex that the step is about
  pub mutex-stepped :
      (hold : Hold) (word new : ℕ) → MutexDid word hold new → (hold ≡ H.FreeMutex → holds_mutex locked m t ≡ true) →
      mutex_holders locked m ≡ cond (eqb word 0) 0 1 → mutex_holders (locked_new locked t m hold) m ≡ cond (eqb new 0) 0 1
  mutex-stepped hold word new (mutex-same a b) h e =
      ap (λ (l : List Bool). mutex_holders l m) (set-get_or locked (mutex_slot t m) false) ∙ (e ∙ ap (λ (c : Bool). cond c 0 1) (zero_one word new a b))
  mutex-stepped hold word new (mutex-taken a n) h e =
      let z : mutex_holders locked m ≡ 0 = e ∙ ap (λ (c : Bool). cond c 0 1) (eq-eqb word 0 a) in
      taken (mutex_holders locked m) (holds_mutex locked m t) z (mutex-part locked m t is-thread)
      (mutex_holders (locked_new locked t m H.TakeMutex) m) (mutex-holders-own locked t m true shaped is-thread is-mutex)
      ∙ ap (λ (c : Bool). cond c 0 1) (sym (ne_eqb new 0 n))
  mutex-stepped hold word new (mutex-freed a) h e =
      freed (mutex_holders locked m) (eqb word 0) (holds_mutex locked m t) e (h refl)
      (mutex_holders (locked_new locked t m H.FreeMutex) m) (mutex-holders-own locked t m false shaped is-thread is-mutex)
      ∙ ap (λ (c : Bool). cond c 0 1) (sym (eq-eqb new 0 a))

  -- another mutex
  pub mutex-elsewhere :
      (hold : Hold) (k : ℕ) → k < MUTEXES → (k ≡ m → ⊥) → mutex_holders (locked_new locked t m hold) k ≡ mutex_holders locked k
  mutex-elsewhere hold k d n =
      mutex-holders-other locked t m (locked_after hold (get_or locked (mutex_slot t m) false)) shaped is-thread is-mutex k d n
