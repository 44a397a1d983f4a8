-- Counting, from the history: a mutex word is 0 exactly when nobody holds it, and never two do; an RwLock's low 30 bits are the reads held,
-- forgotten ones included, exactly when nobody writes, and MASK exactly under its one writer. Assumes nothing.
use mathlib.Core.Path.{◌≡◌, refl, sym, ap, ◌∙◌}
use mathlib.Core.Logic.{inl, inr, ◌≢◌}
use mathlib.Core.Bool.{Bool, true, false, cond}
use mathlib.Core.List.{List}
use Prim.Native.Nat.{ℕ, ◌+◌, ◌≤◌, ◌<◌}
use native.Mathlib.Omega.{arith}
use native.Mathlib.Decide.{ℕ_discrete}
use lib.Dec.{eqb}
use lib.ListN.{get_or}
use borrow.Author.Tests.{eqb-true, eqb-false}
use Rattle.words.specs.Mutex.{UNLOCKED}
use Rattle.queue.specs.Row.{THREADS}
use Rattle.calls.specs.Objects.{MUTEXES, RWLOCKS}
use Rattle.world.specs.Holds.{holds_mutex, holds_write, reads_of}
use Rattle.sound.specs.Ranges.{sum_from, count_from}
use Rattle.sound.specs.Sound.{word_for, mutex_holders, writers, reads_held, sound_world}
use Rattle.sound.proofs.Ranges.{sum-agree, sum-at, sum-two, sum-none, sum-some}
use Rattle.sound.proofs.Readings.{sound-clauses, mutex-agrees, lock-agrees}
use Rattle.sound.specs.Clauses as Rd
use Rattle.sound.specs.Clauses.{Counts}
use Rattle.acts.specs.declared.Fields.{Fields}
use Rattle.acts.specs.Acts.{Sized}
use Rattle.keeps.proofs.Keeps.{acts-sound}
use Rattle.claims.specs.Claims.{What, of-mutex, for-writing, for-reading, Mark, reached, history, held, forgotten_by, holds_by, reads_by, Nobody, Somebody, AtMostOne, mutex_word, low_bits, MutexCounted, LockCounted}
use Rattle.claims.proofs.Tables.{bit, held_in}
use Rattle.claims.proofs.Told.{table-told, forgotten-told}

-- ---- Sums over all threads

module _ (what : What) (object : ℕ) (h : List Mark) where
  pub some_holds : 0 < holds_by what object h → Somebody what object h
  unfolding holds_by
  some_holds k = sum-some (λ (t : ℕ). held what t object h) THREADS k

  -- each thread's holds are no more than all
  hold_at : (t : ℕ) → t < THREADS → held what t object h ≤ holds_by what object h
  unfolding holds_by
  hold_at t k = sum-at (λ (u : ℕ). held what u object h) THREADS t k

  no-holds : Nobody what object h → holds_by what object h ≡ 0
  unfolding holds_by
  no-holds k = sum-none (λ (t : ℕ). held what t object h) THREADS k

  nobody-of : holds_by what object h ≡ 0 → Nobody what object h
  nobody-of e t k = omega (arith, hold_at t k)

  some_more : Somebody what object h → 0 < holds_by what object h
  some_more (t, (k, p)) = omega (arith, hold_at t k)

  two-holds : (t u : ℕ) → t < THREADS → u < THREADS → u ≢ t → held what t object h + held what u object h ≤ holds_by what object h
  unfolding holds_by
  two-holds t u k l d = sum-two (λ (x : ℕ). held what x object h) THREADS t u k l d

  most-one : holds_by what object h ≤ 1 → AtMostOne what object h
  most-one m = record { once = λ t k. omega (arith, hold_at t k); alone = λ t u k l p q. by t u k l p q (ℕ_discrete u t) }
    where
      by :
          (t u : ℕ) → t < THREADS → u < THREADS → 0 < held what t object h → 0 < held what u object h → Dec (u ≡ t) → u ≡ t
      by t u k l p q (yes e) = e
      by t u k l p q (no d) = absurd (omega (arith, two-holds t u k l d))

-- ---- The counts of the tables are the history's

module _ (acts : List Fields) (sized : Sized acts) where
  sound : sound_world (reached acts) ≡ true
  sound = (acts-sound acts sized).0

  mutex-sum : (m : ℕ) → m < MUTEXES → holds_by of-mutex m (history acts) ≡ mutex_holders (reached acts).locked m
  unfolding holds_by mutex_holders count_from held_in holds_mutex sum_from
  mutex-sum m h =
      sum-agree (λ (t : ℕ). bit (holds_mutex (reached acts).locked m t)) (λ (t : ℕ). held of-mutex t m (history acts)) THREADS
      (λ t i. sym (table-told acts sized of-mutex t m i h))

  write-sum : (l : ℕ) → l < RWLOCKS → holds_by for-writing l (history acts) ≡ writers (reached acts).written l
  unfolding holds_by writers count_from held_in holds_write sum_from
  write-sum l h =
      sum-agree (λ (t : ℕ). bit (holds_write (reached acts).written l t)) (λ (t : ℕ). held for-writing t l (history acts)) THREADS
      (λ t i. sym (table-told acts sized for-writing t l i h))

  read-sum : (l : ℕ) → l < RWLOCKS → reads_by l (history acts) ≡ reads_held (reached acts).forgotten (reached acts).reads l
  unfolding holds_by reads_held held_in
  read-sum l h =
      let a : get_or (reached acts).forgotten l 0 ≡ forgotten_by l (history acts) = forgotten-told acts sized l h in
      let b : sum_from (λ (t : ℕ). held for-reading t l (history acts)) THREADS 0 ≡ sum_from (reads_of (reached acts).reads l) THREADS 0 =
      sum-agree (reads_of (reached acts).reads l) (λ (t : ℕ). held for-reading t l (history acts)) THREADS
      (λ t i. sym (table-told acts sized for-reading t l i h)) in
      omega arith

  -- ---- A mutex

  module _ (m : ℕ) (is-mutex : m < MUTEXES) where
    counted : holds_by of-mutex m (history acts) ≡ cond (eqb (mutex_word (reached acts) m) UNLOCKED) 0 1
    unfolding word_for
    counted = mutex-sum m is-mutex ∙ mutex-agrees (reached acts) m (sound-clauses (reached acts) sound).mutexes is-mutex

    -- none holds it where its word is 0, one where it is not
    none-or-one : (c : Bool) → eqb (mutex_word (reached acts) m) UNLOCKED ≡ c → holds_by of-mutex m (history acts) ≡ cond c 0 1
    none-or-one c e = counted ∙ ap (λ (b : Bool). cond b 0 1) e

    pub mutex-counted : MutexCounted (reached acts) m (history acts)
    mutex-counted = by (eqb (mutex_word (reached acts) m) UNLOCKED) refl
      where
        by : (c : Bool) → eqb (mutex_word (reached acts) m) UNLOCKED ≡ c → MutexCounted (reached acts) m (history acts)
        by true e =
            let z : holds_by of-mutex m (history acts) ≡ 0 = none-or-one true e in
            let q : mutex_word (reached acts) m ≡ 0 = eqb-true (mutex_word (reached acts) m) 0 e in
            record {
              free = (λ _. nobody-of of-mutex m (history acts) z, λ _. q);
              locked = (λ n. absurd (n q), λ s. absurd (omega (arith, some_more of-mutex m (history acts) s)));
              holders = most-one of-mutex m (history acts) (omega arith);
            }
        by false e =
            let z : holds_by of-mutex m (history acts) ≡ 1 = none-or-one false e in
            let n : mutex_word (reached acts) m ≢ 0 = eqb-false (mutex_word (reached acts) m) 0 e in
            record {
              free = (λ q. absurd (n q), λ k. absurd (omega (arith, no-holds of-mutex m (history acts) k)));
              locked = (λ _. some_holds of-mutex m (history acts) (omega arith), λ _. n);
              holders = most-one of-mutex m (history acts) (omega arith);
            }

  -- ---- An RwLock

  module _ (l : ℕ) (is-lock : l < RWLOCKS) where
    counts : Counts (low_bits (reached acts) l) (holds_by for-writing l (history acts)) (reads_by l (history acts))
    unfolding word_for
    counts = rw (write-sum l is-lock, read-sum l is-lock) (lock-agrees (reached acts) l (sound-clauses (reached acts) sound).locks is-lock)

    -- no read is held or forgotten
    no_reads : reads_by l (history acts) ≡ 0 → Nobody for-reading l (history acts) × (forgotten_by l (history acts) ≡ 0)
    no_reads e = (nobody-of for-reading l (history acts) (omega arith), omega arith)

    pub lock-counted : LockCounted (reached acts) l (history acts)
    lock-counted = by counts
      where
        by :
            Counts (low_bits (reached acts) l) (holds_by for-writing l (history acts)) (reads_by l (history acts)) →
            LockCounted (reached acts) l (history acts)
        by (Rd.reading z e m) =
            let none : Somebody for-writing l (history acts) → ⊥ = λ s. omega (arith, some_more for-writing l (history acts) s) in
            record {
              either = inl e;
              never_both = λ p q. omega arith;
              reading = (λ _. nobody-of for-writing l (history acts) z, λ _. e);
              few = m;
              writing = (λ q. absurd (omega arith), λ s. absurd (none s));
              writers = most-one for-writing l (history acts) (omega arith);
              writer-alone = λ s. absurd (none s);
              free = (
                λ q. let k = no_reads (omega arith) in
                    record { no-writer = nobody-of for-writing l (history acts) z; no_reader = k.0; none-forgotten = k.1 },
                λ f. omega (arith, f.none-forgotten, no-holds for-reading l (history acts) f.no_reader),
              );
            }
        by (Rd.written z e m) =
            record {
              either = inr e;
              never_both = λ p q. omega arith;
              reading = (λ q. absurd (omega arith), λ k. absurd (omega (arith, no-holds for-writing l (history acts) k)));
              few = omega arith;
              writing = (λ _. some_holds for-writing l (history acts) (omega arith), λ _. e);
              writers = most-one for-writing l (history acts) (omega arith);
              writer-alone = λ _. no_reads m;
              free = (λ q. absurd (omega arith), λ f. absurd (omega (arith, no-holds for-writing l (history acts) f.no-writer)));
            }
