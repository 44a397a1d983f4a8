-- What each operation on an RwLock's state does to its count and to its width, and which states lead where. Assumes nothing.
use mathlib.Core.Path.{◌≡◌, refl, ◌∙◌}
use mathlib.Core.Bool.{Bool, true, false, cond, not, ◌&&◌}
use Prim.Native.Nat.{ℕ, zero, suc, ◌+◌, ◌-◌, ◌^◌, ◌≤◌, ◌<◌}
use native.Mathlib.Omega.{arith}
use lib.Dec.{eqb}
use borrow.Author.Tests.{eqb-true, eqb-false, ltb-true}
use Rattle.words.specs.Atomic.{wrapping_add, wrapping_sub}
use Rattle.words.specs.RwLock.{MASK, MAX_READERS, WRITE_LOCKED, READERS_WAITING, WRITERS_WAITING, count, readers_waiting, writers_waiting, is_unlocked, is_write_locked, has_readers_waiting, has_writers_waiting, is_read_lockable, is_read_lockable_after_wakeup, has_reached_max_readers, read_locked, read_unlocked, write_locked, write_unlocked, downgraded, with_write_locked, with_readers_waiting, without_readers_waiting, with_writers_waiting}
use Rattle.words.proofs.Readings.{Reads, made, count-le, readers-le, writers-le, word-is, re_read, read-locked, read-unlocked, write-locked, write-unlocked, downgrade, without-readers, without-readers-borrows, with-write-locked, with-readers, with-writers}
use Rattle.rwlock.specs.RwLock.{may_read, write_locked_with}
use Rattle.rwlock.specs.Positions.{must_wait, read_waits}
use Rattle.kept.proofs.Tests.{and_left, and_right, or_cases}

-- sums and differences wrap, so they have 32 bits
pub added-wide : (word n : ℕ) → wrapping_add word n < 2 ^ 32
unfolding wrapping_add
added-wide word n = omega arith

pub subtracted-wide : (word n : ℕ) → wrapping_sub word n < 2 ^ 32
unfolding wrapping_sub
subtracted-wide word n = omega arith

-- a state as it is read
reads : (state : ℕ) → Reads state (count state) (readers_waiting state) (writers_waiting state)
reads state = record { count-is = refl; readers-are = refl; writers-are = refl }

module _ (s : ℕ) (h : s < 2 ^ 32) where
  pub read-locked-count : count s < MAX_READERS → count (read_locked s) ≡ count s + 1
  read-locked-count k = (read-locked s _ _ _ (word-is s h) (count-le s) (readers-le s) (writers-le s) (omega arith)).count-is

  pub read-unlocked-count : 0 < count s → count s ≡ count (read_unlocked s) + 1
  read-unlocked-count k =
      let e : count (read_unlocked s) ≡ count s - 1 = (read-unlocked s _ _ _ (word-is s h) (count-le s) (readers-le s) (writers-le s) k).count-is in
      omega arith

  pub write-locked-count : count s ≡ 0 → count (write_locked s) ≡ MASK
  write-locked-count k = (write-locked s _ _ _ (word-is s h) (count-le s) (readers-le s) (writers-le s) k).count-is

  pub write-unlocked-count : count s ≡ MASK → count (write_unlocked s) ≡ 0
  write-unlocked-count k = (write-unlocked s _ _ _ (word-is s h) (count-le s) (readers-le s) (writers-le s) k).count-is

  pub downgraded-count : count s ≡ MASK → count (downgraded s) ≡ 1
  downgraded-count k = (downgrade s _ _ _ (word-is s h) (count-le s) (readers-le s) (writers-le s) k).count-is

  -- whether or not the flag was set
  pub without-readers-count : count (without_readers_waiting s) ≡ count s
  without-readers-count = by (readers_waiting s) refl (readers-le s)
    where
      by : (r : ℕ) → readers_waiting s ≡ r → r ≤ 1 → count (without_readers_waiting s) ≡ count s
      by zero e l = (without-readers-borrows s _ _ _ (word-is s h) (count-le s) (readers-le s) (writers-le s) e).count-is
      by (suc zero) e l = (without-readers s _ _ _ (word-is s h) (count-le s) (readers-le s) (writers-le s) e).count-is
      by (suc (suc r)) e l = absurd (omega arith)

  pub with-readers-reads : Reads (with_readers_waiting s) (count s) 1 (writers_waiting s)
  with-readers-reads = with-readers s _ _ _ (word-is s h) (count-le s) (readers-le s) (writers-le s) (reads s)

  pub with-writers-count : count (with_writers_waiting s) ≡ count s
  with-writers-count = (with-writers s _ _ _ (word-is s h) (count-le s) (readers-le s) (writers-le s) (reads s)).count-is

  written : with_write_locked s ≡ made MASK (readers_waiting s) (writers_waiting s)
  unfolding with_write_locked
  written = omega (arith, word-is s h)

  written-reads : Reads (with_write_locked s) MASK (readers_waiting s) (writers_waiting s)
  written-reads = with-write-locked s _ _ _ (word-is s h) (count-le s) (readers-le s) (writers-le s) (reads s)

  -- the flag fits where it was clear
  pub with-readers-wide : with_readers_waiting s < 2 ^ 32
  unfolding with_readers_waiting has_readers_waiting
  with-readers-wide = by (eqb (readers_waiting s) 1) refl
    where
      by : (b : Bool) → eqb (readers_waiting s) 1 ≡ b → cond b s (s + READERS_WAITING) < 2 ^ 32
      by true e = h
      by false e =
          let k : (readers_waiting s ≡ 1 → ⊥) = eqb-false (readers_waiting s) 1 e in
          omega (arith, word-is s h, count-le s, readers-le s, writers-le s)

  pub with-writers-wide : with_writers_waiting s < 2 ^ 32
  unfolding with_writers_waiting has_writers_waiting
  with-writers-wide = by (eqb (writers_waiting s) 1) refl
    where
      by : (b : Bool) → eqb (writers_waiting s) 1 ≡ b → cond b s (s + WRITERS_WAITING) < 2 ^ 32
      by true e = h
      by false e =
          let k : (writers_waiting s ≡ 1 → ⊥) = eqb-false (writers_waiting s) 1 e in
          omega (arith, word-is s h, count-le s, readers-le s, writers-le s)

  pub with-write-locked-wide : with_write_locked s < 2 ^ 32
  with-write-locked-wide = omega (arith, written, readers-le s, writers-le s)

-- state | WRITE_LOCKED | other_writers_waiting
pub write-locked-with-count : (others : Bool) (s : ℕ) → s < 2 ^ 32 → count (write_locked_with others s) ≡ MASK
unfolding write_locked_with
write-locked-with-count true s h = with-writers-count (with_write_locked s) (with-write-locked-wide s h) ∙ (written-reads s h).count-is
write-locked-with-count false s h = (written-reads s h).count-is

pub write-locked-with-wide : (others : Bool) (s : ℕ) → s < 2 ^ 32 → write_locked_with others s < 2 ^ 32
unfolding write_locked_with
write-locked-with-wide true s h = with-writers-wide (with_write_locked s) (with-write-locked-wide s h)
write-locked-with-wide false s h = with-write-locked-wide s h

-- the states that the exchanges of a wake name have the count 0; a writer's first exchange stores MASK
pub free-count : count 0 ≡ 0
free-count = (re_read 0 0 0 0 refl (omega arith) (omega arith) (omega arith)).count-is

pub readers-count : count READERS_WAITING ≡ 0
readers-count = (re_read READERS_WAITING 0 1 0 refl (omega arith) (omega arith) (omega arith)).count-is

pub writers-count : count WRITERS_WAITING ≡ 0
writers-count = (re_read WRITERS_WAITING 0 0 1 refl (omega arith) (omega arith) (omega arith)).count-is

pub both-count : count (READERS_WAITING + WRITERS_WAITING) ≡ 0
both-count = (re_read (READERS_WAITING + WRITERS_WAITING) 0 1 1 refl (omega arith) (omega arith) (omega arith)).count-is

pub write-count : count WRITE_LOCKED ≡ MASK
write-count = (re_read WRITE_LOCKED MASK 0 0 refl (omega arith) (omega arith) (omega arith)).count-is

-- the tests
pub lockable-count : (s : ℕ) → is_read_lockable s ≡ true → count s < MAX_READERS
unfolding is_read_lockable
lockable-count s e =
    ltb-true (count s) MAX_READERS
    (and_left _ (not (has_readers_waiting s)) (and_left _ (not (has_writers_waiting s)) e))

pub may-read-count : (slept : Bool) (s : ℕ) → may_read slept s ≡ true → count s < MAX_READERS
unfolding may_read is_read_lockable_after_wakeup
may-read-count slept s e =
    or_cases (slept && is_read_lockable_after_wakeup s) (is_read_lockable s) (count s < MAX_READERS) e
    (λ k. ltb-true (count s) MAX_READERS
    (and_left _ (not (has_readers_waiting s))
    (and_left _ (not (is_write_locked s))
    (and_left _ (not (is_unlocked s)) (and_right slept (is_read_lockable_after_wakeup s) k)))))
    (lockable-count s)

pub unlocked-count : (s : ℕ) → is_unlocked s ≡ true → count s ≡ 0
unfolding is_unlocked
unlocked-count s e = eqb-true (count s) 0 e

-- a reader that sets the flag waits on a state that may be waited on
pub set-waiting-passes : (slept : Bool) (s : ℕ) → s < 2 ^ 32 → must_wait slept s ≡ true → read_waits (with_readers_waiting s) ≡ true
unfolding must_wait read_waits has_readers_waiting has_reached_max_readers
set-waiting-passes slept s h e =
    simp ((with-readers-reads s h).readers-are, (with-readers-reads s h).count-is)
    (and_right (not (may_read slept s)) (not (has_reached_max_readers s)) (and_left _ (not (has_readers_waiting s)) e))
