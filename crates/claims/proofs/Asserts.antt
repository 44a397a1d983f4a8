-- In a sound world no assert of the sources fails and no plain sum or difference of theirs wraps, given two facts of the worlds reached: the
-- flags at a thread that is about to free a read hold, and that the values carried to the exchanges have 32 bits. Assumes nothing.
use mathlib.Core.Path.{◌≡◌, refl, subst}
use mathlib.Core.Bool.{Bool, true, false, not, ◌&&◌, ◌||◌, and-false, or-true}
use Prim.Native.Nat.{ℕ, ◌+◌, ◌-◌, ◌%◌, ◌^◌, ◌≤◌, ◌<◌}
use native.Mathlib.Omega.{arith}
use lib.Dec.{eqb, ltb}
use borrow.Author.Tests.{eqb-true, eqb-false, eq-eqb, ltb-true, lt-ltb, le-leb}
use Rattle.words.specs.Once.{INCOMPLETE, POISONED, RUNNING, COMPLETE, QUEUED, state_of}
use Rattle.words.specs.RwLock.{READ_LOCKED, WRITE_LOCKED, MASK, MAX_READERS, count, readers_waiting, writers_waiting, is_unlocked, is_write_locked, has_readers_waiting, has_writers_waiting, read_unlocked, write_unlocked}
use Rattle.words.specs.declared.Kind.TheVariants as K
use Rattle.words.specs.declared.Needs.TheVariants as N
use Rattle.words.proofs.Readings.{Reads, word-is, count-le, readers-le, writers-le, read-unlocked}
use Rattle.rwlock.specs.declared.ReadAt.{ReadAt}
use Rattle.rwlock.specs.declared.ReadAt.TheVariants as R
use Rattle.rwlock.specs.declared.TryAt.{TryAt}
use Rattle.rwlock.specs.declared.TryAt.TheVariants as T
use Rattle.rwlock.specs.declared.DowngradeAt.TheVariants as D
use Rattle.rwlock.specs.declared.RwLockAt.{RwLockAt}
use Rattle.rwlock.specs.declared.RwLockAt.TheVariants as X
use Rattle.rwlock.specs.Positions as RwP
use Rattle.once.specs.declared.CallAt.TheVariants as Ca
use Rattle.once.specs.declared.WaitAt.TheVariants as Ow
use Rattle.once.specs.declared.OnceAt.TheVariants as O
use Rattle.once.specs.Once as On
use Rattle.queue.specs.Row.{THREADS}
use Rattle.calls.specs.declared.At.{At}
use Rattle.calls.specs.declared.At.TheVariants as A
use Rattle.calls.specs.Objects.{RWLOCKS, word_of}
use Rattle.calls.specs.Positions.{operand_of, passed_of, need_of, exists}
use Rattle.calls.proofs.Objects.{word-there}
use Rattle.world.specs.declared.World.{World}
use Rattle.world.specs.World.{thread_at, word_at}
use Rattle.world.specs.Holds.{holds_write, reads_of, is_held, has_hold}
use Rattle.sound.specs.Sound.{word_for, writers, reads_held, sound_world}
use Rattle.sound.proofs.Readings.{sound-clauses, need-held, lock-agrees}
use Rattle.sound.specs.Clauses as Rd
use Rattle.sound.proofs.Holds.{reads-part}
use Rattle.sound.specs.Clauses.{Counts}
use Rattle.kept.specs.Shape.{Shaped}
use Rattle.kept.proofs.RwLockWords.{write-unlocked-count, lockable-count, may-read-count, unlocked-count}
use Rattle.kept.proofs.OnceValues.{queues-small}
use Rattle.keeps_records.proofs.Names.{each-exists, each-passed}
use Rattle.keeps_counts.proofs.Locks.{write-part}
use Rattle.local.proofs.Frame.{word-thread}
use Rattle.claims.specs.Claims.{implies, read_unlock_holds, write_unlock_holds, downgrade_holds, fits, read_holds, try_holds, rwlock_holds, other_arm, running_else, queued_fits, call_holds, once_wait_holds, once_holds, asserts_hold, NoAssertFails}

-- the value that the next exchange of read, try_read or try_write carries; 0 where there is none
unfoldable pub read_seen : ReadAt → ℕ
read_seen R.Load = 0
read_seen (R.Exchange seen) = seen
read_seen (R.Spin slept left) = 0
read_seen (R.ExchangeContended slept seen) = seen
read_seen (R.SetWaiting slept seen) = 0
read_seen (R.Wait seen) = 0

unfoldable pub try_seen : TryAt → ℕ
try_seen T.Load = 0
try_seen (T.Exchange seen) = seen

unfoldable pub lock_seen : RwLockAt → ℕ
lock_seen (X.Read p) = read_seen p
lock_seen (X.TryRead p) = try_seen p
lock_seen X.ReadUnlock = 0
lock_seen (X.Write p) = 0
lock_seen (X.TryWrite p) = try_seen p
lock_seen X.WriteUnlock = 0
lock_seen (X.Wake writer p) = 0
lock_seen (X.Downgrade p) = 0

unfoldable pub seen_at : At → ℕ
seen_at A.Idle = 0
seen_at (A.Mutex mutex p) = 0
seen_at (A.RwLock lock p) = lock_seen p
seen_at (A.Condvar condvar p) = 0
seen_at (A.Once once p) = 0
seen_at (A.Parker p) = 0

-- .. has 32 bits, which the tests that it has passed do not say
abbrev pub Narrow : At → Type 0
Narrow at = seen_at at < 2 ^ 32

-- an RwLock's state, by its readings
module _ (state : ℕ) (wide : state < 2 ^ 32) where
  -- read_unlock's asserts: the difference keeps the flags, and the last one's test stands before it
  read-unlock-holds : 0 < count state → (readers_waiting state ≡ 1 → writers_waiting state ≡ 1) → read_unlock_holds state ≡ true
  unfolding read_unlock_holds has_readers_waiting has_writers_waiting
  read-unlock-holds some flags =
      rw (le-leb READ_LOCKED state (omega (arith, word-is state wide)), kept (eqb (readers_waiting state) 1) refl)
      (unlocked (is_unlocked (read_unlocked state)) (has_writers_waiting (read_unlocked state)))
    where
      after : Reads (read_unlocked state) (count state - 1) (readers_waiting state) (writers_waiting state)
      after = read-unlocked state _ _ _ (word-is state wide) (count-le state) (readers-le state) (writers-le state) some

      kept :
          (b : Bool) → eqb (readers_waiting state) 1 ≡ b →
          implies (eqb (readers_waiting (read_unlocked state)) 1) (eqb (writers_waiting (read_unlocked state)) 1) ≡ true
      kept true e = rw (after.readers-are, after.writers-are, e) (eq-eqb (writers_waiting state) 1 (flags (eqb-true (readers_waiting state) 1 e)))
      kept false e = rw (after.readers-are, e)

      unlocked : (a b : Bool) → implies (a && b) a ≡ true
      unlocked true true = refl
      unlocked true false = refl
      unlocked false b = refl

  -- write_unlock's: the count is MASK, so it is 0 behind the difference
  write-unlock-holds : count state ≡ MASK → write_unlock_holds state ≡ true
  unfolding write_unlock_holds is_unlocked
  write-unlock-holds full =
      rw (le-leb WRITE_LOCKED state (omega (arith, word-is state wide)), eq-eqb (count (write_unlocked state)) 0 (write-unlocked-count state wide full))
      (or-true (not (has_writers_waiting (write_unlocked state) || has_readers_waiting (write_unlocked state))))

  -- the sums: below MAX_READERS there is room for one more, and above the count of 0 for MASK
  read_fits : count state < MAX_READERS → fits state READ_LOCKED ≡ true
  unfolding fits
  read_fits few = lt-ltb (state + READ_LOCKED) (2 ^ 32) (omega (arith, word-is state wide, readers-le state, writers-le state))

  write-fits : count state ≡ 0 → fits state WRITE_LOCKED ≡ true
  unfolding fits
  write-fits none = lt-ltb (state + WRITE_LOCKED) (2 ^ 32) (omega (arith, word-is state wide, readers-le state, writers-le state))

-- call's assert holds of any value: modulo 4, and none of the three others
running-else : (ignores : Bool) (seen : ℕ) → running_else ignores seen ≡ true
unfolding running_else other_arm state_of
running-else ignores seen = by (eqb (seen % 4) COMPLETE) (eqb (seen % 4) INCOMPLETE) (eqb (seen % 4) POISONED) refl refl refl
  where
    by :
        (a b c : Bool) → eqb (seen % 4) COMPLETE ≡ a → eqb (seen % 4) INCOMPLETE ≡ b → eqb (seen % 4) POISONED ≡ c →
        implies (not a && (not (c && not ignores) && not (b || c))) (eqb (seen % 4) RUNNING) ≡ true
    by true b c x y z = refl
    by false true true x y z = rw (and-false (not (true && not ignores)))
    by false true false x y z = refl
    by false false true x y z = rw (and-false (not (true && not ignores)))
    by false false false x y z =
        let p : (seen % 4 ≡ 0 → ⊥) = eqb-false (seen % 4) 0 x in
        let q : (seen % 4 ≡ 3 → ⊥) = eqb-false (seen % 4) 3 y in
        let r : (seen % 4 ≡ 2 → ⊥) = eqb-false (seen % 4) 2 z in
        eq-eqb (seen % 4) RUNNING (omega arith)

-- a Once's value has room for QUEUED
queued-fits : (seen : ℕ) → seen ≤ 7 → queued_fits seen ≡ true
unfolding queued_fits
queued-fits seen small = lt-ltb (seen + QUEUED) 256 (omega arith)

-- by the clause on counts: under a writer the low 30 bits are MASK, and under a reader they are not 0
under-writer : (low writing reads : ℕ) → Counts low writing reads → 0 < writing → low ≡ MASK
under-writer low writing reads (Rd.reading z e l) h = absurd (omega arith)
under-writer low writing reads (Rd.written z e l) h = e

under-reader : (low writing reads : ℕ) → Counts low writing reads → 0 < reads → 0 < low
under-reader low writing reads (Rd.reading z e l) h = omega arith
under-reader low writing reads (Rd.written z e l) h = absurd (omega arith)

module _ (w : World) (sound : sound_world w ≡ true) (shaped : Shaped w) (t : ℕ) where
  -- a thread on the state of an RwLock: the lock exists, and so does the thread
  module _ (l : ℕ) (p : RwLockAt) (stands : (thread_at w t).at ≡ A.RwLock l p) (on-state : RwP.operand_of p ≡ K.RwLock) where
    is-lock : l < RWLOCKS
    unfolding exists
    is-lock = ltb-true l RWLOCKS (subst (λ (at : At). exists at ≡ true) stands (each-exists w sound shaped t))

    is-thread : t < THREADS
    unfolding operand_of
    is-thread = word-thread w t shaped (rw (stands, on-state) (word-there K.RwLock l is-lock))

    counts : Counts (count (word_at w (word_of K.RwLock l))) (writers w.written l) (reads_held w.forgotten w.reads l)
    unfolding word_for
    counts = lock-agrees w l (sound-clauses w sound).locks is-lock

    has : has_hold w.locked w.written w.reads t (record { hold = RwP.needs_of p; object = l }) ≡ true
    unfolding need_of
    has =
        subst (λ (at : At). has_hold w.locked w.written w.reads t (need_of at) ≡ true) stands
        (need-held w t (sound-clauses w sound).needs is-thread)

    writer-low : RwP.needs_of p ≡ N.Write → count (word_at w (word_of K.RwLock l)) ≡ MASK
    unfolding has_hold is_held
    writer-low n =
        let writes : holds_write w.written l t ≡ true = rw n at has in
        let part = write-part w.written l t is-thread in
        under-writer _ (writers w.written l) _ counts (rw writes at part)

    reader-low : RwP.needs_of p ≡ N.Read → 0 < count (word_at w (word_of K.RwLock l))
    unfolding has_hold is_held
    reader-low n =
        let some : ltb 0 (reads_of w.reads l t) ≡ true = rw n at has in
        let reads : 0 < reads_of w.reads l t = ltb-true 0 (reads_of w.reads l t) some in
        under-reader _ _ (reads_held w.forgotten w.reads l) counts (omega (arith, reads-part w.forgotten w.reads l t is-thread))

  module _
      (flags :
      (lock : ℕ) → lock < RWLOCKS → t < THREADS → (thread_at w t).at ≡ A.RwLock lock X.ReadUnlock →
      readers_waiting (word_at w (word_of K.RwLock lock)) ≡ 1 → writers_waiting (word_at w (word_of K.RwLock lock)) ≡ 1)
    where
      all_hold :
          (at : At) → (thread_at w t).at ≡ at → passed_of at ≡ true → Narrow at → asserts_hold at (word_at w (operand_of t at)) ≡ true
      unfolding asserts_hold rwlock_holds read_holds try_holds downgrade_holds once_holds call_holds once_wait_holds operand_of RwP.operand_of RwP.needs_of RwP.downgrade_needs passed_of RwP.passed_of RwP.read_passed RwP.try_read_passed RwP.try_write_passed On.passed_of On.call_passed On.wait_passed seen_at lock_seen read_seen try_seen is_write_locked
      all_hold A.Idle e q n = refl
      all_hold (A.Mutex m p) e q n = refl
      all_hold (A.RwLock l (X.Read R.Load)) e q n = refl
      all_hold (A.RwLock l (X.Read (R.Exchange seen))) e q n = read_fits seen n (lockable-count seen q)
      all_hold (A.RwLock l (X.Read (R.Spin slept left))) e q n = refl
      all_hold (A.RwLock l (X.Read (R.ExchangeContended slept seen))) e q n = read_fits seen n (may-read-count slept seen q)
      all_hold (A.RwLock l (X.Read (R.SetWaiting slept seen))) e q n = refl
      all_hold (A.RwLock l (X.Read (R.Wait seen))) e q n = refl
      all_hold (A.RwLock l (X.TryRead T.Load)) e q n = refl
      all_hold (A.RwLock l (X.TryRead (T.Exchange seen))) e q n = read_fits seen n (lockable-count seen q)
      all_hold (A.RwLock l X.ReadUnlock) e q n =
          read-unlock-holds (word_at w (word_of K.RwLock l)) (shaped.wide (word_of K.RwLock l)) (reader-low l X.ReadUnlock e refl refl)
          (flags l (is-lock l X.ReadUnlock e refl) (is-thread l X.ReadUnlock e refl) e)
      all_hold (A.RwLock l (X.Write p)) e q n = refl
      all_hold (A.RwLock l (X.TryWrite T.Load)) e q n = refl
      all_hold (A.RwLock l (X.TryWrite (T.Exchange seen))) e q n = write-fits seen n (unlocked-count seen q)
      all_hold (A.RwLock l X.WriteUnlock) e q n =
          write-unlock-holds (word_at w (word_of K.RwLock l)) (shaped.wide (word_of K.RwLock l)) (writer-low l X.WriteUnlock e refl refl)
      all_hold (A.RwLock l (X.Wake writer p)) e q n = refl
      all_hold (A.RwLock l (X.Downgrade D.Add)) e q n = eq-eqb (count (word_at w (word_of K.RwLock l))) MASK (writer-low l (X.Downgrade D.Add) e refl refl)
      all_hold (A.RwLock l (X.Downgrade D.Subtract)) e q n = refl
      all_hold (A.RwLock l (X.Downgrade D.WakeReaders)) e q n = refl
      all_hold (A.Condvar c p) e q n = refl
      all_hold (A.Once o (O.Call ignores Ca.Load)) e q n = running-else ignores _
      all_hold (A.Once o (O.Call ignores (Ca.ExchangeRunning seen))) e q n = running-else ignores _
      all_hold (A.Once o (O.Call ignores Ca.Closure)) e q n = refl
      all_hold (A.Once o (O.Call ignores (Ca.Swap ending))) e q n = refl
      all_hold (A.Once o (O.Call ignores (Ca.WakeAll panicking))) e q n = refl
      all_hold (A.Once o (O.Call ignores (Ca.ExchangeQueued seen))) e q n =
          let one : seen ≡ 1 = eqb-true seen RUNNING q in rw (running-else ignores _) (queued-fits seen (omega arith))
      all_hold (A.Once o (O.Call ignores (Ca.Wait seen))) e q n = refl
      all_hold (A.Once o (O.Wait ignores Ow.Load)) e q n = refl
      all_hold (A.Once o (O.Wait ignores (Ow.ExchangeQueued seen))) e q n = queued-fits seen (queues-small ignores seen q)
      all_hold (A.Once o (O.Wait ignores (Ow.Wait seen))) e q n = refl
      all_hold (A.Once o O.IsCompleted) e q n = refl
      all_hold (A.Parker p) e q n = refl

-- section 8 of the page
pub no-assert-fails :
    (w : World) → sound_world w ≡ true → Shaped w →
    ((lock t : ℕ) → lock < RWLOCKS → t < THREADS → (thread_at w t).at ≡ A.RwLock lock X.ReadUnlock →
    readers_waiting (word_at w (word_of K.RwLock lock)) ≡ 1 → writers_waiting (word_at w (word_of K.RwLock lock)) ≡ 1) →
    ((t : ℕ) → Narrow (thread_at w t).at) → NoAssertFails w
no-assert-fails w sound shaped flags narrow t =
    all_hold w sound shaped t (λ lock. flags lock t) (thread_at w t).at refl (each-passed w sound shaped t) (narrow t)
