-- Every position of an RwLock's calls that passes is led to from the start of a call. Assumes nothing.
use mathlib.Core.Path.{◌≡◌, refl}
use mathlib.Core.Bool.{Bool, true, false, cond, not, ◌&&◌, ◌||◌}
use Prim.Native.Nat.{ℕ, ◌+◌, ◌-◌, ◌^◌, ◌≤◌, ◌<◌}
use native.Mathlib.Omega.{arith}
use lib.Dec.{leb, ltb}
use borrow.Author.Tests.{not-true}
use Rattle.words.specs.Atomic.{SPINS, exchanges, wrapping_sub}
use Rattle.words.specs.RwLock.{MAX_READERS, READ_LOCKED, WRITE_LOCKED, READERS_WAITING, WRITERS_WAITING, count, readers_waiting, writers_waiting, is_unlocked, is_write_locked, has_readers_waiting, has_writers_waiting, is_read_lockable, has_reached_max_readers}
use Rattle.words.specs.declared.Next.TheVariants as Nx
use Rattle.words.specs.Steps as St
use Rattle.rwlock.specs.declared.ReadAt.{ReadAt}
use Rattle.rwlock.specs.declared.ReadAt.TheVariants as R
use Rattle.rwlock.specs.declared.TryAt.{TryAt}
use Rattle.rwlock.specs.declared.TryAt.TheVariants as T
use Rattle.rwlock.specs.declared.WriteAt.{WriteAt}
use Rattle.rwlock.specs.declared.WriteAt.TheVariants as Wr
use Rattle.rwlock.specs.declared.WakeAt.{WakeAt}
use Rattle.rwlock.specs.declared.WakeAt.TheVariants as Wk
use Rattle.rwlock.specs.declared.DowngradeAt.{DowngradeAt}
use Rattle.rwlock.specs.declared.DowngradeAt.TheVariants as D
use Rattle.rwlock.specs.declared.RwLockAt.{RwLockAt}
use Rattle.rwlock.specs.declared.RwLockAt.TheVariants as X
use Rattle.rwlock.specs.RwLock as Rw
use Rattle.rwlock.specs.Positions as RwP
use Rattle.calls.specs.declared.At.{At}
use Rattle.calls.specs.declared.At.TheVariants as A
use Rattle.calls.specs.Plans.{moved, decide_of, plan_of}
use Rattle.calls.specs.Positions.{entry_of, after_wait, waits_of, in_closure, is_idle}
use Rattle.acts.specs.Refusals.{step_refusal, wake_refusal}
use Rattle.kept.specs.Laws.{kind_of, largest}
use Rattle.kept.proofs.Tests.{and_left, and_right}
use Rattle.exact_positions.specs.Exact.{Led, stepped, woken, read_carries, try_carries, write_carries, rwlock_carries}
use Rattle.exact_positions.proofs.Starts.{begins}
use Rattle.exact_positions.proofs.Spins.{downwards}

-- a word of either kind has 32 bits
write-wide : (p : WriteAt) (word : ℕ) → word < 2 ^ 32 → word ≤ largest (RwP.write_operand p)
unfolding RwP.write_operand largest
write-wide Wr.Exchange word h = omega arith
write-wide (Wr.Spin others left) word h = omega arith
write-wide (Wr.ExchangeContended others seen) word h = omega arith
write-wide (Wr.SetWaiting others seen) word h = omega arith
write-wide Wr.LoadSequence word h = omega arith
write-wide (Wr.LoadState sequence) word h = omega arith
write-wide (Wr.Wait sequence) word h = omega arith

wake-wide : (p : WakeAt) (word : ℕ) → word < 2 ^ 32 → word ≤ largest (RwP.wake_operand p)
unfolding RwP.wake_operand largest
wake-wide Wk.ExchangeWriters word h = omega arith
wake-wide Wk.ExchangeBoth word h = omega arith
wake-wide (Wk.Notify both) word h = omega arith
wake-wide (Wk.WakeWriter both) word h = omega arith
wake-wide Wk.ExchangeReaders word h = omega arith
wake-wide Wk.WakeReaders word h = omega arith

word_wide : (p : RwLockAt) (word : ℕ) → word < 2 ^ 32 → word ≤ largest (RwP.operand_of p)
unfolding RwP.operand_of largest
word_wide (X.Read p) word h = omega arith
word_wide (X.TryRead p) word h = omega arith
word_wide X.ReadUnlock word h = omega arith
word_wide (X.Write p) word h = write-wide p word h
word_wide (X.TryWrite p) word h = omega arith
word_wide X.WriteUnlock word h = omega arith
word_wide (X.Wake writer p) word h = wake-wide p word h
word_wide (X.Downgrade p) word h = omega arith

-- a reader's test before its wait, and before it sets the flag, taken apart
waits-flagged : (seen : ℕ) → RwP.read_waits seen ≡ true → has_readers_waiting seen ≡ true
unfolding RwP.read_waits
waits-flagged seen e = and_left (has_readers_waiting seen) (not (has_reached_max_readers seen)) e

waits-below : (seen : ℕ) → RwP.read_waits seen ≡ true → has_reached_max_readers seen ≡ false
unfolding RwP.read_waits
waits-below seen e = not-true (has_reached_max_readers seen) (and_right (has_readers_waiting seen) (not (has_reached_max_readers seen)) e)

-- .. who has not slept may not lock where readers wait
waits-locked : (seen : ℕ) → RwP.read_waits seen ≡ true → Rw.may_read false seen ≡ false
unfolding Rw.may_read is_read_lockable
waits-locked seen e = rw (waits-flagged seen e) (no-and (ltb (count seen) MAX_READERS) (not (has_writers_waiting seen)))
  where
    no-and : (a b : Bool) → (a && false && b) ≡ false
    no-and true b = refl
    no-and false b = refl

module _ (slept : Bool) (seen : ℕ) (e : RwP.must_wait slept seen ≡ true) where
  unlockable : (not (Rw.may_read slept seen) && not (has_reached_max_readers seen)) ≡ true
  unfolding RwP.must_wait
  unlockable = and_left _ (not (has_readers_waiting seen)) e

  must-not-read : Rw.may_read slept seen ≡ false
  must-not-read = not-true (Rw.may_read slept seen) (and_left _ (not (has_reached_max_readers seen)) unlockable)

  must-be-below : has_reached_max_readers seen ≡ false
  must-be-below = not-true (has_reached_max_readers seen) (and_right (not (Rw.may_read slept seen)) _ unlockable)

  must-be-first : has_readers_waiting seen ≡ false
  unfolding RwP.must_wait
  must-be-first = not-true (has_readers_waiting seen) (and_right (not (Rw.may_read slept seen) && not (has_reached_max_readers seen)) _ e)

module _ (P : At → Type 0) (led : (at : At) → Led P at → P at) (l : ℕ) where
  step : (p q : RwLockAt) (word : ℕ) → word < 2 ^ 32 → (Rw.decide_of p false word false).next ≡ Nx.Moved q → P (A.RwLock l p) → P (A.RwLock l q)
  unfolding decide_of plan_of moved step_refusal is_idle in_closure kind_of
  step p q word h e x =
      rw e at (led (decide_of (A.RwLock l p) false word false).next.at (stepped (A.RwLock l p) 0 word false x refl (word_wide p word h)))

  -- `read`: write-locked without a flag, it spins on
  read-load : P (A.RwLock l (X.Read R.Load))
  unfolding entry_of Rw.entry_of
  read-load = begins P led 3 l 0 (omega arith)

  read-spin-down : (slept : Bool) → P (A.RwLock l (X.Read (R.Spin slept SPINS))) → (left : ℕ) → leb left SPINS ≡ true → P (A.RwLock l (X.Read (R.Spin slept left)))
  unfolding Rw.decide_of Rw.read_of Rw.stops_read is_write_locked has_readers_waiting has_writers_waiting count readers_waiting writers_waiting
  read-spin-down slept x =
      downwards (λ (left : ℕ). P (A.RwLock l (X.Read (R.Spin slept left)))) x
      (λ left n. step (X.Read (R.Spin slept left)) (X.Read (R.Spin slept (left - 1))) WRITE_LOCKED (omega arith) (rw n))

  read-spin-awake : (left : ℕ) → leb left SPINS ≡ true → P (A.RwLock l (X.Read (R.Spin false left)))
  unfolding Rw.decide_of Rw.read_of is_read_lockable has_readers_waiting has_writers_waiting count readers_waiting writers_waiting
  read-spin-awake = read-spin-down false (step (X.Read R.Load) (X.Read (R.Spin false SPINS)) WRITE_LOCKED (omega arith) refl read-load)

  -- at its last spin it goes on with whatever it sees
  read-seen :
      (slept : Bool) (q : ReadAt) (seen : ℕ) → P (A.RwLock l (X.Read (R.Spin slept 0))) → seen < 2 ^ 32 → (Rw.read_top slept seen).next ≡ Nx.Moved (X.Read q) →
      P (A.RwLock l (X.Read q))
  unfolding Rw.decide_of Rw.read_of
  read-seen slept q seen x h e = step (X.Read (R.Spin slept 0)) (X.Read q) seen h (last (Rw.stops_read seen) e) x
    where
      last :
          (b : Bool) → (Rw.read_top slept seen).next ≡ Nx.Moved (X.Read q) →
          (cond (b || true) (Rw.read_top slept seen) (St.moves seen (X.Read (R.Spin slept (0 - 1))))).next ≡ Nx.Moved (X.Read q)
      last true e = e
      last false e = e

  read-wait : (seen : ℕ) → RwP.read_waits seen ≡ true → seen < 2 ^ 32 → P (A.RwLock l (X.Read (R.Wait seen)))
  unfolding Rw.read_top
  read-wait seen e h =
      read-seen false (R.Wait seen) seen (read-spin-awake 0 refl) h (simp (waits-locked seen e, waits-below seen e, waits-flagged seen e))

  -- after the wait has_slept is set
  read-spin : (slept : Bool) (left : ℕ) → leb left SPINS ≡ true → P (A.RwLock l (X.Read (R.Spin slept left)))
  unfolding after_wait RwP.after_wait Rw.read_after_wait waits_of RwP.waits_of RwP.read_wait_next wake_refusal is_idle RwP.read_waits has_readers_waiting has_reached_max_readers count readers_waiting
  read-spin false = read-spin-awake
  read-spin true =
      read-spin-down true (led _ (woken (A.RwLock l (X.Read (R.Wait READERS_WAITING))) (read-wait READERS_WAITING refl (omega arith)) refl refl))

  read-led : (p : ReadAt) → RwP.read_passed p ≡ true → read_carries p < 2 ^ 32 → P (A.RwLock l (X.Read p))
  unfolding RwP.read_passed read_carries Rw.decide_of Rw.read_of Rw.read_top
  read-led R.Load e h = read-load
  read-led (R.Exchange seen) e h = step (X.Read R.Load) (X.Read (R.Exchange seen)) seen h (rw e) read-load
  read-led (R.Spin slept left) e h = read-spin slept left e
  read-led (R.ExchangeContended slept seen) e h = read-seen slept (R.ExchangeContended slept seen) seen (read-spin slept 0 refl) h (rw e)
  read-led (R.SetWaiting slept seen) e h =
      read-seen slept (R.SetWaiting slept seen) seen (read-spin slept 0 refl) h
      (simp (must-not-read slept seen e, must-be-below slept seen e, must-be-first slept seen e))
  read-led (R.Wait seen) e h = read-wait seen e h

  -- `try_read`, `try_write`
  try-read-led : (p : TryAt) → RwP.try_read_passed p ≡ true → try_carries p < 2 ^ 32 → P (A.RwLock l (X.TryRead p))
  unfolding entry_of Rw.entry_of RwP.try_read_passed try_carries Rw.decide_of Rw.try_read_of Rw.try_read_top
  try-read-led T.Load e h = begins P led 4 l 0 (omega arith)
  try-read-led (T.Exchange seen) e h = step (X.TryRead T.Load) (X.TryRead (T.Exchange seen)) seen h (rw e) (begins P led 4 l 0 (omega arith))

  try-write-led : (p : TryAt) → RwP.try_write_passed p ≡ true → try_carries p < 2 ^ 32 → P (A.RwLock l (X.TryWrite p))
  unfolding entry_of Rw.entry_of RwP.try_write_passed try_carries Rw.decide_of Rw.try_write_of Rw.try_write_top
  try-write-led T.Load e h = begins P led 7 l 0 (omega arith)
  try-write-led (T.Exchange seen) e h = step (X.TryWrite T.Load) (X.TryWrite (T.Exchange seen)) seen h (rw e) (begins P led 7 l 0 (omega arith))

  -- `write`: locked by one reader without a flag, it spins on
  write-first : P (A.RwLock l (X.Write Wr.Exchange))
  unfolding entry_of Rw.entry_of
  write-first = begins P led 6 l 0 (omega arith)

  write-spin-down : (others : Bool) → P (A.RwLock l (X.Write (Wr.Spin others SPINS))) → (left : ℕ) → leb left SPINS ≡ true → P (A.RwLock l (X.Write (Wr.Spin others left)))
  unfolding Rw.decide_of Rw.write_of Rw.stops_write is_unlocked has_writers_waiting count writers_waiting
  write-spin-down others x =
      downwards (λ (left : ℕ). P (A.RwLock l (X.Write (Wr.Spin others left)))) x
      (λ left n. step (X.Write (Wr.Spin others left)) (X.Write (Wr.Spin others (left - 1))) READ_LOCKED (omega arith) (rw n))

  write-spin-first : (left : ℕ) → leb left SPINS ≡ true → P (A.RwLock l (X.Write (Wr.Spin false left)))
  unfolding Rw.decide_of Rw.write_of exchanges
  write-spin-first = write-spin-down false (step (X.Write Wr.Exchange) (X.Write (Wr.Spin false SPINS)) READ_LOCKED (omega arith) refl write-first)

  write-seen :
      (others : Bool) (q : WriteAt) (seen : ℕ) → P (A.RwLock l (X.Write (Wr.Spin others 0))) → seen < 2 ^ 32 →
      (Rw.write_top others seen).next ≡ Nx.Moved (X.Write q) → P (A.RwLock l (X.Write q))
  unfolding Rw.decide_of Rw.write_of
  write-seen others q seen x h e = step (X.Write (Wr.Spin others 0)) (X.Write q) seen h (last (Rw.stops_write seen) e) x
    where
      last :
          (b : Bool) → (Rw.write_top others seen).next ≡ Nx.Moved (X.Write q) →
          (cond (b || true) (Rw.write_top others seen) (St.moves seen (X.Write (Wr.Spin others (0 - 1))))).next ≡ Nx.Moved (X.Write q)
      last true e = e
      last false e = e

  -- with a reader in and a writer waiting it waits too
  write-sequence : P (A.RwLock l (X.Write Wr.LoadSequence))
  unfolding Rw.write_top is_unlocked has_writers_waiting count writers_waiting
  write-sequence = write-seen false Wr.LoadSequence (READ_LOCKED + WRITERS_WAITING) (write-spin-first 0 refl) (omega arith) refl

  write-state : (sequence : ℕ) → sequence < 2 ^ 32 → P (A.RwLock l (X.Write (Wr.LoadState sequence)))
  unfolding Rw.decide_of Rw.write_of
  write-state sequence h = step (X.Write Wr.LoadSequence) (X.Write (Wr.LoadState sequence)) sequence h refl write-sequence

  write-wait : (sequence : ℕ) → sequence < 2 ^ 32 → P (A.RwLock l (X.Write (Wr.Wait sequence)))
  unfolding Rw.decide_of Rw.write_of is_unlocked has_writers_waiting count writers_waiting
  write-wait sequence h =
      step (X.Write (Wr.LoadState sequence)) (X.Write (Wr.Wait sequence)) (READ_LOCKED + WRITERS_WAITING) (omega arith) refl (write-state sequence h)

  -- after the wait other_writers_waiting is set
  write-spin : (others : Bool) (left : ℕ) → leb left SPINS ≡ true → P (A.RwLock l (X.Write (Wr.Spin others left)))
  unfolding after_wait RwP.after_wait Rw.write_after_wait waits_of RwP.waits_of RwP.write_wait_next wake_refusal is_idle
  write-spin false = write-spin-first
  write-spin true = write-spin-down true (led _ (woken (A.RwLock l (X.Write (Wr.Wait 0))) (write-wait 0 (omega arith)) refl refl))

  write-led : (p : WriteAt) → RwP.write_passed p ≡ true → write_carries p < 2 ^ 32 → P (A.RwLock l (X.Write p))
  unfolding RwP.write_passed RwP.write_waits write_carries Rw.write_top
  write-led Wr.Exchange e h = write-first
  write-led (Wr.Spin others left) e h = write-spin others left e
  write-led (Wr.ExchangeContended others seen) e h = write-seen others (Wr.ExchangeContended others seen) seen (write-spin others 0 refl) h (rw e)
  write-led (Wr.SetWaiting others seen) e h =
      write-seen others (Wr.SetWaiting others seen) seen (write-spin others 0 refl) h
      (simp (not-true (is_unlocked seen) (and_left _ (not (has_writers_waiting seen)) e), not-true (has_writers_waiting seen) (and_right (not (is_unlocked seen)) _ e)))
  write-led Wr.LoadSequence e h = write-sequence
  write-led (Wr.LoadState sequence) e h = write-state sequence h
  write-led (Wr.Wait sequence) e h = write-wait sequence h

  -- `wake_writer_or_readers`, from either unlock: the last reader's, or the writer's
  wake-writers : (writer : Bool) → P (A.RwLock l (X.Wake writer Wk.ExchangeWriters))
  unfolding entry_of Rw.entry_of Rw.decide_of Rw.read_unlock_of Rw.write_unlock_of Rw.wake_top wrapping_sub is_unlocked has_readers_waiting has_writers_waiting count readers_waiting writers_waiting
  wake-writers false =
      step X.ReadUnlock (X.Wake false Wk.ExchangeWriters) (READ_LOCKED + WRITERS_WAITING) (omega arith) refl (begins P led 5 l 0 (omega arith))
  wake-writers true =
      step X.WriteUnlock (X.Wake true Wk.ExchangeWriters) (WRITE_LOCKED + WRITERS_WAITING) (omega arith) refl (begins P led 8 l 0 (omega arith))

  wake-both : (writer : Bool) → P (A.RwLock l (X.Wake writer Wk.ExchangeBoth))
  unfolding Rw.decide_of Rw.wake_of Rw.wake_rest
  wake-both writer =
      step (X.Wake writer Wk.ExchangeWriters) (X.Wake writer Wk.ExchangeBoth) (READERS_WAITING + WRITERS_WAITING) (omega arith) refl (wake-writers writer)

  wake-readers : (writer : Bool) → P (A.RwLock l (X.Wake writer Wk.ExchangeReaders))
  unfolding Rw.decide_of Rw.wake_of Rw.wake_rest
  wake-readers writer = step (X.Wake writer Wk.ExchangeWriters) (X.Wake writer Wk.ExchangeReaders) READERS_WAITING (omega arith) refl (wake-writers writer)

  notify : (writer both : Bool) → P (A.RwLock l (X.Wake writer (Wk.Notify both)))
  unfolding Rw.decide_of Rw.wake_of
  notify writer false = step (X.Wake writer Wk.ExchangeWriters) (X.Wake writer (Wk.Notify false)) WRITERS_WAITING (omega arith) refl (wake-writers writer)
  notify writer true =
      step (X.Wake writer Wk.ExchangeBoth) (X.Wake writer (Wk.Notify true)) (READERS_WAITING + WRITERS_WAITING) (omega arith) refl (wake-both writer)

  wake-led : (writer : Bool) (p : WakeAt) → P (A.RwLock l (X.Wake writer p))
  unfolding Rw.decide_of Rw.wake_of
  wake-led writer Wk.ExchangeWriters = wake-writers writer
  wake-led writer Wk.ExchangeBoth = wake-both writer
  wake-led writer (Wk.Notify both) = notify writer both
  wake-led writer (Wk.WakeWriter both) = step (X.Wake writer (Wk.Notify both)) (X.Wake writer (Wk.WakeWriter both)) 0 (omega arith) refl (notify writer both)
  wake-led writer Wk.ExchangeReaders = wake-readers writer
  wake-led writer Wk.WakeReaders = step (X.Wake writer Wk.ExchangeReaders) (X.Wake writer Wk.WakeReaders) READERS_WAITING (omega arith) refl (wake-readers writer)

  -- `downgrade`, with readers waiting
  downgrade-subtract : P (A.RwLock l (X.Downgrade D.Subtract))
  unfolding entry_of Rw.entry_of Rw.decide_of Rw.downgrade_of has_readers_waiting readers_waiting
  downgrade-subtract =
      step (X.Downgrade D.Add) (X.Downgrade D.Subtract) (WRITE_LOCKED + READERS_WAITING) (omega arith) refl (begins P led 9 l 0 (omega arith))

  downgrade-led : (p : DowngradeAt) → P (A.RwLock l (X.Downgrade p))
  unfolding entry_of Rw.entry_of Rw.decide_of Rw.downgrade_of
  downgrade-led D.Add = begins P led 9 l 0 (omega arith)
  downgrade-led D.Subtract = downgrade-subtract
  downgrade-led D.WakeReaders = step (X.Downgrade D.Subtract) (X.Downgrade D.WakeReaders) (READ_LOCKED + READERS_WAITING) (omega arith) refl downgrade-subtract

  pub rwlock-led : (p : RwLockAt) → RwP.passed_of p ≡ true → rwlock_carries p < 2 ^ 32 → P (A.RwLock l p)
  unfolding entry_of Rw.entry_of RwP.passed_of rwlock_carries
  rwlock-led (X.Read p) e h = read-led p e h
  rwlock-led (X.TryRead p) e h = try-read-led p e h
  rwlock-led X.ReadUnlock e h = begins P led 5 l 0 (omega arith)
  rwlock-led (X.Write p) e h = write-led p e h
  rwlock-led (X.TryWrite p) e h = try-write-led p e h
  rwlock-led X.WriteUnlock e h = begins P led 8 l 0 (omega arith)
  rwlock-led (X.Wake writer p) e h = wake-led writer p
  rwlock-led (X.Downgrade p) e h = downgrade-led p
