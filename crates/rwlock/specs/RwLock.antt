-- rwlock/futex.rs, a step at a time: the operation at each position, what it stores, and the local code up to the next one. Assumes nothing.
use Rattle.std.specs.Prelude.{ℕ, ◌+◌, ◌-◌, Bool, true, false, not, cond, ◌&&◌, ◌||◌, eqb}
use Rattle.words.specs.Atomic.{SPINS, exchanges}
use Rattle.words.specs.Counter.{incremented}
use Rattle.words.specs.Steps.{moves_with, moves, sleeps, ends, panics}
use Rattle.words.specs.RwLock.{WRITE_LOCKED, READERS_WAITING, WRITERS_WAITING, is_unlocked, is_write_locked, has_readers_waiting, has_writers_waiting, is_read_lockable, is_read_lockable_after_wakeup, has_reached_max_readers, read_locked, read_unlocked, write_locked, write_unlocked, downgraded, with_write_locked, with_readers_waiting, without_readers_waiting, with_writers_waiting}
use Rattle.words.specs.declared.Hold.{Hold}
use Rattle.words.specs.declared.Hold.TheVariants as H
use Rattle.words.specs.declared.Panic.TheVariants as P
use Rattle.words.specs.declared.Step.{Step}
use Rattle.words.specs.declared.Wake.TheVariants as W
use Rattle.rwlock.specs.declared.RwLockCall.{RwLockCall}
use Rattle.rwlock.specs.declared.RwLockCall.TheVariants as C
use Rattle.rwlock.specs.declared.ReadAt.{ReadAt}
use Rattle.rwlock.specs.declared.ReadAt.TheVariants as R
use Rattle.rwlock.specs.declared.TryAt.{TryAt}
use Rattle.rwlock.specs.declared.TryAt.TheVariants as T
use Rattle.rwlock.specs.declared.WriteAt.{WriteAt}
use Rattle.rwlock.specs.declared.WriteAt.TheVariants as Wr
use Rattle.rwlock.specs.declared.WakeAt.{WakeAt}
use Rattle.rwlock.specs.declared.WakeAt.TheVariants as Wk
use Rattle.rwlock.specs.declared.DowngradeAt.{DowngradeAt}
use Rattle.rwlock.specs.declared.DowngradeAt.TheVariants as D
use Rattle.rwlock.specs.declared.RwLockAt.{RwLockAt}
use Rattle.rwlock.specs.declared.RwLockAt.TheVariants as A

-- where each call starts
unfoldable pub entry_of : RwLockCall → RwLockAt
entry_of C.Read = A.Read R.Load
entry_of C.TryRead = A.TryRead T.Load
entry_of C.ReadUnlock = A.ReadUnlock
entry_of C.Write = A.Write Wr.Exchange
entry_of C.TryWrite = A.TryWrite T.Load
entry_of C.WriteUnlock = A.WriteUnlock
entry_of C.Downgrade = A.Downgrade D.Add

-- after a futex_wait, woken or not: has_slept is set, or other_writers_waiting was before it, and it spins again
unfoldable pub read_after_wait : ReadAt → ReadAt
read_after_wait R.Load = R.Load
read_after_wait (R.Exchange seen) = R.Exchange seen
read_after_wait (R.Spin slept left) = R.Spin slept left
read_after_wait (R.ExchangeContended slept seen) = R.ExchangeContended slept seen
read_after_wait (R.SetWaiting slept seen) = R.SetWaiting slept seen
read_after_wait (R.Wait seen) = R.Spin true SPINS

unfoldable pub write_after_wait : WriteAt → WriteAt
write_after_wait Wr.Exchange = Wr.Exchange
write_after_wait (Wr.Spin others left) = Wr.Spin others left
write_after_wait (Wr.ExchangeContended others seen) = Wr.ExchangeContended others seen
write_after_wait (Wr.SetWaiting others seen) = Wr.SetWaiting others seen
write_after_wait Wr.LoadSequence = Wr.LoadSequence
write_after_wait (Wr.LoadState sequence) = Wr.LoadState sequence
write_after_wait (Wr.Wait sequence) = Wr.Spin true SPINS

-- `try_read`: `try_update` with the value seen, s + READ_LOCKED where it is lockable
unfoldable pub try_read_top : ℕ → Step RwLockAt
try_read_top seen = cond (is_read_lockable seen) (moves seen (A.TryRead (T.Exchange seen))) (ends seen 0 H.Same W.None)

unfoldable pub try_read_of : TryAt → Bool → ℕ → Step RwLockAt
try_read_of T.Load fails word = try_read_top word
try_read_of (T.Exchange seen) fails word =
    cond (exchanges word seen fails) (ends (read_locked seen) 1 H.TakeRead W.None) (try_read_top word)

-- the test of `read_contended`: a reader that has slept first checks for a `downgrade`
unfoldable pub may_read : Bool → ℕ → Bool
may_read slept seen = (slept && is_read_lockable_after_wakeup seen) || is_read_lockable seen

-- the loop of `read_contended` with the state seen; it waits on the state with the readers waiting bit set
unfoldable pub read_top : Bool → ℕ → Step RwLockAt
read_top slept seen =
    cond (may_read slept seen) (moves seen (A.Read (R.ExchangeContended slept seen)))
    (cond (has_reached_max_readers seen) (panics seen P.TooManyReaders W.None)
    (cond (has_readers_waiting seen) (moves seen (A.Read (R.Wait seen))) (moves seen (A.Read (R.SetWaiting slept seen)))))

-- `spin_read` stops when it's unlocked or read locked, or when there's waiting threads
unfoldable pub stops_read : ℕ → Bool
stops_read state = not (is_write_locked state) || has_readers_waiting state || has_writers_waiting state

-- `read` and `read_contended`
unfoldable pub read_of : ReadAt → Bool → ℕ → Step RwLockAt
read_of R.Load fails word =
    cond (is_read_lockable word) (moves word (A.Read (R.Exchange word))) (moves word (A.Read (R.Spin false SPINS)))
read_of (R.Exchange seen) fails word =
    cond (exchanges word seen fails) (ends (read_locked seen) 1 H.TakeRead W.None) (moves word (A.Read (R.Spin false SPINS)))
read_of (R.Spin slept left) fails word =
    cond (stops_read word || eqb left 0) (read_top slept word) (moves word (A.Read (R.Spin slept (left - 1))))
read_of (R.ExchangeContended slept seen) fails word =
    cond (exchanges word seen fails) (ends (read_locked seen) 1 H.TakeRead W.None) (read_top slept word)
read_of (R.SetWaiting slept seen) fails word =
    cond (eqb word seen)
    (moves (with_readers_waiting seen) (A.Read (R.Wait (with_readers_waiting seen))))
    (read_top slept word)
read_of (R.Wait seen) fails word =
    cond (eqb word seen) (sleeps word) (moves word (A.Read (read_after_wait (R.Wait seen))))

-- `wake_writer_or_readers` with the state seen, from its second `if` on: both waiting, then readers alone, else nothing to do
unfoldable pub wake_rest : Bool → ℕ → Hold → Step RwLockAt
wake_rest writer seen hold =
    cond (eqb seen (READERS_WAITING + WRITERS_WAITING)) (moves_with seen (A.Wake writer Wk.ExchangeBoth) hold W.None)
    (cond (eqb seen READERS_WAITING) (moves_with seen (A.Wake writer Wk.ExchangeReaders) hold W.None)
    (ends seen 1 hold W.None))

-- .. from its start: if only writers are waiting, wake one of them up
unfoldable pub wake_top : Bool → ℕ → Hold → Step RwLockAt
wake_top writer seen hold =
    cond (eqb seen WRITERS_WAITING) (moves_with seen (A.Wake writer Wk.ExchangeWriters) hold W.None) (wake_rest writer seen hold)

-- `read_unlock`: a writer is woken if this was the last reader and one is waiting
unfoldable pub read_unlock_of : ℕ → Step RwLockAt
read_unlock_of word =
    let state = read_unlocked word in
    cond (is_unlocked state && has_writers_waiting state) (wake_top false state H.FreeRead) (ends state 1 H.FreeRead W.None)

-- `try_write`: `try_update`, s + WRITE_LOCKED where it is unlocked
unfoldable pub try_write_top : ℕ → Step RwLockAt
try_write_top seen = cond (is_unlocked seen) (moves seen (A.TryWrite (T.Exchange seen))) (ends seen 0 H.Same W.None)

unfoldable pub try_write_of : TryAt → Bool → ℕ → Step RwLockAt
try_write_of T.Load fails word = try_write_top word
try_write_of (T.Exchange seen) fails word =
    cond (exchanges word seen fails) (ends (write_locked seen) 1 H.TakeWrite W.None) (try_write_top word)

-- `write_unlock`
unfoldable pub write_unlock_of : ℕ → Step RwLockAt
write_unlock_of word =
    let state = write_unlocked word in
    cond (has_writers_waiting state || has_readers_waiting state) (wake_top true state H.FreeWrite) (ends state 1 H.FreeWrite W.None)

-- `downgrade`: removes all write bits and adds a single read bit; nobody else can unset the readers waiting bit meanwhile
unfoldable pub downgrade_of : DowngradeAt → ℕ → Step RwLockAt
downgrade_of D.Add word =
    cond (has_readers_waiting word)
    (moves_with (downgraded word) (A.Downgrade D.Subtract) H.Downgrade W.None)
    (ends (downgraded word) 1 H.Downgrade W.None)
downgrade_of D.Subtract word = moves (without_readers_waiting word) (A.Downgrade D.WakeReaders)
downgrade_of D.WakeReaders word = ends word 1 H.Same W.All

-- state | WRITE_LOCKED | other_writers_waiting
unfoldable pub write_locked_with : Bool → ℕ → ℕ
write_locked_with others seen = cond others (with_writers_waiting (with_write_locked seen)) (with_write_locked seen)

-- the loop of `write_contended` with the state seen
unfoldable pub write_top : Bool → ℕ → Step RwLockAt
write_top others seen =
    cond (is_unlocked seen) (moves seen (A.Write (Wr.ExchangeContended others seen)))
    (cond (has_writers_waiting seen) (moves seen (A.Write Wr.LoadSequence)) (moves seen (A.Write (Wr.SetWaiting others seen))))

-- `spin_write` stops when it's unlocked or when there's waiting writers, to keep things somewhat fair
unfoldable pub stops_write : ℕ → Bool
stops_write state = is_unlocked state || has_writers_waiting state

-- `write` and `write_contended`: from the waiting bit on, other writers might be waiting too, so the bit is kept when it locks;
-- and the notification counter is examined before the state, so that no notification is missed
unfoldable pub write_of : WriteAt → Bool → ℕ → Step RwLockAt
write_of Wr.Exchange fails word =
    cond (exchanges word 0 fails) (ends WRITE_LOCKED 1 H.TakeWrite W.None) (moves word (A.Write (Wr.Spin false SPINS)))
write_of (Wr.Spin others left) fails word =
    cond (stops_write word || eqb left 0) (write_top others word) (moves word (A.Write (Wr.Spin others (left - 1))))
write_of (Wr.ExchangeContended others seen) fails word =
    cond (exchanges word seen fails) (ends (write_locked_with others seen) 1 H.TakeWrite W.None) (write_top others word)
write_of (Wr.SetWaiting others seen) fails word =
    cond (eqb word seen) (moves (with_writers_waiting seen) (A.Write Wr.LoadSequence)) (write_top others word)
write_of Wr.LoadSequence fails word = moves word (A.Write (Wr.LoadState word))
write_of (Wr.LoadState sequence) fails word =
    cond (is_unlocked word || not (has_writers_waiting word)) (write_top true word) (moves word (A.Write (Wr.Wait sequence)))
write_of (Wr.Wait sequence) fails word =
    cond (eqb word sequence) (sleeps word) (moves word (A.Write (write_after_wait (Wr.Wait sequence))))

-- `wake_writer_or_readers` and `wake_writer`; where no writer was blocked, readers are woken too, if they were waiting
unfoldable pub wake_of : Bool → WakeAt → ℕ → Bool → Step RwLockAt
wake_of writer Wk.ExchangeWriters word anyone =
    cond (eqb word WRITERS_WAITING) (moves 0 (A.Wake writer (Wk.Notify false))) (wake_rest writer word H.Same)
wake_of writer Wk.ExchangeBoth word anyone =
    cond (eqb word (READERS_WAITING + WRITERS_WAITING))
    (moves READERS_WAITING (A.Wake writer (Wk.Notify true)))
    (ends word 1 H.Same W.None)
wake_of writer (Wk.Notify both) word anyone = moves (incremented word) (A.Wake writer (Wk.WakeWriter both))
wake_of writer (Wk.WakeWriter both) word anyone =
    cond (both && not anyone) (moves_with word (A.Wake writer Wk.ExchangeReaders) H.Same W.One) (ends word 1 H.Same W.One)
wake_of writer Wk.ExchangeReaders word anyone =
    cond (eqb word READERS_WAITING) (moves 0 (A.Wake writer Wk.WakeReaders)) (ends word 1 H.Same W.None)
wake_of writer Wk.WakeReaders word anyone = ends word 1 H.Same W.All

-- one step, over the word that it is about; `anyone`: whether somebody is asleep on it
unfoldable pub decide_of : RwLockAt → Bool → ℕ → Bool → Step RwLockAt
decide_of (A.Read p) fails word anyone = read_of p fails word
decide_of (A.TryRead p) fails word anyone = try_read_of p fails word
decide_of A.ReadUnlock fails word anyone = read_unlock_of word
decide_of (A.Write p) fails word anyone = write_of p fails word
decide_of (A.TryWrite p) fails word anyone = try_write_of p fails word
decide_of A.WriteUnlock fails word anyone = write_unlock_of word
decide_of (A.Wake writer p) fails word anyone = wake_of writer p word anyone
decide_of (A.Downgrade p) fails word anyone = downgrade_of p word
