-- What holds of each position of rwlock/futex.rs: its word, whether its exchange is weak, what its values have passed, the hold it needs. Assumes nothing.
use Rattle.std.specs.Prelude.{ℕ, Bool, true, false, not, ◌&&◌, leb}
use Rattle.words.specs.Atomic.{SPINS}
use Rattle.words.specs.RwLock.{is_unlocked, has_readers_waiting, has_writers_waiting, is_read_lockable, has_reached_max_readers}
use Rattle.words.specs.declared.Kind.{Kind}
use Rattle.words.specs.declared.Kind.TheVariants as K
use Rattle.words.specs.declared.Needs.{Needs}
use Rattle.words.specs.declared.Needs.TheVariants as N
use Rattle.rwlock.specs.declared.ReadAt.{ReadAt}
use Rattle.rwlock.specs.declared.ReadAt.TheVariants as R
use Rattle.rwlock.specs.declared.TryAt.{TryAt}
use Rattle.rwlock.specs.declared.TryAt.TheVariants as T
use Rattle.rwlock.specs.declared.WriteAt.{WriteAt}
use Rattle.rwlock.specs.declared.WriteAt.TheVariants as Wr
use Rattle.rwlock.specs.declared.WakeAt.{WakeAt}
use Rattle.rwlock.specs.declared.WakeAt.TheVariants as Wk
use Rattle.rwlock.specs.declared.DowngradeAt.{DowngradeAt}
use Rattle.rwlock.specs.declared.DowngradeAt.TheVariants as D
use Rattle.rwlock.specs.declared.RwLockAt.{RwLockAt}
use Rattle.rwlock.specs.declared.RwLockAt.TheVariants as A
use Rattle.rwlock.specs.RwLock.{read_after_wait, write_after_wait, may_read}

-- after a futex_wait, woken or not
unfoldable pub after_wait : RwLockAt → RwLockAt
after_wait (A.Read p) = A.Read (read_after_wait p)
after_wait (A.TryRead p) = A.TryRead p
after_wait A.ReadUnlock = A.ReadUnlock
after_wait (A.Write p) = A.Write (write_after_wait p)
after_wait (A.TryWrite p) = A.TryWrite p
after_wait A.WriteUnlock = A.WriteUnlock
after_wait (A.Wake writer p) = A.Wake writer p
after_wait (A.Downgrade p) = A.Downgrade p

-- the word that the next operation is about: the state, or writer_notify
unfoldable pub write_operand : WriteAt → Kind
write_operand Wr.Exchange = K.RwLock
write_operand (Wr.Spin others left) = K.RwLock
write_operand (Wr.ExchangeContended others seen) = K.RwLock
write_operand (Wr.SetWaiting others seen) = K.RwLock
write_operand Wr.LoadSequence = K.WriterNotify
write_operand (Wr.LoadState sequence) = K.RwLock
write_operand (Wr.Wait sequence) = K.WriterNotify

unfoldable pub wake_operand : WakeAt → Kind
wake_operand Wk.ExchangeWriters = K.RwLock
wake_operand Wk.ExchangeBoth = K.RwLock
wake_operand (Wk.Notify both) = K.WriterNotify
wake_operand (Wk.WakeWriter both) = K.WriterNotify
wake_operand Wk.ExchangeReaders = K.RwLock
wake_operand Wk.WakeReaders = K.RwLock

unfoldable pub operand_of : RwLockAt → Kind
operand_of (A.Read p) = K.RwLock
operand_of (A.TryRead p) = K.RwLock
operand_of A.ReadUnlock = K.RwLock
operand_of (A.Write p) = write_operand p
operand_of (A.TryWrite p) = K.RwLock
operand_of A.WriteUnlock = K.RwLock
operand_of (A.Wake writer p) = wake_operand p
operand_of (A.Downgrade p) = K.RwLock

-- whether the next operation is a weak exchange
unfoldable pub read_weak_next : ReadAt → Bool
read_weak_next R.Load = false
read_weak_next (R.Exchange seen) = true
read_weak_next (R.Spin slept left) = false
read_weak_next (R.ExchangeContended slept seen) = true
read_weak_next (R.SetWaiting slept seen) = false
read_weak_next (R.Wait seen) = false

unfoldable pub try_weak_next : TryAt → Bool
try_weak_next T.Load = false
try_weak_next (T.Exchange seen) = true

unfoldable pub write_weak_next : WriteAt → Bool
write_weak_next Wr.Exchange = true
write_weak_next (Wr.Spin others left) = false
write_weak_next (Wr.ExchangeContended others seen) = true
write_weak_next (Wr.SetWaiting others seen) = false
write_weak_next Wr.LoadSequence = false
write_weak_next (Wr.LoadState sequence) = false
write_weak_next (Wr.Wait sequence) = false

unfoldable pub weak_next : RwLockAt → Bool
weak_next (A.Read p) = read_weak_next p
weak_next (A.TryRead p) = try_weak_next p
weak_next A.ReadUnlock = false
weak_next (A.Write p) = write_weak_next p
weak_next (A.TryWrite p) = try_weak_next p
weak_next A.WriteUnlock = false
weak_next (A.Wake writer p) = false
weak_next (A.Downgrade p) = false

-- whether the values carried have passed the tests that lead to the position
unfoldable pub must_wait : Bool → ℕ → Bool
must_wait slept seen = not (may_read slept seen) && not (has_reached_max_readers seen) && not (has_readers_waiting seen)

unfoldable pub read_waits : ℕ → Bool
read_waits seen = has_readers_waiting seen && not (has_reached_max_readers seen)

unfoldable pub write_waits : ℕ → Bool
write_waits seen = not (is_unlocked seen) && not (has_writers_waiting seen)

unfoldable pub read_passed : ReadAt → Bool
read_passed R.Load = true
read_passed (R.Exchange seen) = is_read_lockable seen
read_passed (R.Spin slept left) = leb left SPINS
read_passed (R.ExchangeContended slept seen) = may_read slept seen
read_passed (R.SetWaiting slept seen) = must_wait slept seen
read_passed (R.Wait seen) = read_waits seen

unfoldable pub try_read_passed : TryAt → Bool
try_read_passed T.Load = true
try_read_passed (T.Exchange seen) = is_read_lockable seen

unfoldable pub write_passed : WriteAt → Bool
write_passed Wr.Exchange = true
write_passed (Wr.Spin others left) = leb left SPINS
write_passed (Wr.ExchangeContended others seen) = is_unlocked seen
write_passed (Wr.SetWaiting others seen) = write_waits seen
write_passed Wr.LoadSequence = true
write_passed (Wr.LoadState sequence) = true
write_passed (Wr.Wait sequence) = true

unfoldable pub try_write_passed : TryAt → Bool
try_write_passed T.Load = true
try_write_passed (T.Exchange seen) = is_unlocked seen

unfoldable pub passed_of : RwLockAt → Bool
passed_of (A.Read p) = read_passed p
passed_of (A.TryRead p) = try_read_passed p
passed_of A.ReadUnlock = true
passed_of (A.Write p) = write_passed p
passed_of (A.TryWrite p) = try_write_passed p
passed_of A.WriteUnlock = true
passed_of (A.Wake writer p) = true
passed_of (A.Downgrade p) = true

-- the hold that a call has until the operation that frees or downgrades
unfoldable pub downgrade_needs : DowngradeAt → Needs
downgrade_needs D.Add = N.Write
downgrade_needs D.Subtract = N.Nothing
downgrade_needs D.WakeReaders = N.Nothing

unfoldable pub needs_of : RwLockAt → Needs
needs_of (A.Read p) = N.Nothing
needs_of (A.TryRead p) = N.Nothing
needs_of A.ReadUnlock = N.Read
needs_of (A.Write p) = N.Nothing
needs_of (A.TryWrite p) = N.Nothing
needs_of A.WriteUnlock = N.Write
needs_of (A.Wake writer p) = N.Nothing
needs_of (A.Downgrade p) = downgrade_needs p

-- whether a futex_wait is next
unfoldable pub read_wait_next : ReadAt → Bool
read_wait_next R.Load = false
read_wait_next (R.Exchange seen) = false
read_wait_next (R.Spin slept left) = false
read_wait_next (R.ExchangeContended slept seen) = false
read_wait_next (R.SetWaiting slept seen) = false
read_wait_next (R.Wait seen) = true

unfoldable pub write_wait_next : WriteAt → Bool
write_wait_next Wr.Exchange = false
write_wait_next (Wr.Spin others left) = false
write_wait_next (Wr.ExchangeContended others seen) = false
write_wait_next (Wr.SetWaiting others seen) = false
write_wait_next Wr.LoadSequence = false
write_wait_next (Wr.LoadState sequence) = false
write_wait_next (Wr.Wait sequence) = true

unfoldable pub waits_of : RwLockAt → Bool
waits_of (A.Read p) = read_wait_next p
waits_of (A.TryRead p) = false
waits_of A.ReadUnlock = false
waits_of (A.Write p) = write_wait_next p
waits_of (A.TryWrite p) = false
waits_of A.WriteUnlock = false
waits_of (A.Wake writer p) = false
waits_of (A.Downgrade p) = false

-- whether a futex_wake or futex_wake_all is next
unfoldable pub wake_may_wake : WakeAt → Bool
wake_may_wake Wk.ExchangeWriters = false
wake_may_wake Wk.ExchangeBoth = false
wake_may_wake (Wk.Notify both) = false
wake_may_wake (Wk.WakeWriter both) = true
wake_may_wake Wk.ExchangeReaders = false
wake_may_wake Wk.WakeReaders = true

unfoldable pub downgrade_may_wake : DowngradeAt → Bool
downgrade_may_wake D.Add = false
downgrade_may_wake D.Subtract = false
downgrade_may_wake D.WakeReaders = true

unfoldable pub may_wake : RwLockAt → Bool
may_wake (A.Read p) = false
may_wake (A.TryRead p) = false
may_wake A.ReadUnlock = false
may_wake (A.Write p) = false
may_wake (A.TryWrite p) = false
may_wake A.WriteUnlock = false
may_wake (A.Wake writer p) = wake_may_wake p
may_wake (A.Downgrade p) = downgrade_may_wake p
