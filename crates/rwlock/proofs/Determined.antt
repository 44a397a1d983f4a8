-- Every contract of this crate determines its result: any two results that it allows are equal. Assumes nothing.
use Prim.Native.Nat.{ℕ}
use mathlib.Core.Bool.{Bool}
use Rattle.words.specs.Determined.{Determined, determined}
use Rattle.rwlock.specs.declared.DowngradeAt.{DowngradeAt}
use Rattle.rwlock.specs.declared.ReadAt.{ReadAt}
use Rattle.rwlock.specs.declared.RwLockAt.{RwLockAt}
use Rattle.rwlock.specs.declared.RwLockCall.{RwLockCall}
use Rattle.rwlock.specs.declared.TryAt.{TryAt}
use Rattle.rwlock.specs.declared.WakeAt.{WakeAt}
use Rattle.rwlock.specs.declared.WriteAt.{WriteAt}
use Rattle.rwlock.specs.RwLock.{entry_of, try_read_of, read_of, read_unlock_of, try_write_of, write_unlock_of, downgrade_of, write_of, wake_of, decide_of}
use Rattle.rwlock.specs.Positions.{after_wait, operand_of, weak_next, passed_of, needs_of, waits_of, may_wake}

pub entry-determined : (call : RwLockCall) → Determined (entry_of call)
entry-determined call = determined (entry_of call)

pub try-read-determined : (at : TryAt) (fails : Bool) (word : ℕ) → Determined (try_read_of at fails word)
try-read-determined at fails word = determined (try_read_of at fails word)

pub read-determined : (at : ReadAt) (fails : Bool) (word : ℕ) → Determined (read_of at fails word)
read-determined at fails word = determined (read_of at fails word)

pub read-unlock-determined : (word : ℕ) → Determined (read_unlock_of word)
read-unlock-determined word = determined (read_unlock_of word)

pub try-write-determined : (at : TryAt) (fails : Bool) (word : ℕ) → Determined (try_write_of at fails word)
try-write-determined at fails word = determined (try_write_of at fails word)

pub write-unlock-determined : (word : ℕ) → Determined (write_unlock_of word)
write-unlock-determined word = determined (write_unlock_of word)

pub downgrade-determined : (at : DowngradeAt) (word : ℕ) → Determined (downgrade_of at word)
downgrade-determined at word = determined (downgrade_of at word)

pub write-determined : (at : WriteAt) (fails : Bool) (word : ℕ) → Determined (write_of at fails word)
write-determined at fails word = determined (write_of at fails word)

pub wake-writer-or-readers-determined : (writer : Bool) (at : WakeAt) (word : ℕ) (anyone : Bool) → Determined (wake_of writer at word anyone)
wake-writer-or-readers-determined writer at word anyone = determined (wake_of writer at word anyone)

pub decide-determined : (at : RwLockAt) (fails : Bool) (word : ℕ) (anyone : Bool) → Determined (decide_of at fails word anyone)
decide-determined at fails word anyone = determined (decide_of at fails word anyone)

pub after-wait-determined : (at : RwLockAt) → Determined (after_wait at)
after-wait-determined at = determined (after_wait at)

pub operand-determined : (at : RwLockAt) → Determined (operand_of at)
operand-determined at = determined (operand_of at)

pub weak-next-determined : (at : RwLockAt) → Determined (weak_next at)
weak-next-determined at = determined (weak_next at)

pub passed-determined : (at : RwLockAt) → Determined (passed_of at)
passed-determined at = determined (passed_of at)

pub needs-determined : (at : RwLockAt) → Determined (needs_of at)
needs-determined at = determined (needs_of at)

pub waits-determined : (at : RwLockAt) → Determined (waits_of at)
waits-determined at = determined (waits_of at)

pub may-wake-determined : (at : RwLockAt) → Determined (may_wake at)
may-wake-determined at = determined (may_wake at)
