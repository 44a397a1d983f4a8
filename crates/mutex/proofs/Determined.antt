-- Every contract of this crate determines its result: any two results that it allows are equal. Assumes nothing.
use Prim.Native.Nat.{ℕ}
use mathlib.Core.Bool.{Bool}
use Rattle.words.specs.Determined.{Determined, determined}
use Rattle.mutex.specs.declared.LockAt.{LockAt}
use Rattle.mutex.specs.declared.MutexAt.{MutexAt}
use Rattle.mutex.specs.declared.MutexCall.{MutexCall}
use Rattle.mutex.specs.declared.UnlockAt.{UnlockAt}
use Rattle.mutex.specs.Mutex.{entry_of, lock_of, try_lock_of, unlock_of, decide_of, lock_after_wait, after_wait, operand_of, weak_next, lock_passed, passed_of, unlock_needs, needs_of, lock_waits, waits_of, unlock_may_wake, may_wake}

pub entry-determined : (call : MutexCall) → Determined (entry_of call)
entry-determined call = determined (entry_of call)

pub lock-determined : (at : LockAt) (word : ℕ) → Determined (lock_of at word)
lock-determined at word = determined (lock_of at word)

pub try-lock-determined : (word : ℕ) → Determined (try_lock_of word)
try-lock-determined word = determined (try_lock_of word)

pub unlock-determined : (at : UnlockAt) (word : ℕ) → Determined (unlock_of at word)
unlock-determined at word = determined (unlock_of at word)

pub decide-determined : (at : MutexAt) (fails : Bool) (word : ℕ) (anyone : Bool) → Determined (decide_of at fails word anyone)
decide-determined at fails word anyone = determined (decide_of at fails word anyone)

pub lock-after-wait-determined : (at : LockAt) → Determined (lock_after_wait at)
lock-after-wait-determined at = determined (lock_after_wait at)

pub after-wait-determined : (at : MutexAt) → Determined (after_wait at)
after-wait-determined at = determined (after_wait at)

pub operand-determined : (at : MutexAt) → Determined (operand_of at)
operand-determined at = determined (operand_of at)

pub weak-next-determined : (at : MutexAt) → Determined (weak_next at)
weak-next-determined at = determined (weak_next at)

pub lock-passed-determined : (at : LockAt) → Determined (lock_passed at)
lock-passed-determined at = determined (lock_passed at)

pub passed-determined : (at : MutexAt) → Determined (passed_of at)
passed-determined at = determined (passed_of at)

pub unlock-needs-determined : (at : UnlockAt) → Determined (unlock_needs at)
unlock-needs-determined at = determined (unlock_needs at)

pub needs-determined : (at : MutexAt) → Determined (needs_of at)
needs-determined at = determined (needs_of at)

pub lock-waits-determined : (at : LockAt) → Determined (lock_waits at)
lock-waits-determined at = determined (lock_waits at)

pub waits-determined : (at : MutexAt) → Determined (waits_of at)
waits-determined at = determined (waits_of at)

pub unlock-may-wake-determined : (at : UnlockAt) → Determined (unlock_may_wake at)
unlock-may-wake-determined at = determined (unlock_may_wake at)

pub may-wake-determined : (at : MutexAt) → Determined (may_wake at)
may-wake-determined at = determined (may_wake at)
