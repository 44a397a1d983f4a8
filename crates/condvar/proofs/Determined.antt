-- Every contract of this crate determines its result: any two results that it allows are equal. Assumes nothing.
use Prim.Native.Nat.{ℕ}
use mathlib.Core.Bool.{Bool}
use Rattle.words.specs.Determined.{Determined, determined}
use Rattle.condvar.specs.declared.CondvarAt.{CondvarAt}
use Rattle.condvar.specs.declared.CondvarCall.{CondvarCall}
use Rattle.condvar.specs.declared.NotifyAt.{NotifyAt}
use Rattle.condvar.specs.declared.WaitAt.{WaitAt}
use Rattle.condvar.specs.Condvar.{entry_of, wait_of, notify_of, decide_of, after_wait, operand_of, object_of, mutex_of, weak_next, passed_of, needs_of, waits_of, may_wake}

pub entry-determined : (call : CondvarCall) → Determined (entry_of call)
entry-determined call = determined (entry_of call)

pub wait-determined : (mutex : ℕ) (at : WaitAt) (word : ℕ) → Determined (wait_of mutex at word)
wait-determined mutex at word = determined (wait_of mutex at word)

pub notify-determined : (all : Bool) (at : NotifyAt) (word : ℕ) → Determined (notify_of all at word)
notify-determined all at word = determined (notify_of all at word)

pub decide-determined : (at : CondvarAt) (fails : Bool) (word : ℕ) (anyone : Bool) → Determined (decide_of at fails word anyone)
decide-determined at fails word anyone = determined (decide_of at fails word anyone)

pub after-wait-determined : (at : CondvarAt) → Determined (after_wait at)
after-wait-determined at = determined (after_wait at)

pub operand-determined : (at : CondvarAt) → Determined (operand_of at)
operand-determined at = determined (operand_of at)

pub object-determined : (own : ℕ) (at : CondvarAt) → Determined (object_of own at)
object-determined own at = determined (object_of own at)

pub mutex-of-determined : (at : CondvarAt) → Determined (mutex_of at)
mutex-of-determined at = determined (mutex_of at)

pub weak-next-determined : (at : CondvarAt) → Determined (weak_next at)
weak-next-determined at = determined (weak_next at)

pub passed-determined : (at : CondvarAt) → Determined (passed_of at)
passed-determined at = determined (passed_of at)

pub needs-determined : (at : CondvarAt) → Determined (needs_of at)
needs-determined at = determined (needs_of at)

pub waits-determined : (at : CondvarAt) → Determined (waits_of at)
waits-determined at = determined (waits_of at)

pub may-wake-determined : (at : CondvarAt) → Determined (may_wake at)
may-wake-determined at = determined (may_wake at)
