-- Every contract of this crate determines its result: any two results that it allows are equal. Assumes nothing.
use Prim.Native.Nat.{ℕ}
use mathlib.Core.Bool.{Bool}
use Rattle.words.specs.Determined.{Determined, determined}
use Rattle.once.specs.declared.CallAt.{CallAt}
use Rattle.once.specs.declared.Ending.{Ending}
use Rattle.once.specs.declared.OnceAt.{OnceAt}
use Rattle.once.specs.declared.OnceCall.{OnceCall}
use Rattle.once.specs.declared.WaitAt.{WaitAt}
use Rattle.once.specs.Once.{entry_of, call_of, wait_of, is_completed_of, decide_of, close_of, in_closure, after_wait, operand_of, weak_next, passed_of, needs_of, waits_of, may_wake}

pub entry-determined : (call : OnceCall) → Determined (entry_of call)
entry-determined call = determined (entry_of call)

pub call-determined : (ignores : Bool) (at : CallAt) (fails : Bool) (word : ℕ) → Determined (call_of ignores at fails word)
call-determined ignores at fails word = determined (call_of ignores at fails word)

pub wait-determined : (ignores : Bool) (at : WaitAt) (fails : Bool) (word : ℕ) → Determined (wait_of ignores at fails word)
wait-determined ignores at fails word = determined (wait_of ignores at fails word)

pub is-completed-determined : (word : ℕ) → Determined (is_completed_of word)
is-completed-determined word = determined (is_completed_of word)

pub decide-determined : (at : OnceAt) (fails : Bool) (word : ℕ) (anyone : Bool) → Determined (decide_of at fails word anyone)
decide-determined at fails word anyone = determined (decide_of at fails word anyone)

pub close-determined : (ending : Ending) (at : OnceAt) → Determined (close_of ending at)
close-determined ending at = determined (close_of ending at)

pub in-closure-determined : (at : OnceAt) → Determined (in_closure at)
in-closure-determined at = determined (in_closure at)

pub after-wait-determined : (at : OnceAt) → Determined (after_wait at)
after-wait-determined at = determined (after_wait at)

pub operand-determined : (at : OnceAt) → Determined (operand_of at)
operand-determined at = determined (operand_of at)

pub weak-next-determined : (at : OnceAt) → Determined (weak_next at)
weak-next-determined at = determined (weak_next at)

pub passed-determined : (at : OnceAt) → Determined (passed_of at)
passed-determined at = determined (passed_of at)

pub needs-determined : (at : OnceAt) → Determined (needs_of at)
needs-determined at = determined (needs_of at)

pub waits-determined : (at : OnceAt) → Determined (waits_of at)
waits-determined at = determined (waits_of at)

pub may-wake-determined : (at : OnceAt) → Determined (may_wake at)
may-wake-determined at = determined (may_wake at)
