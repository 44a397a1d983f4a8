-- Every contract of this crate determines its result: any two results that it allows are equal. Assumes nothing.
use Prim.Native.Nat.{ℕ}
use mathlib.Core.Bool.{Bool}
use Rattle.words.specs.Determined.{Determined, determined}
use Rattle.thread_parking.specs.declared.ParkAt.{ParkAt}
use Rattle.thread_parking.specs.declared.ParkerAt.{ParkerAt}
use Rattle.thread_parking.specs.declared.ParkerCall.{ParkerCall}
use Rattle.thread_parking.specs.declared.UnparkAt.{UnparkAt}
use Rattle.words.specs.Parker.{PARKED}
use Rattle.thread_parking.specs.ThreadParking.{entry_of, park_of, unpark_of, decide_of, after_wait, operand_of, parker_of, weak_next, passed_of, needs_of, waits_of, may_wake}

pub entry-determined : (call : ParkerCall) → Determined (entry_of call)
entry-determined call = determined (entry_of call)

pub park-determined : (at : ParkAt) (word : ℕ) → Determined (park_of PARKED at word)
park-determined at word = determined (park_of PARKED at word)

pub unpark-determined : (thread : ℕ) (at : UnparkAt) (word : ℕ) → Determined (unpark_of PARKED thread at word)
unpark-determined thread at word = determined (unpark_of PARKED thread at word)

pub decide-determined : (at : ParkerAt) (fails : Bool) (word : ℕ) (anyone : Bool) → Determined (decide_of PARKED at fails word anyone)
decide-determined at fails word anyone = determined (decide_of PARKED at fails word anyone)

pub after-wait-determined : (at : ParkerAt) → Determined (after_wait at)
after-wait-determined at = determined (after_wait at)

pub operand-determined : (at : ParkerAt) → Determined (operand_of at)
operand-determined at = determined (operand_of at)

pub parker-determined : (own : ℕ) (at : ParkerAt) → Determined (parker_of own at)
parker-determined own at = determined (parker_of own at)

pub weak-next-determined : (at : ParkerAt) → Determined (weak_next at)
weak-next-determined at = determined (weak_next at)

pub passed-determined : (at : ParkerAt) → Determined (passed_of at)
passed-determined at = determined (passed_of at)

pub needs-determined : (at : ParkerAt) → Determined (needs_of at)
needs-determined at = determined (needs_of at)

pub waits-determined : (at : ParkerAt) → Determined (waits_of at)
waits-determined at = determined (waits_of at)

pub may-wake-determined : (at : ParkerAt) → Determined (may_wake at)
may-wake-determined at = determined (may_wake at)
