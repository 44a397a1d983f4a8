-- thread_parking/futex.rs, a step at a time, over the value that stands for PARKED. Assumes nothing.
use Rattle.std.specs.Prelude.{ℕ, Bool, true, false, cond}
use Rattle.words.specs.Parker.{EMPTY, NOTIFIED, is_parked, is_notified, less_one}
use Rattle.words.specs.declared.Hold.TheVariants as H
use Rattle.words.specs.declared.Kind.{Kind}
use Rattle.words.specs.declared.Kind.TheVariants as K
use Rattle.words.specs.declared.Needs.{Needs}
use Rattle.words.specs.declared.Needs.TheVariants as N
use Rattle.words.specs.declared.Wake.TheVariants as W
use Rattle.words.specs.declared.Step.{Step}
use Rattle.words.specs.Steps.{moves, sleeps, ends}
use Rattle.thread_parking.specs.declared.ParkerCall.{ParkerCall}
use Rattle.thread_parking.specs.declared.ParkerCall.TheVariants as C
use Rattle.thread_parking.specs.declared.ParkAt.{ParkAt}
use Rattle.thread_parking.specs.declared.ParkAt.TheVariants as P
use Rattle.thread_parking.specs.declared.UnparkAt.{UnparkAt}
use Rattle.thread_parking.specs.declared.UnparkAt.TheVariants as U
use Rattle.thread_parking.specs.declared.ParkerAt.{ParkerAt}
use Rattle.thread_parking.specs.declared.ParkerAt.TheVariants as A

-- where each call starts
unfoldable pub entry_of : ParkerCall → ParkerAt
entry_of C.Park = A.Park P.Subtract
entry_of (C.Unpark thread) = A.Unpark thread U.Swap

-- after a futex_wait, woken or not: the exchange of NOTIFIED for EMPTY
unfoldable pub park_after_wait : ParkAt → ParkAt
park_after_wait P.Subtract = P.Subtract
park_after_wait P.Wait = P.Exchange
park_after_wait P.Exchange = P.Exchange

-- both calls return nothing, which is told as 1
-- `park`: NOTIFIED => EMPTY and return, or EMPTY => PARKED and wait; a wake-up without a token is spurious, and it loops
unfoldable pub park_of : ℕ → ParkAt → ℕ → Step ParkerAt
park_of parked P.Subtract word =
    cond (is_notified word) (ends (less_one parked word) 1 H.Same W.None) (moves (less_one parked word) (A.Park P.Wait))
park_of parked P.Wait word = cond (is_parked parked word) (sleeps word) (moves word (A.Park (park_after_wait P.Wait)))
park_of parked P.Exchange word = cond (is_notified word) (ends EMPTY 1 H.Same W.None) (moves word (A.Park P.Wait))

-- `unpark`: anything => NOTIFIED, and a wake if it was PARKED
unfoldable pub unpark_of : ℕ → ℕ → UnparkAt → ℕ → Step ParkerAt
unpark_of parked thread U.Swap word = cond (is_parked parked word) (moves NOTIFIED (A.Unpark thread U.Wake)) (ends NOTIFIED 1 H.Same W.None)
unpark_of parked thread U.Wake word = ends word 1 H.Same W.One

-- one step, over the word of the Parker that it is about
unfoldable pub decide_of : ℕ → ParkerAt → Bool → ℕ → Bool → Step ParkerAt
decide_of parked (A.Park p) fails word anyone = park_of parked p word
decide_of parked (A.Unpark thread p) fails word anyone = unpark_of parked thread p word

unfoldable pub after_wait : ParkerAt → ParkerAt
after_wait (A.Park p) = A.Park (park_after_wait p)
after_wait (A.Unpark thread p) = A.Unpark thread p

unfoldable pub operand_of : ParkerAt → Kind
operand_of at = K.Parker

-- whose Parker that is: the thread's own, or the named thread's
unfoldable pub parker_of : ℕ → ParkerAt → ℕ
parker_of own (A.Park p) = own
parker_of own (A.Unpark thread p) = thread

-- no exchange of this module is weak, no position carries a value that a test has passed, and nothing is held
unfoldable pub weak_next : ParkerAt → Bool
weak_next at = false

unfoldable pub passed_of : ParkerAt → Bool
passed_of at = true

unfoldable pub needs_of : ParkerAt → Needs
needs_of at = N.Nothing

-- whether a futex_wait is next
unfoldable pub park_waits : ParkAt → Bool
park_waits P.Subtract = false
park_waits P.Wait = true
park_waits P.Exchange = false

unfoldable pub waits_of : ParkerAt → Bool
waits_of (A.Park p) = park_waits p
waits_of (A.Unpark thread p) = false

-- whether a futex_wake is next
unfoldable pub unpark_may_wake : UnparkAt → Bool
unpark_may_wake U.Swap = false
unpark_may_wake U.Wake = true

unfoldable pub may_wake : ParkerAt → Bool
may_wake (A.Park p) = false
may_wake (A.Unpark thread p) = unpark_may_wake p
