-- What an act answers, with document 01's values for each case. Assumes nothing.
use Rattle.std.specs.Prelude.{ℕ, Bool, true, false}
use Rattle.calls.specs.declared.Event.{Event}
use Rattle.calls.specs.declared.Event.TheVariants as E

-- the value told: 1 or 0 for done, the number of a panic or a refusal, else 0
unfoldable pub value_of : Event → ℕ
value_of E.Set = 0
value_of E.Begun = 0
value_of (E.Moved woken) = 0
value_of (E.Done value woken) = value
value_of E.Slept = 0
value_of (E.Panic number woken) = number
value_of E.Closure = 0
value_of E.Woken = 0
value_of E.Closed = 0
value_of (E.Refused number) = number

-- the number of sleepers woken by it: 1 for a spurious wake
unfoldable pub woken_of : Event → ℕ
woken_of E.Set = 0
woken_of E.Begun = 0
woken_of (E.Moved woken) = woken
woken_of (E.Done value woken) = woken
woken_of E.Slept = 0
woken_of (E.Panic number woken) = woken
woken_of E.Closure = 0
woken_of E.Woken = 1
woken_of E.Closed = 0
woken_of (E.Refused number) = 0

-- a step's event, once the sleepers that it wakes are counted
unfoldable pub tell_of : Event → ℕ → Event
tell_of E.Set count = E.Set
tell_of E.Begun count = E.Begun
tell_of (E.Moved woken) count = E.Moved count
tell_of (E.Done value woken) count = E.Done value count
tell_of E.Slept count = E.Slept
tell_of (E.Panic number woken) count = E.Panic number count
tell_of E.Closure count = E.Closure
tell_of E.Woken count = E.Woken
tell_of E.Closed count = E.Closed
tell_of (E.Refused number) count = E.Refused number

-- the kind of an event, whatever its numbers; a step's event moves its thread on or stops it
pub data EventKind : Type 0 where
  a-set : EventKind
  a-begin : EventKind
  a_move : EventKind
  a-stop : EventKind
  a-wake : EventKind
  a-close : EventKind
  a-refusal : EventKind

abbrev pub event_kind : Event → EventKind
event_kind E.Set = a-set
event_kind E.Begun = a-begin
event_kind (E.Moved woken) = a_move
event_kind (E.Done value woken) = a-stop
event_kind E.Slept = a-stop
event_kind (E.Panic number woken) = a-stop
event_kind E.Closure = a-stop
event_kind E.Woken = a-wake
event_kind E.Closed = a-close
event_kind (E.Refused number) = a-refusal

-- the event of a set act
abbrev pub of_set : EventKind → Bool
of_set a-set = true
of_set a-begin = false
of_set a_move = false
of_set a-stop = false
of_set a-wake = false
of_set a-close = false
of_set a-refusal = false

abbrev pub is_set : Event → Bool
is_set e = of_set (event_kind e)

-- the events of a step that was run
abbrev pub is_step : Event → Bool
is_step E.Set = false
is_step E.Begun = false
is_step (E.Moved woken) = true
is_step (E.Done value woken) = true
is_step E.Slept = true
is_step (E.Panic number woken) = true
is_step E.Closure = true
is_step E.Woken = false
is_step E.Closed = false
is_step (E.Refused number) = false

-- a run of one thread goes on after a step that moved
abbrev pub goes_on : Event → Bool
goes_on E.Set = false
goes_on E.Begun = false
goes_on (E.Moved woken) = true
goes_on (E.Done value woken) = false
goes_on E.Slept = false
goes_on (E.Panic number woken) = false
goes_on E.Closure = false
goes_on E.Woken = false
goes_on E.Closed = false
goes_on (E.Refused number) = false

-- the event of a refused act
abbrev pub of_refusal : EventKind → Bool
of_refusal a-set = false
of_refusal a-begin = false
of_refusal a_move = false
of_refusal a-stop = false
of_refusal a-wake = false
of_refusal a-close = false
of_refusal a-refusal = true

abbrev pub is_refusal : Event → Bool
is_refusal e = of_refusal (event_kind e)
