-- What a solo run answers, in document 01's words: the stop, the count of steps to it, the sleepers woken, the world. Assumes nothing.
use Rattle.std.specs.Prelude.{ℕ, List, [], ◌∷◌}
use Rattle.calls.specs.declared.Event.{Event}
use Rattle.calls.specs.declared.Event.TheVariants as E
use Rattle.world.specs.declared.World.{World}
use Rattle.solo.specs.Run as Run
use Rattle.solo.specs.declared.Stop.{Stop}
use Rattle.solo.specs.declared.Stop.TheVariants as S
use Rattle.solo.specs.declared.Ran.{Ran}

-- the stop that the last event is: a run that only moved was ended by its budget. A step tells no set, begun, woken or closed.
unfoldable pub stop_of : Event → Stop
stop_of E.Set = S.Refused 19
stop_of E.Begun = S.Refused 19
stop_of (E.Moved woken) = S.Budget
stop_of (E.Done value woken) = S.Done value
stop_of E.Slept = S.Slept
stop_of (E.Panic number woken) = S.Panic number
stop_of E.Closure = S.Closure
stop_of E.Woken = S.Refused 19
stop_of E.Closed = S.Refused 19
stop_of (E.Refused number) = S.Refused number

unfoldable pub answer_of : Run.Ran → Ran
answer_of r = record { stop = stop_of r.event; count = r.count; woken = r.woken; world = r.world }

abbrev pub refused_answer : ℕ → World → Ran
refused_answer number w = record { stop = S.Refused number; count = 0; woken = 0; world = w }

-- document 01's name of each case, in ASCII with spaces behind it up to NAME bytes
abbrev pub NAME : ℕ
NAME = 7

unfoldable pub name_of : Stop → List ℕ
-- done
name_of (S.Done value) = 100 ∷ 111 ∷ 110 ∷ 101 ∷ 32 ∷ 32 ∷ 32 ∷ []
-- slept
name_of S.Slept = 115 ∷ 108 ∷ 101 ∷ 112 ∷ 116 ∷ 32 ∷ 32 ∷ []
-- panic
name_of (S.Panic number) = 112 ∷ 97 ∷ 110 ∷ 105 ∷ 99 ∷ 32 ∷ 32 ∷ []
-- closure
name_of S.Closure = 99 ∷ 108 ∷ 111 ∷ 115 ∷ 117 ∷ 114 ∷ 101 ∷ []
-- budget
name_of S.Budget = 98 ∷ 117 ∷ 100 ∷ 103 ∷ 101 ∷ 116 ∷ 32 ∷ []
-- refused
name_of (S.Refused number) = 114 ∷ 101 ∷ 102 ∷ 117 ∷ 115 ∷ 101 ∷ 100 ∷ []

-- its number: 1 or 0 for done, the number of a panic or a refusal, else 0
unfoldable pub value_of : Stop → ℕ
value_of (S.Done value) = value
value_of S.Slept = 0
value_of (S.Panic number) = number
value_of S.Closure = 0
value_of S.Budget = 0
value_of (S.Refused number) = number
