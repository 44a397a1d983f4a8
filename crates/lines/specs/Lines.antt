-- What the transcript's lines are: document 01's bytes, and what laying them into a buffer leaves. Assumes nothing.
use Rattle.std.specs.Prelude.{ℕ, zero, suc, ◌+◌, ◌/◌, ◌%◌, cond, List, [], ◌∷◌, ◌++◌, ltb, leb, length, take, drop}
use Rattle.calls.specs.declared.Event.{Event}
use Rattle.calls.specs.declared.Event.TheVariants as E
use Rattle.calls.specs.Events.{value_of, woken_of}
use Rattle.tally.specs.declared.Tally.{Tally}

-- the ASCII code of a digit
abbrev pub digit : ℕ → ℕ
digit d = 48 + d

-- the decimal digits of n, no more than as many as the first number says
unfoldable pub text_from : ℕ → ℕ → List ℕ
text_from zero n = []
text_from (suc more) n = cond (ltb n 10) (digit n ∷ []) (text_from more (n / 10) ++ (digit (n % 10) ∷ []))

-- the decimal digits of a number: one of 64 bits has at most 20
unfoldable pub decimal_of : ℕ → List ℕ
decimal_of n = text_from 20 n

abbrev pub space : List ℕ
space = 32 ∷ []

abbrev pub newline : List ℕ
newline = 10 ∷ []

-- the word for an event
unfoldable pub name_of : Event → List ℕ
name_of E.Set = 115 ∷ 101 ∷ 116 ∷ []  -- set
name_of E.Begun = 98 ∷ 101 ∷ 103 ∷ 117 ∷ 110 ∷ []  -- begun
name_of (E.Moved woken) = 109 ∷ 111 ∷ 118 ∷ 101 ∷ 100 ∷ []  -- moved
name_of (E.Done value woken) = 100 ∷ 111 ∷ 110 ∷ 101 ∷ []  -- done
name_of E.Slept = 115 ∷ 108 ∷ 101 ∷ 112 ∷ 116 ∷ []  -- slept
name_of (E.Panic number woken) = 112 ∷ 97 ∷ 110 ∷ 105 ∷ 99 ∷ []  -- panic
name_of E.Closure = 99 ∷ 108 ∷ 111 ∷ 115 ∷ 117 ∷ 114 ∷ 101 ∷ []  -- closure
name_of E.Woken = 119 ∷ 111 ∷ 107 ∷ 101 ∷ 110 ∷ []  -- woken
name_of E.Closed = 99 ∷ 108 ∷ 111 ∷ 115 ∷ 101 ∷ 100 ∷ []  -- closed
name_of (E.Refused number) = 114 ∷ 101 ∷ 102 ∷ 117 ∷ 115 ∷ 101 ∷ 100 ∷ []  -- refused

-- the line of a record: its number, the event, the value and the sleepers woken
unfoldable pub line_of : ℕ → Event → List ℕ
line_of number event =
    (decimal_of number ++ space)
    ++ (name_of event ++ space)
    ++ (decimal_of (value_of event) ++ space)
    ++ (decimal_of (woken_of event) ++ newline)

-- a count of the tally: its name, the number, and what comes after it
abbrev pub count_of : List ℕ → ℕ → List ℕ → List ℕ
count_of name count after = (name ++ space) ++ (decimal_of count ++ after)

abbrev pub grants_name : List ℕ
grants_name = 103 ∷ 114 ∷ 97 ∷ 110 ∷ 116 ∷ 115 ∷ []  -- grants

abbrev pub sleeps_name : List ℕ
sleeps_name = 115 ∷ 108 ∷ 101 ∷ 101 ∷ 112 ∷ 115 ∷ []  -- sleeps

abbrev pub wakes_name : List ℕ
wakes_name = 119 ∷ 97 ∷ 107 ∷ 101 ∷ 115 ∷ []  -- wakes

abbrev pub panics_name : List ℕ
panics_name = 112 ∷ 97 ∷ 110 ∷ 105 ∷ 99 ∷ 115 ∷ []  -- panics

abbrev pub refused_name : List ℕ
refused_name = 114 ∷ 101 ∷ 102 ∷ 117 ∷ 115 ∷ 101 ∷ 100 ∷ []  -- refused

-- the last line: the five counts
unfoldable pub tally_line : Tally → List ℕ
tally_line tally =
    count_of grants_name tally.grants space
    ++ count_of sleeps_name tally.sleeps space
    ++ count_of wakes_name tally.wakes space
    ++ count_of panics_name tally.panics space
    ++ count_of refused_name tally.refused newline

-- the most bytes of an event's line, and of the tally's
abbrev pub LINE : ℕ
LINE = 27

abbrev pub TALLY_LINE : ℕ
TALLY_LINE = 140

-- a buffer with bytes laid into it from a place
unfoldable pub laid : List ℕ → ℕ → List ℕ → List ℕ
laid out at bytes = take at out ++ (bytes ++ drop (at + length bytes) out)

-- the buffer after an attempt: bytes that do not fit leave it as it was
unfoldable pub lay_of : List ℕ → ℕ → List ℕ → List ℕ
lay_of out at bytes = cond (leb (at + length bytes) (length out)) (laid out at bytes) out

-- the place after the bytes, in a buffer of len bytes; where they do not fit, the place before them
unfoldable pub end_of : ℕ → ℕ → List ℕ → ℕ
end_of len at bytes = cond (leb (at + length bytes) len) (at + length bytes) at
