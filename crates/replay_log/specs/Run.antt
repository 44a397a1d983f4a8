-- The run of a log of records, ten bytes each: the lines, the world and the tally. Assumes nothing.
use Rattle.std.specs.Prelude.{ℕ, ◌+◌, ◌-◌, ◌*◌, ◌≤◌, ◌≡◌, Bool, false, cond, ◌&&◌, List, [], ◌∷◌, ◌++◌, eqb, ltb, leb, length, get_or, take, drop}
use Rattle.calls.specs.declared.Event.TheVariants as E
use Rattle.tally.specs.declared.Tally.{Tally}
use Rattle.tally.specs.Tally.{add_event, grants_of}
use Rattle.lines.specs.Lines.{line_of, laid, end_of}
use Rattle.world.specs.declared.World.{World}
use Rattle.world.specs.World.{thread_at}
use Rattle.step.specs.declared.Acted.{Acted}
use Rattle.step.specs.Step.{refused}
use Rattle.acts.specs.declared.Fields.{Fields}
use Rattle.acts.specs.Acts.{acted_of}
use Rattle.replay_log.specs.declared.Stop.{Stop}
use Rattle.replay_log.specs.declared.Stop.TheVariants as S
use Rattle.replay_log.specs.declared.State.{State}
use Rattle.replay_log.specs.declared.Ran.{Ran}
use Rattle.replay_log.specs.declared.Finished.{Finished}

-- so many records have numbers; any byte behind them is refused
abbrev pub LAST : ℕ
LAST = 4294967295

-- a record's fields, from a list's first ten bytes, the value low byte first
abbrev pub fields_of : List ℕ → Fields
fields_of l = record {
  act = get_or l 2 0;
  choice = get_or l 3 0;
  thread = get_or l 4 0;
  object = get_or l 5 0;
  value = get_or l 6 0 + get_or l 7 0 * 256 + get_or l 8 0 * 65536 + get_or l 9 0 * 16777216;
}

-- whether they begin with the mark 0xB1 0x6B
unfoldable pub mark_of : List ℕ → Bool
mark_of l = eqb (get_or l 0 0) 177 && eqb (get_or l 1 0) 107

-- an act's answer: soundness is tested once, before the first record
unfoldable pub answer_of : Bool → World → Fields → Acted
answer_of sound w a = cond sound (acted_of w a) (refused 19 w)

-- the state after a record: a grant is told by the call of the thread's record before the act
unfoldable pub noted : State → Fields → Acted → State
noted s a r = record { world = r.world; tally = add_event s.tally r.event (grants_of (thread_at s.world a.thread).at); number = s.number + 1 }

-- the lines of a run, the state that it reached, the bytes that it used, and why it stopped
pub record Run : Type 0 where
  pub lines : List ℕ
  pub state : State
  pub used : ℕ
  pub stop : Stop

abbrev pub stopped : Stop → State → Run
stopped stop s = record { lines = []; state = s; used = 0; stop = stop }

-- refusals 20 and 22 end the run: their line, if there is room for it
abbrev pub last_state : ℕ → State → State
last_state number s = record { world = s.world; tally = add_event s.tally (E.Refused number) false; number = s.number }

abbrev pub last_line : ℕ → State → List ℕ
last_line number s = line_of s.number (E.Refused number)

unfoldable pub ended_by : ℕ → ℕ → State → Run
ended_by room number s =
    cond (leb (length (last_line number s)) room)
    (record { lines = last_line number s; state = last_state number s; used = 0; stop = S.Ended number })
    (stopped S.Room s)

-- lines and bytes before a run
abbrev pub prefixed : List ℕ → ℕ → Run → Run
prefixed lines used r = record { lines = lines ++ r.lines; state = r.state; used = used + r.used; stop = r.stop }

-- the refusal that ends a run before a record: 22 where the numbers are used up, 20 for a bad mark; 0 is neither
unfoldable pub ending_of : ℕ → List ℕ → ℕ
ending_of number l = cond (eqb number LAST) 22 (cond (mark_of l) 0 20)

-- one record, and the run of those behind it: an ending refusal comes before the act, whose line must have room
unfoldable pub turn_of : ℕ → List ℕ → State → List ℕ → Run → Run
turn_of room l s line rest =
    cond (eqb (ending_of s.number l) 0)
    (cond (leb (length line) room) (prefixed line 10 rest) (stopped S.Room s))
    (ended_by room (ending_of s.number l) s)

-- the answer to the record that a list begins with, and its line
abbrev pub record_answer : Bool → List ℕ → State → Acted
record_answer sound l s = answer_of sound s.world (fields_of l)

abbrev pub record_line : Bool → List ℕ → State → List ℕ
record_line sound l s = line_of s.number (record_answer sound l s).event

abbrev pub record_state : Bool → List ℕ → State → State
record_state sound l s = noted s (fields_of l) (record_answer sound l s)

-- the run of whole records, into so much room; fewer than ten bytes are left
unfoldable pub run_of : Bool → ℕ → List ℕ → State → Run
run_of sound room [] s = stopped S.Short s
run_of sound room (a ∷ []) s = stopped S.Short s
run_of sound room (a ∷ b ∷ []) s = stopped S.Short s
run_of sound room (a ∷ b ∷ c ∷ []) s = stopped S.Short s
run_of sound room (a ∷ b ∷ c ∷ d ∷ []) s = stopped S.Short s
run_of sound room (a ∷ b ∷ c ∷ d ∷ e ∷ []) s = stopped S.Short s
run_of sound room (a ∷ b ∷ c ∷ d ∷ e ∷ f ∷ []) s = stopped S.Short s
run_of sound room (a ∷ b ∷ c ∷ d ∷ e ∷ f ∷ g ∷ []) s = stopped S.Short s
run_of sound room (a ∷ b ∷ c ∷ d ∷ e ∷ f ∷ g ∷ h ∷ []) s = stopped S.Short s
run_of sound room (a ∷ b ∷ c ∷ d ∷ e ∷ f ∷ g ∷ h ∷ i ∷ []) s = stopped S.Short s
run_of sound room (a ∷ b ∷ c ∷ d ∷ e ∷ f ∷ g ∷ h ∷ i ∷ j ∷ rest) s =
    let l : List ℕ = a ∷ b ∷ c ∷ d ∷ e ∷ f ∷ g ∷ h ∷ i ∷ j ∷ rest in
    turn_of room l s (record_line sound l s) (run_of sound (room - length (record_line sound l s)) rest (record_state sound l s))

abbrev pub state_of : World → Tally → ℕ → State
state_of w t number = record { world = w; tally = t; number = number }

-- what `run` answers
unfoldable pub ran_of : Run → Ran
ran_of r = record { state = r.state; used = r.used; count = length r.lines; stop = r.stop }

-- so many bytes are a list's first ones, and no more than it has
abbrev pub IsPrefixLen : ℕ → List ℕ → Type 0
IsPrefixLen n l = (n ≤ length l) × (n ≡ length (take n l))

-- what a run over `len` bytes answers and leaves in its buffer: the answer and the buffer are fixed, and the rest follows for callers
pub record Answers (run : Run) (len : ℕ) (r : Ran) (out out' : List ℕ) : Type 0 where
  pub ran : r ≡ ran_of run
  pub wrote : out' ≡ laid out 0 run.lines
  pub counts : IsPrefixLen r.count out'
  pub within : r.used ≤ len

-- after the last run: 22 for any byte left once the numbers are used up, 21 for 1 to 9 bytes; 0 is neither
unfoldable pub finish_of : ℕ → ℕ → ℕ
finish_of number left = cond (eqb left 0) 0 (cond (eqb number LAST) 22 (cond (ltb left 10) 21 0))

unfoldable pub finished_tally : Tally → ℕ → Tally
finished_tally t number = cond (eqb number 0) t (add_event t (E.Refused number) false)

unfoldable pub finished_line : ℕ → ℕ → List ℕ
finished_line at number = cond (eqb number 0) [] (line_of at (E.Refused number))

-- the tally with that refusal, and the bytes that its line takes in a buffer of so much room
unfoldable pub finished_of : ℕ → Tally → ℕ → ℕ → Finished
finished_of room t at number = record { tally = finished_tally t number; count = end_of room 0 (finished_line at number) }

-- the bytes from one place up to another, moved to the start
abbrev pub moved_of : List ℕ → ℕ → ℕ → List ℕ
moved_of buf from n = take n (drop from buf) ++ drop n buf

unfoldable pub carried_of : List ℕ → ℕ → ℕ → List ℕ
carried_of buf from end = cond (leb end (length buf)) (moved_of buf from (end - from)) buf
