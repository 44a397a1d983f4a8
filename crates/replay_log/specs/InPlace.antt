-- Which records the run stores in place, and what a turn of the run does. Nobody needs to believe these: no public contract cites them;
-- `quick-step` and `begin-step` in proofs/Quick.antt say that what `quick_of` and `quick_begin` let through is the act, `quick-does` and
-- `begin-does` that what is stored in place is. Assumes nothing.
use Rattle.std.specs.Prelude.{ℕ, ◌+◌, ◌<◌, Bool, true, false, not, ◌&&◌, ◌≡◌, eqb, ltb, leb, List, length, cond, Result, Ok, Err}
use Rattle.queue.specs.Row.{THREADS}
use Rattle.calls.specs.declared.Event.{Event}
use Rattle.calls.specs.declared.Event.TheVariants as E
use Rattle.calls.specs.declared.Thread.{Thread}
use Rattle.calls.specs.Events.{tell_of}
use Rattle.calls.specs.Objects.{WORDS}
use Rattle.calls.specs.Positions.{may_wake, is_idle}
use Rattle.tally.specs.Tally.{add_event, grants_of}
use Rattle.lines.specs.Lines.{line_of, laid}
use Rattle.world.specs.declared.World.{World}
use Rattle.world.specs.World.{thread_at}
use Rattle.step.specs.declared.Acted.{Acted}
use Rattle.step.specs.Step.{own_plan}
use Rattle.step.specs.Acts.{begin_of}
use Rattle.acts.specs.declared.Fields.{Fields}
use Rattle.replay_log.specs.declared.InPlace.{InPlace}
use Rattle.replay_log.specs.declared.InPlace.TheVariants as P
use Rattle.replay_log.specs.declared.Stop.{Stop}
use Rattle.replay_log.specs.declared.Stop.TheVariants as S
use Rattle.replay_log.specs.declared.Ran.{Ran}
use Rattle.replay_log.specs.Run.{fields_of, ending_of, answer_of}
use Rattle.acts.specs.Refusals.{BEGIN, STEP, fields_refusal, step_refusal}

-- a step that is accepted and wakes nobody, of a thread with this record
unfoldable pub calm_of : Bool → Fields → Thread → Bool
calm_of sound a th =
    sound && eqb a.act STEP && ltb a.thread THREADS && eqb (fields_refusal a) 0 && eqb (step_refusal th a.choice) 0 && not (may_wake th.at)

-- .. about word k
unfoldable pub quick_of : Bool → Fields → Thread → ℕ → Bool
quick_of sound a th k = calm_of sound a th && ltb k WORDS

-- a begin that is accepted, of a thread with this record; `held`: whether the hold that the call needs is there
unfoldable pub quick_begin : Bool → Fields → Thread → Bool → Bool
quick_begin sound a th held =
    sound && eqb a.act BEGIN && ltb a.thread THREADS && eqb (fields_refusal a) 0 && is_idle th.at && held

-- what is told of an act that is stored in place, and what it stores where thread t acts
unfoldable pub told_by : InPlace → Event
told_by (P.Step k plan) = tell_of plan.event 0
told_by (P.Begin at) = E.Begun

unfoldable pub stored_by : World → ℕ → InPlace → World
stored_by w t (P.Step k plan) = own_plan w t k plan
stored_by w t (P.Begin at) = (begin_of w t at).world

-- what is stored in place is what the act of the record does
pub record Does (sound : Bool) (w : World) (a : Fields) (act : InPlace) : Type 0 where
  pub there : a.thread < THREADS
  pub event : told_by act ≡ (answer_of sound w a).event
  pub world : stored_by w a.thread act ≡ (answer_of sound w a).world

-- whether an event's line has room behind those of a run
abbrev pub fits : List ℕ → Ran → Event → Bool
fits out r e = leb (r.count + length (line_of r.state.number e)) (length out)

-- a run with an event told
unfoldable pub told : Ran → Event → Bool → Ran
told r e grant = record { state = record { world = r.state.world; tally = add_event r.state.tally e grant; number = r.state.number }; used = r.used; count = r.count + length (line_of r.state.number e); stop = r.stop }

-- an event's line laid, and the event told
pub record Told (e : Event) (grant : Bool) (r r' : Ran) (out out' : List ℕ) : Type 0 where
  pub room : fits out r e ≡ true
  pub after : r' ≡ told r e grant
  pub lays : out' ≡ laid out r.count (line_of r.state.number e)

-- no room for it: nothing changes
pub record NoRoom (e : Event) (r r' : Ran) (out out' : List ℕ) : Type 0 where
  pub room : fits out r e ≡ false
  pub same : r' ≡ r
  pub keeps : out' ≡ out

-- an attempt to tell an event
unfoldable pub Tells : Event → Bool → Ran → Ran → List ℕ → List ℕ → Result Unit Stop → Type 0
Tells e grant r r' out out' (Ok done) = Told e grant r r' out out'
Tells e grant r r' out out' (Err S.Short) = ⊥
Tells e grant r r' out out' (Err S.Room) = NoRoom e r r' out out'
Tells e grant r r' out out' (Err (S.Ended number)) = ⊥

-- a run with an act's answer told, and its world
unfoldable pub acted_on : Ran → Fields → Acted → Ran
acted_on r a d = record {
  state = record { world = d.world; tally = add_event r.state.tally d.event (grants_of (thread_at r.state.world a.thread).at); number = r.state.number };
  used = r.used;
  count = r.count + length (line_of r.state.number d.event);
  stop = r.stop;
}

-- an act's line laid, and its answer stored
pub record Acted_on (a : Fields) (d : Acted) (r r' : Ran) (out out' : List ℕ) : Type 0 where
  pub room : fits out r d.event ≡ true
  pub after : r' ≡ acted_on r a d
  pub lays : out' ≡ laid out r.count (line_of r.state.number d.event)

-- an attempt to do a record's act, whose answer is d
unfoldable pub Acts : Fields → Acted → Ran → Ran → List ℕ → List ℕ → Result Unit Stop → Type 0
Acts a d r r' out out' (Ok done) = Acted_on a d r r' out out'
Acts a d r r' out out' (Err S.Short) = ⊥
Acts a d r r' out out' (Err S.Room) = NoRoom d.event r r' out out'
Acts a d r r' out out' (Err (S.Ended number)) = ⊥

-- the answer to the record that the bytes begin with, in a run's world
abbrev pub answer_in : Bool → List ℕ → Ran → Acted
answer_in sound l r = answer_of sound r.state.world (fields_of l)

-- what is told before the run goes on or ends: a refusal that ends it, or the act's event
unfoldable pub next_event : Bool → List ℕ → Ran → Event
next_event sound l r = cond (eqb (ending_of r.state.number l) 0) (answer_in sound l r).event (E.Refused (ending_of r.state.number l))

-- one record was run: its act is done, and the next has the next number
unfoldable pub numbered_on : Ran → Ran
numbered_on r = record { state = record { world = r.state.world; tally = r.state.tally; number = r.state.number + 1 }; used = r.used; count = r.count; stop = r.stop }

pub record Went (sound : Bool) (l : List ℕ) (r r' : Ran) (out out' : List ℕ) : Type 0 where
  pub goes : ending_of r.state.number l ≡ 0
  pub room : fits out r (answer_in sound l r).event ≡ true
  pub after : r' ≡ numbered_on (acted_on r (fields_of l) (answer_in sound l r))
  pub lays : out' ≡ laid out r.count (line_of r.state.number (answer_in sound l r).event)

-- a refusal was told that ends the run
pub record Ends (number : ℕ) (l : List ℕ) (r r' : Ran) (out out' : List ℕ) : Type 0 where
  pub is : number ≡ ending_of r.state.number l
  pub some : eqb number 0 ≡ false
  pub tells : Told (E.Refused number) false r r' out out'

-- a turn over the record that the bytes begin with
unfoldable pub Turns : Bool → List ℕ → Ran → Ran → List ℕ → List ℕ → Result Unit Stop → Type 0
Turns sound l r r' out out' (Ok done) = Went sound l r r' out out'
Turns sound l r r' out out' (Err S.Short) = ⊥
Turns sound l r r' out out' (Err S.Room) = NoRoom (next_event sound l r) r r' out out'
Turns sound l r r' out out' (Err (S.Ended number)) = Ends number l r r' out out'
