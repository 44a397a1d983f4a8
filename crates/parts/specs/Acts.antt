-- A run is a row of acts, though it tests soundness but once; and a world that is not sound answers every whole, well-marked record with
-- 19 and stays as it is. Assumes nothing.
use Rattle.std.specs.Prelude.{ℕ, zero, suc, ◌+◌, ◌*◌, ◌≤◌, ◌≡◌, true, false, List, [], ◌++◌, length, drop}
use Rattle.calls.specs.declared.Event.TheVariants as E
use Rattle.tally.specs.declared.Tally.{Tally}
use Rattle.tally.specs.Tally.{add_event}
use Rattle.lines.specs.Lines.{line_of}
use Rattle.replay_log.specs.declared.Stop.{Stop}
use Rattle.replay_log.specs.declared.Stop.TheVariants as S
use Rattle.replay_log.specs.declared.State.{State}
use Rattle.replay_log.specs.Run.{mark_of, Run}

-- the lines of so many refusals 19, from a number on, and the tally with them
unfoldable pub refusals : ℕ → ℕ → List ℕ
refusals zero number = []
refusals (suc count) number = line_of number (E.Refused 19) ++ refusals count (number + 1)

unfoldable pub refused_tally : ℕ → Tally → Tally
refused_tally zero t = t
refused_tally (suc count) t = refused_tally count (add_event t (E.Refused 19) false)

-- the line of the refusal that ended a run, if one did, and the tally with it
abbrev pub ending_line : Stop → ℕ → List ℕ
ending_line S.Short number = []
ending_line S.Room number = []
ending_line (S.Ended refusal) number = line_of number (E.Refused refusal)

abbrev pub ending_tally : Stop → Tally → Tally
ending_tally S.Short t = t
ending_tally S.Room t = t
ending_tally (S.Ended refusal) t = add_event t (E.Refused refusal) false

-- a run that refused every record that it used
pub record Refuses (s : State) (r : Run) : Type 0 where
  pub count : ℕ
  pub used : r.used ≡ 10 * count
  pub number : r.state.number ≡ s.number + count
  pub world : r.state.world ≡ s.world
  pub lines : r.lines ≡ refusals count s.number ++ ending_line r.stop r.state.number
  pub tally : r.state.tally ≡ ending_tally r.stop (refused_tally count s.tally)

-- every whole record of a list begins with the mark
abbrev pub WellMarked : List ℕ → Type 0
WellMarked l = (k : ℕ) → 10 * k + 10 ≤ length l → mark_of (drop (10 * k) l) ≡ true
