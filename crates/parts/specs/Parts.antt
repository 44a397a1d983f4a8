-- A log run in parts, as its bytes are read, and in one piece; and a run that asks for an act each time. Assumes nothing.
use Rattle.std.specs.Prelude.{ℕ, zero, suc, ◌+◌, ◌-◌, ◌*◌, ◌/◌, ◌≤◌, ◌<◌, Bool, true, false, cond, List, [], ◌∷◌, ◌++◌, length, drop, get_or}
use Rattle.tally.specs.declared.Tally.{Tally}
use Rattle.lines.specs.Lines.{line_of, tally_line, LINE}
use Rattle.world.specs.declared.World.{World}
use Rattle.step.specs.declared.Acted.{Acted}
use Rattle.sound.specs.Sound.{sound_world}
use Rattle.acts.specs.Acts.{act_of}
use Rattle.replay_log.specs.declared.Stop.{Stop}
use Rattle.replay_log.specs.declared.Stop.TheVariants as S
use Rattle.replay_log.specs.declared.State.{State}
use Rattle.replay_log.specs.Run.{fields_of, noted, Run, stopped, prefixed, turn_of, run_of, finish_of, finished_tally, finished_line}

-- whether a run stopped for want of room, or by a refusal behind which nothing is run
abbrev pub is_room : Stop → Bool
is_room S.Short = false
is_room S.Room = true
is_room (S.Ended number) = false

abbrev pub has_ended : Stop → Bool
has_ended S.Short = false
has_ended S.Room = false
has_ended (S.Ended number) = true

-- every element of a log is a byte
abbrev pub Bytes : List ℕ → Type 0
Bytes l = (k : ℕ) → get_or l k 0 < 256

-- what `run` does: soundness is tested once, before the first record
abbrev pub part_run : ℕ → List ℕ → State → Run
part_run room l s = run_of (sound_world s.world) room l s

-- the most bytes of a line, whatever its numbers are: three of 20 digits, a name of 7 letters, three spaces and a newline
abbrev pub LONGEST : ℕ
LONGEST = 71

-- room for the line of each record of a list, and for one more
abbrev pub ample : List ℕ → ℕ
ample l = LONGEST * (length l / 10 + 1)

-- a run with room for all its lines
abbrev pub whole_run : List ℕ → State → Run
whole_run l s = part_run (ample l) l s

-- bytes that were read, and the room for the lines when they are run
pub record Part : Type 0 where
  pub bytes : List ℕ
  pub room : ℕ

-- a read with room for its lines, those of the fewer than ten bytes left before it too
abbrev pub roomy : List ℕ → Part
roomy read = record { bytes = read; room = LONGEST * (length read / 10 + 2) }

-- room for the lines of records that have numbers, those of the fewer than ten bytes left before the part too
abbrev pub HasRoom : Part → Type 0
HasRoom p = LINE * (length p.bytes / 10 + 2) ≤ p.room

-- .. of every part
pub data AllHaveRoom : List Part → Type 0 where
  no_part : AllHaveRoom []
  one-part : {p : Part} {parts : List Part} → HasRoom p → AllHaveRoom parts → AllHaveRoom (p ∷ parts)

-- the replay's reads, of at most CHUNK bytes, and its buffer for their lines
abbrev pub CHUNK : ℕ
CHUNK = 24000

abbrev pub BUFFER : ℕ
BUFFER = 65536

abbrev pub buffered : List ℕ → Part
buffered read = record { bytes = read; room = BUFFER }

pub data Chunks : List (List ℕ) → Type 0 where
  no_chunk : Chunks []
  one_chunk : {read : List ℕ} {reads : List (List ℕ)} → length read ≤ CHUNK → Chunks reads → Chunks (read ∷ reads)

unfoldable pub bytes_of : List Part → List ℕ
bytes_of [] = []
bytes_of (p ∷ parts) = p.bytes ++ bytes_of parts

-- what was run, and the bytes that were read and not used
pub record Reached : Type 0 where
  pub run : Run
  pub left : List ℕ

abbrev pub after : Run → Reached → Reached
after r next = record { run = prefixed r.lines r.used next.run; left = next.left }

-- a part is run behind the bytes that the one before it left, from the state that that one reached; where a run ended by a refusal, no
-- further part is run
unfoldable pub parts_from : Stop → List ℕ → State → List Part → Reached
parts_from stop left s [] = record { run = stopped stop s; left = left }
parts_from stop left s (p ∷ parts) =
    let l : List ℕ = left ++ p.bytes in
    let r : Run = part_run p.room l s in
    cond (has_ended r.stop)
    (record { run = r; left = drop r.used l })
    (after r (parts_from r.stop (drop r.used l) r.state parts))

abbrev pub in_parts : State → List Part → Reached
in_parts s parts = parts_from S.Short [] s parts

abbrev pub in_one_piece : State → List ℕ → Reached
in_one_piece s log = record { run = whole_run log s; left = drop (whole_run log s).used log }

-- the refusal of the bytes left; behind a refusal that ended the run there is no other
abbrev pub left_refusal : Stop → ℕ → ℕ → ℕ
left_refusal S.Short number left = finish_of number left
left_refusal S.Room number left = 0
left_refusal (S.Ended refusal) number left = 0

-- the whole transcript, the tally and the world
pub record Told : Type 0 where
  pub transcript : List ℕ
  pub tally : Tally
  pub world : World

abbrev pub told_with : Run → ℕ → Told
told_with r refusal = record {
  transcript = r.lines ++ (finished_line r.state.number refusal ++ tally_line (finished_tally r.state.tally refusal));
  tally = finished_tally r.state.tally refusal;
  world = r.state.world;
}

unfoldable pub told_of : Reached → Told
told_of a = told_with a.run (left_refusal a.run.stop a.run.state.number (length a.left))

-- the run of so many records, each a whole act: soundness is tested each time
unfoldable pub acts_run : ℕ → ℕ → List ℕ → State → Run
acts_run zero room l s = stopped S.Short s
acts_run (suc records) room l s =
    let r : Acted = act_of s.world (fields_of l) in
    let line : List ℕ = line_of s.number r.event in
    turn_of room l s line (acts_run records (room - length line) (drop 10 l) (noted s (fields_of l) r))

abbrev pub run_by_acts : ℕ → List ℕ → State → Run
run_by_acts room l s = acts_run (length l / 10) room l s
