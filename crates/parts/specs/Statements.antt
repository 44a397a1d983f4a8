-- A log run in parts, a run as a row of acts, and the room of its lines: the statements. Assumes nothing.
use Rattle.std.specs.Prelude.{ℕ, ◌+◌, ◌-◌, ◌*◌, ◌/◌, ◌≤◌, ◌<◌, ◌≡◌, Bool, false, List, map, length}
use Rattle.replay_log.specs.declared.Stop.TheVariants as S
use Rattle.replay_log.specs.declared.State.{State}
use Rattle.replay_log.specs.Run.{run_of, LAST}
use Rattle.parts.specs.Parts.{is_room, Bytes, part_run, whole_run, Part, roomy, bytes_of, in_parts, in_one_piece, told_of, AllHaveRoom, CHUNK, BUFFER, buffered, Chunks, run_by_acts}
use Rattle.sound.specs.Sound.{sound_world}
use Rattle.kept.specs.Shape.{Shaped}
use Rattle.parts.specs.Flags.{Kept}
use Rattle.parts.specs.Acts.{Refuses, WellMarked, refusals, refused_tally}

-- Each record that a run has answered, accepted or refused, raises the number of the next by one and is ten bytes.
abbrev pub UsedCounts : Type 0
UsedCounts =
    (sound : Bool) (room : ℕ) (l : List ℕ) (s : State) →
    (s.number ≤ (run_of sound room l s).state.number) ×
    ((run_of sound room l s).used ≡ 10 * ((run_of sound room l s).state.number - s.number))

-- A run that did not stop for want of room is the same with more room.
abbrev pub MoreRoom : Type 0
MoreRoom =
    (sound : Bool) (room more : ℕ) (l : List ℕ) (s : State) → is_room (run_of sound room l s).stop ≡ false → room ≤ more →
    run_of sound more l s ≡ run_of sound room l s

-- and so a run
abbrev pub RunKeeps : Type 0
RunKeeps = (room : ℕ) (l : List ℕ) (s : State) → Shaped s.world → Bytes l → Kept (sound_world s.world) (part_run room l s).state

abbrev pub RunInParts : Type 0
RunInParts =
    (s : State) (parts : List Part) → Shaped s.world → Bytes (bytes_of parts) → is_room (in_parts s parts).run.stop ≡ false →
    (in_parts s parts).run ≡ (in_one_piece s (bytes_of parts)).run

-- Then finished, it gives the same transcript, the same tally and the same world.
abbrev pub ToldInParts : Type 0
ToldInParts =
    (s : State) (parts : List Part) → Shaped s.world → Bytes (bytes_of parts) → is_room (in_parts s parts).run.stop ≡ false →
    told_of (in_parts s parts) ≡ told_of (in_one_piece s (bytes_of parts))

-- so two ways of reading the same bytes tell the same
abbrev pub ReadsAgree : Type 0
ReadsAgree =
    (s : State) (one two : List Part) → Shaped s.world → Bytes (bytes_of one) → bytes_of one ≡ bytes_of two →
    is_room (in_parts s one).run.stop ≡ false → is_room (in_parts s two).run.stop ≡ false → told_of (in_parts s one) ≡ told_of (in_parts s two)

-- A run over at most CHUNK bytes, and fewer than ten left before them, never wants room in BUFFER.
abbrev pub ChunkRoom : Type 0
ChunkRoom =
    (l : List ℕ) (s : State) → Shaped s.world → Bytes l → s.number ≤ LAST → length l < CHUNK + 10 →
    is_room (part_run BUFFER l s).stop ≡ false

-- Reads that each have room for their lines tell what one piece tells.
abbrev pub ToldInReads : Type 0
ToldInReads =
    (s : State) (reads : List (List ℕ)) → Shaped s.world → Bytes (bytes_of (map roomy reads)) →
    told_of (in_parts s (map roomy reads)) ≡ told_of (in_one_piece s (bytes_of (map roomy reads)))

abbrev pub ToldInRooms : Type 0
ToldInRooms =
    (s : State) (parts : List Part) → Shaped s.world → Bytes (bytes_of parts) → s.number ≤ LAST → AllHaveRoom parts →
    told_of (in_parts s parts) ≡ told_of (in_one_piece s (bytes_of parts))

abbrev pub ToldInChunks : Type 0
ToldInChunks =
    (s : State) (reads : List (List ℕ)) → Shaped s.world → Bytes (bytes_of (map buffered reads)) → s.number ≤ LAST → Chunks reads →
    told_of (in_parts s (map buffered reads)) ≡ told_of (in_one_piece s (bytes_of (map buffered reads)))

-- A run over any bytes, with any room, from any state of the code's sizes, sound or not, is the row of acts.
abbrev pub RunIsActs : Type 0
RunIsActs = (room : ℕ) (l : List ℕ) (s : State) → Shaped s.world → Bytes l → part_run room l s ≡ run_by_acts room l s

-- A run from a world that is not sound refuses every record that it uses with 19 and leaves the world as it is.
abbrev pub UnsoundRun : Type 0
UnsoundRun = (room : ℕ) (l : List ℕ) (s : State) → sound_world s.world ≡ false → Refuses s (part_run room l s)

-- Such a log is answered whole by a world that is not sound: 19 for each record.
abbrev pub UnsoundWhole : Type 0
UnsoundWhole =
    (l : List ℕ) (s : State) → sound_world s.world ≡ false → WellMarked l → s.number + length l / 10 ≤ LAST →
    whole_run l s ≡
    record {
      lines = refusals (length l / 10) s.number;
      state = record { world = s.world; tally = refused_tally (length l / 10) s.tally; number = s.number + length l / 10 };
      used = 10 * (length l / 10);
      stop = S.Short;
    }
