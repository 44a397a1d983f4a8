-- Reads of a log that have room for their lines, the replay's own among them, tell what the log in one piece tells. Assumes nothing.
use Prim.Native.Nat.{ℕ, ◌+◌, ◌-◌, ◌*◌, ◌/◌, ◌≤◌, ◌<◌}
use native.Mathlib.Omega.{arith}
use mathlib.Core.Path.{◌≡◌, refl, ap, ◌∙◌}
use mathlib.Core.Bool.{Bool, true, false, cond}
use mathlib.Core.List.{List, [], ◌∷◌, ◌++◌, map}
use lib.Dec.{eqb, leb}
use lib.ListN.{length, drop, length-append, length-drop}
use borrow.Author.Tests.{eqb-true, eqb-false, leb-false}
use Rattle.calls.specs.declared.Event.TheVariants as E
use Rattle.lines.specs.Lines.{LINE}
use Rattle.sound.specs.Sound.{sound_world}
use Rattle.kept.specs.Shape.{Shaped}
use Rattle.kept.proofs.Tests.{decided}
use Rattle.replay_log.specs.declared.Stop.{Stop}
use Rattle.replay_log.specs.declared.Stop.TheVariants as S
use Rattle.replay_log.specs.declared.State.{State}
use Rattle.replay_log.specs.Run.{LAST, fields_of, mark_of, Run, last_line, turn_of, ending_of, record_line, record_state, run_of}
use Rattle.replay_log.proofs.Unroll.{runs-out, unroll, turn-goes, turn-ends}
use Rattle.parts.specs.Parts.{is_room, has_ended, Bytes, part_run, Part, AllHaveRoom, no_part, one-part, BUFFER, buffered, Chunks, no_chunk, one_chunk, bytes_of, Reached, after, parts_from}
use Rattle.parts.proofs.Turns.{by-tens, by-records}
use Rattle.parts.proofs.Small.{line-short, answer-small, ending-small}
use Rattle.parts.proofs.Rooms.{few-left, next-number}
use Rattle.parts.specs.Flags.{Kept}
use Rattle.parts.proofs.Flags.{record-keeps, run-keeps, bytes_drop, bytes_back, bytes-front, bytes-join}
use Rattle.parts.proofs.Joined.{told-in-parts}
use Rattle.parts.specs.Statements.{ChunkRoom, ToldInRooms, ToldInChunks}

-- a record that is answered has a number, and so has what comes behind it
answered-below : (number : ℕ) (l : List ℕ) → ending_of number l ≡ 0 → number ≤ LAST → number + 1 ≤ LAST
unfolding ending_of
answered-below number l e h = by (eqb number LAST) refl e
  where
    by : (c : Bool) → eqb number LAST ≡ c → ◌≡◌ {A = ℕ} (cond c 22 (cond (mark_of l) 0 20)) 0 → number + 1 ≤ LAST
    by true q z = absurd (omega arith)
    by false q z = omega (arith, eqb-false number LAST q)

pub numbers-last : (sound : Bool) (room : ℕ) (l : List ℕ) (s : State) → s.number ≤ LAST → (run_of sound room l s).state.number ≤ LAST
numbers-last sound =
    by-records sound (λ (room : ℕ) (l : List ℕ) (s : State) (r : Run). s.number ≤ LAST → r.state.number ≤ LAST)
    (λ room l s h b. b)
    (λ room l s h event f b. b)
    (λ room l s h number e z f b. b)
    (λ room l s h e f rest p b. p (omega (arith, next-number sound l s, answered-below s.number l e b)))

-- LINE for each record, and for one more, is enough room where records have numbers
pub short-room :
    (sound : Bool) (l : List ℕ) (room : ℕ) (s : State) → Bytes l → Kept sound s → s.number ≤ LAST → LINE * (length l / 10 + 1) ≤ room →
    is_room (run_of sound room l s).stop ≡ false
short-room sound =
    by-tens
    (λ (x : List ℕ). (n : ℕ) (t : State) → Bytes x → Kept sound t → t.number ≤ LAST → LINE * (length x / 10 + 1) ≤ n →
    is_room (run_of sound n x t).stop ≡ false)
    (λ x h n t b k m r. ap (λ (run : Run). is_room run.stop) (runs-out sound n x t h))
    (λ x h rest n t b k m r. ap (λ (run : Run). is_room run.stop) (unroll sound n x t h)
    ∙ turn x n t h b k m r (run_of sound (n - length (record_line sound x t)) (drop 10 x) (record_state sound x t))
    (λ z f. rest (n - length (record_line sound x t)) (record_state sound x t) (bytes_drop 10 x b) (record-keeps sound x t b k)
    (omega (arith, next-number sound x t, z)) (omega (arith, length-drop 10 x, f))))
  where
    turn :
        (x : List ℕ) (n : ℕ) (t : State) → 10 ≤ length x → Bytes x → Kept sound t → t.number ≤ LAST → LINE * (length x / 10 + 1) ≤ n →
        (rest : Run) → (t.number + 1 ≤ LAST → length (record_line sound x t) ≤ LINE → is_room rest.stop ≡ false) →
        is_room (turn_of n x t (record_line sound x t) rest).stop ≡ false
    turn x n t h b k m r rest p = by (eqb ending 0) refl
      where
        ending : ℕ
        ending = ending_of t.number x

        line : List ℕ
        line = record_line sound x t

        of-stop : Run → Type 0
        of-stop run = is_room run.stop ≡ false

        short : length line ≤ LINE
        short = line-short t.number _ m (answer-small t.world k.shaped sound (fields_of x))

        last : length (last_line ending t) ≤ LINE
        last = line-short t.number (E.Refused ending) m (ending-small t.number x)

        acts : (c : Bool) → ending ≡ 0 → leb (length line) n ≡ c → is_room (turn_of n x t line rest).stop ≡ false
        acts true e f = ap (λ (run : Run). is_room run.stop) (turn-goes n x t line rest e f) ∙ p (answered-below t.number x e m) short
        acts false e f = let q : n < length line = leb-false (length line) n f in absurd (omega (arith, short))

        ends : (c : Bool) → eqb ending 0 ≡ false → leb (length (last_line ending t)) n ≡ c → is_room (turn_of n x t line rest).stop ≡ false
        ends true e f = ap (λ (run : Run). is_room run.stop) (turn-ends n x t line rest refl e f)
        ends false e f = let q : n < length (last_line ending t) = leb-false (length (last_line ending t)) n f in absurd (omega (arith, last))

        by : (c : Bool) → eqb ending 0 ≡ c → is_room (turn_of n x t line rest).stop ≡ false
        by true e = acts (leb (length line) n) (eqb-true ending 0 e) refl
        by false e = ends (leb (length (last_line ending t)) n) e refl

-- A run over at most CHUNK bytes, and fewer than ten left before them, never wants room in BUFFER.
pub chunk-room : ChunkRoom
chunk-room l s shaped bytes n h =
    short-room (sound_world s.world) l BUFFER s bytes (record { shaped = shaped; flag = refl }) n (omega arith)

-- parts that each have room for their lines never want room
rooms-run :
    (stop : Stop) (left : List ℕ) (s : State) (parts : List Part) → is_room stop ≡ false → length left < 10 → Shaped s.world →
    Bytes left → Bytes (bytes_of parts) → s.number ≤ LAST → AllHaveRoom parts → is_room (parts_from stop left s parts).run.stop ≡ false
unfolding parts_from bytes_of
rooms-run stop left s [] e h shaped bytes more n no_part = e
rooms-run stop left s (p ∷ parts) e h shaped bytes more n (one-part fits rooms) =
    let l : List ℕ = left ++ p.bytes in
    let sound : Bool = sound_world s.world in
    let r : Run = part_run p.room l s in
    let here : Bytes l = bytes-join left p.bytes bytes (bytes-front p.bytes (bytes_of parts) more) in
    let f : is_room r.stop ≡ false =
    short-room sound l p.room s here (record { shaped = shaped; flag = refl }) n (omega (arith, fits, length-append left p.bytes))
    in
    decided (λ (a : Reached). is_room a.run.stop ≡ false) (has_ended r.stop)
    (record { run = r; left = drop r.used l })
    (after r (parts_from r.stop (drop r.used l) r.state parts))
    (λ z. f)
    (λ z. rooms-run r.stop (drop r.used l) r.state parts f (few-left sound p.room l s z f).1
    (run-keeps p.room l s shaped here).shaped (bytes_drop r.used l here) (bytes_back p.bytes (bytes_of parts) more)
    (numbers-last sound p.room l s n) rooms)

pub told-in-rooms : ToldInRooms
told-in-rooms s parts shaped bytes n rooms =
    told-in-parts s parts shaped bytes (rooms-run S.Short [] s parts refl (omega arith) shaped (λ k. omega arith) bytes n rooms)

-- The replay's own reads: whatever their lengths up to CHUNK, the transcript is that of the log in one piece.
chunks-roomy : {reads : List (List ℕ)} → Chunks reads → AllHaveRoom (map buffered reads)
chunks-roomy no_chunk = no_part
chunks-roomy (one_chunk {read} h chunks) = one-part {p = buffered read} (omega arith) (chunks-roomy chunks)

pub told-in-chunks : ToldInChunks
told-in-chunks s reads shaped bytes n chunks = told-in-rooms s (map buffered reads) shaped bytes n (chunks-roomy chunks)
