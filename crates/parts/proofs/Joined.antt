-- A log run in parts is the log run in one piece: the same lines, the same tally, the same world, however the reads fall and whatever room
-- each part has for its lines. Assumes nothing.
use Prim.Native.Nat.{ℕ, ◌+◌, ◌-◌, ◌≤◌, ◌<◌}
use native.Mathlib.Nat.{sub-zero}
use native.Mathlib.Omega.{arith}
use mathlib.Core.Path.{◌≡◌, refl, sym, ap, subst, ◌∙◌}
use mathlib.Core.Bool.{Bool, true, false, cond}
use mathlib.Core.List.{List, [], ◌∷◌, ◌++◌, map, append_assoc, append-nil}
use lib.ListN.{length, drop, get_or, length-append, get_or-append}
use lib.Seq.{drop-drop, drop-append-le}
use borrow.Author.Tests.{leb-true, le-leb}
use Rattle.lines.specs.Lines.{line_of}
use Rattle.sound.specs.Sound.{sound_world}
use Rattle.acts.specs.declared.Fields.{Fields}
use Rattle.kept.specs.Shape.{Shaped}
use Rattle.kept.proofs.Tests.{no_way, decided}
use Rattle.replay_log.specs.declared.Stop.{Stop}
use Rattle.replay_log.specs.declared.Stop.TheVariants as S
use Rattle.replay_log.specs.declared.State.{State}
use Rattle.replay_log.specs.Run.{fields_of, mark_of, answer_of, noted, Run, stopped, prefixed, ending_of, last_line, turn_of, record_line, record_state, run_of}
use Rattle.replay_log.proofs.Unroll.{prefixed-none, prefixed-twice, runs-out, unroll, turn-goes, turn-ends}
use Rattle.parts.specs.Parts.{is_room, has_ended, Bytes, part_run, ample, whole_run, Part, roomy, bytes_of, Reached, after, parts_from, in_parts, in_one_piece, left_refusal, told_with, told_of}
use Rattle.parts.proofs.Turns.{by-records}
use Rattle.parts.proofs.Rooms.{lines_fit, used-within, more_room, ample-room, enough-room, few-left}
use Rattle.parts.proofs.Flags.{bytes_drop, bytes_back, bytes-front, bytes-join, run-keeps}
use Rattle.parts.specs.Joined.{AsOne}
use Rattle.parts.specs.Statements.{RunInParts, ToldInParts, ReadsAgree, ToldInReads}

-- a record is read from the first ten bytes, whatever stands behind them
module _ (l more : List ℕ) (h : 10 ≤ length l) where
  byte-front : (k : ℕ) → k < 10 → get_or (l ++ more) k 0 ≡ get_or l k 0
  byte-front k b = get_or-append l more 0 k (omega arith)

  fields-front : fields_of (l ++ more) ≡ fields_of l
  fields-front =
      rw (
        byte-front 2 (omega arith),
        byte-front 3 (omega arith),
        byte-front 4 (omega arith),
        byte-front 5 (omega arith),
        byte-front 6 (omega arith),
        byte-front 7 (omega arith),
        byte-front 8 (omega arith),
        byte-front 9 (omega arith),
      ) refl

  ending-front : (number : ℕ) → ending_of number (l ++ more) ≡ ending_of number l
  unfolding ending_of mark_of
  ending-front number = rw (byte-front 0 (omega arith), byte-front 1 (omega arith)) refl

  unroll-front :
      (sound : Bool) (room : ℕ) (s : State) →
      run_of sound room (l ++ more) s ≡
      turn_of room (l ++ more) s (record_line sound l s)
      (run_of sound (room - length (record_line sound l s)) (drop 10 l ++ more) (record_state sound l s))
  unroll-front sound room s =
      unroll sound room (l ++ more) s (omega (arith, length-append l more))
      ∙ (ap (λ (a : Fields). turned a (drop 10 (l ++ more))) fields-front ∙ ap (turned (fields_of l)) (drop-append-le 10 l more h))
    where
      turned : Fields → List ℕ → Run
      turned a x =
          turn_of room (l ++ more) s (line_of s.number (answer_of sound s.world a).event)
          (run_of sound (room - length (line_of s.number (answer_of sound s.world a).event)) x
          (noted s a (answer_of sound s.world a)))

module _ (sound : Bool) (more : List ℕ) where
  -- nothing was run: the whole run is yet to come
  none-run : (room : ℕ) (l : List ℕ) (s : State) → run_of sound room (l ++ more) s ≡ prefixed [] 0 (run_of sound (room - 0) (l ++ more) s)
  none-run room l s =
      sym (prefixed-none (run_of sound room (l ++ more) s))
      ∙ ap (λ (n : ℕ). prefixed [] 0 (run_of sound n (l ++ more) s)) (sym (sub-zero room))

  -- the run over a list is the run over its first part and then that over the bytes left with the rest behind them
  pub run-joined :
      (room : ℕ) (l : List ℕ) (s : State) → has_ended (run_of sound room l s).stop ≡ false → (whole : ℕ) → room ≤ whole →
      run_of sound whole (l ++ more) s ≡
      prefixed (run_of sound room l s).lines (run_of sound room l s).used
      (run_of sound (whole - length (run_of sound room l s).lines) (drop (run_of sound room l s).used l ++ more) (run_of sound room l s).state)
  run-joined =
      by-records sound
      (λ (n : ℕ) (x : List ℕ) (t : State) (r : Run).
      has_ended r.stop ≡ false → (m : ℕ) → n ≤ m →
      run_of sound m (x ++ more) t ≡
      prefixed r.lines r.used (run_of sound (m - length r.lines) (drop r.used x ++ more) r.state))
      (λ n x t h z m b. none-run m x t)
      (λ n x t h event f z m b. none-run m x t)
      (λ n x t h number e k f z m b. no_way (sym z))
      (λ n x t h e f rest p z m b.
      let line : List ℕ = record_line sound x t in
      let q : length line ≤ n = leb-true (length line) n f in
      let room : m - length line - length rest.lines ≡ m - length (line ++ rest.lines) = omega (arith, length-append line rest.lines) in
      unroll-front x more h sound m t
      ∙ (turn-goes m (x ++ more) t line _ (ending-front x more h t.number ∙ e) (le-leb (length line) m (omega arith))
      ∙ (ap (prefixed line 10) (p z (m - length line) (omega arith))
      ∙ (prefixed-twice line rest.lines 10 rest.used
      (run_of sound (m - length line - length rest.lines) (drop rest.used (drop 10 x) ++ more) rest.state)
      ∙ (ap
      (λ (k : ℕ). prefixed (line ++ rest.lines) (10 + rest.used) (run_of sound k (drop rest.used (drop 10 x) ++ more) rest.state))
      room
      ∙ ap
      (λ (y : List ℕ). prefixed (line ++ rest.lines) (10 + rest.used) (run_of sound (m - length (line ++ rest.lines)) (y ++ more) rest.state))
      (drop-drop rest.used 10 x))))))

  -- behind a refusal that ended a run nothing is run
  pub run-ended :
      (room : ℕ) (l : List ℕ) (s : State) → has_ended (run_of sound room l s).stop ≡ true → (whole : ℕ) → room ≤ whole →
      run_of sound whole (l ++ more) s ≡ run_of sound room l s
  run-ended =
      by-records sound
      (λ (n : ℕ) (x : List ℕ) (t : State) (r : Run).
      has_ended r.stop ≡ true → (m : ℕ) → n ≤ m → run_of sound m (x ++ more) t ≡ r)
      (λ n x t h z m b. no_way z)
      (λ n x t h event f z m b. no_way z)
      (λ n x t h number e k f z m b.
      let q : length (last_line number t) ≤ n = leb-true (length (last_line number t)) n f in
      unroll-front x more h sound m t
      ∙ turn-ends m (x ++ more) t _ _ (e ∙ sym (ending-front x more h t.number)) k (le-leb (length (last_line number t)) m (omega arith)))
      (λ n x t h e f rest p z m b.
      let line : List ℕ = record_line sound x t in
      let q : length line ≤ n = leb-true (length line) n f in
      unroll-front x more h sound m t
      ∙ (turn-goes m (x ++ more) t line _ (ending-front x more h t.number ∙ e) (le-leb (length line) m (omega arith))
      ∙ ap (prefixed line 10) (p z (m - length line) (omega arith))))

ended-no-room : (stop : Stop) → has_ended stop ≡ true → is_room stop ≡ false
ended-no-room S.Short e = no_way e
ended-no-room S.Room e = no_way e
ended-no-room (S.Ended number) e = refl

-- Two parts. The first did not end by a refusal; the second is run behind the bytes that it left, from the state that it reached.
module _ (s : State) (l more : List ℕ) (shaped : Shaped s.world) (bytes : Bytes l) where
  -- the second finds the soundness that the first found
  same_flag : (room : ℕ) → sound_world (part_run room l s).state.world ≡ sound_world s.world
  same_flag room = (run-keeps room l s shaped bytes).flag

  pub in-parts :
      (room whole : ℕ) → has_ended (part_run room l s).stop ≡ false → room ≤ whole →
      part_run whole (l ++ more) s ≡
      prefixed (part_run room l s).lines (part_run room l s).used
      (part_run (whole - length (part_run room l s).lines) (drop (part_run room l s).used l ++ more) (part_run room l s).state)
  in-parts room whole e h =
      run-joined (sound_world s.world) more room l s e whole h
      ∙ ap
      (λ (sound : Bool).
      prefixed (part_run room l s).lines (part_run room l s).used
      (run_of sound (whole - length (part_run room l s).lines) (drop (part_run room l s).used l ++ more) (part_run room l s).state))
      (sym (same_flag room))

  -- .. with any room of its own that was enough for it
  pub in-parts-rooms :
      (room next whole : ℕ) → has_ended (part_run room l s).stop ≡ false →
      is_room (part_run next (drop (part_run room l s).used l ++ more) (part_run room l s).state).stop ≡ false → room + next ≤ whole →
      part_run whole (l ++ more) s ≡
      prefixed (part_run room l s).lines (part_run room l s).used
      (part_run next (drop (part_run room l s).used l ++ more) (part_run room l s).state)
  in-parts-rooms room next whole e f h =
      in-parts room whole e (omega arith)
      ∙ ap (prefixed (part_run room l s).lines (part_run room l s).used)
      (more_room (sound_world (part_run room l s).state.world) next (whole - length (part_run room l s).lines)
      (drop (part_run room l s).used l ++ more) (part_run room l s).state f
      (omega (arith, lines_fit (sound_world s.world) room l s)))

  -- .. with room for every line
  pub whole-in-parts :
      (room : ℕ) → has_ended (part_run room l s).stop ≡ false →
      whole_run (l ++ more) s ≡
      prefixed (part_run room l s).lines (part_run room l s).used
      (whole_run (drop (part_run room l s).used l ++ more) (part_run room l s).state)
  whole-in-parts room e =
      let rest : List ℕ = drop (part_run room l s).used l ++ more in
      let reached : State = (part_run room l s).state in
      let whole : ℕ = ample (l ++ more) + (room + ample rest) in
      sym (more_room (sound_world s.world) (ample (l ++ more)) whole (l ++ more) s
      (ample-room (sound_world s.world) (ample (l ++ more)) (l ++ more) s (omega arith)) (omega arith))
      ∙ in-parts-rooms room (ample rest) whole e
      (ample-room (sound_world reached.world) (ample rest) rest reached (omega arith)) (omega arith)

-- .. the first ended by a refusal: it is the run over the whole
pub ended-whole :
    (s : State) (l more : List ℕ) (room : ℕ) → has_ended (part_run room l s).stop ≡ true → whole_run (l ++ more) s ≡ part_run room l s
ended-whole s l more room e =
    let sound : Bool = sound_world s.world in
    let q : run_of sound room (l ++ more) s ≡ run_of sound room l s = run-ended sound more room l s e room (omega arith) in
    sym (enough-room sound room (l ++ more) s (ap (λ (r : Run). is_room r.stop) q ∙ ended-no-room (run_of sound room l s).stop e)) ∙ q

-- before a part: fewer bytes are left than a record has, unless the run before it stopped for want of room
abbrev Before : Stop → List ℕ → Type 0
Before stop left = is_room stop ≡ false → (stop ≡ S.Short) × (length left < 10)

module _ (s : State) (l more : List ℕ) (shaped : Shaped s.world) (bytes : Bytes l) (room : ℕ) where
  -- one part more, whether it ended by a refusal or not
  one_more :
      (next : Reached) (c : Bool) → has_ended (part_run room l s).stop ≡ c →
      is_room (cond c (record { run = part_run room l s; left = drop (part_run room l s).used l }) (after (part_run room l s) next)).run.stop ≡ false →
      (has_ended (part_run room l s).stop ≡ false → is_room next.run.stop ≡ false → AsOne next (part_run room l s).state (drop (part_run room l s).used l ++ more)) →
      AsOne (cond c (record { run = part_run room l s; left = drop (part_run room l s).used l }) (after (part_run room l s) next)) s (l ++ more)
  one_more next true e f rest = record { run = sym (ended-whole s l more room e); left = λ z. no_way (sym z ∙ e) }
  one_more next false e f rest =
      let q = rest e f in
      let used : ℕ = (part_run room l s).used in
      record {
        run = ap (prefixed (part_run room l s).lines used) q.run ∙ sym (whole-in-parts s l more shaped bytes room e);
        left =
            λ z. q.left z
            ∙ (ap (drop next.run.used) (sym (drop-append-le used l more (used-within (sound_world s.world) room l s)))
            ∙ drop-drop next.run.used used (l ++ more));
      }

from-part :
    (stop : Stop) (left : List ℕ) (s : State) (parts : List Part) → Before stop left → Shaped s.world → Bytes left →
    Bytes (bytes_of parts) → is_room (parts_from stop left s parts).run.stop ≡ false →
    AsOne (parts_from stop left s parts) s (left ++ bytes_of parts)
unfolding parts_from bytes_of
from-part stop left s [] before shaped bytes more e =
    let q = before e in
    record {
      run =
          ap (λ (x : Stop). stopped x s) q.0
          ∙ (sym (runs-out (sound_world s.world) (ample left) left s q.1) ∙ ap (λ (x : List ℕ). whole_run x s) (sym (append-nil left)));
      left = λ z. sym (append-nil left);
    }
from-part stop left s (p ∷ parts) before shaped bytes more e =
    let l : List ℕ = left ++ p.bytes in
    let r : Run = part_run p.room l s in
    let here : Bytes l = bytes-join left p.bytes bytes (bytes-front p.bytes (bytes_of parts) more) in
    let next : Reached = parts_from r.stop (drop r.used l) r.state parts in
    subst (AsOne (parts_from stop left s (p ∷ parts)) s) (append_assoc left p.bytes (bytes_of parts))
    (one_more s l (bytes_of parts) shaped here p.room next (has_ended r.stop) refl e
    (λ z f. from-part r.stop (drop r.used l) r.state parts (few-left (sound_world s.world) p.room l s z)
    (run-keeps p.room l s shaped here).shaped (bytes_drop r.used l here) (bytes_back p.bytes (bytes_of parts) more) f))

-- what is told follows from that
told_same : (a : Reached) (s : State) (log : List ℕ) → AsOne a s log → told_of a ≡ told_of (in_one_piece s log)
unfolding told_of
told_same a s log h =
    same-refusal a.run.stop refl
    ∙ ap (λ (r : Run). told_with r (left_refusal r.stop r.state.number (length (drop r.used log)))) h.run
  where
    same-refusal :
        (stop : Stop) → a.run.stop ≡ stop →
        told_with a.run (left_refusal a.run.stop a.run.state.number (length a.left))
        ≡ told_with a.run (left_refusal a.run.stop a.run.state.number (length (drop a.run.used log)))
    same-refusal S.Short e =
        ap (λ (l : List ℕ). told_with a.run (left_refusal a.run.stop a.run.state.number (length l)))
        (h.left (ap has_ended e))
    same-refusal S.Room e = rw e refl
    same-refusal (S.Ended number) e = rw e refl

-- A log read and run in parts of any lengths, empty ones too, each with any room for its lines: if the last run did not stop for want of
-- room, all that was run is the run over the log in one piece.
pub parts-as-one :
    (s : State) (parts : List Part) → Shaped s.world → Bytes (bytes_of parts) → is_room (in_parts s parts).run.stop ≡ false →
    AsOne (in_parts s parts) s (bytes_of parts)
parts-as-one s parts shaped bytes e = from-part S.Short [] s parts (λ z. (refl, omega arith)) shaped (λ k. omega arith) bytes e

pub run-in-parts : RunInParts
run-in-parts s parts shaped bytes e = (parts-as-one s parts shaped bytes e).run

-- Then finished, it gives the same transcript, the same tally and the same world.
pub told-in-parts : ToldInParts
told-in-parts s parts shaped bytes e = told_same (in_parts s parts) s (bytes_of parts) (parts-as-one s parts shaped bytes e)

-- so two ways of reading the same bytes tell the same
pub reads-agree : ReadsAgree
reads-agree s one two shaped bytes e f g =
    told-in-parts s one shaped bytes f
    ∙ (ap (λ (log : List ℕ). told_of (in_one_piece s log)) e ∙ sym (told-in-parts s two shaped (subst Bytes e bytes) g))

-- Reads that each have room for their lines never want room.
roomy-runs :
    (stop : Stop) (left : List ℕ) (s : State) (reads : List (List ℕ)) → is_room stop ≡ false → length left < 10 →
    is_room (parts_from stop left s (map roomy reads)).run.stop ≡ false
unfolding parts_from
roomy-runs stop left s [] e h = e
roomy-runs stop left s (read ∷ reads) e h =
    let l : List ℕ = left ++ read in
    let room : ℕ = (roomy read).room in
    let r : Run = part_run room l s in
    let f : is_room r.stop ≡ false = ample-room (sound_world s.world) room l s (omega (arith, length-append left read)) in
    decided (λ (a : Reached). is_room a.run.stop ≡ false) (has_ended r.stop)
    (record { run = r; left = drop r.used l })
    (after r (parts_from r.stop (drop r.used l) r.state (map roomy reads)))
    (λ z. f)
    (λ z. roomy-runs r.stop (drop r.used l) r.state reads f (few-left (sound_world s.world) room l s z f).1)

pub told-in-reads : ToldInReads
told-in-reads s reads shaped bytes = told-in-parts s (map roomy reads) shaped bytes (roomy-runs S.Short [] s reads refl (omega arith))
