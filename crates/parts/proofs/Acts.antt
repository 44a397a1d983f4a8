-- A run is a row of acts, though it tests soundness but once; and a world that is not sound answers every whole, well-marked record with
-- 19 and stays as it is. Assumes nothing.
use Prim.Native.Nat.{ℕ, suc, ◌+◌, ◌-◌, ◌*◌, ◌/◌, ◌≤◌, ◌<◌}
use native.Mathlib.Omega.{arith}
use mathlib.Core.Path.{◌≡◌, refl, sym, ap, subst, ◌∙◌}
use mathlib.Core.Bool.{Bool, true, false}
use mathlib.Core.List.{List, ◌++◌, append_assoc, append-nil}
use lib.ListN.{length, drop, length-drop}
use lib.Seq.{drop-drop}
use borrow.Author.Tests.{ne_eqb}
use Rattle.calls.specs.declared.Event.TheVariants as E
use Rattle.tally.specs.declared.Tally.{Tally}
use Rattle.tally.specs.Tally.{bump_of, add_event}
use Rattle.lines.specs.Lines.{line_of}
use Rattle.world.specs.declared.World.{World}
use Rattle.step.specs.declared.Acted.{Acted}
use Rattle.sound.specs.Sound.{sound_world}
use Rattle.kept.proofs.Tests.{no_way}
use Rattle.replay_log.specs.declared.Stop.{Stop}
use Rattle.replay_log.specs.declared.Stop.TheVariants as S
use Rattle.replay_log.specs.declared.State.{State}
use Rattle.replay_log.specs.Run.{LAST, fields_of, mark_of, answer_of, noted, Run, prefixed, ending_of, turn_of, record_line, record_state, run_of}
use Rattle.replay_log.proofs.Unroll.{runs-out, unroll}
use Rattle.parts.specs.Parts.{is_room, Bytes, ample, whole_run, acts_run, run_by_acts}
use Rattle.parts.proofs.Turns.{by-tens, by-records}
use Rattle.parts.proofs.Rooms.{ample-room}
use Rattle.parts.specs.Flags.{Kept}
use Rattle.parts.proofs.Flags.{bytes_drop, answer-is-act, record-keeps}
use Rattle.parts.specs.Acts.{Refuses, WellMarked, ending_line, ending_tally, refusals, refused_tally}
use Rattle.parts.specs.Statements.{RunIsActs, UnsoundRun, UnsoundWhole}

-- with the soundness that was found, a run is a row of acts
acts-from :
    (sound : Bool) (l : List ℕ) (room : ℕ) (s : State) → Bytes l → Kept sound s → run_of sound room l s ≡ run_by_acts room l s
unfolding acts_run
acts-from sound =
    by-tens (λ (x : List ℕ). (n : ℕ) (t : State) → Bytes x → Kept sound t → run_of sound n x t ≡ run_by_acts n x t)
    (λ x h n t b k. let z : length x / 10 ≡ 0 = omega arith in runs-out sound n x t h ∙ ap (λ (records : ℕ). acts_run records n x t) (sym z))
    (λ x h rest n t b k.
    let z : length x / 10 ≡ suc (length (drop 10 x) / 10) = omega (arith, length-drop 10 x) in
    let line : List ℕ = record_line sound x t in
    unroll sound n x t h
    ∙ (ap (turn_of n x t line) (rest (n - length line) (record_state sound x t) (bytes_drop 10 x b) (record-keeps sound x t b k))
    ∙ (ap
    (λ (r : Acted).
    turn_of n x t (line_of t.number r.event)
    (run_by_acts (n - length (line_of t.number r.event)) (drop 10 x) (noted t (fields_of x) r)))
    (answer-is-act sound t.world (fields_of x) k.flag)
    ∙ ap (λ (records : ℕ). acts_run records n x t) (sym z))))

-- A run over any bytes, with any room, from any state of the code's sizes, sound or not, is the row of acts.
pub run-is-acts : RunIsActs
run-is-acts room l s shaped bytes = acts-from (sound_world s.world) l room s bytes (record { shaped = shaped; flag = refl })

refused-state :
    (l : List ℕ) (s : State) →
    record_state false l s ≡ record { world = s.world; tally = add_event s.tally (E.Refused 19) false; number = s.number + 1 }
unfolding noted answer_of add_event bump_of
refused-state l s = refl

refused-line : (l : List ℕ) (s : State) → record_line false l s ≡ line_of s.number (E.Refused 19)
unfolding answer_of
refused-line l s = refl

refuses : (room : ℕ) (l : List ℕ) (s : State) → Refuses s (run_of false room l s)
unfolding refusals refused_tally
refuses =
    by-records false (λ (room : ℕ) (l : List ℕ) (s : State) (r : Run). Refuses s r)
    (λ room l s h. none s S.Short)
    (λ room l s h event f. none s S.Room)
    (λ room l s h number e z f. none s (S.Ended number))
    (λ room l s h e f rest p. one_more l s rest (subst (λ (t : State). Refuses t rest) (refused-state l s) p))
  where
    none :
        (s : State) (stop : Stop) →
        Refuses s (record {
          lines = ending_line stop s.number;
          state = record { world = s.world; tally = ending_tally stop s.tally; number = s.number };
          used = 0;
          stop = stop;
        })
    none s stop = record { count = 0; used = refl; number = omega arith; world = refl; lines = refl; tally = refl }

    one_more :
        (l : List ℕ) (s : State) (rest : Run) →
        Refuses (record { world = s.world; tally = add_event s.tally (E.Refused 19) false; number = s.number + 1 }) rest →
        Refuses s (prefixed (record_line false l s) 10 rest)
    one_more l s rest p = record {
      count = suc p.count;
      used = omega (arith, p.used);
      number = omega (arith, p.number);
      world = p.world;
      lines =
          ap (λ (line : List ℕ). line ++ rest.lines) (refused-line l s)
          ∙ (ap (λ (lines : List ℕ). line_of s.number (E.Refused 19) ++ lines) p.lines
          ∙ sym (append_assoc (line_of s.number (E.Refused 19)) (refusals p.count (s.number + 1)) (ending_line rest.stop rest.state.number)));
      tally = p.tally;
    }

-- A run from a world that is not sound refuses every record that it uses with 19 and leaves the world as it is.
pub unsound-run : UnsoundRun
unsound-run room l s e = rw e (refuses room l s)

-- a record with the mark and a number does not end a run
marked-goes : (number : ℕ) (l : List ℕ) → mark_of l ≡ true → number < LAST → ending_of number l ≡ 0
unfolding ending_of
marked-goes number l e h = rw (ne_eqb number LAST (λ q. omega arith), e) refl

-- Where every whole record is well marked and has a number, a run that has room uses them all and ends by no refusal, in a world that is
-- not sound too.
pub goes_on_lem :
    (sound : Bool) (room : ℕ) (l : List ℕ) (s : State) → is_room (run_of sound room l s).stop ≡ false → WellMarked l →
    s.number + length l / 10 ≤ LAST → ((run_of sound room l s).stop ≡ S.Short) × ((run_of sound room l s).used ≡ 10 * (length l / 10))
unfolding noted
goes_on_lem sound =
    by-records sound
    (λ (room : ℕ) (l : List ℕ) (s : State) (r : Run).
    is_room r.stop ≡ false → WellMarked l → s.number + length l / 10 ≤ LAST → (r.stop ≡ S.Short) × (r.used ≡ 10 * (length l / 10)))
    (λ room l s h e m b. (refl, omega arith))
    (λ room l s h event f e m b. no_way (sym e))
    (λ room l s h number n z f e m b.
    let q : number ≡ 0 = n ∙ marked-goes s.number l (m 0 (omega arith)) (omega arith) in
    no_way (sym z ∙ rw q refl))
    (λ room l s h n f rest p e m b.
    let q = p e (λ k d. behind l m k (omega (arith, length-drop 10 l))) (omega (arith, length-drop 10 l)) in
    (q.0, omega (arith, q.1, length-drop 10 l)))
  where
    behind : (l : List ℕ) → WellMarked l → (k : ℕ) → 10 * suc k + 10 ≤ length l → mark_of (drop (10 * k) (drop 10 l)) ≡ true
    behind l m k h =
        let z : 10 + 10 * k ≡ 10 * suc k = omega arith in
        ap mark_of (drop-drop (10 * k) 10 l) ∙ (ap (λ (n : ℕ). mark_of (drop n l)) z ∙ m (suc k) h)

run_is :
    (r : Run) (lines : List ℕ) (state : State) (used : ℕ) (stop : Stop) → r.lines ≡ lines → r.state ≡ state → r.used ≡ used →
    r.stop ≡ stop → r ≡ record { lines = lines; state = state; used = used; stop = stop }
run_is r lines state used stop a b c d = rw (← a, ← b, ← c, ← d) refl

state-is :
    (s : State) (world : World) (tally : Tally) (number : ℕ) → s.world ≡ world → s.tally ≡ tally → s.number ≡ number →
    s ≡ record { world = world; tally = tally; number = number }
state-is s world tally number a b c = rw (← a, ← b, ← c) refl

-- Such a log is answered whole by a world that is not sound: 19 for each record.
pub unsound-whole : UnsoundWhole
unsound-whole l s e m b =
    let r : Run = whole_run l s in
    let p : Refuses s r = unsound-run (ample l) l s e in
    let q = goes_on_lem (sound_world s.world) (ample l) l s (ample-room (sound_world s.world) (ample l) l s (omega arith)) m b in
    let n : p.count ≡ length l / 10 = omega (arith, p.used, q.1) in
    run_is r (refusals (length l / 10) s.number) _ (10 * (length l / 10)) S.Short
    (p.lines
    ∙ (ap (λ (stop : Stop). refusals p.count s.number ++ ending_line stop r.state.number) q.0
    ∙ (append-nil (refusals p.count s.number) ∙ ap (λ (count : ℕ). refusals count s.number) n)))
    (state-is r.state s.world (refused_tally (length l / 10) s.tally) (s.number + length l / 10) p.world
    (p.tally
    ∙ (ap (λ (stop : Stop). ending_tally stop (refused_tally p.count s.tally)) q.0 ∙ ap (λ (count : ℕ). refused_tally count s.tally) n))
    (omega (arith, p.number, n)))
    q.1 q.0
