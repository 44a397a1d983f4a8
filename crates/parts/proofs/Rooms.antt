-- The room of a run: its lines are within it, more room changes nothing where there was enough, and there is always enough. How far a run
-- goes into its list, and what it leaves. Assumes nothing.
use Prim.Native.Nat.{ℕ, zero, suc, ◌+◌, ◌-◌, ◌*◌, ◌/◌, ◌%◌, ◌≤◌, ◌<◌}
use native.Mathlib.Omega.{arith}
use mathlib.Core.Path.{◌≡◌, refl, sym, ap, ◌∙◌}
use mathlib.Core.Bool.{Bool, false}
use mathlib.Core.List.{List, [], ◌∷◌}
use lib.Dec.{ltb}
use lib.ListN.{length, drop, length-append, length-drop}
use lib.Seq.{drop-drop}
use borrow.Author.Tests.{leb-true, leb-false, le-leb}
use Rattle.words.proofs.Cond.{either}
use Rattle.calls.specs.declared.Event.{Event}
use Rattle.calls.specs.Events.{value_of, woken_of}
use Rattle.lines.specs.Lines.{digit, text_from, decimal_of, line_of}
use Rattle.lines.proofs.Line.{line-sum, name-length}
use Rattle.kept.proofs.Tests.{no_way}
use Rattle.replay_log.specs.declared.Stop.TheVariants as S
use Rattle.replay_log.specs.declared.State.{State}
use Rattle.replay_log.specs.Run.{noted, Run, prefixed, last_line, record_line, record_state, run_of}
use Rattle.replay_log.proofs.Unroll.{runs-out, unroll, turn-goes, turn-ends}
use Rattle.parts.specs.Parts.{is_room, has_ended, LONGEST, ample}
use Rattle.parts.proofs.Turns.{by-records}
use Rattle.parts.specs.Statements.{UsedCounts, MoreRoom}

-- a line is no longer than LONGEST
text-within : (more n : ℕ) → length (text_from more n) ≤ more
unfolding text_from
text-within zero n = omega arith
text-within (suc more) n =
    either (λ (l : List ℕ). length l ≤ suc more) (ltb n 10) _ _ (omega arith)
    (omega (arith, text-within more (n / 10), length-append (text_from more (n / 10)) (digit (n % 10) ∷ [])))

decimal-within : (n : ℕ) → length (decimal_of n) ≤ 20
unfolding decimal_of
decimal-within n = text-within 20 n

pub line-within : (number : ℕ) (event : Event) → length (line_of number event) ≤ LONGEST
line-within number event =
    omega (arith, line-sum number event, name-length event, decimal-within number, decimal-within (value_of event), decimal-within (woken_of event))

-- the lines of a run are within its room
pub lines_fit : (sound : Bool) (room : ℕ) (l : List ℕ) (s : State) → length (run_of sound room l s).lines ≤ room
lines_fit sound =
    by-records sound (λ (room : ℕ) (l : List ℕ) (s : State) (r : Run). length r.lines ≤ room)
    (λ room l s h. omega arith)
    (λ room l s h event f. omega arith)
    (λ room l s h number e z f. leb-true (length (last_line number s)) room f)
    (λ room l s h e f rest p.
    let q : length (record_line sound l s) ≤ room = leb-true (length (record_line sound l s)) room f in
    omega (arith, length-append (record_line sound l s) rest.lines))

-- the bytes used are bytes of the list
pub used-within : (sound : Bool) (room : ℕ) (l : List ℕ) (s : State) → (run_of sound room l s).used ≤ length l
used-within sound =
    by-records sound (λ (room : ℕ) (l : List ℕ) (s : State) (r : Run). r.used ≤ length l)
    (λ room l s h. omega arith)
    (λ room l s h event f. omega arith)
    (λ room l s h number e z f. omega arith)
    (λ room l s h e f rest p. omega (arith, length-drop 10 l))

pub next-number : (sound : Bool) (l : List ℕ) (s : State) → (record_state sound l s).number ≡ s.number + 1
unfolding noted
next-number sound l s = refl

-- Each record that a run has answered, accepted or refused, raises the number of the next by one and is ten bytes.
pub used-counts : UsedCounts
used-counts sound =
    by-records sound
    (λ (room : ℕ) (l : List ℕ) (s : State) (r : Run). (s.number ≤ r.state.number) × (r.used ≡ 10 * (r.state.number - s.number)))
    (λ room l s h. (omega arith, omega arith))
    (λ room l s h event f. (omega arith, omega arith))
    (λ room l s h number e z f. (omega arith, omega arith))
    (λ room l s h e f rest p. (omega (arith, p.0, next-number sound l s), omega (arith, p.0, p.1, next-number sound l s)))

-- A run that did not stop for want of room is the same with more room.
pub more_room : MoreRoom
more_room sound room more l s e h =
    by-records sound
    (λ (n : ℕ) (x : List ℕ) (t : State) (r : Run). is_room r.stop ≡ false → (m : ℕ) → n ≤ m → run_of sound m x t ≡ r)
    (λ n x t h z m b. runs-out sound m x t h)
    (λ n x t h event f z m b. no_way (sym z))
    (λ n x t h number e k f z m b.
    let q : length (last_line number t) ≤ n = leb-true (length (last_line number t)) n f in
    unroll sound m x t h ∙ turn-ends m x t _ _ e k (le-leb (length (last_line number t)) m (omega arith)))
    (λ n x t h e f rest p z m b.
    let line : List ℕ = record_line sound x t in
    let q : length line ≤ n = leb-true (length line) n f in
    unroll sound m x t h ∙ (turn-goes m x t line _ e (le-leb (length line) m (omega arith))
    ∙ ap (prefixed line 10) (p z (m - length line) (omega arith))))
    room l s e more h

-- LONGEST for each record, and for one more, is enough room
pub ample-room : (sound : Bool) (room : ℕ) (l : List ℕ) (s : State) → ample l ≤ room → is_room (run_of sound room l s).stop ≡ false
ample-room sound =
    by-records sound (λ (room : ℕ) (l : List ℕ) (s : State) (r : Run). ample l ≤ room → is_room r.stop ≡ false)
    (λ room l s h b. refl)
    (λ room l s h event f b.
    let q : room < length (line_of s.number event) = leb-false (length (line_of s.number event)) room f in
    absurd (omega (arith, line-within s.number event)))
    (λ room l s h number e z f b. refl)
    (λ room l s h e f rest p b. p (omega (arith, length-drop 10 l, longest l s)))
  where
    longest : (l : List ℕ) (s : State) → length (record_line sound l s) ≤ LONGEST
    longest l s = line-within s.number _

-- so a run that had room for all its lines is the run with room for every line
pub enough-room :
    (sound : Bool) (room : ℕ) (l : List ℕ) (s : State) → is_room (run_of sound room l s).stop ≡ false →
    run_of sound room l s ≡ run_of sound (ample l) l s
enough-room sound room l s e =
    sym (more_room sound room (room + ample l) l s e (omega arith))
    ∙ more_room sound (ample l) (room + ample l) l s (ample-room sound (ample l) l s (omega arith)) (omega arith)

-- a run that stopped neither for want of room nor by a refusal leaves fewer bytes than a record has
pub few-left :
    (sound : Bool) (room : ℕ) (l : List ℕ) (s : State) →
    has_ended (run_of sound room l s).stop ≡ false → is_room (run_of sound room l s).stop ≡ false →
    ((run_of sound room l s).stop ≡ S.Short) × (length (drop (run_of sound room l s).used l) < 10)
few-left sound =
    by-records sound
    (λ (room : ℕ) (l : List ℕ) (s : State) (r : Run).
    has_ended r.stop ≡ false → is_room r.stop ≡ false → (r.stop ≡ S.Short) × (length (drop r.used l) < 10))
    (λ room l s h a b. (refl, h))
    (λ room l s h event f a b. no_way (sym b))
    (λ room l s h number e z f a b. no_way (sym a))
    (λ room l s h e f rest p a b.
    let q = p a b in
    let z : length (drop rest.used (drop 10 l)) ≡ length (drop (10 + rest.used) l) = ap length (drop-drop rest.used 10 l) in
    (q.0, omega (arith, z, q.1)))
