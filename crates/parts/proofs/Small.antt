-- The numbers that an act tells are small, in any world of the code's sizes, sound or not: so its line is short. Assumes nothing.
use mathlib.Core.Path.{◌≡◌, refl}
use mathlib.Core.Bool.{Bool, true, not, ◌&&◌}
use mathlib.Core.List.{List}
use Prim.Native.Nat.{ℕ, ◌≤◌}
use native.Mathlib.Omega.{arith}
use lib.Dec.{eqb, ltb, leb}
use lib.ListN.{length, length-take}
use borrow.Author.Tests.{leb-true}
use Rattle.words.proofs.Cond.{either}
use Rattle.words.specs.RwLock.{MAX_READERS}
use Rattle.words.specs.declared.Wake.{Wake}
use Rattle.words.specs.declared.Wake.TheVariants as W
use Rattle.queue.specs.Row.{THREADS, sleepers, queue_of, place_of, take_out_of}
use Rattle.queue.proofs.Part.{passing-length}
use Rattle.calls.specs.declared.Event.{Event}
use Rattle.calls.specs.declared.Event.TheVariants as E
use Rattle.calls.specs.Events.{value_of, woken_of, tell_of}
use Rattle.calls.specs.Objects.{WORDS}
use Rattle.calls.specs.Plans.{decide_of}
use Rattle.calls.specs.Positions.{operand_of, need_of, weak_next, in_closure, is_idle}
use Rattle.lines.specs.Lines.{line_of, LINE}
use Rattle.lines.proofs.Line.{line-bounds}
use Rattle.world.specs.declared.World.{World}
use Rattle.world.specs.World.{thread_at, word_at, on_word}
use Rattle.step.specs.declared.Acted.{Acted}
use Rattle.step.specs.Step.{Woken, wakes_of, apply_plan, step_of}
use Rattle.step.specs.Acts.{recorded, begin_of, wake_of, close_of}
use Rattle.world.specs.Holds.{has_hold}
use Rattle.acts.specs.declared.Fields.{Fields}
use Rattle.acts.specs.Refusals.{SET, BEGIN, STEP, WAKE, choices_of, thread_exists, unnamed_zero, object_exists, fields_refusal, start_of, set_refusal, begin_refusal, step_refusal, wake_refusal, close_refusal, world_refusal}
use Rattle.acts.specs.Acts.{set_of, accepted_of, acted_of}
use Rattle.kept.specs.Shape.{Shaped}
use Rattle.replay_log.specs.Run.{LAST, answer_of, ending_of, mark_of}
use Rattle.parts.proofs.Values.{MOST, plan-told}

-- the largest refusal
abbrev pub REFUSAL : ℕ
REFUSAL = 22

-- no value above it, and no more woken than there are threads
pub record Small (event : Event) : Type 0 where
  pub value : value_of event ≤ REFUSAL
  pub woken : woken_of event ≤ THREADS

-- then the line is within LINE, if the record has a number
pub line-short : (number : ℕ) (event : Event) → number ≤ LAST → Small event → length (line_of number event) ≤ LINE
line-short number event n s = (line-bounds number event (omega arith) (omega (arith, s.value)) (omega (arith, s.woken))).1

refused-small : (number : ℕ) → leb number REFUSAL ≡ true → Small (E.Refused number)
unfolding value_of woken_of
refused-small number e = record { value = leb-true number REFUSAL e; woken = omega arith }

-- a step wakes those of one queue, which is a part of the row
queue-short : (w : World) (f : ℕ → Bool) → Shaped w → length (queue_of f w.sleepers) ≤ THREADS
unfolding queue_of
queue-short w f s =
    omega (arith, passing-length f (sleepers w.sleepers), length-take w.sleepers.count w.sleepers.places, s.places)

woken-few : (w : World) (k place : ℕ) (wake : Wake) → Shaped w → (wakes_of w k place wake).count ≤ THREADS
unfolding wakes_of
woken-few w k place W.None s = omega arith
woken-few w k place W.One s =
    either (λ (a : Woken). a.count ≤ THREADS) (take_out_of w.sleepers place).ok _ _ (omega arith) (omega arith)
woken-few w k place W.All s = queue-short w (on_word w.threads k) s

tell-small : (event : Event) (n : ℕ) → leb (value_of event) MOST ≡ true → n ≤ THREADS → Small (tell_of event n)
unfolding value_of woken_of tell_of
tell-small E.Set n e h = record { value = omega arith; woken = omega arith }
tell-small E.Begun n e h = record { value = omega arith; woken = omega arith }
tell-small (E.Moved woken) n e h = record { value = omega arith; woken = h }
tell-small (E.Done value woken) n e h = let b : value ≤ MOST = leb-true value MOST e in record { value = omega arith; woken = h }
tell-small E.Slept n e h = record { value = omega arith; woken = omega arith }
tell-small (E.Panic number woken) n e h = let b : number ≤ MOST = leb-true number MOST e in record { value = omega arith; woken = h }
tell-small E.Closure n e h = record { value = omega arith; woken = omega arith }
tell-small E.Woken n e h = record { value = omega arith; woken = omega arith }
tell-small E.Closed n e h = record { value = omega arith; woken = omega arith }
tell-small (E.Refused number) n e h = let b : number ≤ MOST = leb-true number MOST e in record { value = omega arith; woken = omega arith }

module _ (w : World) (s : Shaped w) where
  abbrev Answer : Acted → Type 0
  Answer r = Small r.event

  step_small : (t : ℕ) (f : Bool) → Answer (step_of w t f)
  unfolding step_of apply_plan
  step_small t f =
      let at = (thread_at w t).at in
      let k = operand_of t at in
      let place = place_of (on_word w.threads k) w.sleepers in
      let p = decide_of at f (word_at w k) (ltb place THREADS) in
      either Answer (ltb k WORDS) _ _
      (tell-small p.event (wakes_of w k place p.wake).count (plan-told at f (word_at w k) (ltb place THREADS)) (woken-few w k place p.wake s))
      (refused-small 19 refl)

  -- an accepted act
  accepted-small : (a : Fields) → Answer (accepted_of w a)
  unfolding value_of woken_of accepted_of set_of begin_of wake_of close_of recorded
  accepted-small a =
      either Answer (eqb a.act SET) _ _ (record { value = omega arith; woken = omega arith })
      (either Answer (eqb a.act BEGIN) _ _ (record { value = omega arith; woken = omega arith })
      (either Answer (eqb a.act STEP) _ _ (step_small a.thread (eqb a.choice 1))
      (either Answer (eqb a.act WAKE) _ _ (record { value = omega arith; woken = omega arith })
      (record { value = omega arith; woken = omega arith }))))

  -- a refusal
  abbrev Listed : ℕ → Type 0
  Listed n = leb n REFUSAL ≡ true

  fields-small : (a : Fields) → Listed (fields_refusal a)
  unfolding fields_refusal
  fields-small a =
      either Listed (not (ltb a.choice (choices_of a.act))) _ _ refl
      (either Listed (not (thread_exists a)) _ _ refl
      (either Listed (not (unnamed_zero a)) _ _ refl
      (either Listed (not (object_exists a)) _ _ refl refl)))

  world-small : (a : Fields) → Listed (world_refusal w a)
  unfolding world_refusal set_refusal begin_refusal step_refusal wake_refusal close_refusal
  world-small a =
      let th = thread_at w a.thread in
      either Listed (eqb a.act SET) _ _
      (either Listed w.started _ _ refl (either Listed (eqb a.choice 0 && not (leb a.value MAX_READERS)) _ _ refl refl))
      (either Listed (eqb a.act BEGIN) _ _
      (either Listed (not (is_idle th.at)) _ _ refl
      (either Listed (not (has_hold w.locked w.written w.reads a.thread (need_of (start_of a)))) _ _ refl refl))
      (either Listed (eqb a.act STEP) _ _
      (either Listed (is_idle th.at) _ _ refl
      (either Listed th.asleep _ _ refl
      (either Listed (in_closure th.at) _ _ refl
      (either Listed (eqb a.choice 1 && not (weak_next th.at)) _ _ refl refl))))
      (either Listed (eqb a.act WAKE) _ _
      (either Listed (is_idle th.at) _ _ refl (either Listed th.asleep _ _ refl refl))
      (either Listed (is_idle th.at) _ _ refl
      (either Listed th.asleep _ _ refl (either Listed (in_closure th.at) _ _ refl refl))))))

  -- any act
  pub acted-small : (a : Fields) → Small (acted_of w a).event
  unfolding acted_of
  acted-small a =
      either Answer (eqb (fields_refusal a) 0) _ _
      (either Answer (eqb (world_refusal w a) 0) _ _ (accepted-small a) (refused-small (world_refusal w a) (world-small a)))
      (refused-small (fields_refusal a) (fields-small a))

  pub answer-small : (sound : Bool) (a : Fields) → Small (answer_of sound w a).event
  unfolding answer_of
  answer-small sound a = either Answer sound _ _ (acted-small a) (refused-small 19 refl)

-- and the refusals that end a run
pub ending-small : (number : ℕ) (l : List ℕ) → Small (E.Refused (ending_of number l))
unfolding ending_of
ending-small number l =
    refused-small (ending_of number l)
    (either (λ (n : ℕ). leb n REFUSAL ≡ true) (eqb number LAST) _ _ refl
    (either (λ (n : ℕ). leb n REFUSAL ≡ true) (mark_of l) _ _ refl refl))
