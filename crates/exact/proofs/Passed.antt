-- An act that no refusal stops is not refused, and neither list of refusals says 19. Assumes nothing.
use mathlib.Core.Path.{◌≡◌, refl, ap, ◌∙◌}
use mathlib.Core.Bool.{Bool, true, false, cond, not, ◌&&◌}
use Prim.Native.Nat.{ℕ, ◌<◌}
use native.Mathlib.Omega.{arith}
use lib.Dec.{eqb, ltb, leb}
use lib.ListN.{length}
use borrow.Author.Tests.{eqb-true}
use Rattle.words.proofs.Cond.{either}
use Rattle.words.specs.RwLock.{MAX_READERS}
use Rattle.calls.specs.declared.Event.{Event}
use Rattle.calls.specs.declared.Event.TheVariants as E
use Rattle.calls.specs.Events.{tell_of}
use Rattle.calls.specs.Positions.{in_closure, weak_next, need_of}
use Rattle.world.specs.declared.World.{World}
use Rattle.world.specs.World.{thread_at, word_at}
use Rattle.step.specs.declared.Acted.{Acted}
use Rattle.step.specs.Step.{step_of}
use Rattle.step.specs.Acts.{begin_of, wake_of, close_of, recorded}
use Rattle.sound.specs.Sound.{sound_world}
use Rattle.calls.specs.Positions.{is_idle}
use Rattle.world.specs.Holds.{has_hold}
use Rattle.acts.specs.declared.Fields.{Fields}
use Rattle.acts.specs.Refusals.{SET, BEGIN, STEP, WAKE, choices_of, thread_exists, unnamed_zero, object_exists, start_of, fields_refusal, world_refusal, set_refusal, begin_refusal, step_refusal, wake_refusal, close_refusal}
use Rattle.acts.specs.Acts.{accepted_of, set_of}
use Rattle.kept.specs.Shape.{Shaped}
use Rattle.kept.proofs.Tests.{decided, no_way}
use Rattle.keeps_records.proofs.Sleeping.{steps-awake, thread-named}
use Rattle.calls.specs.Events.{is_step}
use Rattle.keeps.proofs.Moves.{leads}
use Rattle.local.specs.Part.{word_next, queue_at, plan_at, woken_at}
use Rattle.local.proofs.Frame.{stepped, steps-word}
use Rattle.calls.specs.Events.{is_refusal}
use Rattle.exact.specs.Exact.{}

-- a step's event is no refusal, whoever it woke
tells-no : (e : Event) (n : ℕ) → is_step e ≡ true → is_refusal (tell_of e n) ≡ false
unfolding tell_of
tells-no E.Set n h = refl
tells-no E.Begun n h = refl
tells-no (E.Moved woken) n h = refl
tells-no (E.Done value woken) n h = refl
tells-no E.Slept n h = refl
tells-no (E.Panic number woken) n h = refl
tells-no E.Closure n h = refl
tells-no E.Woken n h = refl
tells-no E.Closed n h = refl
tells-no (E.Refused number) n h = no_way h

-- a thread that may be stepped is not idle
not-idle : (p q r s : Bool) → ◌≡◌ {A = ℕ} (cond p 5 (cond q 6 (cond r 10 (cond s 8 0)))) 0 → p ≡ false
not-idle true q r s e = absurd (omega arith)
not-idle false q r s e = refl

-- what an accepted act tells: only a step could be refused, and its thread has an operation
pub accepted-told :
    (w : World) (a : Fields) → sound_world w ≡ true → Shaped w → fields_refusal a ≡ 0 → world_refusal w a ≡ 0 →
    is_refusal (accepted_of w a).event ≡ false
unfolding accepted_of set_of begin_of wake_of close_of recorded world_refusal step_refusal plan_at
accepted-told w a e s f q =
    decided P (eqb a.act SET) _ _ (λ _. refl)
    (λ ns. decided P (eqb a.act BEGIN) _ _ (λ _. refl)
    (λ nb. decided P (eqb a.act STEP) _ _ (λ st. at-step ns (eqb-true a.act STEP st))
    (λ nt. decided P (eqb a.act WAKE) _ _ (λ _. refl) (λ _. refl))))
  where
    P : Acted → Type 0
    P r = is_refusal r.event ≡ false

    at-step : eqb a.act SET ≡ false → a.act ≡ STEP → is_refusal (step_of w a.thread (eqb a.choice 1)).event ≡ false
    at-step ns step =
        let z : step_refusal (thread_at w a.thread) a.choice ≡ 0 = rw step at q in
        let awake = steps-awake (thread_at w a.thread) a.choice z in
        let word = steps-word w a.thread a.choice e s (thread-named a f ns) z in
        ap is_refusal (stepped w a.thread (eqb a.choice 1) e s awake word).event
        ∙ tells-no (plan_at w a.thread (eqb a.choice 1)).event (woken_at w a.thread (eqb a.choice 1))
        (leads (thread_at w a.thread).at (eqb a.choice 1) (word_at w (word_next w a.thread))
        (ltb 0 (length (queue_at w (word_next w a.thread))))
        (not-idle (is_idle (thread_at w a.thread).at) (thread_at w a.thread).asleep (in_closure (thread_at w a.thread).at)
        (eqb a.choice 1 && not (weak_next (thread_at w a.thread).at)) z)).told

-- neither list says 19
Below : ℕ → Type 0
Below n = n < 19

pub fields-below : (a : Fields) → fields_refusal a < 19
unfolding fields_refusal Below
fields-below a =
    either Below (not (ltb a.choice (choices_of a.act))) _ _ (omega arith)
    (either Below (not (thread_exists a)) _ _ (omega arith)
    (either Below (not (unnamed_zero a)) _ _ (omega arith)
    (either Below (not (object_exists a)) _ _ (omega arith) (omega arith))))

pub world-below : (w : World) (a : Fields) → world_refusal w a < 19
unfolding world_refusal set_refusal begin_refusal step_refusal wake_refusal close_refusal Below
world-below w a =
    either Below (eqb a.act SET) _ _
    (either Below w.started _ _ (omega arith) (either Below (eqb a.choice 0 && not (leb a.value MAX_READERS)) _ _ (omega arith) (omega arith)))
    (either Below (eqb a.act BEGIN) _ _
    (either Below (not (is_idle (thread_at w a.thread).at)) _ _ (omega arith)
    (either Below (not (has_hold w.locked w.written w.reads a.thread (need_of (start_of a)))) _ _ (omega arith) (omega arith)))
    (either Below (eqb a.act STEP) _ _
    (either Below (is_idle (thread_at w a.thread).at) _ _ (omega arith)
    (either Below (thread_at w a.thread).asleep _ _ (omega arith)
    (either Below (in_closure (thread_at w a.thread).at) _ _ (omega arith)
    (either Below (eqb a.choice 1 && not (weak_next (thread_at w a.thread).at)) _ _ (omega arith) (omega arith)))))
    (either Below (eqb a.act WAKE) _ _
    (either Below (is_idle (thread_at w a.thread).at) _ _ (omega arith)
    (either Below (thread_at w a.thread).asleep _ _ (omega arith) (omega arith)))
    (either Below (is_idle (thread_at w a.thread).at) _ _ (omega arith)
    (either Below (thread_at w a.thread).asleep _ _ (omega arith)
    (either Below (in_closure (thread_at w a.thread).at) _ _ (omega arith) (omega arith)))))))
