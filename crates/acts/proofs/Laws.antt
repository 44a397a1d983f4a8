-- A refused act leaves the world as it was; a world that is not sound is refused 19; in a sound world the inner form is the act.
-- Assumes nothing.
use mathlib.Core.Path.{◌≡◌, refl, sym, ap, ◌∙◌}
use mathlib.Core.Bool.{Bool, true, false, cond, false≢true}
use Prim.Native.Nat.{ℕ}
use lib.Dec.{eqb, ltb}
use Rattle.words.specs.Parker.{PARKED}
use Rattle.queue.specs.Row.{THREADS, place_of}
use Rattle.words.specs.declared.Next.{Next}
use Rattle.words.specs.declared.Next.TheVariants as Nx
use Rattle.words.specs.declared.Step.{Step}
use Rattle.words.specs.Steps.{map_step}
use Rattle.mutex.specs.Mutex as Mx
use Rattle.rwlock.specs.RwLock as Rw
use Rattle.condvar.specs.Condvar as Cv
use Rattle.once.specs.Once as On
use Rattle.thread_parking.specs.ThreadParking as Pk
use Rattle.calls.specs.declared.At.{At}
use Rattle.calls.specs.declared.At.TheVariants as A
use Rattle.calls.specs.declared.Event.{Event}
use Rattle.calls.specs.declared.Event.TheVariants as E
use Rattle.calls.specs.Events.{tell_of, of_refusal, is_refusal}
use Rattle.calls.proofs.Events.{tell-kind}
use Rattle.calls.specs.Objects.{WORDS}
use Rattle.calls.specs.Plans.{moved, slept, done, panicked, entered, decide_of, plan_next, plan_of}
use Rattle.calls.specs.Positions.{operand_of}
use Rattle.world.specs.declared.World.{World}
use Rattle.world.specs.World.{thread_at, word_at, on_word}
use Rattle.step.specs.declared.Acted.{Acted}
use Rattle.step.specs.Step.{refused, apply_plan, step_of}
use Rattle.step.specs.Acts.{recorded, begin_of, wake_of, close_of}
use Rattle.sound.specs.Sound.{sound_world}
use Rattle.acts.specs.declared.Fields.{Fields}
use Rattle.acts.specs.Refusals.{SET, BEGIN, STEP, WAKE, fields_refusal, world_refusal}
use Rattle.acts.specs.Acts.{set_of, accepted_of, acted_of, act_of}

-- a world whose parts disagree is refused
pub unsound-refused : (w : World) (a : Fields) → sound_world w ≡ false → act_of w a ≡ refused 19 w
unfolding act_of
unsound-refused w a e = rw e

-- in a sound world the inner form is the act
pub sound-acts : (w : World) (a : Fields) → sound_world w ≡ true → act_of w a ≡ acted_of w a
unfolding act_of
sound-acts w a e = rw e

-- the count of the woken makes no refusal of an event
tell-refusal : (e : Event) (n : ℕ) → is_refusal (tell_of e n) ≡ is_refusal e
tell-refusal e n = ap of_refusal (tell-kind e n)

-- no plan is a refusal
planned-told : (at : At) (object : ℕ) (s : Step At) → is_refusal (plan_of at object s).event ≡ false
unfolding plan_of moved slept done panicked entered
planned-told at object s = by s.next
  where
    by : (n : Next At) → is_refusal (plan_next at object s.word s.hold s.wake n).event ≡ false
    by (Nx.Moved q) = refl
    by Nx.Asleep = refl
    by (Nx.Ended v) = refl
    by (Nx.Panics k) = refl
    by (Nx.Closure q) = refl

plan-told : (at : At) (f : Bool) (word : ℕ) (a : Bool) → is_refusal (decide_of at f word a).event ≡ false
unfolding decide_of moved
plan-told A.Idle f word a = refl
plan-told (A.Mutex m p) f word a = planned-told (A.Mutex m p) m (map_step (A.Mutex m) (Mx.decide_of p f word a))
plan-told (A.RwLock l p) f word a = planned-told (A.RwLock l p) l (map_step (A.RwLock l) (Rw.decide_of p f word a))
plan-told (A.Condvar c p) f word a = planned-told (A.Condvar c p) (Cv.object_of c p) (map_step (A.Condvar c) (Cv.decide_of p f word a))
plan-told (A.Once o p) f word a = planned-told (A.Once o p) 0 (map_step (A.Once o) (On.decide_of p f word a))
plan-told (A.Parker p) f word a = planned-told (A.Parker p) 0 (map_step A.Parker (Pk.decide_of PARKED p f word a))

-- an answer that is a refusal has the world as it was
Keeps : World → Acted → Type 0
Keeps w r = is_refusal r.event ≡ true → r.world ≡ w

keeps-told : (w : World) (r : Acted) → is_refusal r.event ≡ false → Keeps w r
unfolding Keeps
keeps-told w r e f = absurd (false≢true (sym e ∙ f))

keeps-refused : (w : World) (n : ℕ) → Keeps w (refused n w)
unfolding Keeps
keeps-refused w n e = refl

keeps-either : (w : World) (b : Bool) (r s : Acted) → Keeps w r → Keeps w s → Keeps w (cond b r s)
keeps-either w true r s p q = p
keeps-either w false r s p q = q

step_keeps : (w : World) (t : ℕ) (f : Bool) → Keeps w (step_of w t f)
unfolding step_of apply_plan
step_keeps w t f =
    let at : At = (thread_at w t).at in
    let k : ℕ = operand_of t at in
    let place : ℕ = place_of (on_word w.threads k) w.sleepers in
    keeps-either w (ltb k WORDS) _ _
    (keeps-told w _ (tell-refusal (decide_of at f (word_at w k) (ltb place THREADS)).event _ ∙ plan-told at f (word_at w k) (ltb place THREADS)))
    (keeps-refused w 19)

accepted-keeps : (w : World) (a : Fields) → Keeps w (accepted_of w a)
unfolding accepted_of set_of begin_of wake_of close_of recorded
accepted-keeps w a =
    keeps-either w (eqb a.act SET) _ _ (keeps-told w _ refl)
    (keeps-either w (eqb a.act BEGIN) _ _ (keeps-told w _ refl)
    (keeps-either w (eqb a.act STEP) _ _ (step_keeps w a.thread (eqb a.choice 1))
    (keeps-either w (eqb a.act WAKE) _ _ (keeps-told w _ refl) (keeps-told w _ refl))))

-- a refused act leaves the world equal to what it was
pub refused-same : (w : World) (a : Fields) (n : ℕ) → (act_of w a).event ≡ E.Refused n → (act_of w a).world ≡ w
unfolding act_of acted_of Keeps
refused-same w a n e =
    keeps-either w (sound_world w) _ _
    (keeps-either w (eqb (fields_refusal a) 0) _ _
    (keeps-either w (eqb (world_refusal w a) 0) _ _ (accepted-keeps w a) (keeps-refused w (world_refusal w a)))
    (keeps-refused w (fields_refusal a)))
    (keeps-refused w 19) (ap is_refusal e)
