-- A step depends on its own part of the world alone, and leaves the rest: the statements. Assumes nothing.
use Rattle.std.specs.Prelude.{◌≡◌, ◌⊎◌, ◌≢◌, Bool, true, false, ℕ, ◌<◌, eqb}
use Rattle.calls.specs.Objects.{WORDS}
use Rattle.world.specs.declared.World.{World}
use Rattle.world.specs.World.{thread_at}
use Rattle.step.specs.Step.{roused, refused, step_of}
use Rattle.sound.specs.Sound.{sound_world}
use Rattle.acts.specs.declared.Fields.{Fields}
use Rattle.acts.specs.Refusals.{STEP, fields_refusal, world_refusal}
use Rattle.acts.specs.Acts.{act_of}
use Rattle.kept.specs.Shape.{Shaped}
use Rattle.local.specs.Part.{word_next, sleeps_at, plan_at, woken_at, Framed, Stepped, Agree, Alike}

-- a step of a thread that is awake and has a word
abbrev pub StepsAreStepped : Type 0
StepsAreStepped =
    (w : World) (t : ℕ) (f : Bool) → sound_world w ≡ true → Shaped w → (thread_at w t).asleep ≡ false → word_next w t < WORDS →
    Stepped w t (word_next w t) (woken_at w t f) (plan_at w t f) (step_of w t f)

-- of other threads' records only those of sleepers on the word change: they are roused
abbrev pub OnlyWoken : Type 0
OnlyWoken =
    (w v : World) (t k n : ℕ) → Framed w t k n v → (u : ℕ) → u ≢ t →
    (thread_at v u ≡ thread_at w u) ⊎ ((sleeps_at w k u ≡ true) × (thread_at v u ≡ roused (thread_at w u)))

abbrev pub ActStepped : Type 0
ActStepped =
    (w : World) (a : Fields) → sound_world w ≡ true → Shaped w → a.act ≡ STEP → fields_refusal a ≡ 0 → world_refusal w a ≡ 0 →
    Stepped w a.thread (word_next w a.thread) (woken_at w a.thread (eqb a.choice 1)) (plan_at w a.thread (eqb a.choice 1)) (act_of w a)

-- every step act: refused, and the world is as it was; or the whole of the step, with the frame around its part
abbrev pub ActFrame : Type 0
ActFrame =
    (w : World) (a : Fields) → sound_world w ≡ true → Shaped w → a.act ≡ STEP →
    ((number : ℕ) × (act_of w a ≡ refused number w)) ⊎
    Stepped w a.thread (word_next w a.thread) (woken_at w a.thread (eqb a.choice 1)) (plan_at w a.thread (eqb a.choice 1)) (act_of w a)

-- a step of a thread that is awake: two sound worlds that agree on its part give the same event, and agree on it after the step
abbrev pub StepLocal : Type 0
StepLocal =
    (w v : World) (t : ℕ) (f : Bool) → sound_world w ≡ true → sound_world v ≡ true → Shaped w → Shaped v → Agree w v t (word_next w t) →
    (thread_at w t).asleep ≡ false → Alike w v t (word_next w t) (step_of w t f) (step_of v t f)

-- every step act, accepted or refused: two sound worlds that agree on its part give the same event, and agree on it after the act
abbrev pub ActLocal : Type 0
ActLocal =
    (w v : World) (a : Fields) → sound_world w ≡ true → sound_world v ≡ true → Shaped w → Shaped v → a.act ≡ STEP →
    Agree w v a.thread (word_next w a.thread) → Alike w v a.thread (word_next w a.thread) (act_of w a) (act_of v a)

-- so a thread's step has the same event before and after a step of another thread on another word
abbrev pub StepsApart : Type 0
StepsApart =
    (w : World) (t u : ℕ) (f g : Bool) → sound_world w ≡ true → sound_world (step_of w u g).world ≡ true → Shaped w → t ≢ u →
    word_next w t ≢ word_next w u → (thread_at w t).asleep ≡ false → (thread_at w u).asleep ≡ false → word_next w t < WORDS → word_next w u < WORDS →
    (step_of w t f).event ≡ (step_of (step_of w u g).world t f).event
