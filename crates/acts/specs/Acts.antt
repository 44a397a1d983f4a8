-- The acts: what each does where it is accepted, and the refusals before it. Assumes nothing.
use Rattle.std.specs.Prelude.{ℕ, ◌^◌, ◌<◌, cond, List, [], ◌∷◌, eqb, set}
use Rattle.words.specs.Once.{COMPLETE}
use Rattle.words.specs.declared.Kind.TheVariants as K
use Rattle.once.specs.declared.Ending.{Ending}
use Rattle.once.specs.declared.Ending.TheVariants as En
use Rattle.calls.specs.declared.Event.TheVariants as E
use Rattle.calls.specs.Objects.{word_of}
use Rattle.world.specs.declared.World.{World}
use Rattle.step.specs.declared.Acted.{Acted}
use Rattle.step.specs.Step.{refused, step_of}
use Rattle.step.specs.Acts.{begin_of, wake_of, close_of}
use Rattle.sound.specs.Sound.{sound_world}
use Rattle.acts.specs.declared.Fields.{Fields}
use Rattle.acts.specs.Refusals.{SET, BEGIN, STEP, WAKE, start_of, fields_refusal, world_refusal}

-- the world with another word, or another word and another count of forgotten reads
abbrev pub with_word : World → ℕ → ℕ → World
with_word w k word = record {
  words = set w.words k word;
  locked = w.locked;
  written = w.written;
  reads = w.reads;
  forgotten = w.forgotten;
  threads = w.threads;
  sleepers = w.sleepers;
  started = w.started;
}

abbrev pub with_forgotten : World → ℕ → ℕ → World
with_forgotten w lock value = record {
  words = set w.words (word_of K.RwLock lock) value;
  locked = w.locked;
  written = w.written;
  reads = w.reads;
  forgotten = set w.forgotten lock value;
  threads = w.threads;
  sleepers = w.sleepers;
  started = w.started;
}

-- set: forgotten reads with the state word, writer_notify, a condvar's word, a Once that is COMPLETE
unfoldable pub set_world : World → ℕ → ℕ → ℕ → World
set_world w choice object value =
    cond (eqb choice 0) (with_forgotten w object value)
    (cond (eqb choice 1) (with_word w (word_of K.WriterNotify object) value)
    (cond (eqb choice 2) (with_word w (word_of K.Condvar object) value)
    (with_word w (word_of K.Once object) COMPLETE)))

unfoldable pub set_of : World → ℕ → ℕ → ℕ → Acted
set_of w choice object value = record { event = E.Set; world = set_world w choice object value }

-- how a close ends its closure: normally, after poison(), by panic
unfoldable pub ending_of : ℕ → Ending
ending_of choice = cond (eqb choice 0) En.Returned (cond (eqb choice 1) En.Poisoned En.Panicked)

-- what an accepted act does
unfoldable pub accepted_of : World → Fields → Acted
accepted_of w a =
    cond (eqb a.act SET) (set_of w a.choice a.object a.value)
    (cond (eqb a.act BEGIN) (begin_of w a.thread (start_of a))
    (cond (eqb a.act STEP) (step_of w a.thread (eqb a.choice 1))
    (cond (eqb a.act WAKE) (wake_of w a.thread)
    (close_of w a.thread (ending_of a.choice)))))

-- an act on a world that is sound: the refusals of the fields, those of the world, the act
unfoldable pub acted_of : World → Fields → Acted
acted_of w a =
    cond (eqb (fields_refusal a) 0)
    (cond (eqb (world_refusal w a) 0) (accepted_of w a) (refused (world_refusal w a) w))
    (refused (fields_refusal a) w)

-- an act: a world whose parts disagree is refused before all else
unfoldable pub act_of : World → Fields → Acted
act_of w a = cond (sound_world w) (acted_of w a) (refused 19 w)

-- the world after a list of acts
unfoldable pub acts_of : World → List Fields → World
acts_of w [] = w
acts_of w (a ∷ acts) = acts_of (act_of w a).world acts

-- every value in it has 32 bits, as the code's type has it
pub data Sized : List Fields → Type 0 where
  no-act : Sized []
  one-act : {a : Fields} {acts : List Fields} → a.value < 2 ^ 32 → Sized acts → Sized (a ∷ acts)
