-- Every act keeps soundness, for every sound world, reached or not, refused acts too; so every world that acts make of a fresh one is
-- sound. Assumes nothing.
use mathlib.Core.Path.{◌≡◌}
use mathlib.Core.Bool.{true}
use mathlib.Core.List.{List, [], ◌∷◌}
use lib.Dec.{eqb}
use borrow.Author.Tests.{eqb-true}
use Rattle.words.proofs.Cond.{either}
use Rattle.world.specs.declared.World.{World}
use Rattle.world.specs.World.{fresh_world}
use Rattle.step.specs.declared.Acted.{Acted}
use Rattle.sound.specs.Sound.{sound_world}
use Rattle.sound.proofs.Readings.{clauses-sound}
use Rattle.sound.proofs.Examples.{fresh-sound}
use Rattle.acts.specs.declared.Fields.{Fields}
use Rattle.acts.specs.Refusals.{fields_refusal, world_refusal}
use Rattle.acts.specs.Acts.{accepted_of, acted_of, act_of, acts_of, Sized, no-act, one-act}
use Rattle.acts.proofs.Laws.{sound-acts}
use Rattle.kept.specs.Shape.{Shaped}
use Rattle.kept.proofs.Shape.{fresh-shaped}
use Rattle.kept.proofs.Tests.{decided}
use Rattle.keeps_records.proofs.Shape.{shaped-kept}
use Rattle.keeps_records.proofs.Names.{names-kept, values-kept}
use Rattle.keeps_records.proofs.Sleeping.{sleepers-kept}
use Rattle.keeps_records.proofs.Words.{range-kept}
use Rattle.keeps_counts.proofs.Accepted.{accepted-mutexes, accepted-locks, accepted-needs, accepted-begun}
use Rattle.keeps.specs.Keeps.{AcceptedSound, ActSound, ActShaped, ActsSound}

-- an accepted act keeps soundness
pub accepted-sound : AcceptedSound
accepted-sound w a e s h f q =
    clauses-sound (accepted_of w a).world (record {
      names = names-kept w a e s f;
      values = values-kept w a e s;
      stand = sleepers-kept w a e s f q h;
      range = range-kept w a e s h;
      mutexes = accepted-mutexes w a s e f q;
      locks = accepted-locks w a s e f q;
      needs = accepted-needs w a s e f q;
      begun = accepted-begun w a s e f q;
    })

-- every act does, refused ones too
pub act-sound : ActSound
unfolding acted_of
act-sound w a e s h =
    rw (sound-acts w a e)
    (decided (λ (r : Acted). sound_world r.world ≡ true) (eqb (fields_refusal a) 0) _ _
    (λ f. decided (λ (r : Acted). sound_world r.world ≡ true) (eqb (world_refusal w a) 0) _ _
    (λ q. accepted-sound w a e s h (eqb-true (fields_refusal a) 0 f) (eqb-true (world_refusal w a) 0 q)) (λ q. e)) (λ f. e))

-- and the sizes, in a world that is not sound too
pub act-shaped : ActShaped
unfolding act_of acted_of
act-shaped w a s h =
    decided P (sound_world w) _ _
    (λ e. either P (eqb (fields_refusal a) 0) _ _ (either P (eqb (world_refusal w a) 0) _ _ (shaped-kept w a e s h) s) s)
    (λ e. s)
  where
    P : Acted → Type 0
    P r = Shaped r.world

-- a list of acts
pub acts-keep :
    (w : World) (acts : List Fields) → sound_world w ≡ true → Shaped w → Sized acts →
    (sound_world (acts_of w acts) ≡ true) × Shaped (acts_of w acts)
unfolding acts_of
acts-keep w [] e s no-act = (e, s)
acts-keep w (a ∷ acts) e s (one-act h r) = acts-keep (act_of w a).world acts (act-sound w a e s h) (act-shaped w a s h) r

-- whatever acts are tried on a fresh world
pub acts-sound : ActsSound
acts-sound acts h = acts-keep fresh_world acts fresh-sound fresh-shaped h
