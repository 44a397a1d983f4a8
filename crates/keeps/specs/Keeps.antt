-- Every act keeps soundness: the statements. Assumes nothing.
use Rattle.std.specs.Prelude.{◌≡◌, true, List, ◌^◌, ◌<◌}
use Rattle.world.specs.declared.World.{World}
use Rattle.world.specs.World.{fresh_world}
use Rattle.sound.specs.Sound.{sound_world}
use Rattle.acts.specs.declared.Fields.{Fields}
use Rattle.acts.specs.Refusals.{fields_refusal, world_refusal}
use Rattle.acts.specs.Acts.{accepted_of, act_of, acts_of, Sized}
use Rattle.kept.specs.Shape.{Shaped}

-- an accepted act keeps soundness
abbrev pub AcceptedSound : Type 0
AcceptedSound =
    (w : World) (a : Fields) → sound_world w ≡ true → Shaped w → a.value < 2 ^ 32 → fields_refusal a ≡ 0 → world_refusal w a ≡ 0 →
    sound_world (accepted_of w a).world ≡ true

-- every act does, refused ones too
abbrev pub ActSound : Type 0
ActSound = (w : World) (a : Fields) → sound_world w ≡ true → Shaped w → a.value < 2 ^ 32 → sound_world (act_of w a).world ≡ true

-- and the sizes, in a world that is not sound too
abbrev pub ActShaped : Type 0
ActShaped = (w : World) (a : Fields) → Shaped w → a.value < 2 ^ 32 → Shaped (act_of w a).world

-- whatever acts are tried on a fresh world
abbrev pub ActsSound : Type 0
ActsSound = (acts : List Fields) → Sized acts → (sound_world (acts_of fresh_world acts) ≡ true) × Shaped (acts_of fresh_world acts)
