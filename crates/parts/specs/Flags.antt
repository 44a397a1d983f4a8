-- A run from a world of the code's sizes reaches a world of those sizes, which is sound exactly where the first was: so the next part of a
-- log finds the soundness that the one before it found. Assumes nothing.
use Rattle.std.specs.Prelude.{◌≡◌, Bool}
use Rattle.sound.specs.Sound.{sound_world}
use Rattle.kept.specs.Shape.{Shaped}
use Rattle.replay_log.specs.declared.State.{State}

-- what a record keeps
pub record Kept (sound : Bool) (s : State) : Type 0 where
  pub shaped : Shaped s.world
  pub flag : sound_world s.world ≡ sound
