-- The run's answer from a fresh world, with demand 3 of the acts that it ran. Assumes nothing.
use mathlib.Core.Path.{ap, ◌∙◌}
use lib.ListN.{length}
use Rattle.sound.specs.Sound.{sound_world}
use Rattle.sound.proofs.Examples.{fresh-sound}
use Rattle.parts.specs.Parts.{Bytes}
use Rattle.promises.proofs.Laws.{as-replayed, demanded, world-reached}
use Rattle.promises.proofs.replay.Goals as goal

pub returns : goal.returns
returns c =
    let a = c.args in
    let bytes : Bytes a.log.now = λ k. (c.type_inv.log k).fits in
    let fresh = c.fresh in
    let ran = c.run in
    let told =
    as-replayed (length a.out.now) (length a.log.now) a.log.now a.out.now _ a.t ran.result fresh.result fresh.ensures
    ran.ensures.answer in
    record {
      answer = told;
      world_reached = world-reached (length a.out.now) (length a.log.now) a.log.now a.out.now _ a.t ran.result told bytes;
      sound = ran.ensures.sound_stays ∙ (ap sound_world fresh.ensures ∙ fresh-sound);
      demand = demanded (length a.out.now) (length a.log.now) a.log.now a.out.now a.out.now a.t ran.result bytes;
    }
