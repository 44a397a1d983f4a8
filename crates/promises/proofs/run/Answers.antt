-- The run's answer, with what the theorems say of it. Assumes nothing.
use lib.ListN.{length}
use Rattle.parts.specs.Parts.{Bytes}
use Rattle.parts.proofs.Acts.{unsound-run}
use Rattle.promises.proofs.Laws.{by-acts, run-flag}
use Rattle.promises.proofs.run.Goals as goal

pub returns : goal.returns
returns c =
    let a = c.args in
    let bytes : Bytes a.log.now = λ k. (c.type_inv.log k).fits in
    let shaped = c.shaped.ensures in
    let told = c.run.ensures in
    record {
      answer = told;
      by_acts = by-acts (length a.out.now) (length a.log.now) a.log.now a.out.now _ a.state _ shaped bytes told;
      sound_stays = run-flag (length a.out.now) (length a.log.now) a.log.now a.out.now _ a.state _ shaped bytes told;
      unsound_refused = λ e. unsound-run (length a.out.now) a.log.now a.state e;
    }
