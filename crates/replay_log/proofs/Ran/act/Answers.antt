-- `Ran::act` meets its contract. Assumes nothing.
use mathlib.Core.Path.{ap, ◌∙◌}
use Rattle.std.specs.Prelude.{Err}
use Rattle.std.proofs.lemmas.Result.{err_from_is_err_and}
use Rattle.step.specs.declared.Acted.{Acted}
use Rattle.replay_log.proofs.Laws.{not-acted, acts_told}
use Rattle.replay_log.proofs.Ran.act.Goals as goal

pub returns-in_err-tell : goal.returns-in_err-tell
returns-in_err-tell c =
    let p = err_from_is_err_and c.from_residual.result c.from_residual.ensures.1 in
    not-acted c.args.self.now _ c.args.out.now _ _ c.in_err-tell.field-0.0 (p.1 ∙ ap Err p.2) c.args.a _ _
    (ap (λ (d : Acted). d.event) c.answer-acted.ensures) c.in_err-tell.ensures

pub returns : goal.returns
returns c =
    acts_told c.args.a _ c.args.self.now _ c.args.out.now _ _ _ _ (ap (λ (d : Acted). d.event) c.answer-acted.ensures) c.requires
    (ap (λ (d : Acted). d.world) c.answer-acted.ensures) c.in_ok-tell.ensures
