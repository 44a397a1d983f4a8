-- `Ran::quick_act` meets its contract. Assumes nothing.
use mathlib.Core.Path.{ap, ◌∙◌}
use Rattle.std.specs.Prelude.{Err}
use Rattle.std.proofs.lemmas.Result.{err_from_is_err_and}
use Rattle.calls.specs.declared.Thread.{Thread}
use Rattle.tally.specs.Tally.{grants_of}
use Rattle.world.specs.declared.World.{World}
use Rattle.replay_log.specs.InPlace.{stored_by}
use Rattle.replay_log.proofs.Laws.{not-acted, acts_told, told_world}
use Rattle.replay_log.proofs.Ran.quick_act.Goals as goal

pub returns-in_err-tell-in-Some : goal.returns-in_err-tell-in-Some
returns-in_err-tell-in-Some c =
    let p = err_from_is_err_and c.from_residual.result c.from_residual.ensures.1 in
    not-acted c.args.self.now _ c.args.out.now _ _ c.in_err-tell-in-Some.field-0.0 (p.1 ∙ ap Err p.2) c.args.a _ _
    (c.event.ensures ∙ c.in-Some.ensures.event) c.in_err-tell-in-Some.ensures

pub returns-in_ok-tell-in-Some : goal.returns-in_ok-tell-in-Some
returns-in_ok-tell-in-Some c =
    acts_told c.args.a _ c.args.self.now _ c.args.out.now _ _ _ _ (c.event.ensures ∙ c.in-Some.ensures.event)
    (c.grants-grant.ensures ∙ ap (λ (th : Thread). grants_of th.at) c.thread-th.ensures)
    (c.store.ensures ∙ (ap (λ (w : World). stored_by w c.args.a.thread c.in-Some.act) (told_world _ _ _ _ _ _ c.in_ok-tell-in-Some.ensures) ∙ c.in-Some.ensures.world))
    c.in_ok-tell-in-Some.ensures
