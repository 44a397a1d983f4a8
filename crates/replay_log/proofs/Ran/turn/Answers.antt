-- `Ran::turn` meets its contract. Assumes nothing.
use mathlib.Core.Path.{ap, ◌∙◌}
use borrow.Author.Rules.{rules}
use Rattle.std.specs.Prelude.{Err}
use Rattle.std.proofs.lemmas.Result.{err_from_is_err_and}
use Rattle.replay_log.proofs.Laws.{if-none, if-some, numbered, not-ended, refusal-next, acted_number, turn-acts, turn-has-no-room}
use Rattle.replay_log.proofs.Ran.turn.Goals as goal

pub returns-in_err-tell : goal.returns-in_err-tell
returns-in_err-tell c =
    let p = err_from_is_err_and c.from_residual.result c.from_residual.ensures.1 in
    not-ended c.args.self.now _ c.args.out.now _ _ c.in_err-tell.field-0.0 (p.1 ∙ ap Err p.2) c.args.sound c.args.l.now _
    (refusal-next c.args.sound c.args.l.now c.args.self.now _ (if-some _ _ _ c.in-Some.refusal c.in-Some.is c.number-number.ensures c.ending.ensures)) c.in_err-tell.ensures

pub returns-in_err-quick_act : goal.returns-in_err-quick_act
returns-in_err-quick_act c =
    let p = err_from_is_err_and c.from_residual-in_err-quick_act.result c.from_residual-in_err-quick_act.ensures.1 in
    turn-has-no-room c.args.sound c.args.l.now c.args.self.now _ c.args.out.now _ _ (if-none _ _ c.in_default.is c.ending.ensures) c.fields.ensures
    c.in_err-quick_act.field-0.0 (p.1 ∙ ap Err p.2) c.in_err-quick_act.ensures

pub overflow_add-self : goal.overflow_add-self
overflow_add-self c =
    let more = numbered c.args.self.now.state.number c.args.l.now (if-none _ _ c.in_default.is c.ending.ensures) in
    search (rules, acted_number _ _ _ _ _ _ c.in_ok-quick_act.ensures, more)

pub returns : goal.returns
returns c =
    turn-acts c.args.sound c.args.l.now c.args.self.now _ c.args.out.now _ _ (if-none _ _ c.in_default.is c.ending.ensures) c.fields.ensures c.in_ok-quick_act.ensures
