use Rattle.replay_log.proofs.Laws.{if-none, if-some, nothing_left, something-left}
use Rattle.replay_log.proofs.put_finish.Goals as goal

pub returns-in-None-clause-value : goal.returns-in-None-clause-value
returns-in-None-clause-value c = (nothing_left c.args.out.now c.args.t c.args.number c.args.left (if-none _ _ c.in-None.is c.finish.ensures)).0

pub returns-in-None-clause-out_after : goal.returns-in-None-clause-out_after
returns-in-None-clause-out_after c = (nothing_left c.args.out.now c.args.t c.args.number c.args.left (if-none _ _ c.in-None.is c.finish.ensures)).1

pub returns-in-Some-clause-value : goal.returns-in-Some-clause-value
returns-in-Some-clause-value c =
    (something-left c.args.out.now c.args.t c.args.number c.args.left _ _ _ _ (if-some _ _ _ c.in-Some.refusal c.in-Some.is c.number.ensures c.finish.ensures)
    c.put_line.ensures.value c.put_line.ensures.out_after c.noted.ensures).0

pub returns-in-Some-clause-out_after : goal.returns-in-Some-clause-out_after
returns-in-Some-clause-out_after c =
    (something-left c.args.out.now c.args.t c.args.number c.args.left _ _ _ _ (if-some _ _ _ c.in-Some.refusal c.in-Some.is c.number.ensures c.finish.ensures)
    c.put_line.ensures.value c.put_line.ensures.out_after c.noted.ensures).1
