use Rattle.replay_log.proofs.Laws.{not-told, is-told}
use Rattle.replay_log.proofs.Ran.tell.Goals as goal
use Rattle.replay_log.specs.InPlace.{Tells}

pub returns-then-end-self : goal.returns-then-end-self
unfolding Tells
returns-then-end-self c = not-told c.args.event c.args.grant c.args.self.now c.args.out.now _ c.put_line-end.ensures.value c.put_line-end.ensures.out_after c.if-end-self.true

pub returns : goal.returns
unfolding Tells
returns c = is-told c.args.event c.args.grant c.args.self.now c.args.out.now _ c.put_line-end.ensures.value c.put_line-end.ensures.out_after c.if-end-self.false _ c.add.ensures
