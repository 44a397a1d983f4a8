use Rattle.std.proofs.Common.{◌∙◌, eq-eqb, ne_eqb}
use Rattle.step.proofs.Laws.{only_is}
use Rattle.step.proofs.OnlyTest.passes.Goals as goal

pub returns-then-thread-self : goal.returns-then-thread-self
returns-then-thread-self c =
    rw (eq-eqb c.args.thread c.args.self.now.thread c.if-thread-self.true) at (only_is c.args.self.now.thread c.args.thread)

pub returns-else-thread-self : goal.returns-else-thread-self
returns-else-thread-self c =
    let e = ne_eqb c.args.thread c.args.self.now.thread c.if-thread-self.false in
    e ∙ rw e at (only_is c.args.self.now.thread c.args.thread)
