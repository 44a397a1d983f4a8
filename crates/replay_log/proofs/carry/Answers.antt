use Rattle.replay_log.proofs.Laws.{carried, not-carried}
use Rattle.replay_log.proofs.carry.Goals as goal
use mathlib.Core.Path.{◌∙◌}

pub returns-then-end-buf : goal.returns-then-end-buf
returns-then-end-buf c = c.copy_within.ensures.after ∙ carried c.args.buf.now c.args.from c.args.end _ c.min.ensures c.if-end-buf.true

pub returns-else-end-buf : goal.returns-else-end-buf
returns-else-end-buf c = not-carried c.args.buf.now c.args.from c.args.end c.if-end-buf.false
