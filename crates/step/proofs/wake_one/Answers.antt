use Rattle.std.proofs.Common.{◌∙◌, sym}
use Rattle.std.specs.Option.{unwrap_or}
use Rattle.queue.specs.Row.{THREADS}
use Rattle.step.proofs.Laws.{nobody-leaves}
use Rattle.step.proofs.wake_one.Goals as goal

pub returns-in_default-clause-world : goal.returns-in_default-clause-world
returns-in_default-clause-world c =
    nobody-leaves c.args.w.now (unwrap_or c.args.place THREADS) c.leave.new.row c.leave.ensures.row (sym c.leave.ensures.value ∙ c.in_default.is)
