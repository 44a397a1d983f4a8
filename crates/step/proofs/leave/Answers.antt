use Rattle.std.proofs.Common.{arith, ◌∙◌}
use Rattle.queue.specs.Row.{THREADS}
use Rattle.queue.proofs.Laws.{take-out-refused}
use Rattle.step.proofs.leave.Goals as goal

pub returns-in_err-place-clause-row : goal.returns-in_err-place-clause-row
returns-in_err-place-clause-row c = rw (c.in_err-place.was, take-out-refused c.args.row.now THREADS (omega arith))

pub returns-in_err-place-clause-value : goal.returns-in_err-place-clause-value
returns-in_err-place-clause-value c =
    c.from_residual.ensures ∙ rw (c.in_err-place.was, take-out-refused c.args.row.now THREADS (omega arith))
