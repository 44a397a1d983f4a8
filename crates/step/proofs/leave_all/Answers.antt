use Rattle.std.proofs.Common.{rules, ◌≡◌, length}
use Rattle.queue.specs.Row.{THREADS}
use Rattle.step.proofs.Laws.{left_by}
use Rattle.step.proofs.leave_all.Goals as goal

pub returns-clause-count : goal.returns-clause-count
returns-clause-count g c =
    let row = c.args.row.now in
    let l : length row.places ≡ THREADS = search rules in
    rw (c.saturating_sub.ensures, c.min-before.ensures, c.without.ensures) (left_by (g.T.Test.passes c.args.wanted) row l)
