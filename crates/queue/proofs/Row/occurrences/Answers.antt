use Rattle.std.proofs.Common.{rules, ◌≡◌, ◌∙◌, eqb}
use Rattle.std.specs.Prelude.{count_by}
use Rattle.std.proofs.iter.runs.Made.{chains}
use Rattle.queue.specs.Row.{sleepers}
use Rattle.queue.proofs.Part.{occ-count}
use Rattle.queue.proofs.Row.occurrences.Goals as goal

pub returns : goal.returns
returns c =
    let a = c.args in
    let e : c.count.result ≡ count_by (λ t. eqb t a.thread) (sleepers a.self.now) = search (rules, chains) in
    e ∙ occ-count a.thread (sleepers a.self.now)
