use Rattle.std.proofs.Common.{rules, arith, ◌≡◌, ◌∙◌, refl, sym, length}
use Rattle.queue.specs.Row.{THREADS}
use Rattle.calls.specs.Objects.{WORDS}
use Rattle.calls.specs.Positions.{operand_of}
use Rattle.step.proofs.Laws.{found-none, stepped, not-stepped}
use Rattle.step.proofs.step.Goals as goal

pub returns-in_default : goal.returns-in_default
returns-in_default c =
    let k = operand_of c.args.t c.thread-at.result.at in
    not-stepped c.args.w c.args.t c.args.fails c.thread-at.result k c.thread-at.ensures refl (found-none WORDS k (sym c.operand.ensures ∙ c.in_default.is))

pub returns : goal.returns
returns c =
    let a = c.args in
    let n : length a.w.sleepers.places ≡ THREADS = search rules in
    stepped a.w a.t a.fails c.thread-at.result c.in-Some.k c.first_on-place.result c.word.result c.is_some.result c.decide-plan.result
    c.apply.result (omega arith) c.thread-at.ensures (sym c.operand.ensures ∙ c.in-Some.is) c.first_on-place.ensures c.word.ensures
    c.is_some.ensures c.decide-plan.ensures c.apply.ensures
