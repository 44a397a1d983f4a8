use Rattle.std.proofs.Common.{rules, arith, ◌≡◌, ◌≤◌, ◌∙◌, ◌+◌, set, sym, ap, length, length-take, get_or}
use Rattle.queue.specs.Row.{THREADS, pushed}
use Rattle.queue.proofs.Places.{row-passes, row-fails}
use Rattle.queue.proofs.Row.without.Goals.{then-not-passes, else-not-passes}
use Rattle.queue.proofs.Row.without.Goals as goal

pub loop-thread-preserved : goal.loop-thread-preserved
unfolding pushed
loop-thread-preserved g c =
    let b = c.loop-thread in
    let f = g.T.Test.passes c.args.wanted in
    let l = c.sleepers-thread-items.result.now in
    let i = b.thread-index in
    let n : length c.args.self.places ≡ THREADS = search rules in
    let m : length l ≤ THREADS = omega (arith, ap length c.sleepers-thread-items.ensures, length-take c.args.self.count c.args.self.places) in
    elim c.if-not-passes.branch [
      | then-not-passes w ↦ (rw w.rest-is (omega arith), w.rest-is ∙ ap (λ r. record { places = set r.places r.count (get_or l i 0); count = r.count + 1 }) b.invariant.1 ∙ row-fails f l i c.loop-thread-test.true m (sym c.passes.ensures ∙ w.if-not-passes.true))
      | else-not-passes w ↦ (rw w.rest-is (omega arith), w.rest-is ∙ b.invariant.1 ∙ row-passes f l i c.loop-thread-test.true (sym c.passes.ensures ∙ w.if-not-passes.false))
    ]
