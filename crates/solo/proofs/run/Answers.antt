use Rattle.std.proofs.Common.{◌+◌, sym, ap, ◌∙◌, arith}
use Rattle.solo.specs.declared.Stop.{Stop}
use Rattle.solo.specs.Solo.{stop_of, answer_of}
use Rattle.solo.proofs.Laws.{goes_on_lem, stops-here, all-used}
use Rattle.solo.proofs.run.Goals as goal

pub returns-then-not-goes_on : goal.returns-then-not-goes_on
unfolding answer_of
returns-then-not-goes_on c =
    let a = c.args in
    let k = c.loop-count in
    ap (λ (x : Stop). record { stop = x; count = k.count + 1; woken = k.woken + c.from-woken.result; world = c.step-a.result.world }) c.stop_of.ensures
    ∙ ap answer_of (sym (stops-here a.budget k.count k.woken k.v a.t c.step-a.ensures (c.from-woken.ensures ∙ c.woken.ensures) c.goes_on.ensures (omega arith) c.if-not-goes_on.true)
    ∙ k.invariant.1)

pub loop-count-preserved : goal.loop-count-preserved
loop-count-preserved c =
    let a = c.args in
    let k = c.loop-count in (
      omega arith,
      goes_on_lem a.budget k.count k.woken k.v a.t c.step-a.ensures (c.from-woken.ensures ∙ c.woken.ensures) c.goes_on.ensures (omega arith) c.if-not-goes_on.false
          ∙ k.invariant.1,
    )

pub returns : goal.returns
unfolding answer_of stop_of
returns c =
    let a = c.args in
    let k = c.loop-count in
    ap answer_of (sym (all-used a.budget k.count k.woken k.v a.t (omega arith)) ∙ k.invariant.1)
