use Rattle.std.proofs.Common.{length-set, get_or, refl, ◌<◌, ◌∙◌, sym, length}
use Rattle.calls.specs.declared.Thread.{Thread}
use Rattle.calls.specs.Plans.{idle}
use Rattle.step.proofs.Laws.{rouse-turn, rouse-end}
use Rattle.step.proofs.rouse_all.Goals.{then-sleeps_on, else-sleeps_on}
use Rattle.step.proofs.rouse_all.Goals as goal

pub loop-t-preserved : goal.loop-t-preserved
loop-t-preserved c =
    let b = c.loop-t in
    let x : Thread = get_or b.threads b.t idle in
    let h : b.t < length b.threads = rw b.invariant.0 c.loop-t-test.true in
    elim c.if-sleeps_on.branch [
      | then-sleeps_on w ↦ (
        rw w.threads-is (length-set b.threads b.t w.rouse.result ∙ b.invariant.0),
        rw w.threads-is (rouse-turn c.args.k b.t w.rouse.result b.threads h (rw (sym c.sleeps_on.ensures ∙ w.if-sleeps_on.true) w.rouse.ensures) ∙ b.invariant.1),
      )
      | else-sleeps_on w ↦ (
        rw w.threads-is (length-set b.threads b.t x ∙ b.invariant.0),
        rw w.threads-is (rouse-turn c.args.k b.t x b.threads h (rw (sym c.sleeps_on.ensures ∙ w.if-sleeps_on.false) refl) ∙ b.invariant.1),
      )
    ]

pub returns : goal.returns
returns c =
    let b = c.loop-t in
    sym (rouse-end c.args.k b.t b.threads (rw b.invariant.0 c.loop-t-test.false)) ∙ b.invariant.1
