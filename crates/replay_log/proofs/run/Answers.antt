-- `replay_log::run` meets its contract. Assumes nothing.
use Rattle.std.proofs.Common.{rules, ◌∙◌, arith}
use Rattle.std.specs.Slice.Iter.{chunks_exact_rest}
use Rattle.replay_log.proofs.Laws.{retold, ends-so, ends-short, goes-on}
use Rattle.replay_log.proofs.run.Goals as goal

pub returns-in-Err : goal.returns-in-Err
returns-in-Err c =
    let a = c.args in
    let s = c.in-Some.ensures.steps in
    retold a.log.now a.out.now _ a.state _ c.sound-sound.ensures
    (ends-so c.sound-sound.result a.log.now a.out.now a.state c.loop-record.out c.loop-record.ran _ c.loop-record.invariant.3 c.in-Some.record.now _ s.1.0 (s.1.1 ∙ c.loop-record.invariant.2)
    c.turn.new.self c.turn.new.out c.in-Err.stop c.in-Err.ensures)

pub overflow_add-ran : goal.overflow_add-ran
overflow_add-ran c =
    let a = c.args in
    let s = c.in-Some.ensures.steps in
    let h = goes-on c.sound-sound.result a.log.now a.out.now a.state c.loop-record.out c.loop-record.ran _ c.loop-record.invariant.3 c.in-Some.record.now _ s.1.0 (s.1.1 ∙ c.loop-record.invariant.2)
    c.turn.new.self c.turn.new.out c.in_default.ensures in
    search (rules, h.within)

pub loop-record-preserved : goal.loop-record-preserved
loop-record-preserved c =
    let a = c.args in
    let s = c.in-Some.ensures.steps in
    let size = s.0 ∙ c.loop-record.invariant.2 in (
      omega (arith, size),
      tt,
      size,
      goes-on c.sound-sound.result a.log.now a.out.now a.state c.loop-record.out c.loop-record.ran _ c.loop-record.invariant.3 c.in-Some.record.now _ s.1.0 (s.1.1 ∙ c.loop-record.invariant.2)
          c.turn.new.self c.turn.new.out c.in_default.ensures,
    )

pub returns : goal.returns
returns c =
    let a = c.args in
    let few = c.in-None.ensures.steps.1.0 in
    retold a.log.now a.out.now _ a.state _ c.sound-sound.ensures
    (ends-short c.sound-sound.result a.log.now a.out.now a.state c.loop-record.out c.loop-record.ran (chunks_exact_rest c.loop-record.record-iterator) c.loop-record.invariant.3 (omega (arith, few, c.loop-record.invariant.2)))
