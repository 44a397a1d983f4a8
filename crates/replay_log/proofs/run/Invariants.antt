use Rattle.std.specs.Prelude.{◌≡◌}
use Rattle.std.specs.Slice.Iter.{chunks_exact_size, chunks_exact_rest}
use Rattle.replay_log.proofs.Laws.{Inv}
use Rattle.replay_log.proofs.run.Given as goal

abbrev pub invariant-loop-record : goal.invariant-loop-record
invariant-loop-record l =
    (goal.iterator-loop-record).can_next l.record-iterator ×
    (goal.iterator-loop-record).is_finite l.record-iterator ×
    (chunks_exact_size l.record-iterator ≡ 10) ×
    Inv l.sound l.log l.initial.out l.fn.state l.out l.ran (chunks_exact_rest l.record-iterator)
