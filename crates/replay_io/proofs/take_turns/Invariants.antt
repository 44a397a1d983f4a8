use Rattle.std.proofs.Common.{◌≤◌}
use Rattle.replay_io.proofs.take_turns.Given as goal

abbrev pub invariant-loop : goal.invariant-loop
invariant-loop g l = l.session.have ≤ 24000
