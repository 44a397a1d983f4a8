use Rattle.std.proofs.Common.{◌≡◌, ◌-◌, ◌*◌, ◌≤◌}
use Rattle.solo.specs.Run.{run_from}
use Rattle.solo.proofs.run.Given as goal

-- the steps that are left make the run that was asked for
abbrev pub invariant-loop-count : goal.invariant-loop-count
invariant-loop-count l =
    (l.woken ≤ l.count * 255) × (run_from (l.budget - l.count) l.count l.woken l.v l.t ≡ run_from l.budget 0 0 l.initial.v l.t)
