use Rattle.std.proofs.Common.{◌≡◌, ◌++◌, length, take, drop}
use Rattle.queue.specs.Row.{THREADS}
use Rattle.step.specs.Step.{rouse_all}
use Rattle.step.proofs.rouse_all.Given as goal

abbrev pub invariant-loop-t : goal.invariant-loop-t
invariant-loop-t l =
    (length l.threads ≡ THREADS) × (take l.t l.threads ++ rouse_all l.k l.t (drop l.t l.threads) ≡ rouse_all l.k 0 l.fn.threads)
