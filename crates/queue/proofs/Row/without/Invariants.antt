use Rattle.std.proofs.Common.{◌≡◌, ◌≤◌, take}
use Rattle.queue.specs.Row.{failing, row_of}
use Rattle.queue.proofs.Row.without.Given as goal

abbrev pub invariant-loop-thread : goal.invariant-loop-thread
invariant-loop-thread g l =
    (l.rest.count ≤ l.thread-index) × (l.rest ≡ row_of (failing (g.T.Test.passes l.fn.wanted) (take l.thread-index l.thread-items)))
