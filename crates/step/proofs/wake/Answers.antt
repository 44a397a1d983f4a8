use Rattle.std.proofs.Common.{rules, arith, ◌≡◌, length}
use Rattle.queue.specs.Row.{THREADS, is_wanted}
use Rattle.queue.proofs.Laws.{place-of-or}
use Rattle.step.specs.Acts.{only_of, wake_of}
use Rattle.step.proofs.wake.Goals as goal

pub returns : goal.returns
unfolding wake_of
returns c =
    let w = c.args.w in
    let n : length w.sleepers.places ≡ THREADS = search rules in
    rw (c.record.ensures, c.rouse.ensures, c.thread.ensures, c.leave.ensures.row, c.place_of_thread-place.ensures, place-of-or (is_wanted (only_of c.args.t)) w.sleepers (omega arith))
