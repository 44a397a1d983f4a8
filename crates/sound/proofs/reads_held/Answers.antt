use Rattle.std.proofs.Common.{◌≡◌, arith}
use Rattle.queue.specs.Row.{THREADS}
use Rattle.world.specs.Holds.{reads_of}
use Rattle.sound.specs.Sound.{reads_held}
use Rattle.sound.proofs.Ranges.{sum-last}
use Rattle.sound.proofs.reads_held.Goals as goal

pub loop-t-preserved : goal.loop-t-preserved
loop-t-preserved c = (omega (arith, sum-last (reads_of c.args.w.now.reads c.args.lock) c.loop-t.t), omega arith)

pub returns : goal.returns
unfolding reads_held
returns c =
    let e : c.loop-t.t ≡ THREADS = omega arith in
    rw e at c.loop-t.invariant.0
