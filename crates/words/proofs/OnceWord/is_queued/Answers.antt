use Rattle.words.proofs.Bits.{test-flag}
use Rattle.std.proofs.Common.{arith}
use Rattle.words.specs.Once.{is_queued}
use Rattle.words.proofs.OnceWord.is_queued.Goals as goal

pub returns : goal.returns
unfolding is_queued
returns c = test-flag c.args.seen 2 (omega arith)
