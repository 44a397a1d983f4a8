use Rattle.std.proofs.Common.{arith}
use Rattle.words.proofs.Bits.{test-flag}
use Rattle.words.specs.RwLock.{readers_waiting, has_readers_waiting}
use Rattle.words.proofs.RwLockWord.has_readers_waiting.Goals as goal

pub returns : goal.returns
unfolding readers_waiting has_readers_waiting
returns c = test-flag c.args.state 30 (omega arith)
