use Rattle.std.proofs.Common.{arith}
use lib.Bits.{and_mask, or_add_and}
use Rattle.words.specs.RwLock.{count, WRITE_LOCKED, with_write_locked}
use Rattle.words.proofs.RwLockWord.with_write_locked.Goals as goal

pub returns : goal.returns
unfolding count with_write_locked
returns c = omega (arith, and_mask c.args.state 30, or_add_and c.args.state WRITE_LOCKED)
