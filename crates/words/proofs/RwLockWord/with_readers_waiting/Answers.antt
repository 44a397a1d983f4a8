use Rattle.std.proofs.Common.{refl}
use Rattle.words.proofs.Bits.{set-flag}
use Rattle.words.specs.RwLock.{readers_waiting, has_readers_waiting, with_readers_waiting}
use Rattle.words.proofs.RwLockWord.with_readers_waiting.Goals as goal

pub returns : goal.returns
unfolding readers_waiting has_readers_waiting with_readers_waiting
returns c = set-flag c.args.state 30 refl
