use Rattle.std.proofs.Common.{refl}
use Rattle.words.proofs.Bits.{set-flag}
use Rattle.words.specs.RwLock.{writers_waiting, has_writers_waiting, with_writers_waiting}
use Rattle.words.proofs.RwLockWord.with_writers_waiting.Goals as goal

pub returns : goal.returns
unfolding writers_waiting has_writers_waiting with_writers_waiting
returns c = set-flag c.args.state 31 refl
