-- The word of a condvar, and the writer_notify of an RwLock. Assumes nothing.
use Rattle.std.specs.Prelude.{ℕ}
use Rattle.words.specs.Atomic.{wrapping_add}

-- fetch_add(1): incremented on every notification
abbrev pub incremented : ℕ → ℕ
incremented word = wrapping_add word 1
