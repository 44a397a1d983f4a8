-- The word of a Once, from once/futex.rs. Assumes nothing.
use Rattle.std.specs.Prelude.{ℕ, ◌+◌, ◌/◌, ◌%◌, Bool, cond, ◌==◌}
use Rattle.words.specs.Atomic.{wrapping_add}

abbrev pub INCOMPLETE : ℕ
INCOMPLETE = 3

abbrev pub POISONED : ℕ
POISONED = 2

abbrev pub RUNNING : ℕ
RUNNING = 1

abbrev pub COMPLETE : ℕ
COMPLETE = 0

abbrev pub QUEUED : ℕ
QUEUED = 4

-- state_and_queued & STATE_MASK: the low two bits
unfoldable pub state_of : ℕ → ℕ
state_of seen = seen % 4

-- state_and_queued & QUEUED != 0
unfoldable pub is_queued : ℕ → Bool
is_queued seen = seen / 4 % 2 == 1

-- state_and_queued += QUEUED
abbrev pub with_queued : ℕ → ℕ
with_queued seen = wrapping_add seen QUEUED

-- RUNNING + if queued { QUEUED } else { 0 }
abbrev pub running_with : Bool → ℕ
running_with queued = RUNNING + cond queued QUEUED 0
