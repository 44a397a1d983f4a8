-- The word of a mutex, from mutex/futex.rs. Assumes nothing.
use Rattle.std.specs.Prelude.{ℕ, Bool, ◌==◌}

abbrev pub UNLOCKED : ℕ
UNLOCKED = 0

-- locked, no other threads waiting
abbrev pub LOCKED : ℕ
LOCKED = 1

-- locked, and other threads waiting (contended)
abbrev pub CONTENDED : ℕ
CONTENDED = 2

abbrev pub is_unlocked : ℕ → Bool
is_unlocked state = state == UNLOCKED

abbrev pub is_locked : ℕ → Bool
is_locked state = state == LOCKED

abbrev pub is_contended : ℕ → Bool
is_contended state = state == CONTENDED
