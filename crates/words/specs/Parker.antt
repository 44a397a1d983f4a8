-- The word of a Parker, from thread_parking/futex.rs, over its largest value PARKED, and so over its width. Assumes nothing.
use Rattle.std.specs.Prelude.{ℕ, ◌+◌, ◌-◌, ◌%◌, ◌^◌, Bool, ◌==◌}

-- the largest value of a word of 32 bits
abbrev pub PARKED : ℕ
PARKED = 2 ^ 32 - 1

abbrev pub EMPTY : ℕ
EMPTY = 0

abbrev pub NOTIFIED : ℕ
NOTIFIED = 1

abbrev pub is_parked : ℕ → ℕ → Bool
is_parked parked state = state == parked

abbrev pub is_notified : ℕ → Bool
is_notified state = state == NOTIFIED

-- fetch_sub(1), which wraps from EMPTY to PARKED
unfoldable pub less_one : ℕ → ℕ → ℕ
less_one parked state = (state + parked) % (parked + 1)
