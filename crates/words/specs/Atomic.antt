-- The atomic operations that all kinds of words share: sums and differences of 32 bits wrap, and a weak exchange may fail. Assumes nothing.
use Rattle.std.specs.Prelude.{ℕ, ◌+◌, ◌-◌, ◌%◌, ◌^◌, Bool, not, ◌&&◌, ◌==◌}

-- fetch_add
unfoldable pub wrapping_add : ℕ → ℕ → ℕ
wrapping_add word n = (word + n) % 2 ^ 32

-- fetch_sub, of an n below 2 ^ 32
unfoldable pub wrapping_sub : ℕ → ℕ → ℕ
wrapping_sub word n = (word + (2 ^ 32 - n)) % 2 ^ 32

-- the spins before a wait: a spinning thread loads once more than that
abbrev pub SPINS : ℕ
SPINS = 100

-- compare_exchange_weak(expected, ..) stores where the word is as expected, unless it fails all the same
unfoldable pub exchanges : ℕ → ℕ → Bool → Bool
exchanges word expected fails = word == expected && not fails
