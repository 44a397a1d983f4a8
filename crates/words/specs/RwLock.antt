-- The state word of an RwLock, from rwlock/futex.rs: its three readings, its tests and its operations, in arithmetic. Assumes nothing.
use Rattle.std.specs.Prelude.{ℕ, ◌+◌, ◌-◌, ◌/◌, ◌%◌, ◌^◌, Bool, cond, not, ◌&&◌, ◌==◌, nat_lt}
use Rattle.words.specs.Atomic.{wrapping_add, wrapping_sub}

abbrev pub READ_LOCKED : ℕ
READ_LOCKED = 1

abbrev pub MASK : ℕ
MASK = 2 ^ 30 - 1

abbrev pub WRITE_LOCKED : ℕ
WRITE_LOCKED = MASK

-- READ_LOCKED.wrapping_sub(WRITE_LOCKED)
abbrev pub DOWNGRADE : ℕ
DOWNGRADE = 2 ^ 32 + READ_LOCKED - WRITE_LOCKED

abbrev pub MAX_READERS : ℕ
MAX_READERS = MASK - 1

abbrev pub READERS_WAITING : ℕ
READERS_WAITING = 2 ^ 30

abbrev pub WRITERS_WAITING : ℕ
WRITERS_WAITING = 2 ^ 31

-- the three readings of a state: state & MASK, and each flag as 0 or 1
unfoldable pub count : ℕ → ℕ
count state = state % 2 ^ 30

unfoldable pub readers_waiting : ℕ → ℕ
readers_waiting state = state / 2 ^ 30 % 2

unfoldable pub writers_waiting : ℕ → ℕ
writers_waiting state = state / 2 ^ 31 % 2

-- the source's tests, in its order
unfoldable pub is_unlocked : ℕ → Bool
is_unlocked state = count state == 0

unfoldable pub is_write_locked : ℕ → Bool
is_write_locked state = count state == WRITE_LOCKED

unfoldable pub has_readers_waiting : ℕ → Bool
has_readers_waiting state = readers_waiting state == 1

unfoldable pub has_writers_waiting : ℕ → Bool
has_writers_waiting state = writers_waiting state == 1

unfoldable pub is_read_lockable : ℕ → Bool
is_read_lockable state = nat_lt (count state) MAX_READERS && not (has_readers_waiting state) && not (has_writers_waiting state)

unfoldable pub is_read_lockable_after_wakeup : ℕ → Bool
is_read_lockable_after_wakeup state =
    nat_lt (count state) MAX_READERS && not (has_readers_waiting state) && not (is_write_locked state) && not (is_unlocked state)

unfoldable pub has_reached_max_readers : ℕ → Bool
has_reached_max_readers state = count state == MAX_READERS

-- the operations: sums and differences wrap
abbrev pub read_locked : ℕ → ℕ
read_locked state = wrapping_add state READ_LOCKED

abbrev pub read_unlocked : ℕ → ℕ
read_unlocked state = wrapping_sub state READ_LOCKED

abbrev pub write_locked : ℕ → ℕ
write_locked state = wrapping_add state WRITE_LOCKED

abbrev pub write_unlocked : ℕ → ℕ
write_unlocked state = wrapping_sub state WRITE_LOCKED

abbrev pub downgraded : ℕ → ℕ
downgraded state = wrapping_add state DOWNGRADE

abbrev pub without_readers_waiting : ℕ → ℕ
without_readers_waiting state = wrapping_sub state READERS_WAITING

-- state | WRITE_LOCKED: the low 30 bits all set
unfoldable pub with_write_locked : ℕ → ℕ
with_write_locked state = state - count state + WRITE_LOCKED

-- state | READERS_WAITING: the flag set, if it was not
unfoldable pub with_readers_waiting : ℕ → ℕ
with_readers_waiting state = cond (has_readers_waiting state) state (state + READERS_WAITING)

-- state | WRITERS_WAITING
unfoldable pub with_writers_waiting : ℕ → ℕ
with_writers_waiting state = cond (has_writers_waiting state) state (state + WRITERS_WAITING)
