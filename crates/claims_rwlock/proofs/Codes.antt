-- A number for each place of rwlock/futex.rs that R0 to R5 tell apart, under the names of crates/rwlock's positions. Assumes nothing.
use Prim.Native.Nat.{ℕ}

-- in no call on the lock; in read before its wait, in try_read and in try_write, where a thread answers for nothing
abbrev pub outside : ℕ
outside = 0

-- in write, with other_writers_waiting 0: its exchange of 0, and in write_contended spin_write's load, the exchange that locks and the one that
-- sets WRITERS_WAITING
abbrev pub in_write : ℕ
in_write = 1

-- in write_contended, with other_writers_waiting set: the same but the exchange of 0, and the loads of writer_notify and of the state
abbrev pub in_write_beside_others : ℕ
in_write_beside_others = 2

-- write_contended's futex_wait on writer_notify: about to call it, or asleep in it
abbrev pub at_write_wait : ℕ
at_write_wait = 3

-- wake_writer_or_readers' exchange of WRITERS_WAITING alone for 0
abbrev pub at_exchange_writers : ℕ
at_exchange_writers = 4

-- its exchange of both flags for READERS_WAITING
abbrev pub at_exchange_both : ℕ
at_exchange_both = 5

-- wake_writer's fetch_add on writer_notify, when only writers were waiting
abbrev pub at_notify : ℕ
at_notify = 6

-- .. when readers were waiting too
abbrev pub at_notify_both : ℕ
at_notify_both = 7

-- wake_writer's futex_wake on writer_notify, when only writers were waiting
abbrev pub at_wake_writer : ℕ
at_wake_writer = 8

-- .. when readers were waiting too
abbrev pub at_wake_writer_both : ℕ
at_wake_writer_both = 9

-- wake_writer_or_readers' exchange of READERS_WAITING alone for 0
abbrev pub at_exchange_readers : ℕ
at_exchange_readers = 10

-- a futex_wake_all on the state: wake_writer_or_readers' or downgrade's
abbrev pub at_wake_readers : ℕ
at_wake_readers = 11

-- read_unlock's fetch_sub
abbrev pub at_read_unlock : ℕ
at_read_unlock = 12

-- write_unlock's fetch_sub
abbrev pub at_write_unlock : ℕ
at_write_unlock = 13

-- downgrade's fetch_add of DOWNGRADE
abbrev pub at_downgrade : ℕ
at_downgrade = 14

-- downgrade's fetch_sub of READERS_WAITING
abbrev pub at_subtract : ℕ
at_subtract = 15

-- read_contended's futex_wait on the state: about to call it, or asleep in it
abbrev pub at_read_wait : ℕ
at_read_wait = 16
