-- An RwLock's state by its three readings, a count and two flags: a state is its readings, and each operation is read off by linear
-- arithmetic, so that no other proof looks into a word. Assumes nothing.
use Rattle.std.proofs.Common.{◌≡◌, ℕ, zero, suc, ◌+◌, ◌-◌, ◌*◌, ◌%◌, ◌^◌, ◌<◌, ◌≤◌, Bool, true, false, cond, eqb, refl, arith, eqb-true}
use borrow.Author.Tests.{eqb-false}
use Rattle.words.specs.Atomic.{wrapping_add, wrapping_sub}
use Rattle.words.specs.RwLock.{MASK, READERS_WAITING, WRITERS_WAITING, count, readers_waiting, writers_waiting, has_readers_waiting, has_writers_waiting, read_locked, read_unlocked, write_locked, write_unlocked, downgraded, without_readers_waiting, with_write_locked, with_readers_waiting, with_writers_waiting}

-- the number with these readings
abbrev pub made : ℕ → ℕ → ℕ → ℕ
made c r w = c + r * READERS_WAITING + w * WRITERS_WAITING

-- the readings of a state
pub record Reads (state c r w : ℕ) : Type 0 where
  pub count-is : count state ≡ c
  pub readers-are : readers_waiting state ≡ r
  pub writers-are : writers_waiting state ≡ w

pub count-le : (state : ℕ) → count state ≤ MASK
unfolding count
count-le state = omega arith

pub readers-le : (state : ℕ) → readers_waiting state ≤ 1
unfolding readers_waiting
readers-le state = omega arith

pub writers-le : (state : ℕ) → writers_waiting state ≤ 1
unfolding writers_waiting
writers-le state = omega arith

-- a state is its readings
pub word-is : (state : ℕ) → state < 2 ^ 32 → state ≡ made (count state) (readers_waiting state) (writers_waiting state)
unfolding count readers_waiting writers_waiting
word-is state h = omega arith

of_parts : (c r w : ℕ) → c ≤ MASK → r ≤ 1 → w ≤ 1 → Reads (made c r w) c r w
unfolding count readers_waiting writers_waiting
of_parts c r w a b d = record { count-is = omega arith; readers-are = omega arith; writers-are = omega arith }

-- and a number that is made of parts has them as its readings
pub re_read : (state c r w : ℕ) → state ≡ made c r w → c ≤ MASK → r ≤ 1 → w ≤ 1 → Reads state c r w
re_read state c r w e a b d = rw e (of_parts c r w a b d)

-- a sum that wraps once, or not at all
wraps : (a b : ℕ) → a ≡ b + 2 ^ 32 → b < 2 ^ 32 → a % 2 ^ 32 ≡ b
wraps a b e h = omega arith

stays : (a b : ℕ) → a ≡ b → b < 2 ^ 32 → a % 2 ^ 32 ≡ b
stays a b e h = omega arith

-- each operation, on a state of 32 bits with readings c, r, w
module _ (state c r w : ℕ) (is : state ≡ made c r w) (c-le : c ≤ MASK) (r-le : r ≤ 1) (w_le : w ≤ 1) where
  pub read-locked : c < MASK → Reads (read_locked state) (c + 1) r w
  unfolding wrapping_add
  read-locked h = re_read (read_locked state) (c + 1) r w (stays (state + 1) (made (c + 1) r w) (omega arith) (omega arith)) (omega arith) r-le w_le

  pub read-unlocked : 0 < c → Reads (read_unlocked state) (c - 1) r w
  unfolding wrapping_sub
  read-unlocked h = re_read (read_unlocked state) (c - 1) r w (wraps (state + (2 ^ 32 - 1)) (made (c - 1) r w) (omega arith) (omega arith)) (omega arith) r-le w_le

  pub write-locked : c ≡ 0 → Reads (write_locked state) MASK r w
  unfolding wrapping_add
  write-locked h = re_read (write_locked state) MASK r w (stays (state + MASK) (made MASK r w) (omega arith) (omega arith)) (omega arith) r-le w_le

  pub write-unlocked : c ≡ MASK → Reads (write_unlocked state) 0 r w
  unfolding wrapping_sub
  write-unlocked h = re_read (write_unlocked state) 0 r w (wraps (state + (2 ^ 32 - MASK)) (made 0 r w) (omega arith) (omega arith)) (omega arith) r-le w_le

  -- adding DOWNGRADE modulo 2 ^ 32 keeps both flags
  pub downgrade : c ≡ MASK → Reads (downgraded state) 1 r w
  unfolding wrapping_add
  downgrade h = re_read (downgraded state) 1 r w (wraps (state + (2 ^ 32 + 1 - MASK)) (made 1 r w) (omega arith) (omega arith)) (omega arith) r-le w_le

  pub without-readers : r ≡ 1 → Reads (without_readers_waiting state) c 0 w
  unfolding wrapping_sub
  without-readers h = re_read (without_readers_waiting state) c 0 w (wraps (state + (2 ^ 32 - READERS_WAITING)) (made c 0 w) (omega arith) (omega arith)) c-le (omega arith) w_le

  -- with the flag clear the difference borrows from the other flag, and the count stays all the same
  pub without-readers-borrows : r ≡ 0 → Reads (without_readers_waiting state) c 1 (1 - w)
  unfolding wrapping_sub
  without-readers-borrows h = re_read (without_readers_waiting state) c 1 (1 - w) (borrow w refl w_le) c-le (omega arith) (omega arith)
    where
      borrow : (v : ℕ) → w ≡ v → v ≤ 1 → without_readers_waiting state ≡ made c 1 (1 - w)
      borrow zero e l = stays (state + (2 ^ 32 - READERS_WAITING)) (made c 1 (1 - w)) (omega arith) (omega arith)
      borrow (suc zero) e l = wraps (state + (2 ^ 32 - READERS_WAITING)) (made c 1 (1 - w)) (omega arith) (omega arith)
      borrow (suc (suc v)) e l = absurd (omega arith)

  pub with-write-locked : Reads state c r w → Reads (with_write_locked state) MASK r w
  unfolding with_write_locked
  with-write-locked h =
      let k : state - count state + MASK ≡ made MASK r w = rw h.count-is (omega arith) in
      re_read (with_write_locked state) MASK r w k (omega arith) r-le w_le

  pub with-readers : Reads state c r w → Reads (with_readers_waiting state) c 1 w
  unfolding with_readers_waiting has_readers_waiting
  with-readers h = rw h.readers-are (by (eqb r 1) refl)
    where
      by : (b : Bool) → eqb r 1 ≡ b → Reads (cond b state (state + READERS_WAITING)) c 1 w
      by true e = let k : r ≡ 1 = eqb-true r 1 e in re_read state c 1 w (omega arith) c-le (omega arith) w_le
      by false e =
          let k : (r ≡ 1 → ⊥) = eqb-false r 1 e in
          re_read (state + READERS_WAITING) c 1 w (omega arith) c-le (omega arith) w_le

  pub with-writers : Reads state c r w → Reads (with_writers_waiting state) c r 1
  unfolding with_writers_waiting has_writers_waiting
  with-writers h = rw h.writers-are (by (eqb w 1) refl)
    where
      by : (b : Bool) → eqb w 1 ≡ b → Reads (cond b state (state + WRITERS_WAITING)) c r 1
      by true e = let k : w ≡ 1 = eqb-true w 1 e in re_read state c r 1 (omega arith) c-le r-le (omega arith)
      by false e =
          let k : (w ≡ 1 → ⊥) = eqb-false w 1 e in
          re_read (state + WRITERS_WAITING) c r 1 (omega arith) c-le r-le (omega arith)
