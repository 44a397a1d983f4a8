-- What a step of an RwLock call does, in seventeen kinds, over the state and writer_notify: the one place that goes through the code's
-- cases. Assumes nothing.
use mathlib.Core.Path.{◌≡◌, refl, sym, ap, ◌∙◌}
use mathlib.Core.Logic.{◌⊎◌, inl, inr}
use mathlib.Core.Bool.{Bool, true, false, not, ◌&&◌, ◌||◌, cond}
use Prim.Native.Nat.{ℕ, zero, suc, ◌+◌, ◌*◌, ◌-◌, ◌^◌, ◌≤◌, ◌<◌}
use native.Mathlib.Omega.{arith}
use lib.Dec.{eqb, ltb}
use borrow.Author.Tests.{eqb-true, eqb-false, ltb-true, ltb-false}
use Rattle.words.specs.Atomic.{SPINS, exchanges}
use Rattle.words.specs.Counter.{incremented}
use Rattle.words.specs.RwLock.{MASK, MAX_READERS, WRITE_LOCKED, READERS_WAITING, WRITERS_WAITING, count, readers_waiting, writers_waiting, is_unlocked, is_write_locked, has_readers_waiting, has_writers_waiting, is_read_lockable, is_read_lockable_after_wakeup, has_reached_max_readers, read_locked, write_locked, downgraded, with_write_locked, with_readers_waiting, without_readers_waiting, with_writers_waiting}
use Rattle.words.proofs.Readings.{Reads as Has, made, count-le, readers-le, writers-le, word-is, re_read, read-locked, write-locked, with-readers, with-writers, with-write-locked}
use Rattle.words.specs.declared.Hold.TheVariants as H
use Rattle.words.specs.declared.Wake.TheVariants as W
use Rattle.words.specs.declared.Next.{Next}
use Rattle.words.specs.declared.Next.TheVariants as Nx
use Rattle.words.specs.declared.Step.{Step}
use Rattle.words.specs.Steps.{moves_with, ends}
use Rattle.rwlock.specs.declared.ReadAt.{ReadAt}
use Rattle.rwlock.specs.declared.ReadAt.TheVariants as R
use Rattle.rwlock.specs.declared.TryAt.{TryAt}
use Rattle.rwlock.specs.declared.TryAt.TheVariants as T
use Rattle.rwlock.specs.declared.WriteAt.{WriteAt}
use Rattle.rwlock.specs.declared.WriteAt.TheVariants as Wr
use Rattle.rwlock.specs.declared.WakeAt.{WakeAt}
use Rattle.rwlock.specs.declared.WakeAt.TheVariants as Wk
use Rattle.rwlock.specs.declared.DowngradeAt.{DowngradeAt}
use Rattle.rwlock.specs.declared.DowngradeAt.TheVariants as D
use Rattle.rwlock.specs.declared.RwLockAt.{RwLockAt}
use Rattle.rwlock.specs.declared.RwLockAt.TheVariants as A
use Rattle.words.specs.declared.Kind.TheVariants as K
use Rattle.rwlock.specs.RwLock.{read_after_wait, write_after_wait, try_read_top, try_read_of, may_read, read_top, stops_read, read_of, wake_rest, read_unlock_of, try_write_top, try_write_of, write_unlock_of, downgrade_of, write_locked_with, write_top, stops_write, write_of, wake_of, decide_of}
use Rattle.rwlock.specs.Positions.{operand_of, write_operand, wake_operand, must_wait, read_waits, write_waits, read_passed, try_read_passed, write_passed, try_write_passed, passed_of}
use Rattle.kept.proofs.Tests.{decided, no_way, and_left, and_right, or_cases, exchanged}
use Rattle.claims_rwlock.proofs.Codes.{outside, in_write, in_write_beside_others, at_write_wait, at_exchange_writers, at_exchange_both, at_notify, at_notify_both, at_wake_writer, at_wake_writer_both, at_exchange_readers, at_wake_readers, at_read_unlock, at_write_unlock, at_downgrade, at_subtract, at_read_wait}
use Rattle.claims_rwlock.proofs.Moves.{not-true, Quiet, plain, to-read-wait, from-read-wait, writes-on, meets-others, beside-others, from-write-wait, to-write-wait, finds-both, finds-readers, writers-end, both_end, readers-end}

-- ---- the place of each position, by Codes

abbrev pub writing_code : Bool → ℕ
writing_code true = in_write_beside_others
writing_code false = in_write

abbrev pub read_code : ReadAt → ℕ
read_code R.Load = outside
read_code (R.Exchange seen) = outside
read_code (R.Spin slept left) = outside
read_code (R.ExchangeContended slept seen) = outside
read_code (R.SetWaiting slept seen) = outside
read_code (R.Wait seen) = at_read_wait

abbrev pub write_code : WriteAt → ℕ
write_code Wr.Exchange = in_write
write_code (Wr.Spin others left) = writing_code others
write_code (Wr.ExchangeContended others seen) = writing_code others
write_code (Wr.SetWaiting others seen) = writing_code others
write_code Wr.LoadSequence = in_write_beside_others
write_code (Wr.LoadState sequence) = in_write_beside_others
write_code (Wr.Wait sequence) = at_write_wait

abbrev pub wake_code : WakeAt → ℕ
wake_code Wk.ExchangeWriters = at_exchange_writers
wake_code Wk.ExchangeBoth = at_exchange_both
wake_code (Wk.Notify both) = cond both at_notify_both at_notify
wake_code (Wk.WakeWriter both) = cond both at_wake_writer_both at_wake_writer
wake_code Wk.ExchangeReaders = at_exchange_readers
wake_code Wk.WakeReaders = at_wake_readers

abbrev pub down_code : DowngradeAt → ℕ
down_code D.Add = at_downgrade
down_code D.Subtract = at_subtract
down_code D.WakeReaders = at_wake_readers

abbrev pub code_of : RwLockAt → ℕ
code_of (A.Read p) = read_code p
code_of (A.TryRead p) = outside
code_of A.ReadUnlock = at_read_unlock
code_of (A.Write p) = write_code p
code_of (A.TryWrite p) = outside
code_of A.WriteUnlock = at_write_unlock
code_of (A.Wake writer p) = wake_code p
code_of (A.Downgrade p) = down_code p

abbrev pub next_code : Next RwLockAt → ℕ
next_code (Nx.Moved q) = code_of q
next_code Nx.Asleep = outside
next_code (Nx.Ended value) = outside
next_code (Nx.Panics number) = outside
next_code (Nx.Closure q) = code_of q

abbrev pub stays_awake : Next RwLockAt → Bool
stays_awake (Nx.Moved q) = true
stays_awake Nx.Asleep = false
stays_awake (Nx.Ended value) = true
stays_awake (Nx.Panics number) = true
stays_awake (Nx.Closure q) = true

abbrev pub BOTH : ℕ
BOTH = READERS_WAITING + WRITERS_WAITING

-- w and n are the state and writer_notify before the step, `found` whether somebody sleeps there; then those after it, and where it leads
pub data Did (w n : ℕ) (found : Bool) (p : RwLockAt) : ℕ → ℕ → Next RwLockAt → Type 0 where
  d-quiet :
      (x : Next RwLockAt) → stays_awake x ≡ true → Quiet (count w) (readers_waiting w) (writers_waiting w) (code_of p) (next_code x) → Did w n found p w n x
  d-takes-read :
      (w' value : ℕ) → code_of p ≡ outside → readers_waiting w ≡ 0 → Has w' (count w + 1) (readers_waiting w) (writers_waiting w) →
      Did w n found p w' n (Nx.Ended value)
  d-sets-readers :
      (w' : ℕ) → code_of p ≡ outside → readers_waiting w ≡ 0 → (writers_waiting w ≡ 1) ⊎ (count w ≡ MASK) → Has w' (count w) 1 (writers_waiting w) →
      Did w n found p w' n (Nx.Moved (A.Read (R.Wait w')))
  d-sleeps-reader : code_of p ≡ at_read_wait → readers_waiting w ≡ 1 → Did w n found p w n Nx.Asleep
  d-takes-write :
      (w' v' value : ℕ) → count w ≡ 0 → Has w' MASK (readers_waiting w) v' → (writers_waiting w ≡ 1 → v' ≡ 1) →
      (code_of p ≡ outside) ⊎ ((code_of p ≡ in_write) ⊎ ((code_of p ≡ in_write_beside_others) × (v' ≡ 1))) → Did w n found p w' n (Nx.Ended value)
  d-sets-writers :
      (w' : ℕ) (b : Bool) → code_of p ≡ writing_code b → (count w ≡ 0 → ⊥) → Has w' (count w) (readers_waiting w) 1 →
      Did w n found p w' n (Nx.Moved (A.Write Wr.LoadSequence))
  d-sleeps-writer : p ≡ A.Write (Wr.Wait n) → Did w n found p w n Nx.Asleep
  d-frees-read : p ≡ A.ReadUnlock → Did w n found p (read_unlock_of w).word n (read_unlock_of w).next
  d-frees-write : p ≡ A.WriteUnlock → Did w n found p (write_unlock_of w).word n (write_unlock_of w).next
  d-downgrades :
      p ≡ A.Downgrade D.Add → (x : Next RwLockAt) → stays_awake x ≡ true →
      ((readers_waiting w ≡ 1) × (next_code x ≡ at_subtract)) ⊎ ((readers_waiting w ≡ 0) × (next_code x ≡ outside)) → Did w n found p (downgraded w) n x
  d-subtracts : p ≡ A.Downgrade D.Subtract → Did w n found p (without_readers_waiting w) n (Nx.Moved (A.Downgrade D.WakeReaders))
  d-exchanges-writers : (b : Bool) → code_of p ≡ at_exchange_writers → w ≡ WRITERS_WAITING → Did w n found p 0 n (Nx.Moved (A.Wake b (Wk.Notify false)))
  d-exchanges-both : (b : Bool) → code_of p ≡ at_exchange_both → w ≡ BOTH → Did w n found p READERS_WAITING n (Nx.Moved (A.Wake b (Wk.Notify true)))
  d-exchanges-readers : (b : Bool) → code_of p ≡ at_exchange_readers → w ≡ READERS_WAITING → Did w n found p 0 n (Nx.Moved (A.Wake b Wk.WakeReaders))
  d-notifies : (b both : Bool) → p ≡ A.Wake b (Wk.Notify both) → Did w n found p w (incremented n) (Nx.Moved (A.Wake b (Wk.WakeWriter both)))
  d-wakes-writer :
      (b both : Bool) → p ≡ A.Wake b (Wk.WakeWriter both) → (x : Next RwLockAt) → stays_awake x ≡ true →
      next_code x ≡ cond (both && not found) at_exchange_readers outside → Did w n found p w n x
  d-wakes-readers :
      (value : ℕ) → code_of p ≡ at_wake_readers → ((b : Bool) × (p ≡ A.Wake b Wk.WakeReaders)) ⊎ (p ≡ A.Downgrade D.WakeReaders) →
      Did w n found p w n (Nx.Ended value)

-- ---- the tests as facts

pub readers-clear : (w : ℕ) → has_readers_waiting w ≡ false → readers_waiting w ≡ 0
unfolding has_readers_waiting
readers-clear w h = let k : (readers_waiting w ≡ 1 → ⊥) = eqb-false (readers_waiting w) 1 h in omega (arith, readers-le w)

pub readers-set : (w : ℕ) → has_readers_waiting w ≡ true → readers_waiting w ≡ 1
unfolding has_readers_waiting
readers-set w h = eqb-true (readers_waiting w) 1 h

pub writers-clear : (w : ℕ) → has_writers_waiting w ≡ false → writers_waiting w ≡ 0
unfolding has_writers_waiting
writers-clear w h = let k : (writers_waiting w ≡ 1 → ⊥) = eqb-false (writers_waiting w) 1 h in omega (arith, writers-le w)

pub writers-set : (w : ℕ) → has_writers_waiting w ≡ true → writers_waiting w ≡ 1
unfolding has_writers_waiting
writers-set w h = eqb-true (writers_waiting w) 1 h

pub count_none : (w : ℕ) → is_unlocked w ≡ true → count w ≡ 0
unfolding is_unlocked
count_none w h = eqb-true (count w) 0 h

pub count-some : (w : ℕ) → is_unlocked w ≡ false → count w ≡ 0 → ⊥
unfolding is_unlocked
count-some w h = eqb-false (count w) 0 h

pub exactly : (w r v : ℕ) → w < 2 ^ 32 → count w ≡ 0 → readers_waiting w ≡ r → writers_waiting w ≡ v → w ≡ r * READERS_WAITING + v * WRITERS_WAITING
exactly w r v lt a b d = omega (arith, word-is w lt)

-- a reader may lock: READERS_WAITING is not set, and the count is not at its largest
Free : ℕ → Type 0
Free w = (readers_waiting w ≡ 0) × (count w < MAX_READERS)

lock-is : (w : ℕ) → is_read_lockable w ≡ true → Free w
unfolding is_read_lockable Free
lock-is w e =
    let a : (ltb (count w) MAX_READERS && not (has_readers_waiting w)) ≡ true = and_left _ (not (has_writers_waiting w)) e in (
      readers-clear w (not-true (has_readers_waiting w) (and_right (ltb (count w) MAX_READERS) _ a)),
      ltb-true (count w) MAX_READERS (and_left _ (not (has_readers_waiting w)) a),
    )

after_is : (w : ℕ) → is_read_lockable_after_wakeup w ≡ true → Free w
unfolding is_read_lockable_after_wakeup Free
after_is w e =
    let a : (ltb (count w) MAX_READERS && not (has_readers_waiting w)) ≡ true =
    and_left _ (not (is_write_locked w)) (and_left _ (not (is_unlocked w)) e) in (
      readers-clear w (not-true (has_readers_waiting w) (and_right (ltb (count w) MAX_READERS) _ a)),
      ltb-true (count w) MAX_READERS (and_left _ (not (has_readers_waiting w)) a),
    )

may-is : (slept : Bool) (w : ℕ) → may_read slept w ≡ true → Free w
unfolding may_read
may-is slept w e =
    or_cases (slept && is_read_lockable_after_wakeup w) (is_read_lockable w) (Free w) e
    (λ k. after_is w (and_right slept (is_read_lockable_after_wakeup w) k)) (lock-is w)

or_right : (x y : Bool) → (x || y) ≡ false → y ≡ false
or_right true y h = no_way (sym h)
or_right false y h = h

-- it may not, and the flag is to be set: a writer waits, or has the lock
must-is : (slept : Bool) (w : ℕ) → must_wait slept w ≡ true → (readers_waiting w ≡ 0) × ((writers_waiting w ≡ 1) ⊎ (count w ≡ MASK))
unfolding must_wait may_read is_read_lockable has_reached_max_readers
must-is slept w e =
    let a = and_left (not (may_read slept w) && not (has_reached_max_readers w)) (not (has_readers_waiting w)) e in
    let r : has_readers_waiting w ≡ false = not-true (has_readers_waiting w) (and_right (not (may_read slept w) && not (has_reached_max_readers w)) _ e) in
    let m : has_reached_max_readers w ≡ false = not-true (has_reached_max_readers w) (and_right (not (may_read slept w)) _ a) in
    let y : may_read slept w ≡ false = not-true (may_read slept w) (and_left (not (may_read slept w)) (not (has_reached_max_readers w)) a) in (
      readers-clear w r,
      go (ltb (count w) MAX_READERS) refl (has_readers_waiting w) r (has_writers_waiting w) refl m
          (or_right (slept && is_read_lockable_after_wakeup w) (is_read_lockable w) y),
    )
  where
    go :
        (a : Bool) → ltb (count w) MAX_READERS ≡ a → (b : Bool) → b ≡ false → (c : Bool) → has_writers_waiting w ≡ c →
        eqb (count w) MAX_READERS ≡ false → (a && not b && not c) ≡ false → (writers_waiting w ≡ 1) ⊎ (count w ≡ MASK)
    go a p true q c e m k = no_way (sym q)
    go true p false q true e m k = inl (writers-set w e)
    go true p false q false e m k = no_way (sym k)
    go false p false q c e m k =
        let l : MAX_READERS ≤ count w = ltb-false (count w) MAX_READERS p in
        let d : (count w ≡ MAX_READERS → ⊥) = eqb-false (count w) MAX_READERS m in
        inr (omega (arith, count-le w))

waits-is : (w : ℕ) → read_waits w ≡ true → readers_waiting w ≡ 1
unfolding read_waits
waits-is w e = readers-set w (and_left (has_readers_waiting w) _ e)

write-waits-is : (w : ℕ) → write_waits w ≡ true → (count w ≡ 0 → ⊥) × (writers_waiting w ≡ 0)
unfolding write_waits
write-waits-is w e = (
  count-some w (not-true (is_unlocked w) (and_left _ (not (has_writers_waiting w)) e)),
  writers-clear w (not-true (has_writers_waiting w) (and_right (not (is_unlocked w)) _ e)),
)

-- ---- operations

reads : (s : ℕ) → Has s (count s) (readers_waiting s) (writers_waiting s)
reads s = record { count-is = refl; readers-are = refl; writers-are = refl }

take-read : (s : ℕ) → s < 2 ^ 32 → count s < MAX_READERS → Has (read_locked s) (count s + 1) (readers_waiting s) (writers_waiting s)
take-read s h k = read-locked s (count s) (readers_waiting s) (writers_waiting s) (word-is s h) (count-le s) (readers-le s) (writers-le s) (omega arith)

set-readers : (s : ℕ) → s < 2 ^ 32 → Has (with_readers_waiting s) (count s) 1 (writers_waiting s)
set-readers s h = with-readers s (count s) (readers_waiting s) (writers_waiting s) (word-is s h) (count-le s) (readers-le s) (writers-le s) (reads s)

set-writers : (s : ℕ) → s < 2 ^ 32 → Has (with_writers_waiting s) (count s) (readers_waiting s) 1
set-writers s h = with-writers s (count s) (readers_waiting s) (writers_waiting s) (word-is s h) (count-le s) (readers-le s) (writers-le s) (reads s)

set-written : (s : ℕ) → s < 2 ^ 32 → Has (with_write_locked s) MASK (readers_waiting s) (writers_waiting s)
set-written s h =
    with-write-locked s (count s) (readers_waiting s) (writers_waiting s) (word-is s h) (count-le s) (readers-le s) (writers-le s) (reads s)

take-write : (s : ℕ) → s < 2 ^ 32 → count s ≡ 0 → Has (write_locked s) MASK (readers_waiting s) (writers_waiting s)
take-write s h k = write-locked s (count s) (readers_waiting s) (writers_waiting s) (word-is s h) (count-le s) (readers-le s) (writers-le s) k

written-made : (s : ℕ) → s < 2 ^ 32 → with_write_locked s ≡ made MASK (readers_waiting s) (writers_waiting s)
unfolding with_write_locked
written-made s h = omega (arith, word-is s h)

take-with : (b : Bool) (s : ℕ) → s < 2 ^ 32 → Has (write_locked_with b s) MASK (readers_waiting s) (cond b 1 (writers_waiting s))
unfolding write_locked_with
take-with false s h = set-written s h
take-with true s h =
    let k : Has (with_write_locked s) MASK (readers_waiting s) (writers_waiting s) = set-written s h in
    let e : with_write_locked s ≡ made MASK (readers_waiting s) (writers_waiting s) = written-made s h in
    with-writers (with_write_locked s) MASK (readers_waiting s) (writers_waiting s) e (omega arith) (readers-le s) (writers-le s) k

pub free-reads : Has 0 0 0 0
free-reads = re_read 0 0 0 0 refl (omega arith) (omega arith) (omega arith)

pub readers-reads : Has READERS_WAITING 0 1 0
readers-reads = re_read READERS_WAITING 0 1 0 refl (omega arith) (omega arith) (omega arith)

pub writers-reads : Has WRITERS_WAITING 0 0 1
writers-reads = re_read WRITERS_WAITING 0 0 1 refl (omega arith) (omega arith) (omega arith)

pub both-reads : Has BOTH 0 1 1
both-reads = re_read BOTH 0 1 1 refl (omega arith) (omega arith) (omega arith)

pub locked-reads : Has WRITE_LOCKED MASK 0 0
locked-reads = re_read WRITE_LOCKED MASK 0 0 refl (omega arith) (omega arith) (omega arith)

-- the two words of a lock are not of one kind
pub kinds-differ : {P : Type 0} → K.RwLock ≡ K.WriterNotify → P
kinds-differ e = let z : ◌≡◌ {A = ℕ} 0 1 = cc in absurd (omega arith)

-- ---- each position

module _ (w n : ℕ) (found : Bool) (lt : w < 2 ^ 32) where
  -- a step over the state, and one over writer_notify
  abbrev OverState : RwLockAt → Step RwLockAt → Type 0
  OverState p s = Did w n found p s.word n s.next

  abbrev OverNotify : RwLockAt → Step RwLockAt → Type 0
  OverNotify p s = Did w n found p w s.word s.next

  read-top : (p : RwLockAt) (slept : Bool) → code_of p ≡ outside → OverState p (read_top slept w)
  unfolding read_top
  read-top p slept k =
      decided (OverState p) (may_read slept w) _ _ (λ _. d-quiet (Nx.Moved (A.Read (R.ExchangeContended slept w))) refl (rw k plain))
      (λ _. decided (OverState p) (has_reached_max_readers w) _ _ (λ _. d-quiet _ refl (rw k plain))
      (λ _. decided (OverState p) (has_readers_waiting w) _ _ (λ _. d-quiet (Nx.Moved (A.Read (R.Wait w))) refl (rw k to-read-wait))
      (λ _. d-quiet (Nx.Moved (A.Read (R.SetWaiting slept w))) refl (rw k plain))))

  exchange-reads : (p : RwLockAt) (seen : ℕ) → code_of p ≡ outside → Free seen → w ≡ seen → Did w n found p (read_locked seen) n (Nx.Ended 1)
  unfolding Free
  exchange-reads p seen k ok e = d-takes-read (read_locked seen) 1 k (ap readers_waiting e ∙ ok.0) (rw (← e) (take-read w lt (rw e ok.1)))

  read-did : (p : ReadAt) (f : Bool) → read_passed p ≡ true → OverState (A.Read p) (read_of p f w)
  unfolding read_of read_after_wait read_passed
  read-did R.Load f ok =
      decided (OverState (A.Read R.Load)) (is_read_lockable w) _ _ (λ _. d-quiet (Nx.Moved (A.Read (R.Exchange w))) refl plain)
      (λ _. d-quiet (Nx.Moved (A.Read (R.Spin false SPINS))) refl plain)
  read-did (R.Exchange seen) f ok =
      decided (OverState (A.Read (R.Exchange seen))) (exchanges w seen f) _ _
      (λ e. exchange-reads (A.Read (R.Exchange seen)) seen refl (lock-is seen ok) (exchanged w seen f e))
      (λ _. d-quiet (Nx.Moved (A.Read (R.Spin false SPINS))) refl plain)
  read-did (R.Spin slept left) f ok =
      decided (OverState (A.Read (R.Spin slept left))) (stops_read w || eqb left 0) _ _ (λ _. read-top (A.Read (R.Spin slept left)) slept refl)
      (λ _. d-quiet (Nx.Moved (A.Read (R.Spin slept (left - 1)))) refl plain)
  read-did (R.ExchangeContended slept seen) f ok =
      decided (OverState (A.Read (R.ExchangeContended slept seen))) (exchanges w seen f) _ _
      (λ e. exchange-reads (A.Read (R.ExchangeContended slept seen)) seen refl (may-is slept seen ok) (exchanged w seen f e))
      (λ _. read-top (A.Read (R.ExchangeContended slept seen)) slept refl)
  read-did (R.SetWaiting slept seen) f ok =
      decided (OverState (A.Read (R.SetWaiting slept seen))) (eqb w seen) _ _
      (λ q. let e : w ≡ seen = eqb-true w seen q in let m = must-is slept seen ok in
      d-sets-readers (with_readers_waiting seen) refl (ap readers_waiting e ∙ m.0) (rw e m.1) (rw (← e) (set-readers w lt)))
      (λ _. read-top (A.Read (R.SetWaiting slept seen)) slept refl)
  read-did (R.Wait seen) f ok =
      decided (OverState (A.Read (R.Wait seen))) (eqb w seen) _ _
      (λ q. d-sleeps-reader refl (ap readers_waiting (eqb-true w seen q) ∙ waits-is seen ok))
      (λ _. d-quiet (Nx.Moved (A.Read (R.Spin true SPINS))) refl from-read-wait)

  try-read-top : (p : TryAt) → OverState (A.TryRead p) (try_read_top w)
  unfolding try_read_top
  try-read-top p =
      decided (OverState (A.TryRead p)) (is_read_lockable w) _ _ (λ _. d-quiet (Nx.Moved (A.TryRead (T.Exchange w))) refl plain)
      (λ _. d-quiet (Nx.Ended 0) refl plain)

  try-read-did : (p : TryAt) (f : Bool) → try_read_passed p ≡ true → OverState (A.TryRead p) (try_read_of p f w)
  unfolding try_read_of try_read_passed
  try-read-did T.Load f ok = try-read-top T.Load
  try-read-did (T.Exchange seen) f ok =
      decided (OverState (A.TryRead (T.Exchange seen))) (exchanges w seen f) _ _
      (λ e. exchange-reads (A.TryRead (T.Exchange seen)) seen refl (lock-is seen ok) (exchanged w seen f e))
      (λ _. try-read-top (T.Exchange seen))

  try-write-top : (p : TryAt) → OverState (A.TryWrite p) (try_write_top w)
  unfolding try_write_top
  try-write-top p =
      decided (OverState (A.TryWrite p)) (is_unlocked w) _ _ (λ _. d-quiet (Nx.Moved (A.TryWrite (T.Exchange w))) refl plain)
      (λ _. d-quiet (Nx.Ended 0) refl plain)

  try-write-did : (p : TryAt) (f : Bool) → try_write_passed p ≡ true → OverState (A.TryWrite p) (try_write_of p f w)
  unfolding try_write_of try_write_passed
  try-write-did T.Load f ok = try-write-top T.Load
  try-write-did (T.Exchange seen) f ok =
      decided (OverState (A.TryWrite (T.Exchange seen))) (exchanges w seen f) _ _
      (λ q. let e : w ≡ seen = exchanged w seen f q in let z : count w ≡ 0 = ap count e ∙ count_none seen ok in
      d-takes-write (write_locked seen) (writers_waiting w) 1 z (rw (← e) (take-write w lt z)) (λ x. x) (inl refl))
      (λ _. try-write-top (T.Exchange seen))

  -- `write`
  spins : (b : Bool) → Quiet (count w) (readers_waiting w) (writers_waiting w) (writing_code b) (writing_code b)
  spins true = beside-others
  spins false = writes-on

  to-sequence : (b : Bool) → Quiet (count w) (readers_waiting w) (writers_waiting w) (writing_code b) in_write_beside_others
  to-sequence true = beside-others
  to-sequence false = meets-others

  write_top_lem : (p : RwLockAt) (b : Bool) → code_of p ≡ writing_code b → OverState p (write_top b w)
  unfolding write_top
  write_top_lem p b k =
      decided (OverState p) (is_unlocked w) _ _ (λ _. d-quiet (Nx.Moved (A.Write (Wr.ExchangeContended b w))) refl (rw k (spins b)))
      (λ _. decided (OverState p) (has_writers_waiting w) _ _ (λ _. d-quiet (Nx.Moved (A.Write Wr.LoadSequence)) refl (rw k (to-sequence b)))
      (λ _. d-quiet (Nx.Moved (A.Write (Wr.SetWaiting b w))) refl (rw k (spins b))))

  with-codes :
      (b : Bool) →
      (writing_code b ≡ outside) ⊎ ((writing_code b ≡ in_write) ⊎ ((writing_code b ≡ in_write_beside_others) × (cond b 1 (writers_waiting w) ≡ 1)))
  with-codes true = inr (inr (refl, refl))
  with-codes false = inr (inl refl)

  with-keeps : (b : Bool) → writers_waiting w ≡ 1 → cond b 1 (writers_waiting w) ≡ 1
  with-keeps true e = refl
  with-keeps false e = e

  -- the positions of write over the state
  write-did : (p : WriteAt) (f : Bool) → write_passed p ≡ true → write_operand p ≡ K.RwLock → OverState (A.Write p) (write_of p f w)
  unfolding write_of write_after_wait write_passed write_operand
  write-did Wr.Exchange f ok _ =
      decided (OverState (A.Write Wr.Exchange)) (exchanges w 0 f) _ _
      (λ q. let e : w ≡ 0 = exchanged w 0 f q in
      d-takes-write WRITE_LOCKED 0 1 (ap count e ∙ free-reads.count-is) (rw (e, free-reads.readers-are) locked-reads)
      (λ x. absurd (zero_one (sym free-reads.writers-are ∙ sym (ap writers_waiting e) ∙ x))) (inr (inl refl)))
      (λ _. d-quiet (Nx.Moved (A.Write (Wr.Spin false SPINS))) refl writes-on)
    where
      zero_one : ◌≡◌ {A = ℕ} 0 1 → ⊥
      zero_one e = omega arith
  write-did (Wr.Spin others left) f ok _ =
      decided (OverState (A.Write (Wr.Spin others left))) (stops_write w || eqb left 0) _ _
      (λ _. write_top_lem (A.Write (Wr.Spin others left)) others refl)
      (λ _. d-quiet (Nx.Moved (A.Write (Wr.Spin others (left - 1)))) refl (spins others))
  write-did (Wr.ExchangeContended others seen) f ok _ =
      decided (OverState (A.Write (Wr.ExchangeContended others seen))) (exchanges w seen f) _ _
      (λ q. let e : w ≡ seen = exchanged w seen f q in let z : count w ≡ 0 = ap count e ∙ count_none seen ok in
      d-takes-write (write_locked_with others seen) (cond others 1 (writers_waiting w)) 1 z (rw (← e) (take-with others w lt)) (with-keeps others)
      (with-codes others))
      (λ _. write_top_lem (A.Write (Wr.ExchangeContended others seen)) others refl)
  write-did (Wr.SetWaiting others seen) f ok _ =
      decided (OverState (A.Write (Wr.SetWaiting others seen))) (eqb w seen) _ _
      (λ q. let e : w ≡ seen = eqb-true w seen q in let m = write-waits-is seen ok in
      d-sets-writers (with_writers_waiting seen) others refl (λ z. m.0 (sym (ap count e) ∙ z)) (rw (← e) (set-writers w lt)))
      (λ _. write_top_lem (A.Write (Wr.SetWaiting others seen)) others refl)
  write-did Wr.LoadSequence f ok k = kinds-differ (sym k)
  write-did (Wr.LoadState sequence) f ok _ = go (is_unlocked w) refl (has_writers_waiting w) refl
    where
      go :
          (u : Bool) → is_unlocked w ≡ u → (v : Bool) → has_writers_waiting w ≡ v →
          OverState (A.Write (Wr.LoadState sequence)) (cond (u || not v) (write_top true w) (moves_with w (A.Write (Wr.Wait sequence)) H.Same W.None))
      go true a v b = write_top_lem (A.Write (Wr.LoadState sequence)) true refl
      go false a false b = write_top_lem (A.Write (Wr.LoadState sequence)) true refl
      go false a true b = d-quiet (Nx.Moved (A.Write (Wr.Wait sequence))) refl (to-write-wait (count-some w a) (writers-set w b))
  write-did (Wr.Wait sequence) f ok k = kinds-differ (sym k)

  -- .. and over writer_notify
  write-did-notify : (p : WriteAt) (f : Bool) → write_operand p ≡ K.WriterNotify → OverNotify (A.Write p) (write_of p f n)
  unfolding write_of write_after_wait write_operand
  write-did-notify Wr.Exchange f k = kinds-differ k
  write-did-notify (Wr.Spin others left) f k = kinds-differ k
  write-did-notify (Wr.ExchangeContended others seen) f k = kinds-differ k
  write-did-notify (Wr.SetWaiting others seen) f k = kinds-differ k
  write-did-notify Wr.LoadSequence f k = d-quiet (Nx.Moved (A.Write (Wr.LoadState n))) refl beside-others
  write-did-notify (Wr.LoadState sequence) f k = kinds-differ k
  write-did-notify (Wr.Wait sequence) f k =
      decided (OverNotify (A.Write (Wr.Wait sequence))) (eqb n sequence) _ _
      (λ q. d-sleeps-writer (ap (λ (x : ℕ). A.Write (Wr.Wait x)) (sym (eqb-true n sequence q))))
      (λ _. d-quiet (Nx.Moved (A.Write (Wr.Spin true SPINS))) refl from-write-wait)

  -- wake_writer_or_readers
  wake-did : (b : Bool) (p : WakeAt) → wake_operand p ≡ K.RwLock → OverState (A.Wake b p) (wake_of b p w found)
  unfolding wake_of wake_rest wake_operand
  wake-did b Wk.ExchangeWriters _ = go (eqb w WRITERS_WAITING) refl (eqb w BOTH) refl (eqb w READERS_WAITING) refl
    where
      neither : eqb w WRITERS_WAITING ≡ false → eqb w BOTH ≡ false → (k : ℕ) → readers_waiting w ≡ k → (count w ≡ 0) × (writers_waiting w ≡ 1) → ⊥
      neither p q zero e x = eqb-false w WRITERS_WAITING p (exactly w 0 1 lt x.0 e x.1)
      neither p q (suc k) e x = eqb-false w BOTH q (exactly w 1 1 lt x.0 (omega (arith, readers-le w)) x.1)

      go : (a : Bool) → eqb w WRITERS_WAITING ≡ a → (c : Bool) → eqb w BOTH ≡ c → (d : Bool) → eqb w READERS_WAITING ≡ d →
          OverState (A.Wake b Wk.ExchangeWriters)
          (cond a (moves_with 0 (A.Wake b (Wk.Notify false)) H.Same W.None)
          (cond c (moves_with w (A.Wake b Wk.ExchangeBoth) H.Same W.None)
          (cond d (moves_with w (A.Wake b Wk.ExchangeReaders) H.Same W.None) (ends w 1 H.Same W.None))))
      go true p c q d r = d-exchanges-writers b refl (eqb-true w WRITERS_WAITING p)
      go false p true q d r =
          d-quiet (Nx.Moved (A.Wake b Wk.ExchangeBoth)) refl (finds-both (ap readers_waiting (eqb-true w BOTH q) ∙ both-reads.readers-are))
      go false p false q true r =
          d-quiet (Nx.Moved (A.Wake b Wk.ExchangeReaders)) refl
          (finds-readers (ap writers_waiting (eqb-true w READERS_WAITING r) ∙ readers-reads.writers-are))
      go false p false q false r = d-quiet (Nx.Ended 1) refl (writers-end (λ x. neither p q (readers_waiting w) refl x))
  wake-did b Wk.ExchangeBoth _ =
      decided (OverState (A.Wake b Wk.ExchangeBoth)) (eqb w BOTH) _ _ (λ q. d-exchanges-both b refl (eqb-true w BOTH q))
      (λ q. d-quiet (Nx.Ended 1) refl (both_end (λ x. eqb-false w BOTH q (exactly w 1 1 lt x.0 x.1 x.2))))
  wake-did b (Wk.Notify both) k = kinds-differ (sym k)
  wake-did b (Wk.WakeWriter both) k = kinds-differ (sym k)
  wake-did b Wk.ExchangeReaders _ =
      decided (OverState (A.Wake b Wk.ExchangeReaders)) (eqb w READERS_WAITING) _ _ (λ q. d-exchanges-readers b refl (eqb-true w READERS_WAITING q))
      (λ q. d-quiet (Nx.Ended 1) refl (readers-end (λ x. eqb-false w READERS_WAITING q (exactly w 1 0 lt x.0 x.1 x.2))))
  wake-did b Wk.WakeReaders _ = d-wakes-readers 1 refl (inl (b, refl))

  wake-did-notify : (b : Bool) (p : WakeAt) → wake_operand p ≡ K.WriterNotify → OverNotify (A.Wake b p) (wake_of b p n found)
  unfolding wake_of wake_operand
  wake-did-notify b Wk.ExchangeWriters k = kinds-differ k
  wake-did-notify b Wk.ExchangeBoth k = kinds-differ k
  wake-did-notify b (Wk.Notify both) k = d-notifies b both refl
  wake-did-notify b (Wk.WakeWriter both) k =
      decided (OverNotify (A.Wake b (Wk.WakeWriter both))) (both && not found) _ _
      (λ q. d-wakes-writer b both refl (Nx.Moved (A.Wake b Wk.ExchangeReaders)) refl (rw q refl))
      (λ q. d-wakes-writer b both refl (Nx.Ended 1) refl (rw q refl))
  wake-did-notify b Wk.ExchangeReaders k = kinds-differ k
  wake-did-notify b Wk.WakeReaders k = kinds-differ k

  downgrade-did : (p : DowngradeAt) → OverState (A.Downgrade p) (downgrade_of p w)
  unfolding downgrade_of
  downgrade-did D.Add =
      decided (OverState (A.Downgrade D.Add)) (has_readers_waiting w) _ _
      (λ q. d-downgrades refl (Nx.Moved (A.Downgrade D.Subtract)) refl (inl (readers-set w q, refl)))
      (λ q. d-downgrades refl (Nx.Ended 1) refl (inr (readers-clear w q, refl)))
  downgrade-did D.Subtract = d-subtracts refl
  downgrade-did D.WakeReaders = d-wakes-readers 1 refl (inr refl)

  -- every step over the state, and every step over writer_notify
  pub did-state : (p : RwLockAt) (f : Bool) → passed_of p ≡ true → operand_of p ≡ K.RwLock → OverState p (decide_of p f w found)
  unfolding decide_of passed_of operand_of
  did-state (A.Read p) f ok k = read-did p f ok
  did-state (A.TryRead p) f ok k = try-read-did p f ok
  did-state A.ReadUnlock f ok k = d-frees-read refl
  did-state (A.Write p) f ok k = write-did p f ok k
  did-state (A.TryWrite p) f ok k = try-write-did p f ok
  did-state A.WriteUnlock f ok k = d-frees-write refl
  did-state (A.Wake b p) f ok k = wake-did b p k
  did-state (A.Downgrade p) f ok k = downgrade-did p

  pub did-notify : (p : RwLockAt) (f : Bool) → operand_of p ≡ K.WriterNotify → OverNotify p (decide_of p f n found)
  unfolding decide_of operand_of
  did-notify (A.Read p) f k = kinds-differ k
  did-notify (A.TryRead p) f k = kinds-differ k
  did-notify A.ReadUnlock f k = kinds-differ k
  did-notify (A.Write p) f k = write-did-notify p f k
  did-notify (A.TryWrite p) f k = kinds-differ k
  did-notify A.WriteUnlock f k = kinds-differ k
  did-notify (A.Wake b p) f k = wake-did-notify b p k
  did-notify (A.Downgrade p) f k = kinds-differ k
