-- What a step on an RwLock keeps. Assumes nothing.
use mathlib.Core.Path.{◌≡◌, refl, sym, ◌∙◌}
use mathlib.Core.Logic.{inl, inr}
use mathlib.Core.Bool.{Bool, true, false, not, ◌&&◌, ◌||◌}
use Prim.Native.Nat.{ℕ, ◌+◌, ◌-◌, ◌^◌, ◌≤◌, ◌<◌}
use native.Mathlib.Omega.{arith}
use lib.Dec.{eqb}
use borrow.Author.Tests.{eqb-true}
use Rattle.words.proofs.Cond.{either}
use Rattle.words.specs.Atomic.{SPINS, exchanges}
use Rattle.words.specs.Counter.{incremented}
use Rattle.words.specs.RwLock.{MAX_READERS, WRITE_LOCKED, READERS_WAITING, WRITERS_WAITING, DOWNGRADE, READ_LOCKED, count, is_unlocked, is_read_lockable, has_readers_waiting, has_writers_waiting, has_reached_max_readers, read_locked, read_unlocked, write_locked, write_unlocked, downgraded, with_readers_waiting, without_readers_waiting, with_writers_waiting}
use Rattle.words.specs.declared.Hold.{Hold}
use Rattle.words.specs.declared.Hold.TheVariants as H
use Rattle.words.specs.declared.Kind.TheVariants as K
use Rattle.words.specs.declared.Needs.TheVariants as N
use Rattle.words.specs.declared.Wake.{Wake}
use Rattle.words.specs.declared.Wake.TheVariants as W
use Rattle.words.specs.declared.Step.{Step}
use Rattle.rwlock.specs.declared.ReadAt.{ReadAt}
use Rattle.rwlock.specs.declared.ReadAt.TheVariants as R
use Rattle.rwlock.specs.declared.TryAt.{TryAt}
use Rattle.rwlock.specs.declared.TryAt.TheVariants as T
use Rattle.rwlock.specs.declared.WriteAt.{WriteAt}
use Rattle.rwlock.specs.declared.WriteAt.TheVariants as Wr
use Rattle.rwlock.specs.declared.WakeAt.{WakeAt}
use Rattle.rwlock.specs.declared.WakeAt.TheVariants as Wk
use Rattle.rwlock.specs.declared.DowngradeAt.{DowngradeAt}
use Rattle.rwlock.specs.declared.DowngradeAt.TheVariants as D
use Rattle.rwlock.specs.declared.RwLockAt.{RwLockAt}
use Rattle.rwlock.specs.declared.RwLockAt.TheVariants as X
use Rattle.rwlock.specs.RwLock as Rw
use Rattle.rwlock.specs.Positions as RwP
use Rattle.calls.specs.declared.At.TheVariants as A
use Rattle.calls.specs.Plans.{rwlock_plan, moved, done, decide_of, plan_of}
use Rattle.calls.specs.Positions.{passed_of, waits_of, need_of}
use Rattle.kept.proofs.Tests.{decided, exchanged, one_less}
use Rattle.kept.specs.Laws.{Kept, Stores, Did, Goes, Passes, Backed, About, RwLockDid, lock-same, read_taken, write-taken, read_freed, write-freed, write-downgraded, largest, kind_of, object_of, asks, held_kind, reading, try-reading, read-unlocking, writing, try-writing, write-unlocking, waking, downgrading}
use Rattle.kept.proofs.Laws.{stores_same, kept-moved, kept_on, kept-done, kept-end, kept-panicked, kept-slept}
use Rattle.kept.proofs.RwLockWords.{added-wide, subtracted-wide, read-locked-count, read-unlocked-count, write-locked-count, write-unlocked-count, downgraded-count, without-readers-count, with-readers-reads, with-writers-count, with-readers-wide, with-writers-wide, write-locked-with-count, write-locked-with-wide, free-count, readers-count, writers-count, both-count, write-count, lockable-count, may-read-count, unlocked-count, set-waiting-passes}

same-wide : (word seen : ℕ) → word ≡ seen → word < 2 ^ 32 → seen < 2 ^ 32
same-wide word seen e h = omega arith

-- what an exchange that found the state that it carried did: a flag set, a hold taken
sets-readers : (word seen : ℕ) → word ≡ seen → word < 2 ^ 32 → RwLockDid word H.Same (with_readers_waiting seen)
sets-readers word seen e l = rw e (lock-same (with-readers-reads seen (same-wide word seen e l)).count-is)

sets-writers : (word seen : ℕ) → word ≡ seen → word < 2 ^ 32 → RwLockDid word H.Same (with_writers_waiting seen)
sets-writers word seen e l = rw e (lock-same (with-writers-count seen (same-wide word seen e l)))

takes-read : (word seen : ℕ) → word ≡ seen → count seen < MAX_READERS → word < 2 ^ 32 → RwLockDid word H.TakeRead (read_locked seen)
takes-read word seen e h l = rw e (read_taken h (read-locked-count seen (same-wide word seen e l) h))

takes_write : (word seen : ℕ) → word ≡ seen → count seen ≡ 0 → word < 2 ^ 32 → RwLockDid word H.TakeWrite (write_locked seen)
takes_write word seen e h l = rw e (write-taken h (write-locked-count seen (same-wide word seen e l) h))

takes-write-with : (others : Bool) (word seen : ℕ) → word ≡ seen → count seen ≡ 0 → word < 2 ^ 32 → RwLockDid word H.TakeWrite (Rw.write_locked_with others seen)
takes-write-with others word seen e h l = rw e (write-taken h (write-locked-with-count others seen (same-wide word seen e l)))

-- .. and by an exchange of a state that is named: both counts are 0
clears : (word old new : ℕ) → word ≡ old → count old ≡ 0 → count new ≡ 0 → RwLockDid word H.Same new
clears word old new e h k = rw e (lock-same (k ∙ sym h))

module _ (l word : ℕ) where
  -- a state stored: its width and what it says of the hold
  stores :
      (p : RwLockAt) (hold : Hold) (new : ℕ) → RwP.operand_of p ≡ K.RwLock → (word < 2 ^ 32 → new < 2 ^ 32) →
      (RwP.passed_of p ≡ true → word < 2 ^ 32 → RwLockDid word hold new) → Stores (A.RwLock l p) word hold new
  unfolding passed_of kind_of largest Did
  stores p hold new k w d =
      record {
        wide = w;
        small = λ _. rw k (λ h. narrow (w (omega arith)));
        did = λ e. rw k (d (e k).0 (e k).1);
      }
    where
      narrow : new < 2 ^ 32 → new ≤ 2 ^ 32 - 1
      narrow h = omega arith

  -- the call goes on with the holds as they were
  moves :
      (p q : RwLockAt) (new : ℕ) (wake : Wake) → Goes (A.RwLock l p) (A.RwLock l q) → Passes (A.RwLock l p) word (A.RwLock l q) →
      RwP.needs_of q ≡ N.Nothing → Stores (A.RwLock l p) word H.Same new → Kept (A.RwLock l p) word (moved new (A.RwLock l q) H.Same l wake)
  unfolding need_of
  moves p q new wake g t n s = kept_on (A.RwLock l p) word new (A.RwLock l q) l wake g t s (inl n)

  -- the call ends with a hold taken
  ends_with :
      (p : RwLockAt) (hold : Hold) (new : ℕ) → asks hold ≡ N.Nothing → RwP.operand_of p ≡ held_kind hold → Stores (A.RwLock l p) word hold new →
      Kept (A.RwLock l p) word (done new 1 hold l W.None)
  unfolding kind_of object_of
  ends_with p hold new n k s = kept-done (A.RwLock l p) word new 1 hold l W.None s (inl n) (inr (k, λ t. refl))

  -- `read`
  read-top-kept : (p : ReadAt) (slept : Bool) → Kept (A.RwLock l (X.Read p)) word (rwlock_plan l (X.Read p) (Rw.read_top slept word))
  unfolding plan_of Rw.read_top RwP.passed_of RwP.read_passed RwP.must_wait RwP.read_waits RwP.needs_of passed_of
  read-top-kept p slept =
      decided P (Rw.may_read slept word) _ _
      (λ e₁. moves (X.Read p) (X.Read (R.ExchangeContended slept word)) word W.None reading (λ _ _ _. e₁) refl (stores_same _ word))
      (λ e₁. decided P (has_reached_max_readers word) _ _
      (λ _. kept-panicked _ word word 1 l W.None (stores_same _ word))
      (λ e₂. decided P (has_readers_waiting word) _ _
      (λ e₃. moves (X.Read p) (X.Read (R.Wait word)) word W.None reading (λ _ _ _. simp (e₃, e₂)) refl (stores_same _ word))
      (λ e₃. moves (X.Read p) (X.Read (R.SetWaiting slept word)) word W.None reading (λ _ _ _. simp (e₁, e₂, e₃)) refl (stores_same _ word))))
    where
      P : Step RwLockAt → Type 0
      P s = Kept (A.RwLock l (X.Read p)) word (rwlock_plan l (X.Read p) s)

  read_kept : (p : ReadAt) (f : Bool) → Kept (A.RwLock l (X.Read p)) word (rwlock_plan l (X.Read p) (Rw.read_of p f word))
  unfolding plan_of Rw.read_of Rw.read_after_wait RwP.passed_of RwP.read_passed RwP.needs_of RwP.operand_of RwP.waits_of RwP.read_wait_next passed_of waits_of asks held_kind
  read_kept R.Load f =
      decided (λ (s : Step RwLockAt). Kept (A.RwLock l (X.Read R.Load)) word (rwlock_plan l (X.Read R.Load) s)) (is_read_lockable word) _ _
      (λ e. moves (X.Read R.Load) (X.Read (R.Exchange word)) word W.None reading (λ _ _ _. e) refl (stores_same _ word))
      (λ _. moves (X.Read R.Load) (X.Read (R.Spin false SPINS)) word W.None reading (λ _ _ _. refl) refl (stores_same _ word))
  read_kept (R.Exchange seen) f =
      decided (λ (s : Step RwLockAt). Kept (A.RwLock l (X.Read (R.Exchange seen))) word (rwlock_plan l (X.Read (R.Exchange seen)) s)) (exchanges word seen f) _ _
      (λ e. ends_with (X.Read (R.Exchange seen)) H.TakeRead (read_locked seen) refl refl
      (stores (X.Read (R.Exchange seen)) H.TakeRead (read_locked seen) refl (λ _. added-wide seen READ_LOCKED)
      (λ k h. takes-read word seen (exchanged word seen f e) (lockable-count seen k) h)))
      (λ _. moves (X.Read (R.Exchange seen)) (X.Read (R.Spin false SPINS)) word W.None reading (λ _ _ _. refl) refl (stores_same _ word))
  read_kept (R.Spin slept left) f =
      either (λ (s : Step RwLockAt). Kept (A.RwLock l (X.Read (R.Spin slept left))) word (rwlock_plan l (X.Read (R.Spin slept left)) s))
      (Rw.stops_read word || eqb left 0) _ _
      (read-top-kept (R.Spin slept left) slept)
      (moves (X.Read (R.Spin slept left)) (X.Read (R.Spin slept (left - 1))) word W.None reading (λ e _ _. one_less left e) refl (stores_same _ word))
  read_kept (R.ExchangeContended slept seen) f =
      decided (λ (s : Step RwLockAt). Kept (A.RwLock l (X.Read (R.ExchangeContended slept seen))) word (rwlock_plan l (X.Read (R.ExchangeContended slept seen)) s))
      (exchanges word seen f) _ _
      (λ e. ends_with (X.Read (R.ExchangeContended slept seen)) H.TakeRead (read_locked seen) refl refl
      (stores (X.Read (R.ExchangeContended slept seen)) H.TakeRead (read_locked seen) refl (λ _. added-wide seen READ_LOCKED)
      (λ k h. takes-read word seen (exchanged word seen f e) (may-read-count slept seen k) h)))
      (λ _. read-top-kept (R.ExchangeContended slept seen) slept)
  read_kept (R.SetWaiting slept seen) f =
      decided (λ (s : Step RwLockAt). Kept (A.RwLock l (X.Read (R.SetWaiting slept seen))) word (rwlock_plan l (X.Read (R.SetWaiting slept seen)) s))
      (eqb word seen) _ _
      (λ e. moves (X.Read (R.SetWaiting slept seen)) (X.Read (R.Wait (with_readers_waiting seen))) (with_readers_waiting seen) W.None reading
      (λ k h _. set-waiting-passes slept seen (same-wide word seen (eqb-true word seen e) h) k) refl
      (stores (X.Read (R.SetWaiting slept seen)) H.Same (with_readers_waiting seen) refl
      (λ h. with-readers-wide seen (same-wide word seen (eqb-true word seen e) h))
      (λ _ h. sets-readers word seen (eqb-true word seen e) h)))
      (λ _. read-top-kept (R.SetWaiting slept seen) slept)
  read_kept (R.Wait seen) f =
      either (λ (s : Step RwLockAt). Kept (A.RwLock l (X.Read (R.Wait seen))) word (rwlock_plan l (X.Read (R.Wait seen)) s)) (eqb word seen) _ _
      (kept-slept _ word l refl)
      (moves (X.Read (R.Wait seen)) (X.Read (R.Spin true SPINS)) word W.None reading (λ _ _ _. refl) refl (stores_same _ word))

  -- `try_read`
  try-read-top-kept : (p : TryAt) → Kept (A.RwLock l (X.TryRead p)) word (rwlock_plan l (X.TryRead p) (Rw.try_read_top word))
  unfolding plan_of Rw.try_read_top RwP.passed_of RwP.try_read_passed RwP.needs_of passed_of
  try-read-top-kept p =
      decided (λ (s : Step RwLockAt). Kept (A.RwLock l (X.TryRead p)) word (rwlock_plan l (X.TryRead p) s)) (is_read_lockable word) _ _
      (λ e. moves (X.TryRead p) (X.TryRead (T.Exchange word)) word W.None try-reading (λ _ _ _. e) refl (stores_same _ word))
      (λ _. kept-end _ word word 0 l W.None (stores_same _ word))

  try-read-kept : (p : TryAt) (f : Bool) → Kept (A.RwLock l (X.TryRead p)) word (rwlock_plan l (X.TryRead p) (Rw.try_read_of p f word))
  unfolding plan_of Rw.try_read_of RwP.passed_of RwP.try_read_passed RwP.operand_of asks held_kind
  try-read-kept T.Load f = try-read-top-kept T.Load
  try-read-kept (T.Exchange seen) f =
      decided (λ (s : Step RwLockAt). Kept (A.RwLock l (X.TryRead (T.Exchange seen))) word (rwlock_plan l (X.TryRead (T.Exchange seen)) s))
      (exchanges word seen f) _ _
      (λ e. ends_with (X.TryRead (T.Exchange seen)) H.TakeRead (read_locked seen) refl refl
      (stores (X.TryRead (T.Exchange seen)) H.TakeRead (read_locked seen) refl (λ _. added-wide seen READ_LOCKED)
      (λ k h. takes-read word seen (exchanged word seen f e) (lockable-count seen k) h)))
      (λ _. try-read-top-kept (T.Exchange seen))

  -- `write`
  write-top-kept : (p : WriteAt) (others : Bool) → Kept (A.RwLock l (X.Write p)) word (rwlock_plan l (X.Write p) (Rw.write_top others word))
  unfolding plan_of Rw.write_top RwP.passed_of RwP.write_passed RwP.write_waits RwP.needs_of passed_of
  write-top-kept p others =
      decided P (is_unlocked word) _ _
      (λ e₁. moves (X.Write p) (X.Write (Wr.ExchangeContended others word)) word W.None writing (λ _ _ _. e₁) refl (stores_same _ word))
      (λ e₁. decided P (has_writers_waiting word) _ _
      (λ _. moves (X.Write p) (X.Write Wr.LoadSequence) word W.None writing (λ _ _ _. refl) refl (stores_same _ word))
      (λ e₂. moves (X.Write p) (X.Write (Wr.SetWaiting others word)) word W.None writing (λ _ _ _. simp (e₁, e₂)) refl (stores_same _ word)))
    where
      P : Step RwLockAt → Type 0
      P s = Kept (A.RwLock l (X.Write p)) word (rwlock_plan l (X.Write p) s)

  write_kept : (p : WriteAt) (f : Bool) → Kept (A.RwLock l (X.Write p)) word (rwlock_plan l (X.Write p) (Rw.write_of p f word))
  unfolding plan_of Rw.write_of Rw.write_after_wait RwP.passed_of RwP.write_passed RwP.needs_of RwP.operand_of RwP.write_operand RwP.waits_of RwP.write_wait_next passed_of waits_of asks held_kind
  write_kept Wr.Exchange f =
      decided (λ (s : Step RwLockAt). Kept (A.RwLock l (X.Write Wr.Exchange)) word (rwlock_plan l (X.Write Wr.Exchange) s)) (exchanges word 0 f) _ _
      (λ e. ends_with (X.Write Wr.Exchange) H.TakeWrite WRITE_LOCKED refl refl
      (stores (X.Write Wr.Exchange) H.TakeWrite WRITE_LOCKED refl (λ _. omega arith)
      (λ _ _. rw (exchanged word 0 f e) (write-taken free-count write-count))))
      (λ _. moves (X.Write Wr.Exchange) (X.Write (Wr.Spin false SPINS)) word W.None writing (λ _ _ _. refl) refl (stores_same _ word))
  write_kept (Wr.Spin others left) f =
      either (λ (s : Step RwLockAt). Kept (A.RwLock l (X.Write (Wr.Spin others left))) word (rwlock_plan l (X.Write (Wr.Spin others left)) s))
      (Rw.stops_write word || eqb left 0) _ _
      (write-top-kept (Wr.Spin others left) others)
      (moves (X.Write (Wr.Spin others left)) (X.Write (Wr.Spin others (left - 1))) word W.None writing (λ e _ _. one_less left e) refl (stores_same _ word))
  write_kept (Wr.ExchangeContended others seen) f =
      decided (λ (s : Step RwLockAt). Kept (A.RwLock l (X.Write (Wr.ExchangeContended others seen))) word (rwlock_plan l (X.Write (Wr.ExchangeContended others seen)) s))
      (exchanges word seen f) _ _
      (λ e. ends_with (X.Write (Wr.ExchangeContended others seen)) H.TakeWrite (Rw.write_locked_with others seen) refl refl
      (stores (X.Write (Wr.ExchangeContended others seen)) H.TakeWrite (Rw.write_locked_with others seen) refl
      (λ h. write-locked-with-wide others seen (same-wide word seen (exchanged word seen f e) h))
      (λ k h. takes-write-with others word seen (exchanged word seen f e) (unlocked-count seen k) h)))
      (λ _. write-top-kept (Wr.ExchangeContended others seen) others)
  write_kept (Wr.SetWaiting others seen) f =
      decided (λ (s : Step RwLockAt). Kept (A.RwLock l (X.Write (Wr.SetWaiting others seen))) word (rwlock_plan l (X.Write (Wr.SetWaiting others seen)) s))
      (eqb word seen) _ _
      (λ e. moves (X.Write (Wr.SetWaiting others seen)) (X.Write Wr.LoadSequence) (with_writers_waiting seen) W.None writing (λ _ _ _. refl) refl
      (stores (X.Write (Wr.SetWaiting others seen)) H.Same (with_writers_waiting seen) refl
      (λ h. with-writers-wide seen (same-wide word seen (eqb-true word seen e) h))
      (λ _ h. sets-writers word seen (eqb-true word seen e) h)))
      (λ _. write-top-kept (Wr.SetWaiting others seen) others)
  write_kept Wr.LoadSequence f = moves (X.Write Wr.LoadSequence) (X.Write (Wr.LoadState word)) word W.None writing (λ _ _ _. refl) refl (stores_same _ word)
  write_kept (Wr.LoadState sequence) f =
      either (λ (s : Step RwLockAt). Kept (A.RwLock l (X.Write (Wr.LoadState sequence))) word (rwlock_plan l (X.Write (Wr.LoadState sequence)) s))
      (is_unlocked word || not (has_writers_waiting word)) _ _
      (write-top-kept (Wr.LoadState sequence) true)
      (moves (X.Write (Wr.LoadState sequence)) (X.Write (Wr.Wait sequence)) word W.None writing (λ _ _ _. refl) refl (stores_same _ word))
  write_kept (Wr.Wait sequence) f =
      either (λ (s : Step RwLockAt). Kept (A.RwLock l (X.Write (Wr.Wait sequence))) word (rwlock_plan l (X.Write (Wr.Wait sequence)) s)) (eqb word sequence) _ _
      (kept-slept _ word l refl)
      (moves (X.Write (Wr.Wait sequence)) (X.Write (Wr.Spin true SPINS)) word W.None writing (λ _ _ _. refl) refl (stores_same _ word))

  -- `try_write`
  try-write-top-kept : (p : TryAt) → Kept (A.RwLock l (X.TryWrite p)) word (rwlock_plan l (X.TryWrite p) (Rw.try_write_top word))
  unfolding plan_of Rw.try_write_top RwP.passed_of RwP.try_write_passed RwP.needs_of passed_of
  try-write-top-kept p =
      decided (λ (s : Step RwLockAt). Kept (A.RwLock l (X.TryWrite p)) word (rwlock_plan l (X.TryWrite p) s)) (is_unlocked word) _ _
      (λ e. moves (X.TryWrite p) (X.TryWrite (T.Exchange word)) word W.None try-writing (λ _ _ _. e) refl (stores_same _ word))
      (λ _. kept-end _ word word 0 l W.None (stores_same _ word))

  try-write-kept : (p : TryAt) (f : Bool) → Kept (A.RwLock l (X.TryWrite p)) word (rwlock_plan l (X.TryWrite p) (Rw.try_write_of p f word))
  unfolding plan_of Rw.try_write_of RwP.passed_of RwP.try_write_passed RwP.operand_of asks held_kind
  try-write-kept T.Load f = try-write-top-kept T.Load
  try-write-kept (T.Exchange seen) f =
      decided (λ (s : Step RwLockAt). Kept (A.RwLock l (X.TryWrite (T.Exchange seen))) word (rwlock_plan l (X.TryWrite (T.Exchange seen)) s))
      (exchanges word seen f) _ _
      (λ e. ends_with (X.TryWrite (T.Exchange seen)) H.TakeWrite (write_locked seen) refl refl
      (stores (X.TryWrite (T.Exchange seen)) H.TakeWrite (write_locked seen) refl (λ _. added-wide seen WRITE_LOCKED)
      (λ k h. takes_write word seen (exchanged word seen f e) (unlocked-count seen k) h)))
      (λ _. try-write-top-kept (T.Exchange seen))

  -- `wake_writer_or_readers` with a state just stored, or seen
  module _ (p : RwLockAt) (writer : Bool) (seen : ℕ) (hold : Hold) (goes : (q : WakeAt) → Goes (A.RwLock l p) (A.RwLock l (X.Wake writer q)))
      (s : Stores (A.RwLock l p) word hold seen) (b : Backed (A.RwLock l p) hold l) (a : About (A.RwLock l p) hold l) where
    P : Step RwLockAt → Type 0
    P s = Kept (A.RwLock l p) word (rwlock_plan l p s)

    to : (q : WakeAt) → Kept (A.RwLock l p) word (moved seen (A.RwLock l (X.Wake writer q)) hold l W.None)
    unfolding RwP.passed_of RwP.needs_of passed_of need_of
    to q = kept-moved (A.RwLock l p) word seen (A.RwLock l (X.Wake writer q)) hold l W.None (goes q) (λ _ _ _. refl) s (inl refl) b a

    wake-rest-kept : P (Rw.wake_rest writer seen hold)
    unfolding P plan_of Rw.wake_rest
    wake-rest-kept =
        either P (eqb seen (READERS_WAITING + WRITERS_WAITING)) _ _ (to Wk.ExchangeBoth)
        (either P (eqb seen READERS_WAITING) _ _ (to Wk.ExchangeReaders) (kept-done _ word seen 1 hold l W.None s b a))

    wake-top-kept : P (Rw.wake_top writer seen hold)
    unfolding P plan_of Rw.wake_top
    wake-top-kept = either P (eqb seen WRITERS_WAITING) _ _ (to Wk.ExchangeWriters) wake-rest-kept

  -- `read_unlock`, `write_unlock`
  read-unlock-kept : Kept (A.RwLock l X.ReadUnlock) word (rwlock_plan l X.ReadUnlock (Rw.read_unlock_of word))
  unfolding plan_of Rw.read_unlock_of RwP.needs_of RwP.operand_of P need_of kind_of object_of asks held_kind
  read-unlock-kept =
      let s : Stores (A.RwLock l X.ReadUnlock) word H.FreeRead (read_unlocked word) =
      stores X.ReadUnlock H.FreeRead (read_unlocked word) refl (λ _. subtracted-wide word READ_LOCKED) (λ _ h. read_freed (read-unlocked-count word h)) in
      either (λ (s : Step RwLockAt). Kept (A.RwLock l X.ReadUnlock) word (rwlock_plan l X.ReadUnlock s))
      (is_unlocked (read_unlocked word) && has_writers_waiting (read_unlocked word)) _ _
      (wake-top-kept X.ReadUnlock false (read_unlocked word) H.FreeRead (λ q. read-unlocking) s (inr refl) (inr (refl, λ t. refl)))
      (kept-done _ word (read_unlocked word) 1 H.FreeRead l W.None s (inr refl) (inr (refl, λ t. refl)))

  write-unlock-kept : Kept (A.RwLock l X.WriteUnlock) word (rwlock_plan l X.WriteUnlock (Rw.write_unlock_of word))
  unfolding plan_of Rw.write_unlock_of RwP.needs_of RwP.operand_of P need_of kind_of object_of asks held_kind
  write-unlock-kept =
      let s : Stores (A.RwLock l X.WriteUnlock) word H.FreeWrite (write_unlocked word) =
      stores X.WriteUnlock H.FreeWrite (write_unlocked word) refl (λ _. subtracted-wide word WRITE_LOCKED) (λ _ h. write-freed (write-unlocked-count word h)) in
      either (λ (s : Step RwLockAt). Kept (A.RwLock l X.WriteUnlock) word (rwlock_plan l X.WriteUnlock s))
      (has_writers_waiting (write_unlocked word) || has_readers_waiting (write_unlocked word)) _ _
      (wake-top-kept X.WriteUnlock true (write_unlocked word) H.FreeWrite (λ q. write-unlocking) s (inr refl) (inr (refl, λ t. refl)))
      (kept-done _ word (write_unlocked word) 1 H.FreeWrite l W.None s (inr refl) (inr (refl, λ t. refl)))

  -- `wake_writer_or_readers` and `wake_writer`
  wake-kept : (writer : Bool) (p : WakeAt) (a : Bool) → Kept (A.RwLock l (X.Wake writer p)) word (rwlock_plan l (X.Wake writer p) (Rw.wake_of writer p word a))
  unfolding plan_of Rw.wake_of RwP.passed_of RwP.needs_of RwP.operand_of RwP.wake_operand P passed_of kind_of largest Did asks held_kind
  wake-kept writer Wk.ExchangeWriters a =
      decided (λ (s : Step RwLockAt). Kept (A.RwLock l (X.Wake writer Wk.ExchangeWriters)) word (rwlock_plan l (X.Wake writer Wk.ExchangeWriters) s))
      (eqb word WRITERS_WAITING) _ _
      (λ e. moves (X.Wake writer Wk.ExchangeWriters) (X.Wake writer (Wk.Notify false)) 0 W.None waking (λ _ _ _. refl) refl
      (stores (X.Wake writer Wk.ExchangeWriters) H.Same 0 refl (λ _. omega arith)
      (λ _ _. clears word WRITERS_WAITING 0 (eqb-true word WRITERS_WAITING e) writers-count free-count)))
      (λ _. wake-rest-kept (X.Wake writer Wk.ExchangeWriters) writer word H.Same (λ q. waking) (stores_same _ word) (inl refl) (inl refl))
  wake-kept writer Wk.ExchangeBoth a =
      decided (λ (s : Step RwLockAt). Kept (A.RwLock l (X.Wake writer Wk.ExchangeBoth)) word (rwlock_plan l (X.Wake writer Wk.ExchangeBoth) s))
      (eqb word (READERS_WAITING + WRITERS_WAITING)) _ _
      (λ e. moves (X.Wake writer Wk.ExchangeBoth) (X.Wake writer (Wk.Notify true)) READERS_WAITING W.None waking (λ _ _ _. refl) refl
      (stores (X.Wake writer Wk.ExchangeBoth) H.Same READERS_WAITING refl (λ _. omega arith)
      (λ _ _. clears word (READERS_WAITING + WRITERS_WAITING) READERS_WAITING (eqb-true word (READERS_WAITING + WRITERS_WAITING) e) both-count readers-count)))
      (λ _. kept-end _ word word 1 l W.None (stores_same _ word))
  wake-kept writer (Wk.Notify both) a =
      let h : incremented word < 2 ^ 32 = added-wide word 1 in
      moves (X.Wake writer (Wk.Notify both)) (X.Wake writer (Wk.WakeWriter both)) (incremented word) W.None waking (λ _ _ _. refl) refl
      (record { wide = λ _. h; small = λ _ _. omega arith; did = λ _. refl })
  wake-kept writer (Wk.WakeWriter both) a =
      either (λ (s : Step RwLockAt). Kept (A.RwLock l (X.Wake writer (Wk.WakeWriter both))) word (rwlock_plan l (X.Wake writer (Wk.WakeWriter both)) s))
      (both && not a) _ _
      (moves (X.Wake writer (Wk.WakeWriter both)) (X.Wake writer Wk.ExchangeReaders) word W.One waking (λ _ _ _. refl) refl (stores_same _ word))
      (kept-end _ word word 1 l W.One (stores_same _ word))
  wake-kept writer Wk.ExchangeReaders a =
      decided (λ (s : Step RwLockAt). Kept (A.RwLock l (X.Wake writer Wk.ExchangeReaders)) word (rwlock_plan l (X.Wake writer Wk.ExchangeReaders) s))
      (eqb word READERS_WAITING) _ _
      (λ e. moves (X.Wake writer Wk.ExchangeReaders) (X.Wake writer Wk.WakeReaders) 0 W.None waking (λ _ _ _. refl) refl
      (stores (X.Wake writer Wk.ExchangeReaders) H.Same 0 refl (λ _. omega arith)
      (λ _ _. clears word READERS_WAITING 0 (eqb-true word READERS_WAITING e) readers-count free-count)))
      (λ _. kept-end _ word word 1 l W.None (stores_same _ word))
  wake-kept writer Wk.WakeReaders a = kept-end _ word word 1 l W.All (stores_same _ word)

  -- `downgrade`
  downgrade-kept : (p : DowngradeAt) → Kept (A.RwLock l (X.Downgrade p)) word (rwlock_plan l (X.Downgrade p) (Rw.downgrade_of p word))
  unfolding plan_of Rw.downgrade_of RwP.passed_of RwP.needs_of RwP.downgrade_needs RwP.operand_of passed_of need_of kind_of object_of asks held_kind
  downgrade-kept D.Add =
      let s : Stores (A.RwLock l (X.Downgrade D.Add)) word H.Downgrade (downgraded word) =
      stores (X.Downgrade D.Add) H.Downgrade (downgraded word) refl (λ _. added-wide word DOWNGRADE) (λ _ h. write-downgraded (downgraded-count word h)) in
      either (λ (s : Step RwLockAt). Kept (A.RwLock l (X.Downgrade D.Add)) word (rwlock_plan l (X.Downgrade D.Add) s)) (has_readers_waiting word) _ _
      (kept-moved _ word (downgraded word) (A.RwLock l (X.Downgrade D.Subtract)) H.Downgrade l W.None downgrading (λ _ _ _. refl) s (inl refl) (inr refl) (inr (refl, λ t. refl)))
      (kept-done _ word (downgraded word) 1 H.Downgrade l W.None s (inr refl) (inr (refl, λ t. refl)))
  downgrade-kept D.Subtract =
      moves (X.Downgrade D.Subtract) (X.Downgrade D.WakeReaders) (without_readers_waiting word) W.None downgrading (λ _ _ _. refl) refl
      (stores (X.Downgrade D.Subtract) H.Same (without_readers_waiting word) refl (λ _. subtracted-wide word READERS_WAITING)
      (λ _ h. lock-same (without-readers-count word h)))
  downgrade-kept D.WakeReaders = kept-end _ word word 1 l W.All (stores_same _ word)

  pub rwlock-kept : (p : RwLockAt) (f a : Bool) → Kept (A.RwLock l p) word (decide_of (A.RwLock l p) f word a)
  unfolding decide_of Rw.decide_of
  rwlock-kept (X.Read p) f a = read_kept p f
  rwlock-kept (X.TryRead p) f a = try-read-kept p f
  rwlock-kept X.ReadUnlock f a = read-unlock-kept
  rwlock-kept (X.Write p) f a = write_kept p f
  rwlock-kept (X.TryWrite p) f a = try-write-kept p f
  rwlock-kept X.WriteUnlock f a = write-unlock-kept
  rwlock-kept (X.Wake writer p) f a = wake-kept writer p a
  rwlock-kept (X.Downgrade p) f a = downgrade-kept p
