-- What a step on a mutex keeps, and what one step of `lock` and of `unlock` does, as a condvar wait uses them too. Assumes nothing.
use mathlib.Core.Path.{◌≡◌, refl}
use mathlib.Core.Logic.{inl, inr, ◌≢◌}
use mathlib.Core.Bool.{Bool, true, false, not, ◌&&◌}
use Prim.Native.Nat.{ℕ, ◌≤◌}
use native.Mathlib.Omega.{arith}
use lib.Dec.{eqb}
use borrow.Author.Tests.{eqb-true, eqb-false}
use Rattle.words.specs.Mutex.{UNLOCKED, LOCKED, CONTENDED, is_unlocked, is_locked, is_contended}
use Rattle.words.specs.declared.Hold.TheVariants as H
use Rattle.words.specs.declared.Wake.TheVariants as W
use Rattle.words.specs.declared.Next.TheVariants as Nx
use Rattle.words.specs.declared.Step.{Step}
use Rattle.words.specs.Steps.{map_step}
use Rattle.mutex.specs.declared.LockAt.{LockAt}
use Rattle.mutex.specs.declared.LockAt.TheVariants as L
use Rattle.mutex.specs.declared.UnlockAt.{UnlockAt}
use Rattle.mutex.specs.declared.UnlockAt.TheVariants as U
use Rattle.mutex.specs.declared.MutexAt.{MutexAt}
use Rattle.mutex.specs.declared.MutexAt.TheVariants as M
use Rattle.mutex.specs.Mutex as Mx
use Rattle.calls.specs.declared.At.TheVariants as A
use Rattle.calls.specs.Plans.{mutex_plan, decide_of, plan_of}
use Rattle.calls.specs.Positions.{passed_of, waits_of, need_of}
use Rattle.kept.proofs.Tests.{decided, no_way, one_less}
use Rattle.kept.specs.Laws.{Kept, Did, mutex-same, mutex-taken, mutex-freed, largest, kind_of, object_of, asks, held_kind, locking, unlocking}
use Rattle.kept.proofs.Laws.{stores_same, kept-moved, kept_on, kept-done, kept-end, kept-slept}

-- the positions of `lock_contended`'s loop: from here the lock is only ever taken with CONTENDED
unfoldable pub late : LockAt → Bool
late L.Exchange = false
late (L.Spin left) = false
late L.ExchangeAgain = false
late L.Swap = true
late L.Wait = true
late (L.SpinAgain left) = true

-- a step of `lock`: it goes on with the word as it was, marks the mutex as contended and goes on to wait, sleeps, or takes the lock
pub data LockDid (p : LockAt) (word : ℕ) : Step LockAt → Type 0 where
  lock-moves :
      {q : LockAt} → (Mx.lock_passed p ≡ true → Mx.lock_passed q ≡ true) → (late p ≡ true → late q ≡ true) →
      LockDid p word (record { word = word; next = Nx.Moved q; hold = H.Same; wake = W.None })
  lock-marks : word ≢ 0 → LockDid p word (record { word = CONTENDED; next = Nx.Moved L.Wait; hold = H.Same; wake = W.None })
  lock-sleeps :
      Mx.lock_waits p ≡ true → word ≡ CONTENDED → LockDid p word (record { word = word; next = Nx.Asleep; hold = H.Same; wake = W.None })
  lock-takes :
      {new : ℕ} → word ≡ 0 → new ≢ 0 → new ≤ 2 → (late p ≡ true → new ≡ CONTENDED) →
      LockDid p word (record { word = new; next = Nx.Ended 1; hold = H.TakeMutex; wake = W.None })

contended-did : (p : LockAt) (word : ℕ) → LockDid p word (Mx.contended word)
unfolding Mx.contended Mx.lock_passed late
contended-did p word =
    decided (LockDid p word) (is_contended word) _ _ (λ _. lock-moves (λ _. refl) (λ _. refl)) (λ _. lock-moves (λ _. refl) (λ _. refl))

pub lock-did : (p : LockAt) (word : ℕ) → LockDid p word (Mx.lock_of p word)
unfolding Mx.lock_of Mx.spun Mx.takes Mx.lock_after_wait Mx.lock_passed Mx.lock_waits late
lock-did L.Exchange word =
    decided (LockDid L.Exchange word) (is_unlocked word) _ _
    (λ e. lock-takes (eqb-true word 0 e) (omega arith) (omega arith) no_way)
    (λ _. lock-moves (λ _. refl) no_way)
lock-did (L.Spin left) word =
    decided (LockDid (L.Spin left) word) (is_locked word && not (eqb left 0)) _ _
    (λ _. lock-moves (one_less left) (λ e. e))
    (λ _. decided (LockDid (L.Spin left) word) (is_unlocked word) _ _ (λ _. lock-moves (λ _. refl) (λ e. e)) (λ _. contended-did (L.Spin left) word))
lock-did L.ExchangeAgain word =
    decided (LockDid L.ExchangeAgain word) (is_unlocked word) _ _
    (λ e. lock-takes (eqb-true word 0 e) (omega arith) (omega arith) no_way)
    (λ _. contended-did L.ExchangeAgain word)
lock-did L.Swap word =
    decided (LockDid L.Swap word) (is_unlocked word) _ _
    (λ e. lock-takes (eqb-true word 0 e) (omega arith) (omega arith) (λ _. refl))
    (λ e. lock-marks (eqb-false word 0 e))
lock-did L.Wait word =
    decided (LockDid L.Wait word) (is_contended word) _ _
    (λ e. lock-sleeps refl (eqb-true word 2 e))
    (λ _. lock-moves (λ _. refl) (λ _. refl))
lock-did (L.SpinAgain left) word =
    decided (LockDid (L.SpinAgain left) word) (is_locked word && not (eqb left 0)) _ _
    (λ _. lock-moves (one_less left) (λ _. refl))
    (λ _. contended-did (L.SpinAgain left) word)

-- a step of `unlock`: the swap, which goes on to the wake where the mutex was contended, and the wake
pub data UnlockDid (word : ℕ) : UnlockAt → Step UnlockAt → Type 0 where
  unlock-wakes-next : word ≡ CONTENDED → UnlockDid word U.Swap (record { word = UNLOCKED; next = Nx.Moved U.Wake; hold = H.FreeMutex; wake = W.None })
  unlock-ends : word ≢ CONTENDED → UnlockDid word U.Swap (record { word = UNLOCKED; next = Nx.Ended 1; hold = H.FreeMutex; wake = W.None })
  unlock-wakes : UnlockDid word U.Wake (record { word = word; next = Nx.Ended 1; hold = H.Same; wake = W.One })

pub unlock-did : (p : UnlockAt) (word : ℕ) → UnlockDid word p (Mx.unlock_of p word)
unfolding Mx.unlock_of
unlock-did U.Swap word =
    decided (UnlockDid word U.Swap) (is_contended word) _ _
    (λ e. unlock-wakes-next (eqb-true word 2 e))
    (λ e. unlock-ends (eqb-false word 2 e))
unlock-did U.Wake word = unlock-wakes

module _ (m word : ℕ) where
  lock-kept : (p : LockAt) (s : Step LockAt) → LockDid p word s → Kept (A.Mutex m (M.Lock p)) word (mutex_plan m (M.Lock p) (map_step M.Lock s))
  unfolding plan_of Mx.passed_of Mx.lock_passed Mx.waits_of Mx.needs_of Mx.operand_of passed_of waits_of need_of kind_of object_of largest Did asks held_kind
  lock-kept p s (lock-moves {q} h _) =
      kept_on _ word word (A.Mutex m (M.Lock q)) m W.None locking (λ e _ _. h e) (stores_same _ word) (inl refl)
  lock-kept p s (lock-marks h) =
      kept_on _ word CONTENDED (A.Mutex m (M.Lock L.Wait)) m W.None locking (λ _ _ _. refl)
      (record { wide = λ _. omega arith; small = λ _ _. omega arith; did = λ _. mutex-same (λ e. absurd (h e)) (λ e. omega arith) })
      (inl refl)
  lock-kept p s (lock-sleeps h _) = kept-slept _ word m h
  lock-kept p s (lock-takes {new} e n l _) =
      kept-done _ word new 1 H.TakeMutex m W.None
      (record { wide = λ _. omega arith; small = λ _ _. l; did = λ _. mutex-taken e n })
      (inl refl) (inr (refl, λ t. refl))

  unlock-kept : (p : UnlockAt) (s : Step UnlockAt) → UnlockDid word p s → Kept (A.Mutex m (M.Unlock p)) word (mutex_plan m (M.Unlock p) (map_step M.Unlock s))
  unfolding plan_of Mx.passed_of Mx.needs_of Mx.unlock_needs Mx.operand_of passed_of need_of kind_of object_of largest Did asks held_kind
  unlock-kept p s (unlock-wakes-next _) =
      kept-moved _ word UNLOCKED (A.Mutex m (M.Unlock U.Wake)) H.FreeMutex m W.None unlocking (λ _ _ _. refl)
      (record { wide = λ _. omega arith; small = λ _ _. omega arith; did = λ _. mutex-freed refl })
      (inl refl) (inr refl) (inr (refl, λ t. refl))
  unlock-kept p s (unlock-ends _) =
      kept-done _ word UNLOCKED 1 H.FreeMutex m W.None
      (record { wide = λ _. omega arith; small = λ _ _. omega arith; did = λ _. mutex-freed refl })
      (inr refl) (inr (refl, λ t. refl))
  unlock-kept p s unlock-wakes = kept-end _ word word 1 m W.One (stores_same _ word)

  try-kept : Kept (A.Mutex m M.TryLock) word (mutex_plan m M.TryLock (Mx.try_lock_of word))
  unfolding plan_of Mx.try_lock_of Mx.passed_of Mx.operand_of passed_of kind_of object_of largest Did asks held_kind
  try-kept =
      decided (λ (s : Step MutexAt). Kept (A.Mutex m M.TryLock) word (mutex_plan m M.TryLock s)) (is_unlocked word) _ _
      (λ e. kept-done _ word LOCKED 1 H.TakeMutex m W.None
      (record { wide = λ _. omega arith; small = λ _ _. omega arith; did = λ _. mutex-taken (eqb-true word 0 e) (omega arith) })
      (inl refl) (inr (refl, λ t. refl)))
      (λ _. kept-end _ word word 0 m W.None (stores_same _ word))

  pub mutex-kept : (p : MutexAt) (f a : Bool) → Kept (A.Mutex m p) word (decide_of (A.Mutex m p) f word a)
  unfolding decide_of Mx.decide_of
  mutex-kept (M.Lock p) f a = lock-kept p _ (lock-did p word)
  mutex-kept M.TryLock f a = try-kept
  mutex-kept (M.Unlock p) f a = unlock-kept p _ (unlock-did p word)
