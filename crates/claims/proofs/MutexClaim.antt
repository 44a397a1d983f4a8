-- No sleeper on a mutex is forgotten: where a thread sleeps on one that nobody holds by the history, another is awake in the loop of lock or at
-- the wake of unlock on it, by itself or inside a condvar wait. Assumes nothing.
use mathlib.Core.Path.{◌≡◌, sym, ap, ◌∙◌, subst}
use mathlib.Core.Logic.{◌⊎◌, inl, inr}
use mathlib.Core.Bool.{true}
use mathlib.Core.List.{List}
use Prim.Native.Nat.{ℕ, ◌<◌}
use native.Mathlib.Omega.{arith}
use Rattle.words.specs.Mutex.{CONTENDED}
use Rattle.words.specs.declared.Kind.TheVariants as K
use Rattle.mutex.specs.declared.LockAt.{LockAt}
use Rattle.mutex.specs.declared.LockAt.TheVariants as L
use Rattle.mutex.specs.declared.UnlockAt.{UnlockAt}
use Rattle.mutex.specs.declared.UnlockAt.TheVariants as U
use Rattle.mutex.specs.declared.MutexAt.TheVariants as M
use Rattle.mutex.specs.Mutex as Mx
use Rattle.condvar.specs.declared.WaitAt.TheVariants as Wt
use Rattle.condvar.specs.declared.CondvarAt.TheVariants as C
use Rattle.condvar.specs.Condvar as Cv
use Rattle.calls.specs.declared.At.{At}
use Rattle.calls.specs.declared.At.TheVariants as A
use Rattle.calls.specs.Objects.{MUTEXES, word_of}
use Rattle.calls.specs.Positions.{operand_of}
use Rattle.world.specs.World.{thread_at}
use Rattle.acts.specs.declared.Fields.{Fields}
use Rattle.acts.specs.Acts.{Sized}
use Rattle.kept.proofs.Tests.{no_way}
use Rattle.kept.proofs.Mutex.{late}
use Rattle.keeps_records.proofs.Names.{object-within}
use Rattle.keeps_counts.proofs.Words.{word-is, words-apart}
use Rattle.keeps.proofs.Keeps.{acts-sound}
use Rattle.local.proofs.Waking.{sleeps-asleep}
use Rattle.local.proofs.Frame.{word-thread}
use Rattle.claims_mutex.proofs.Answers.{helps, mutex_helps, condvar_helps, wait_helps}
use Rattle.claims_mutex.proofs.Covered.{Answers, Cover}
use Rattle.claims_mutex.proofs.Kept.{reached-covered}
use Rattle.claims.specs.Claims.{reached, mutex_word, SleepsOn, Another, Contends, at-swap, at-wait, at-spin-again, TendsMutex, locking, unlocking, wait-locking, wait-unlocking, MutexWakes}
use Rattle.claims.proofs.Counting.{mutex-counted}

contends : (p : LockAt) → late p ≡ true → Contends p
unfolding late
contends L.Exchange e = no_way e
contends (L.Spin left) e = no_way e
contends L.ExchangeAgain e = no_way e
contends L.Swap e = at-swap
contends L.Wait e = at-wait
contends (L.SpinAgain left) e = at-spin-again

-- one word, one mutex
same-mutex : (n m : ℕ) → m < MUTEXES → word_of K.Mutex n ≡ word_of K.Mutex m → n ≡ m
same-mutex n m h e =
    let l : word_of K.Mutex m ≡ m = word-is K.Mutex m h ∙ omega arith in
    (words-apart K.Mutex K.Mutex n m (object-within K.Mutex n (omega arith)) h e).1

module _ (t m : ℕ) (h : m < MUTEXES) where
  lock-tends : (n : ℕ) (p : LockAt) → late p ≡ true → word_of K.Mutex n ≡ word_of K.Mutex m → TendsMutex m (A.Mutex n (M.Lock p))
  lock-tends n p e q = subst (λ (k : ℕ). TendsMutex m (A.Mutex k (M.Lock p))) (sym (same-mutex n m h q)) (locking (contends p e))

  unlock-tends : (n : ℕ) (p : UnlockAt) → Mx.unlock_may_wake p ≡ true → word_of K.Mutex n ≡ word_of K.Mutex m → TendsMutex m (A.Mutex n (M.Unlock p))
  unfolding Mx.unlock_may_wake
  unlock-tends n U.Swap e q = no_way e
  unlock-tends n U.Wake e q = subst (λ (k : ℕ). TendsMutex m (A.Mutex k (M.Unlock U.Wake))) (sym (same-mutex n m h q)) unlocking

  relock-tends : (c n : ℕ) (p : LockAt) → late p ≡ true → word_of K.Mutex n ≡ word_of K.Mutex m → TendsMutex m (A.Condvar c (C.Wait n (Wt.Relock p)))
  relock-tends c n p e q = subst (λ (k : ℕ). TendsMutex m (A.Condvar c (C.Wait k (Wt.Relock p)))) (sym (same-mutex n m h q)) (wait-locking (contends p e))

  wait-unlock-tends :
      (c n sequence : ℕ) (p : UnlockAt) → Mx.unlock_may_wake p ≡ true → word_of K.Mutex n ≡ word_of K.Mutex m →
      TendsMutex m (A.Condvar c (C.Wait n (Wt.Unlock sequence p)))
  unfolding Mx.unlock_may_wake
  wait-unlock-tends c n sequence U.Swap e q = no_way e
  wait-unlock-tends c n sequence U.Wake e q =
      subst (λ (k : ℕ). TendsMutex m (A.Condvar c (C.Wait k (Wt.Unlock sequence U.Wake)))) (sym (same-mutex n m h q)) wait-unlocking

  helps-tends : (at : At) → helps at ≡ true → operand_of t at ≡ word_of K.Mutex m → TendsMutex m at
  unfolding helps mutex_helps condvar_helps wait_helps operand_of Mx.operand_of Cv.operand_of Cv.wait_operand Cv.object_of Cv.wait_object
  helps-tends A.Idle e q = no_way e
  helps-tends (A.Mutex n (M.Lock p)) e q = lock-tends n p e q
  helps-tends (A.Mutex n M.TryLock) e q = no_way e
  helps-tends (A.Mutex n (M.Unlock p)) e q = unlock-tends n p e q
  helps-tends (A.RwLock l p) e q = no_way e
  helps-tends (A.Condvar c (C.Wait n Wt.Load)) e q = no_way e
  helps-tends (A.Condvar c (C.Wait n (Wt.Unlock sequence p))) e q = wait-unlock-tends c n sequence p e q
  helps-tends (A.Condvar c (C.Wait n (Wt.Wait sequence))) e q = no_way e
  helps-tends (A.Condvar c (C.Wait n (Wt.Relock p))) e q = relock-tends c n p e q
  helps-tends (A.Condvar c (C.Notify all p)) e q = no_way e
  helps-tends (A.Once o p) e q = no_way e
  helps-tends (A.Parker p) e q = no_way e

module _ (acts : List Fields) (sized : Sized acts) (m : ℕ) (is-mutex : m < MUTEXES) (t : ℕ) (on : SleepsOn (reached acts) K.Mutex m t) where
  tended : (u : ℕ) → Answers (reached acts) (word_of K.Mutex m) u → Another (reached acts) t (TendsMutex m)
  tended u B =
      let l : word_of K.Mutex m ≡ m = word-is K.Mutex m is-mutex ∙ omega arith in
      let o : operand_of u (thread_at (reached acts) u).at ≡ word_of K.Mutex m = B.there in
      record {
        who = u;
        is-thread = word-thread (reached acts) u (acts-sound acts sized).1 (omega arith);
        another = λ e. no_way (sym B.awake
            ∙ (ap (λ (x : ℕ). (thread_at (reached acts) x).asleep) e ∙ sleeps-asleep (word_of K.Mutex m) t (thread_at (reached acts) t) on));
        awake = B.awake;
        there = helps-tends u m is-mutex (thread_at (reached acts) u).at B.answers B.there;
      }

  -- M: the word is CONTENDED, or another thread tends the mutex
  pub marked-or-tended : (mutex_word (reached acts) m ≡ CONTENDED) ⊎ Another (reached acts) t (TendsMutex m)
  marked-or-tended = by (reached-covered acts sized m is-mutex t on)
    where
      by : Cover (reached acts) (word_of K.Mutex m) → (mutex_word (reached acts) m ≡ CONTENDED) ⊎ Another (reached acts) t (TendsMutex m)
      by (inl e) = inl e
      by (inr (u, B)) = inr (tended u B)

-- 4. no sleeper on a mutex is forgotten
pub mutex-wakes : (acts : List Fields) → Sized acts → (m : ℕ) → m < MUTEXES → MutexWakes acts m
mutex-wakes acts sized m is-mutex t on nobody =
    by ((mutex-counted acts sized m is-mutex).free.1 nobody) (marked-or-tended acts sized m is-mutex t on)
  where
    by :
        mutex_word (reached acts) m ≡ 0 → (mutex_word (reached acts) m ≡ CONTENDED) ⊎ Another (reached acts) t (TendsMutex m) →
        Another (reached acts) t (TendsMutex m)
    by z (inl e) = absurd (omega arith)
    by z (inr B) = B
