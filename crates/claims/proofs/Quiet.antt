-- In a world reached where every thread inside a call sleeps, who sleeps on a mutex or an RwLock sleeps on one that is held by the history, or
-- that has a forgotten read. Assumes nothing.
use mathlib.Core.Path.{◌≡◌, refl, sym, ◌∙◌}
use mathlib.Core.Logic.{◌⊎◌, inl, inr, ◌≢◌}
use mathlib.Core.Bool.{false}
use mathlib.Core.List.{List}
use Prim.Native.Nat.{ℕ, zero, suc, ◌^◌, ◌<◌}
use native.Mathlib.Omega.{arith}
use native.Mathlib.Decide.{ℕ_discrete}
use Rattle.words.specs.RwLock.{MASK}
use Rattle.words.specs.declared.Kind.TheVariants as K
use Rattle.calls.specs.declared.At.{At}
use Rattle.calls.specs.Objects.{MUTEXES, RWLOCKS}
use Rattle.calls.specs.Positions.{is_idle}
use Rattle.world.specs.declared.World.{World}
use Rattle.world.specs.World.{thread_at}
use Rattle.acts.specs.declared.Fields.{Fields}
use Rattle.acts.specs.Acts.{Sized}
use Rattle.kept.proofs.Tests.{no_way}
use Rattle.claims.specs.Claims.{for-reading, of-mutex, reached, history, forgotten_by, reads_by, Somebody, mutex_word, low_bits, SleepsOn, Another, TendsMutex, locking, unlocking, wait-locking, wait-unlocking, SleepsOnLock, TendsLock, writing, waking, notifications, Quiet, LockHeld, by-writer, by-reader, by-forgotten}
use Rattle.claims.proofs.Counting.{some_holds, mutex-counted, lock-counted}
use Rattle.claims.proofs.MutexClaim.{mutex-wakes}
use Rattle.claims.proofs.LockClaim.{lock-wakes}

-- who tends a lock is not idle, so nobody does in a quiet world
mutex-busy : (m : ℕ) (at : At) → TendsMutex m at → is_idle at ≡ false
unfolding is_idle
mutex-busy m at (locking c) = refl
mutex-busy m at unlocking = refl
mutex-busy m at (wait-locking c) = refl
mutex-busy m at wait-unlocking = refl

lock-busy : (l : ℕ) (at : At) → TendsLock l at → is_idle at ≡ false
unfolding is_idle
lock-busy l at writing = refl
lock-busy l at waking = refl

nobody-tends :
    (w : World) (t : ℕ) (There : At → Type 0) → ((at : At) → There at → is_idle at ≡ false) → Quiet w → Another w t There → ⊥
nobody-tends w t There busy quiet B = no_way (sym (busy (thread_at w B.who).at B.there) ∙ quiet B.who B.awake)

module _ (acts : List Fields) (sized : Sized acts) (quiet : Quiet (reached acts)) where
  -- 10. on a mutex
  pub quiet-mutexes : (m t : ℕ) → m < MUTEXES → SleepsOn (reached acts) K.Mutex m t → Somebody of-mutex m (history acts)
  quiet-mutexes m t is-mutex on = by (ℕ_discrete (mutex_word (reached acts) m) 0)
    where
      by : Dec (mutex_word (reached acts) m ≡ 0) → Somebody of-mutex m (history acts)
      by (yes e) =
          absurd (nobody-tends (reached acts) t (TendsMutex m) (mutex-busy m) quiet
          (mutex-wakes acts sized m is-mutex t on ((mutex-counted acts sized m is-mutex).free.0 e)))
      by (no n) = (mutex-counted acts sized m is-mutex).locked.0 n

  -- .. and on an RwLock
  pub quiet-locks : (l t : ℕ) → l < RWLOCKS → notifications acts l < 2 ^ 32 → SleepsOnLock (reached acts) l t → LockHeld l (history acts)
  quiet-locks l t is-lock few on = by (ℕ_discrete (low_bits (reached acts) l) 0)
    where
      -- the low bits are the reads held, or those under a writer
      held : (low_bits (reached acts) l ≡ reads_by l (history acts)) ⊎ (low_bits (reached acts) l ≡ MASK) → low_bits (reached acts) l ≢ 0 → LockHeld l (history acts)
      held (inl e) n = go (forgotten_by l (history acts)) refl
        where
          go : (k : ℕ) → forgotten_by l (history acts) ≡ k → LockHeld l (history acts)
          go zero q = by-reader (some_holds for-reading l (history acts) (omega (arith, n)))
          go (suc k) q = by-forgotten (omega arith)
      held (inr e) n = by-writer ((lock-counted acts sized l is-lock).writing.0 e)

      by : Dec (low_bits (reached acts) l ≡ 0) → LockHeld l (history acts)
      by (yes e) =
          absurd (nobody-tends (reached acts) t (TendsLock l) (lock-busy l) quiet
          (lock-wakes acts sized l is-lock few t on ((lock-counted acts sized l is-lock).free.0 e)))
      by (no n) = held (lock-counted acts sized l is-lock).either n
