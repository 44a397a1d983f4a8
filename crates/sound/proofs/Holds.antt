-- Each hold has a place of its own in its table; what a store in one place does to every hold, and to the counts of them. Assumes nothing.
use mathlib.Core.Path.{◌≡◌, ap}
use mathlib.Core.Bool.{Bool, false, cond}
use mathlib.Core.List.{List}
use Prim.Native.Nat.{ℕ, ◌+◌, ◌*◌, ◌≤◌, ◌<◌}
use native.Mathlib.Omega.{arith}
use lib.ListN.{length, get_or, set}
use lib.Seq.{get_or-set_same, get_or-set_other}
use Rattle.queue.specs.Row.{THREADS}
use Rattle.calls.specs.Objects.{MUTEXES, RWLOCKS}
use Rattle.world.specs.Holds.{MUTEXHOLDS, LOCKHOLDS, mutex_slot, lock_slot, holds_mutex, holds_write, reads_of}
use Rattle.sound.specs.Ranges.{sum_from}
use Rattle.sound.specs.Sound.{mutex_holders, writers, reads_held}
use Rattle.sound.proofs.Ranges.{sum-at, sum-agree, sum-change, count-agree, count-change}

-- the places
pub mutex-slot : (t m : ℕ) → t < THREADS → m < MUTEXES → mutex_slot t m ≡ t * MUTEXES + m
mutex-slot t m a b = omega arith

pub lock-slot : (t l : ℕ) → t < THREADS → l < RWLOCKS → lock_slot t l ≡ t * RWLOCKS + l
lock-slot t l a b = omega arith

pub mutex-slot-below : (t m : ℕ) → mutex_slot t m < MUTEXHOLDS
mutex-slot-below t m = omega arith

pub lock-slot-below : (t l : ℕ) → lock_slot t l < LOCKHOLDS
lock-slot-below t l = omega arith

pub mutex-slots-apart :
    (t u m k : ℕ) → t < THREADS → u < THREADS → m < MUTEXES → k < MUTEXES → mutex_slot u k ≡ mutex_slot t m → (u ≡ t) × (k ≡ m)
mutex-slots-apart t u m k a b c d e = (omega arith, omega arith)

pub lock-slots-apart :
    (t u l k : ℕ) → t < THREADS → u < THREADS → l < RWLOCKS → k < RWLOCKS → lock_slot u k ≡ lock_slot t l → (u ≡ t) × (k ≡ l)
lock-slots-apart t u l k a b c d e = (omega arith, omega arith)

-- a mutex hold is stored
module _ (locked : List Bool) (t m : ℕ) (b : Bool) (shaped : length locked ≡ MUTEXHOLDS) (is-thread : t < THREADS) (is-mutex : m < MUTEXES) where
  pub mutex-own : holds_mutex (set locked (mutex_slot t m) b) m t ≡ b
  unfolding holds_mutex
  mutex-own = let h : mutex_slot t m < length locked = omega arith in get_or-set_same locked (mutex_slot t m) b false h

  pub mutex-other :
      (u k : ℕ) → u < THREADS → k < MUTEXES → (u ≡ t → k ≡ m → ⊥) →
      holds_mutex (set locked (mutex_slot t m) b) k u ≡ holds_mutex locked k u
  unfolding holds_mutex
  mutex-other u k a d n =
      get_or-set_other locked (mutex_slot t m) (mutex_slot u k) b false
      (λ e. let p = mutex-slots-apart t u m k is-thread a is-mutex d e in n p.0 p.1)

  pub mutex-holders-own :
      mutex_holders (set locked (mutex_slot t m) b) m + cond (holds_mutex locked m t) 1 0 ≡ mutex_holders locked m + cond b 1 0
  unfolding mutex_holders
  mutex-holders-own =
      rw mutex-own at
      (count-change (holds_mutex locked m) (holds_mutex (set locked (mutex_slot t m) b) m) THREADS t is-thread
      (λ u h z. mutex-other u m h is-mutex (λ e i. z e)))

  pub mutex-holders-other :
      (k : ℕ) → k < MUTEXES → (k ≡ m → ⊥) → mutex_holders (set locked (mutex_slot t m) b) k ≡ mutex_holders locked k
  unfolding mutex_holders
  mutex-holders-other k d n =
      count-agree (holds_mutex locked k) (holds_mutex (set locked (mutex_slot t m) b) k) THREADS (λ u h. mutex-other u k h d (λ e i. n i))

-- a write hold is
module _ (written : List Bool) (t l : ℕ) (b : Bool) (shaped : length written ≡ LOCKHOLDS) (is-thread : t < THREADS) (is-lock : l < RWLOCKS) where
  pub write-own : holds_write (set written (lock_slot t l) b) l t ≡ b
  unfolding holds_write
  write-own = let h : lock_slot t l < length written = omega arith in get_or-set_same written (lock_slot t l) b false h

  pub write-other :
      (u k : ℕ) → u < THREADS → k < RWLOCKS → (u ≡ t → k ≡ l → ⊥) →
      holds_write (set written (lock_slot t l) b) k u ≡ holds_write written k u
  unfolding holds_write
  write-other u k a d n =
      get_or-set_other written (lock_slot t l) (lock_slot u k) b false
      (λ e. let p = lock-slots-apart t u l k is-thread a is-lock d e in n p.0 p.1)

  pub writers-own : writers (set written (lock_slot t l) b) l + cond (holds_write written l t) 1 0 ≡ writers written l + cond b 1 0
  unfolding writers
  writers-own =
      rw write-own at
      (count-change (holds_write written l) (holds_write (set written (lock_slot t l) b) l) THREADS t is-thread
      (λ u h z. write-other u l h is-lock (λ e i. z e)))

  pub writers-other : (k : ℕ) → k < RWLOCKS → (k ≡ l → ⊥) → writers (set written (lock_slot t l) b) k ≡ writers written k
  unfolding writers
  writers-other k d n =
      count-agree (holds_write written k) (holds_write (set written (lock_slot t l) b) k) THREADS (λ u h. write-other u k h d (λ e i. n i))

-- a count of read holds is
module _ (reads : List ℕ) (t l n : ℕ) (shaped : length reads ≡ LOCKHOLDS) (is-thread : t < THREADS) (is-lock : l < RWLOCKS) where
  pub reads-own : reads_of (set reads (lock_slot t l) n) l t ≡ n
  unfolding reads_of
  reads-own = let h : lock_slot t l < length reads = omega arith in get_or-set_same reads (lock_slot t l) n 0 h

  pub reads_other :
      (u k : ℕ) → u < THREADS → k < RWLOCKS → (u ≡ t → k ≡ l → ⊥) → reads_of (set reads (lock_slot t l) n) k u ≡ reads_of reads k u
  unfolding reads_of
  reads_other u k a d z =
      get_or-set_other reads (lock_slot t l) (lock_slot u k) n 0
      (λ e. let p = lock-slots-apart t u l k is-thread a is-lock d e in z p.0 p.1)

  pub reads-held-own :
      (forgotten : List ℕ) → reads_held forgotten (set reads (lock_slot t l) n) l + reads_of reads l t ≡ reads_held forgotten reads l + n
  unfolding reads_held
  reads-held-own forgotten =
      let e : sum_from (reads_of (set reads (lock_slot t l) n) l) THREADS 0 + reads_of reads l t
      ≡ sum_from (reads_of reads l) THREADS 0 + reads_of (set reads (lock_slot t l) n) l t =
      sum-change (reads_of reads l) (reads_of (set reads (lock_slot t l) n) l) THREADS t is-thread
      (λ u h z. reads_other u l h is-lock (λ p i. z p)) in
      omega (arith, reads-own)

  pub reads-held-other :
      (forgotten : List ℕ) (k : ℕ) → k < RWLOCKS → (k ≡ l → ⊥) →
      reads_held forgotten (set reads (lock_slot t l) n) k ≡ reads_held forgotten reads k
  unfolding reads_held
  reads-held-other forgotten k d z =
      ap (λ (s : ℕ). get_or forgotten k 0 + s)
      (sum-agree (reads_of reads k) (reads_of (set reads (lock_slot t l) n) k) THREADS (λ u h. reads_other u k h d (λ p i. z i)))

-- a thread's own count of reads is part of those held
pub reads-part : (forgotten reads : List ℕ) (l t : ℕ) → t < THREADS → reads_of reads l t ≤ reads_held forgotten reads l
unfolding reads_held
reads-part forgotten reads l t h = omega (arith, sum-at (reads_of reads l) THREADS t h)
