-- The sentences are not empty: histories of short lists of acts, and for each sleeper's sentence a list that leads to what it speaks of.
-- Computed, each act through its refusals, soundness included. Assumes nothing.
use mathlib.Core.Path.{◌≡◌, refl, ap, subst, sym}
use mathlib.Core.Bool.{true, false, true≢false}
use mathlib.Core.List.{List, [], ◌∷◌}
use Prim.Native.Nat.{ℕ, zero, suc, ◌+◌, ◌-◌}
use native.Mathlib.Nat.{sub_self}
use lib.Dec.{lit<}
use lib.ListN.{get_or, replicate}
use Rattle.words.specs.RwLock.{MASK, READERS_WAITING}
use Rattle.words.specs.declared.Kind.TheVariants as K
use Rattle.queue.specs.Row.{THREADS}
use Rattle.mutex.specs.declared.LockAt.TheVariants as L
use Rattle.mutex.specs.declared.MutexAt.TheVariants as M
use Rattle.rwlock.specs.declared.ReadAt.TheVariants as R
use Rattle.rwlock.specs.declared.WriteAt.TheVariants as Wr
use Rattle.rwlock.specs.declared.WakeAt.TheVariants as Wk
use Rattle.rwlock.specs.declared.RwLockAt.TheVariants as X
use Rattle.calls.specs.declared.At.{At}
use Rattle.calls.specs.declared.At.TheVariants as A
use Rattle.calls.specs.declared.Thread.{Thread}
use Rattle.calls.specs.Plans.{idle, asleep}
use Rattle.calls.specs.Objects.{word_of}
use Rattle.calls.specs.Positions.{is_idle}
use Rattle.world.specs.declared.World.{World}
use Rattle.world.specs.World.{thread_at, sleeps_on}
use Rattle.claims.specs.Claims.{What, of-mutex, for-writing, for-reading, Mark, begins, ends, forgets, reached, history, begun, ended, held, forgotten_from, Nobody, LockFree, Quiet, SleepsOn, SleepsOnLock, in-read, in-write, by-writer}
use Rattle.claims_examples.specs.Machine.{machine}
use Rattle.claims_examples.specs.Lists.{begin, step, forget}
use Rattle.claims_examples.specs.Cases.{mutex-held, reader-held, writer-held, mutex-freed, reader-freed, writer-freed, MutexFreed, LockFreed, MutexQuiet, LockQuiet}
use Rattle.claims_examples.proofs.Everywhere.{same-everywhere}

-- ---- Histories

-- lock and unlock, with a step of an idle thread between them, which is refused and gives nothing
pub locking-history : history (begin 0 0 0 0 ∷ step 0 ∷ step 0 ∷ begin 2 0 0 0 ∷ step 0 ∷ []) ≡ begins of-mutex 0 0 ∷ ends of-mutex 0 0 ∷ []
unfolding machine
locking-history = refl

-- three reads forgotten, then a read
pub forgetting-history : history (forget 1 3 ∷ begin 3 2 1 0 ∷ step 2 ∷ step 2 ∷ []) ≡ forgets 1 3 ∷ begins for-reading 2 1 ∷ []
unfolding machine
forgetting-history = refl

-- a write, then a downgrade
pub downgrading-history :
    history (begin 6 5 0 0 ∷ step 5 ∷ begin 9 5 0 0 ∷ step 5 ∷ []) ≡ begins for-writing 5 0 ∷ ends for-writing 5 0 ∷ begins for-reading 5 0 ∷ []
unfolding machine
downgrading-history = refl

-- a condvar wait, which frees its mutex and, notified before it slept, takes it again
pub waiting-history :
    history (begin 0 0 1 0 ∷ step 0 ∷ begin 10 0 2 1 ∷ step 0 ∷ step 0 ∷ begin 11 3 2 0 ∷ step 3 ∷ step 0 ∷ step 0 ∷ [])
    ≡ begins of-mutex 0 1 ∷ ends of-mutex 0 1 ∷ begins of-mutex 0 1 ∷ []
unfolding machine
waiting-history = refl

-- ---- Asleep on what nobody holds

-- who sleeps at the futex_wait of lock, read or write sleeps on the word that it waits for
mutex-sleeps : (w : World) → thread_at w 1 ≡ asleep (A.Mutex 0 (M.Lock L.Wait)) → SleepsOn w K.Mutex 0 1
unfolding machine
mutex-sleeps w e = ap (sleeps_on (word_of K.Mutex 0) 1) e

read-sleeps : (w : World) (seen : ℕ) → thread_at w 1 ≡ asleep (A.RwLock 0 (X.Read (R.Wait seen))) → SleepsOnLock w 0 1
unfolding machine
read-sleeps w seen e = in-read {seen = seen} (ap (sleeps_on (word_of K.RwLock 0) 1) e) (ap (λ (th : Thread). th.at) e)

write-sleeps : (w : World) (sequence : ℕ) → thread_at w 1 ≡ asleep (A.RwLock 0 (X.Write (Wr.Wait sequence))) → SleepsOnLock w 0 1
unfolding machine
write-sleeps w sequence e = in-write {sequence = sequence} (ap (sleeps_on (word_of K.WriterNotify 0) 1) e) (ap (λ (th : Thread). th.at) e)

-- thread 0 has and frees object 0 twice: what began and ended equally often is not held
abbrev twice : What → List Mark
twice what = begins what 0 0 ∷ ends what 0 0 ∷ begins what 0 0 ∷ ends what 0 0 ∷ []

twice-mutex : Nobody of-mutex 0 (twice of-mutex)
unfolding begun ended held
twice-mutex t small = sub_self _

twice-lock : LockFree 0 (twice for-writing)
unfolding begun ended held forgotten_from
twice-lock = record { no-writer = λ t small. sub_self _; no_reader = λ t small. refl; none-forgotten = refl }

freed-histories :
    (history mutex-freed ≡ twice of-mutex) × ((history reader-freed ≡ twice for-writing) × (history writer-freed ≡ twice for-writing))
unfolding machine mutex-held reader-held writer-held
freed-histories = (refl, (refl, refl))

pub mutex-freed-case : MutexFreed mutex-freed
unfolding machine mutex-held
mutex-freed-case = record {
  sleeps = mutex-sleeps (reached mutex-freed) refl;
  free = subst (Nobody of-mutex 0) (sym freed-histories.0) twice-mutex;
  waker = refl;
}

pub reader-freed-case : LockFreed reader-freed (X.Read (R.Wait (MASK + READERS_WAITING))) Wk.ExchangeReaders
unfolding machine reader-held
reader-freed-case =
    let at-wait : thread_at (reached reader-freed) 1 ≡ asleep (A.RwLock 0 (X.Read (R.Wait (MASK + READERS_WAITING)))) = refl in
    record {
      sleeps = read-sleeps (reached reader-freed) (MASK + READERS_WAITING) at-wait;
      sleeper = at-wait;
      free = subst (LockFree 0) (sym freed-histories.1.0) twice-lock;
      waker = refl;
    }

pub writer-freed-case : LockFreed writer-freed (X.Write (Wr.Wait 0)) Wk.ExchangeWriters
unfolding machine writer-held
writer-freed-case =
    let at-wait : thread_at (reached writer-freed) 1 ≡ asleep (A.RwLock 0 (X.Write (Wr.Wait 0))) = refl in
    record {
      sleeps = write-sleeps (reached writer-freed) 0 at-wait;
      sleeper = at-wait;
      free = subst (LockFree 0) (sym freed-histories.1.1) twice-lock;
      waker = refl;
    }

-- ---- Quiet worlds

-- thread 1 sleeps, and all others are idle
abbrev one-asleep : At → List Thread
one-asleep at = idle ∷ asleep at ∷ replicate (THREADS - 2) idle

one-quiet : (at : At) (t : ℕ) → (get_or (one-asleep at) t idle).asleep ≡ false → is_idle (get_or (one-asleep at) t idle).at ≡ true
unfolding is_idle
one-quiet at zero e = refl
one-quiet at (suc zero) e = absurd (true≢false e)
one-quiet at (suc (suc t)) e = ap (λ (th : Thread). is_idle th.at) (same-everywhere (THREADS - 2) t idle)

is-quiet : (w : World) (at : At) → w.threads ≡ one-asleep at → Quiet w
is-quiet w at e =
    subst (λ (threads : List Thread). (t : ℕ) → (get_or threads t idle).asleep ≡ false → is_idle (get_or threads t idle).at ≡ true) (sym e) (one-quiet at)

pub mutex-quiet-case : MutexQuiet mutex-held
unfolding machine mutex-held
mutex-quiet-case =
    let threads : (reached mutex-held).threads ≡ one-asleep (A.Mutex 0 (M.Lock L.Wait)) = refl in
    record {
      quiet = is-quiet (reached mutex-held) (A.Mutex 0 (M.Lock L.Wait)) threads;
      sleeps = mutex-sleeps (reached mutex-held) (ap (λ (l : List Thread). get_or l 1 idle) threads);
      held = (0, (lit< tt, lit< tt));
    }

pub reader-quiet-case : LockQuiet reader-held (X.Read (R.Wait (MASK + READERS_WAITING)))
unfolding machine reader-held
reader-quiet-case =
    let at : At = A.RwLock 0 (X.Read (R.Wait (MASK + READERS_WAITING))) in
    let threads : (reached reader-held).threads ≡ one-asleep at = refl in
    let at-wait : thread_at (reached reader-held) 1 ≡ asleep at = ap (λ (l : List Thread). get_or l 1 idle) threads in
    record {
      quiet = is-quiet (reached reader-held) at threads;
      sleeps = read-sleeps (reached reader-held) (MASK + READERS_WAITING) at-wait;
      sleeper = at-wait;
      held = by-writer (0, (lit< tt, lit< tt));
    }

pub writer-quiet-case : LockQuiet writer-held (X.Write (Wr.Wait 0))
unfolding machine writer-held
writer-quiet-case =
    let at : At = A.RwLock 0 (X.Write (Wr.Wait 0)) in
    let threads : (reached writer-held).threads ≡ one-asleep at = refl in
    let at-wait : thread_at (reached writer-held) 1 ≡ asleep at = ap (λ (l : List Thread). get_or l 1 idle) threads in
    record {
      quiet = is-quiet (reached writer-held) at threads;
      sleeps = write-sleeps (reached writer-held) 0 at-wait;
      sleeper = at-wait;
      held = by-writer (0, (lit< tt, lit< tt));
    }
