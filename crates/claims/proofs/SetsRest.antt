-- A sound world of the code's sizes that has not started is at rest: it is fresh but for its words and its forgotten reads, and what they
-- are is read off. Assumes nothing.
use mathlib.Core.Path.{◌≡◌, refl, sym, ◌∙◌}
use mathlib.Core.Bool.{Bool, true, false, not, ◌&&◌}
use mathlib.Core.List.{List}
use Prim.Native.Nat.{ℕ, ◌+◌, ◌/◌, ◌%◌, ◌≤◌, ◌<◌}
use native.Mathlib.Omega.{arith}
use lib.Dec.{eqb}
use lib.ListN.{length, get_or, replicate, length-replicate, get_or-replicate}
use lib.Seq.{ext_get_or}
use borrow.Author.Tests.{eqb-true}
use Rattle.words.specs.Mutex.{UNLOCKED}
use Rattle.words.specs.Once.{INCOMPLETE}
use Rattle.words.specs.Parker.{EMPTY}
use Rattle.words.specs.declared.Kind.TheVariants as K
use Rattle.queue.specs.declared.Row.{Row}
use Rattle.queue.specs.Row.{THREADS, empty_row}
use Rattle.queue.proofs.Laws.{empty-length}
use Rattle.queue.proofs.Tidy.{tidy-equal, empty-tidy}
use Rattle.calls.specs.declared.At.{At}
use Rattle.calls.specs.declared.At.TheVariants as A
use Rattle.calls.specs.declared.Thread.{Thread}
use Rattle.calls.specs.Objects.{MUTEXES, RWLOCKS, ONCES, word_of}
use Rattle.calls.specs.Plans.{idle}
use Rattle.calls.specs.Positions.{is_idle}
use Rattle.world.specs.declared.World.{World}
use Rattle.world.specs.World.{fresh_world}
use Rattle.world.specs.Holds.{MUTEXHOLDS, LOCKHOLDS, mutex_slot, lock_slot, holds_mutex, holds_write, reads_of}
use Rattle.sound.specs.Ranges.{all_from, sum_from}
use Rattle.sound.specs.Sound.{word_for, is_asleep, mutex_holders, writers, reads_held, thread_rests, threads_rest, nobody_sleeps, mutex_rests, mutexes_rest, parker_rests, parkers_rest, sound_world}
use Rattle.sound.proofs.Examples.{fresh-sound}
use Rattle.sound.proofs.Ranges.{all-at, sum-at, count_none}
use Rattle.sound.proofs.Readings.{sound-clauses, sleepers-read, set-read}
use Rattle.kept.specs.Shape.{Shaped}
use Rattle.kept.proofs.Tests.{no_way, and_left, and_right}
use Rattle.keeps_counts.proofs.Sets.{Alone, alone-read, LockUnheld, lock-unheld}

-- a list of one value
all_alike : {X : Type 0} (d : X) (l : List X) (n : ℕ) → length l ≡ n → ((i : ℕ) → i < n → get_or l i d ≡ d) → replicate n d ≡ l
all_alike d l n e h =
    ext_get_or d (replicate n d) l (length-replicate n d ∙ sym e)
    (λ i k. let b : i < n = omega (arith, length-replicate n d) in get_or-replicate n i d d b ∙ sym (h i b))

-- a world at rest with these words and forgotten reads
abbrev pub rest_with : List ℕ → List ℕ → World
rest_with words forgotten = record {
  words = words;
  locked = replicate MUTEXHOLDS false;
  written = replicate LOCKHOLDS false;
  reads = replicate LOCKHOLDS 0;
  forgotten = forgotten;
  threads = replicate THREADS idle;
  sleepers = empty_row;
  started = false;
}

-- a thread that is awake and idle
rest-is : (at : At) (asleep : Bool) → not asleep && is_idle at ≡ true → ◌≡◌ {A = Thread} (record { at = at; asleep = asleep }) idle
unfolding is_idle
rest-is at true e = no_way e
rest-is A.Idle false e = refl
rest-is (A.Mutex mutex p) false e = no_way e
rest-is (A.RwLock lock p) false e = no_way e
rest-is (A.Condvar condvar p) false e = no_way e
rest-is (A.Once once p) false e = no_way e
rest-is (A.Parker p) false e = no_way e

-- what the soundness of a world that has not started says of each object and each place
module _ (w : World) (alone : Alone w) where
  pub mutex-rests : (m : ℕ) → m < MUTEXES → (word_for w.words K.Mutex m ≡ UNLOCKED) × (mutex_holders w.locked m ≡ 0)
  unfolding mutexes_rest mutex_rests
  mutex-rests m h =
      let a : Bool = eqb (word_for w.words K.Mutex m) UNLOCKED in
      let b : Bool = eqb (mutex_holders w.locked m) 0 in
      let e : (a && b) ≡ true = all-at (mutex_rests w.words w.locked) MUTEXES m alone.mutexes h in
      (eqb-true (word_for w.words K.Mutex m) UNLOCKED (and_left a b e), eqb-true (mutex_holders w.locked m) 0 (and_right a b e))

  pub parker-rests : (t : ℕ) → t < THREADS → word_for w.words K.Parker t ≡ EMPTY
  unfolding parkers_rest parker_rests
  parker-rests t h = eqb-true (word_for w.words K.Parker t) EMPTY (all-at (parker_rests w.words) THREADS t alone.parkers h)

  -- every place of every table is one of a thread and an object
  locked-rest : (i : ℕ) → i < MUTEXHOLDS → get_or w.locked i false ≡ false
  unfolding mutex_holders holds_mutex
  locked-rest i h =
      let e : mutex_slot (i / MUTEXES) (i % MUTEXES) ≡ i = omega arith in
      rw e at
      (count_none (holds_mutex w.locked (i % MUTEXES)) THREADS (i / MUTEXES) (mutex-rests (i % MUTEXES) (omega arith)).1 (omega arith))

  written-rest : (i : ℕ) → i < LOCKHOLDS → get_or w.written i false ≡ false
  unfolding LockUnheld writers holds_write
  written-rest i h =
      let e : lock_slot (i / RWLOCKS) (i % RWLOCKS) ≡ i = omega arith in
      rw e at
      (count_none (holds_write w.written (i % RWLOCKS)) THREADS (i / RWLOCKS) (lock-unheld w (i % RWLOCKS) alone (omega arith)).no-writer (omega arith))

  reads-rest : (i : ℕ) → i < LOCKHOLDS → get_or w.reads i 0 ≡ 0
  unfolding LockUnheld reads_held reads_of
  reads-rest i h =
      let e : lock_slot (i / RWLOCKS) (i % RWLOCKS) ≡ i = omega arith in
      let held : get_or w.forgotten (i % RWLOCKS) 0 + sum_from (reads_of w.reads (i % RWLOCKS)) THREADS 0 ≡ get_or w.forgotten (i % RWLOCKS) 0 =
      (lock-unheld w (i % RWLOCKS) alone (omega arith)).no_reader in
      let part : get_or w.reads i 0 ≤ sum_from (reads_of w.reads (i % RWLOCKS)) THREADS 0 =
      rw e at (sum-at (reads_of w.reads (i % RWLOCKS)) THREADS (i / RWLOCKS) (omega arith)) in
      omega arith

  thread-rests : (t : ℕ) → t < THREADS → get_or w.threads t idle ≡ idle
  unfolding threads_rest thread_rests is_asleep
  thread-rests t h =
      rest-is (get_or w.threads t idle).at (get_or w.threads t idle).asleep (all-at (thread_rests w.threads) THREADS t alone.threads h)

pub is-alone : (w : World) → sound_world w ≡ true → w.started ≡ false → Alone w
is-alone w sound unstarted = alone-read w (set-read w unstarted (sound-clauses w sound).begun)

pub fresh-alone : Alone fresh_world
unfolding fresh_world
fresh-alone = is-alone fresh_world fresh-sound refl

pub fresh-once : (o : ℕ) → o < ONCES → word_for fresh_world.words K.Once o ≡ INCOMPLETE
unfolding all_from word_for word_of fresh_world
fresh-once o h =
    eqb-true (word_for fresh_world.words K.Once o) INCOMPLETE
    (all-at (λ (i : ℕ). eqb (word_for fresh_world.words K.Once i) INCOMPLETE) ONCES o refl h)

-- its words and forgotten reads say all of it
module _ (w : World) (shaped : Shaped w) (sound : sound_world w ≡ true) (unstarted : w.started ≡ false) where
  alone : Alone w
  alone = is-alone w sound unstarted

  row-rests : empty_row ≡ w.sleepers
  unfolding nobody_sleeps
  row-rests =
      tidy-equal empty_row w.sleepers empty-length shaped.places empty-tidy (sleepers-read w (sound-clauses w sound).stand).tidy
      (rw (eqb-true w.sleepers.count 0 alone.sleepers))

  pub at_rest : rest_with w.words w.forgotten ≡ w
  at_rest =
      by
      (all_alike false w.locked MUTEXHOLDS shaped.locked (locked-rest w alone))
      (all_alike false w.written LOCKHOLDS shaped.written (written-rest w alone))
      (all_alike 0 w.reads LOCKHOLDS shaped.reads (reads-rest w alone))
      (all_alike idle w.threads THREADS shaped.threads (thread-rests w alone))
      row-rests (sym unstarted)
    where
      by :
          {locked written : List Bool} {reads : List ℕ} {threads : List Thread} {row : Row} {started : Bool} → locked ≡ w.locked →
          written ≡ w.written → reads ≡ w.reads → threads ≡ w.threads → row ≡ w.sleepers → started ≡ w.started →
          record {
            words = w.words;
            locked = locked;
            written = written;
            reads = reads;
            forgotten = w.forgotten;
            threads = threads;
            sleepers = row;
            started = started;
          } ≡ w
      by a b c d e f = rw (a, b, c, d, e, f)
