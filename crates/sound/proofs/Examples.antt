-- A fresh world is sound. Worlds that are forged in one thing are refused for it: for each clause one that fails it alone, and further ones
-- that come near; beside them worlds that pass. Assumes nothing.
use mathlib.Core.Path.{◌≡◌, refl}
use mathlib.Core.Bool.{Bool, true, false}
use mathlib.Core.List.{List, [], ◌∷◌, map}
use Prim.Native.Nat.{ℕ, ◌+◌, ◌-◌, ◌^◌}
use lib.ListN.{set, replicate}
use Rattle.words.specs.RwLock.{MASK, MAX_READERS, READERS_WAITING, count}
use Rattle.words.specs.declared.Kind.TheVariants as K
use Rattle.queue.specs.declared.Row.{Row}
use Rattle.queue.specs.Row.{THREADS, empty_row, row_of, occ, all_zero, is_tidy}
use Rattle.mutex.specs.declared.LockAt.TheVariants as L
use Rattle.mutex.specs.declared.MutexAt.TheVariants as M
use Rattle.mutex.specs.Mutex as Mx
use Rattle.calls.specs.declared.At.{At}
use Rattle.calls.specs.declared.At.TheVariants as A
use Rattle.calls.specs.declared.Thread.{Thread}
use Rattle.calls.specs.Objects.{MUTEXES, base_of, word_of}
use Rattle.calls.specs.Plans.{awake, asleep}
use Rattle.calls.specs.Positions.{entry_of, exists, passed_of, waits_of, need_of, is_idle}
use Rattle.world.specs.declared.World.{World}
use Rattle.world.specs.World.{fresh_world}
use Rattle.world.specs.Holds.{lock_slot, holds_mutex, holds_write, reads_of, is_held, has_hold}
use Rattle.sound.specs.Ranges.{all_from, sum_from, count_from}
use Rattle.sound.specs.Sound.{word_for, name_exists, names_exist, value_passed, values_passed, is_asleep, stands_as, sleeper_stands, every_sleeper_stands, asleep_count, sleepers_stand, mutex_in_range, mutexes_in_range, once_in_range, onces_in_range, words_in_range, mutex_holders, mutex_agrees, mutexes_agree, writers, reads_held, count_agrees, lock_agrees, locks_agree, need_held, needs_held, thread_rests, threads_rest, nobody_sleeps, mutex_rests, mutexes_rest, state_is_set, lock_is_set, locks_are_set, once_is_set, onces_are_set, parker_rests, parkers_rest, set_alone, started_or_set, sound_world}

-- A started world that is fresh but for thread 0's record and the row; but for a word and the holds; and one not started, but for the words.
abbrev pub world-with : Bool → List ℕ → List Bool → List Bool → List ℕ → List ℕ → List Thread → Row → World
world-with started words locked written reads forgotten threads row = record {
  words = words;
  locked = locked;
  written = written;
  reads = reads;
  forgotten = forgotten;
  threads = threads;
  sleepers = row;
  started = started;
}

abbrev pub thread-at : Thread → Row → World
thread-at th row =
    world-with true fresh_world.words fresh_world.locked fresh_world.written fresh_world.reads fresh_world.forgotten
    (set fresh_world.threads 0 th) row

abbrev pub word_at : ℕ → ℕ → World
word_at k word =
    world-with true (set fresh_world.words k word) fresh_world.locked fresh_world.written fresh_world.reads fresh_world.forgotten
    fresh_world.threads empty_row

abbrev pub lock-at : ℕ → ℕ → List Bool → List ℕ → World
lock-at state forgotten written reads =
    world-with true (set fresh_world.words (base_of K.RwLock) state) fresh_world.locked written reads
    (set fresh_world.forgotten 0 forgotten) fresh_world.threads empty_row

abbrev pub unstarted : List ℕ → List ℕ → World
unstarted words forgotten =
    world-with false words fresh_world.locked fresh_world.written fresh_world.reads forgotten fresh_world.threads empty_row

-- thread 0 at a futex_wait of mutex 0's
abbrev pub waiting : At
waiting = A.Mutex 0 (M.Lock L.Wait)

-- what each clause says of a world, and all of them but one
unfoldable pub verdicts : World → List Bool
verdicts w =
    names_exist w ∷ values_passed w ∷ sleepers_stand w ∷ words_in_range w ∷ mutexes_agree w ∷ locks_agree w ∷ needs_held w ∷ started_or_set w ∷ []

unfoldable pub all_but : ℕ → List Bool
all_but k = set (replicate 8 true) k false

-- for each clause a world that fails it alone
unfoldable pub forged : List World
forged =
    -- a lock of a mutex that is not there
    thread-at (awake (entry_of 0 MUTEXES 0)) empty_row
    -- 101 spins left
    ∷ thread-at (awake (A.Mutex 0 (M.Lock (L.Spin 101)))) empty_row
    -- a thread in the row that is awake
    ∷ thread-at (awake waiting) (row_of (0 ∷ []))
    -- a Once word of 8
    ∷ word_at (base_of K.Once) 8
    -- a mutex word of 1, and nobody holds it
    ∷ word_at (base_of K.Mutex) 1
    -- two threads with 2 ^ 31 reads each of a lock that is free: their sum is 0 in 32 bits
    ∷ lock-at 0 0 fresh_world.written (set (set fresh_world.reads (lock_slot 0 0) (2 ^ 31)) (lock_slot 1 0) (2 ^ 31))
    -- an unlock without the hold
    ∷ thread-at (awake (entry_of 2 0 0)) empty_row
    -- a Parker word in a world that is not started
    ∷ unstarted (set fresh_world.words (base_of K.Parker) 1) fresh_world.forgotten
    ∷ []

-- further ones
unfoldable pub near : List World
near =
    -- a sleeper twice in the row, one that is not in it, one with a number in the row that is no thread's, one that is not at a futex_wait
    thread-at (asleep waiting) (row_of (0 ∷ 0 ∷ []))
    ∷ thread-at (asleep waiting) empty_row
    ∷ thread-at (asleep waiting) (row_of (0 ∷ THREADS ∷ []))
    ∷ thread-at (asleep (entry_of 0 0 0)) (row_of (0 ∷ []))
    -- a count past the last place, the largest one too, and a place that is not used and not 0
    ∷ thread-at (asleep waiting) (record { places = replicate THREADS 0; count = THREADS + 1 })
    ∷ thread-at (asleep waiting) (record { places = replicate THREADS 0; count = 2 ^ 64 - 1 })
    ∷ thread-at (asleep waiting) (record { places = set (replicate THREADS 0) 1 1; count = 1 })
    -- spins of 255
    ∷ thread-at (awake (A.Mutex 0 (M.Lock (L.SpinAgain 255)))) empty_row
    -- one reader more than there may be; a write hold on a lock that is free, and two on one that is write locked
    ∷ lock-at (MAX_READERS + 1) (MAX_READERS + 1) fresh_world.written fresh_world.reads
    ∷ lock-at 0 0 (set fresh_world.written (lock_slot 0 0) true) fresh_world.reads
    ∷ lock-at MASK 0 (set (set fresh_world.written (lock_slot 0 0) true) (lock_slot 1 0) true) fresh_world.reads
    -- a flag, and a Once that runs, in a world that is not started
    ∷ unstarted (set fresh_world.words (base_of K.RwLock) READERS_WAITING) fresh_world.forgotten
    ∷ unstarted (set fresh_world.words (base_of K.Once) 1) fresh_world.forgotten
    ∷ []

unfoldable pub passing : List World
passing =
    -- a sleeper
    thread-at (asleep waiting) (row_of (0 ∷ []))
    -- as many readers as there may be, with a flag; a writer with a flag
    ∷ lock-at (READERS_WAITING + MAX_READERS) (MAX_READERS - 1) fresh_world.written (set fresh_world.reads (lock_slot 1 0) 1)
    ∷ lock-at (READERS_WAITING + MASK) 0 (set fresh_world.written (lock_slot 0 0) true) fresh_world.reads
    -- any Parker word in a started world; forgotten reads, a notify word, a condvar word and a complete Once in one that is not
    ∷ word_at (base_of K.Parker) 7
    ∷ unstarted
    (set (set (set (set fresh_world.words (base_of K.RwLock) 5) (base_of K.WriterNotify) 6) (base_of K.Condvar) 7) (base_of K.Once) 0)
    (set fresh_world.forgotten 0 5)
    ∷ []

examples :
    (sound_world fresh_world ≡ true)
    × ((map verdicts forged ≡ map all_but (0 ∷ 1 ∷ 2 ∷ 3 ∷ 4 ∷ 5 ∷ 6 ∷ 7 ∷ []))
    × ((map sound_world near ≡ replicate 13 false) × (map sound_world passing ≡ replicate 5 true)))
unfolding fresh_world forged near passing verdicts all_but row_of entry_of Mx.entry_of Mx.passed_of Mx.lock_passed Mx.waits_of Mx.lock_waits Mx.needs_of Mx.unlock_needs count occ all_zero is_tidy word_of exists passed_of waits_of need_of all_from sum_from count_from word_for holds_mutex holds_write reads_of name_exists names_exist value_passed values_passed is_asleep stands_as sleeper_stands every_sleeper_stands asleep_count sleepers_stand mutex_in_range mutexes_in_range once_in_range onces_in_range words_in_range mutex_holders mutex_agrees mutexes_agree writers reads_held count_agrees lock_agrees locks_agree is_held has_hold need_held needs_held is_idle thread_rests threads_rest nobody_sleeps mutex_rests mutexes_rest state_is_set lock_is_set locks_are_set once_is_set onces_are_set parker_rests parkers_rest set_alone started_or_set sound_world
examples = (refl, (refl, (refl, refl)))

pub fresh-sound : sound_world fresh_world ≡ true
fresh-sound = examples.0

pub forged-refused : map verdicts forged ≡ map all_but (0 ∷ 1 ∷ 2 ∷ 3 ∷ 4 ∷ 5 ∷ 6 ∷ 7 ∷ [])
forged-refused = examples.1.0

pub near-refused : map sound_world near ≡ replicate 13 false
near-refused = examples.1.1.0

pub passing-accepted : map sound_world passing ≡ replicate 5 true
passing-accepted = examples.1.1.1
