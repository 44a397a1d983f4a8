-- Which worlds are sound, clause by clause as document 01 has them, for any world value: what stands past the end of a list is idle, false or 0. Assumes nothing.
use Rattle.std.specs.Prelude.{ℕ, ◌+◌, Bool, cond, not, ◌&&◌, ◌||◌, List, eqb, leb, get_or}
use Rattle.words.specs.Mutex.{UNLOCKED, CONTENDED}
use Rattle.words.specs.Once.{INCOMPLETE, COMPLETE, QUEUED}
use Rattle.words.specs.Parker.{EMPTY}
use Rattle.words.specs.RwLock.{MASK, MAX_READERS, count}
use Rattle.words.specs.declared.Kind.{Kind}
use Rattle.words.specs.declared.Kind.TheVariants as K
use Rattle.queue.specs.declared.Row.{Row}
use Rattle.queue.specs.Row.{THREADS, sleepers, occ, is_tidy}
use Rattle.calls.specs.declared.Thread.{Thread}
use Rattle.calls.specs.Objects.{MUTEXES, RWLOCKS, ONCES, word_of}
use Rattle.calls.specs.Plans.{idle}
use Rattle.calls.specs.Positions.{exists, passed_of, waits_of, is_idle, need_of}
use Rattle.world.specs.declared.World.{World}
use Rattle.world.specs.Holds.{holds_mutex, holds_write, reads_of, has_hold}
use Rattle.sound.specs.Ranges.{all_from, sum_from, count_from}

-- the word of an object
unfoldable pub word_for : List ℕ → Kind → ℕ → ℕ
word_for words kind object = get_or words (word_of kind object) 0

-- 1. Every index exists: a position names only objects that do.
unfoldable pub name_exists : List Thread → ℕ → Bool
name_exists threads t = exists (get_or threads t idle).at

unfoldable pub names_exist : World → Bool
names_exist w = all_from (name_exists w.threads) THREADS 0

-- 2. The values at a position have passed the tests that lead there: spins are at most 100, carried Once values 0 to 7.
unfoldable pub value_passed : List Thread → ℕ → Bool
value_passed threads t = passed_of (get_or threads t idle).at

unfoldable pub values_passed : World → Bool
values_passed w = all_from (value_passed w.threads) THREADS 0

-- 3. A thread asleep stands at a futex_wait and once in the row, one awake not at all, and nobody else is there. The queue that a sleeper
-- stands in is that of the word its call waits on, since the word is found from the position.
unfoldable pub is_asleep : List Thread → ℕ → Bool
is_asleep threads t = (get_or threads t idle).asleep

unfoldable pub stands_as : Thread → ℕ → Bool
stands_as th times = cond th.asleep (waits_of th.at && eqb times 1) (eqb times 0)

unfoldable pub sleeper_stands : List Thread → Row → ℕ → Bool
sleeper_stands threads row t = stands_as (get_or threads t idle) (occ t (sleepers row))

unfoldable pub every_sleeper_stands : List Thread → Row → Bool
every_sleeper_stands threads row = all_from (sleeper_stands threads row) THREADS 0

unfoldable pub asleep_count : List Thread → ℕ
asleep_count threads = count_from (is_asleep threads) THREADS 0

unfoldable pub sleepers_stand : World → Bool
sleepers_stand w =
    is_tidy w.sleepers && every_sleeper_stands w.threads w.sleepers && eqb w.sleepers.count (asleep_count w.threads)

-- 4. Mutex words are 0 to 2, Once words 0 to 7.
unfoldable pub mutex_in_range : List ℕ → ℕ → Bool
mutex_in_range words mutex = leb (word_for words K.Mutex mutex) CONTENDED

unfoldable pub mutexes_in_range : List ℕ → Bool
mutexes_in_range words = all_from (mutex_in_range words) MUTEXES 0

unfoldable pub once_in_range : List ℕ → ℕ → Bool
once_in_range words once = leb (word_for words K.Once once) (INCOMPLETE + QUEUED)

unfoldable pub onces_in_range : List ℕ → Bool
onces_in_range words = all_from (once_in_range words) ONCES 0

unfoldable pub words_in_range : World → Bool
words_in_range w = mutexes_in_range w.words && onces_in_range w.words

-- 5. A mutex word is 0 and no thread holds it, or it is not 0 and one thread does.
unfoldable pub mutex_holders : List Bool → ℕ → ℕ
mutex_holders locked mutex = count_from (holds_mutex locked mutex) THREADS 0

unfoldable pub mutex_agrees : List ℕ → List Bool → ℕ → Bool
mutex_agrees words locked mutex = eqb (mutex_holders locked mutex) (cond (eqb (word_for words K.Mutex mutex) UNLOCKED) 0 1)

unfoldable pub mutexes_agree : World → Bool
mutexes_agree w = all_from (mutex_agrees w.words w.locked) MUTEXES 0

-- 6. No thread holds an RwLock for writing and its low 30 bits are the reads held and forgotten, at most MAX_READERS; or one thread does,
-- the low 30 bits are MASK, and no read is held or forgotten. The flags are free.
unfoldable pub writers : List Bool → ℕ → ℕ
writers written lock = count_from (holds_write written lock) THREADS 0

unfoldable pub reads_held : List ℕ → List ℕ → ℕ → ℕ
reads_held forgotten reads lock = get_or forgotten lock 0 + sum_from (reads_of reads lock) THREADS 0

unfoldable pub count_agrees : ℕ → ℕ → ℕ → Bool
count_agrees low writing held =
    cond (eqb writing 0) (eqb low held && leb held MAX_READERS) (eqb writing 1 && eqb low MASK && eqb held 0)

unfoldable pub lock_agrees : List ℕ → List Bool → List ℕ → List ℕ → ℕ → Bool
lock_agrees words written reads forgotten lock =
    count_agrees (count (word_for words K.RwLock lock)) (writers written lock) (reads_held forgotten reads lock)

unfoldable pub locks_agree : World → Bool
locks_agree w = all_from (lock_agrees w.words w.written w.reads w.forgotten) RWLOCKS 0

-- 7. A thread still before the operation that frees or downgrades has that hold.
unfoldable pub need_held : List Thread → List Bool → List Bool → List ℕ → ℕ → Bool
need_held threads locked written reads t = has_hold locked written reads t (need_of (get_or threads t idle).at)

unfoldable pub needs_held : World → Bool
needs_held w = all_from (need_held w.threads w.locked w.written w.reads) THREADS 0

-- 8. An act other than set was accepted, or set acts make the world from a fresh one: they change forgotten reads with their state, notify
-- and condvar words, which are free, and Onces to COMPLETE.
unfoldable pub thread_rests : List Thread → ℕ → Bool
thread_rests threads t = not (is_asleep threads t) && is_idle (get_or threads t idle).at

unfoldable pub threads_rest : List Thread → Bool
threads_rest threads = all_from (thread_rests threads) THREADS 0

unfoldable pub nobody_sleeps : Row → Bool
nobody_sleeps row = eqb row.count 0

unfoldable pub mutex_rests : List ℕ → List Bool → ℕ → Bool
mutex_rests words locked mutex = eqb (word_for words K.Mutex mutex) UNLOCKED && eqb (mutex_holders locked mutex) 0

unfoldable pub mutexes_rest : List ℕ → List Bool → Bool
mutexes_rest words locked = all_from (mutex_rests words locked) MUTEXES 0

unfoldable pub state_is_set : ℕ → ℕ → ℕ → ℕ → Bool
state_is_set state forgotten writing held = eqb writing 0 && eqb held forgotten && eqb state forgotten && leb forgotten MAX_READERS

unfoldable pub lock_is_set : List ℕ → List Bool → List ℕ → List ℕ → ℕ → Bool
lock_is_set words written reads forgotten lock =
    state_is_set (word_for words K.RwLock lock) (get_or forgotten lock 0) (writers written lock) (reads_held forgotten reads lock)

unfoldable pub locks_are_set : List ℕ → List Bool → List ℕ → List ℕ → Bool
locks_are_set words written reads forgotten = all_from (lock_is_set words written reads forgotten) RWLOCKS 0

unfoldable pub once_is_set : List ℕ → ℕ → Bool
once_is_set words once = eqb (word_for words K.Once once) INCOMPLETE || eqb (word_for words K.Once once) COMPLETE

unfoldable pub onces_are_set : List ℕ → Bool
onces_are_set words = all_from (once_is_set words) ONCES 0

unfoldable pub parker_rests : List ℕ → ℕ → Bool
parker_rests words t = eqb (word_for words K.Parker t) EMPTY

unfoldable pub parkers_rest : List ℕ → Bool
parkers_rest words = all_from (parker_rests words) THREADS 0

unfoldable pub set_alone : World → Bool
set_alone w =
    threads_rest w.threads && nobody_sleeps w.sleepers && mutexes_rest w.words w.locked
    && locks_are_set w.words w.written w.reads w.forgotten && onces_are_set w.words && parkers_rest w.words

unfoldable pub started_or_set : World → Bool
started_or_set w = w.started || set_alone w

-- a sound world
unfoldable pub sound_world : World → Bool
sound_world w =
    names_exist w && values_passed w && sleepers_stand w && words_in_range w && mutexes_agree w && locks_agree w && needs_held w && started_or_set w
