-- Holds: each thread's place in the tables of holds, what stands there, and whether a thread has the hold that a position needs; nothing is
-- held past the end of a table. Assumes nothing.
use Rattle.std.specs.Prelude.{ℕ, ◌+◌, ◌*◌, ◌%◌, Bool, true, false, List, ltb, get_or}
use Rattle.words.specs.declared.Needs.{Needs}
use Rattle.words.specs.declared.Needs.TheVariants as N
use Rattle.queue.specs.Row.{THREADS}
use Rattle.calls.specs.declared.Need.{Need}
use Rattle.calls.specs.Objects.{MUTEXES, RWLOCKS}

-- a hold of each thread on each mutex, and on each RwLock
abbrev pub MUTEXHOLDS : ℕ
MUTEXHOLDS = THREADS * MUTEXES

abbrev pub LOCKHOLDS : ℕ
LOCKHOLDS = THREADS * RWLOCKS

-- the place of thread t's hold of an object in its table
abbrev pub mutex_slot : ℕ → ℕ → ℕ
mutex_slot t object = (t * MUTEXES + object) % MUTEXHOLDS

abbrev pub lock_slot : ℕ → ℕ → ℕ
lock_slot t object = (t * RWLOCKS + object) % LOCKHOLDS

-- thread t's hold of a mutex, its write hold of an RwLock, and how often it holds that for reading
unfoldable pub holds_mutex : List Bool → ℕ → ℕ → Bool
holds_mutex locked mutex t = get_or locked (mutex_slot t mutex) false

unfoldable pub holds_write : List Bool → ℕ → ℕ → Bool
holds_write written lock t = get_or written (lock_slot t lock) false

unfoldable pub reads_of : List ℕ → ℕ → ℕ → ℕ
reads_of reads lock t = get_or reads (lock_slot t lock) 0

-- whether a thread with such holds has the one that is needed
unfoldable pub is_held : Needs → Bool → Bool → ℕ → Bool
is_held N.Nothing mutex write reads = true
is_held N.Mutex mutex write reads = mutex
is_held N.Read mutex write reads = ltb 0 reads
is_held N.Write mutex write reads = write

unfoldable pub has_hold : List Bool → List Bool → List ℕ → ℕ → Need → Bool
has_hold locked written reads t need =
    is_held need.hold (holds_mutex locked need.object t) (holds_write written need.object t) (reads_of reads need.object t)
