-- How many objects of each kind there are, and where each one's word stands in the row of all words. Assumes nothing.
use Rattle.std.specs.Prelude.{ℕ, ◌+◌, cond, ltb}
use Rattle.queue.specs.Row.{THREADS}
use Rattle.words.specs.declared.Kind.{Kind}
use Rattle.words.specs.declared.Kind.TheVariants as K

abbrev pub MUTEXES : ℕ
MUTEXES = 4

abbrev pub RWLOCKS : ℕ
RWLOCKS = 4

abbrev pub CONDVARS : ℕ
CONDVARS = 4

abbrev pub ONCES : ℕ
ONCES = 4

-- the row: mutexes, RwLock states, writer_notify words, condvars, Onces, then a Parker for each thread
abbrev pub WORDS : ℕ
WORDS = MUTEXES + RWLOCKS + RWLOCKS + CONDVARS + ONCES + THREADS

-- how many words of a kind there are
abbrev pub size_of : Kind → ℕ
size_of K.Nothing = 0
size_of K.Mutex = MUTEXES
size_of K.RwLock = RWLOCKS
size_of K.WriterNotify = RWLOCKS
size_of K.Condvar = CONDVARS
size_of K.Once = ONCES
size_of K.Parker = THREADS

-- where they start
abbrev pub base_of : Kind → ℕ
base_of K.Nothing = 0
base_of K.Mutex = 0
base_of K.RwLock = MUTEXES
base_of K.WriterNotify = MUTEXES + RWLOCKS
base_of K.Condvar = MUTEXES + RWLOCKS + RWLOCKS
base_of K.Once = MUTEXES + RWLOCKS + RWLOCKS + CONDVARS
base_of K.Parker = MUTEXES + RWLOCKS + RWLOCKS + CONDVARS + ONCES

-- the number of the word of an object; past the row where there is none
unfoldable pub word_of : Kind → ℕ → ℕ
word_of kind object = cond (ltb object (size_of kind)) (base_of kind + object) WORDS
