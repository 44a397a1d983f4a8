-- Where the words of objects stand: within the row exactly if there is such an object. Assumes nothing.
use mathlib.Core.Path.{◌≡◌}
use Prim.Native.Nat.{ℕ, ◌+◌, ◌≤◌, ◌<◌}
use native.Mathlib.Omega.{arith}
use borrow.Author.Tests.{lt-ltb, le-ltb}
use Rattle.words.specs.declared.Kind.{Kind}
use Rattle.words.specs.declared.Kind.TheVariants as K
use Rattle.calls.specs.Objects.{WORDS, size_of, base_of, word_of}

-- each kind's words end within the row
pub within : (kind : Kind) → base_of kind + size_of kind ≤ WORDS
within K.Nothing = omega arith
within K.Mutex = omega arith
within K.RwLock = omega arith
within K.WriterNotify = omega arith
within K.Condvar = omega arith
within K.Once = omega arith
within K.Parker = omega arith

-- an object that exists has its word in the row
pub word-there : (kind : Kind) (object : ℕ) → object < size_of kind → word_of kind object < WORDS
unfolding word_of
word-there kind object h = rw (lt-ltb object (size_of kind) h) (omega (arith, within kind))

-- and one that does not has none
pub word_none : (kind : Kind) (object : ℕ) → size_of kind ≤ object → word_of kind object ≡ WORDS
unfolding word_of
word_none kind object h = rw (le-ltb object (size_of kind) h)
