-- The word of an object, and the word that a thread's next operation is about, have a number in the row of words, or that of its end. Assumes nothing.
use Rattle.std.proofs.Common.{◌≡◌, refl, arith, ℕ, ◌+◌, ◌≤◌, Bool, true, false}
use Rattle.std.specs.Prelude.{cond, ltb, None, Some}
use Rattle.std.specs.Option.{unwrap_or}
use borrow.Author.Tests.{ltb-true, ltb-false}
use Rattle.words.specs.Found.{found}
use Rattle.words.specs.declared.Kind.{Kind}
use Rattle.words.specs.declared.Kind.TheVariants as K
use Rattle.mutex.specs.Mutex as Mx
use Rattle.rwlock.specs.Positions as RwP
use Rattle.condvar.specs.Condvar as Cv
use Rattle.once.specs.Once as On
use Rattle.thread_parking.specs.ThreadParking as Pk
use Rattle.calls.specs.declared.At.{At}
use Rattle.calls.specs.declared.At.TheVariants as A
use Rattle.calls.specs.Objects.{WORDS, size_of, base_of, word_of}
use Rattle.calls.specs.Positions.{operand_of}

row-fits : (kind : Kind) → base_of kind + size_of kind ≤ WORDS
row-fits K.Nothing = omega arith
row-fits K.Mutex = omega arith
row-fits K.RwLock = omega arith
row-fits K.WriterNotify = omega arith
row-fits K.Condvar = omega arith
row-fits K.Once = omega arith
row-fits K.Parker = omega arith

word_le : (kind : Kind) (object : ℕ) → word_of kind object ≤ WORDS
unfolding word_of
word_le kind object = by (ltb object (size_of kind)) refl
  where
    by : (c : Bool) → ltb object (size_of kind) ≡ c → cond c (base_of kind + object) WORDS ≤ WORDS
    by true q = omega (arith, row-fits kind, ltb-true object (size_of kind) q)
    by false q = omega arith

operand_le : (t : ℕ) (at : At) → operand_of t at ≤ WORDS
unfolding operand_of
operand_le t A.Idle = omega arith
operand_le t (A.Mutex mutex p) = word_le (Mx.operand_of p) mutex
operand_le t (A.RwLock lock p) = word_le (RwP.operand_of p) lock
operand_le t (A.Condvar condvar p) = word_le (Cv.operand_of p) (Cv.object_of condvar p)
operand_le t (A.Once once p) = word_le (On.operand_of p) once
operand_le t (A.Parker p) = word_le (Pk.operand_of p) (Pk.parker_of t p)

-- what is found, or else the number past the end
found-or : (k n : ℕ) → k ≤ n → unwrap_or (found n k) n ≡ k
found-or k n h = by (ltb k n) refl
  where
    by : (c : Bool) → ltb k n ≡ c → unwrap_or (cond c (Some k) None) n ≡ k
    by true q = refl
    by false q = let e : n ≡ k = omega (arith, ltb-false k n q) in e

pub operand_found : (t : ℕ) (at : At) → unwrap_or (found WORDS (operand_of t at)) WORDS ≡ operand_of t at
operand_found t at = found-or (operand_of t at) WORDS (operand_le t at)

pub word_found : (kind : Kind) (object : ℕ) → unwrap_or (found WORDS (word_of kind object)) WORDS ≡ word_of kind object
word_found kind object = found-or (word_of kind object) WORDS (word_le kind object)
