-- Each object has a word of its own: two objects that exist have one word only if they are one object; and what a store in the word of a
-- step's operand does to the words of the others. Assumes nothing.
use mathlib.Core.Path.{◌≡◌, refl, sym, ap, ◌∙◌}
use mathlib.Core.Bool.{Bool, true, false, cond}
use mathlib.Core.List.{List}
use Prim.Native.Nat.{ℕ, ◌+◌, ◌<◌}
use native.Mathlib.Omega.{arith}
use lib.Dec.{ltb}
use lib.ListN.{length, set}
use lib.Seq.{get_or-set_same, get_or-set_other}
use borrow.Author.Tests.{ltb-true, ltb-false, lt-ltb, le-ltb}
use Rattle.words.specs.declared.Kind.{Kind}
use Rattle.words.specs.declared.Kind.TheVariants as K
use Rattle.calls.specs.declared.At.{At}
use Rattle.calls.specs.Objects.{WORDS, size_of, base_of, word_of}
use Rattle.calls.specs.Positions.{operand_of}
use Rattle.calls.proofs.Objects.{word_none}
use Rattle.kept.specs.Laws.{kind_of, object_of}
use Rattle.kept.proofs.Places.{operand-is}
use Rattle.sound.specs.Sound.{word_for}

-- the kind that a word is of, from its number
unfoldable kind_at : ℕ → Kind
kind_at k =
    cond (ltb k (base_of K.RwLock)) K.Mutex
    (cond (ltb k (base_of K.WriterNotify)) K.RwLock
    (cond (ltb k (base_of K.Condvar)) K.WriterNotify
    (cond (ltb k (base_of K.Once)) K.Condvar
    (cond (ltb k (base_of K.Parker)) K.Once K.Parker))))

kind-at : (kind : Kind) (object : ℕ) → object < size_of kind → kind_at (base_of kind + object) ≡ kind
unfolding kind_at
kind-at K.Nothing o h = absurd (omega arith)
kind-at K.Mutex o h = rw (lt-ltb (base_of K.Mutex + o) (base_of K.RwLock) (omega arith))
kind-at K.RwLock o h =
    rw (le-ltb (base_of K.RwLock + o) (base_of K.RwLock) (omega arith), lt-ltb (base_of K.RwLock + o) (base_of K.WriterNotify) (omega arith))
kind-at K.WriterNotify o h =
    rw (
      le-ltb (base_of K.WriterNotify + o) (base_of K.RwLock) (omega arith),
      le-ltb (base_of K.WriterNotify + o) (base_of K.WriterNotify) (omega arith),
      lt-ltb (base_of K.WriterNotify + o) (base_of K.Condvar) (omega arith),
    )
kind-at K.Condvar o h =
    rw (
      le-ltb (base_of K.Condvar + o) (base_of K.RwLock) (omega arith),
      le-ltb (base_of K.Condvar + o) (base_of K.WriterNotify) (omega arith),
      le-ltb (base_of K.Condvar + o) (base_of K.Condvar) (omega arith),
      lt-ltb (base_of K.Condvar + o) (base_of K.Once) (omega arith),
    )
kind-at K.Once o h =
    rw (
      le-ltb (base_of K.Once + o) (base_of K.RwLock) (omega arith),
      le-ltb (base_of K.Once + o) (base_of K.WriterNotify) (omega arith),
      le-ltb (base_of K.Once + o) (base_of K.Condvar) (omega arith),
      le-ltb (base_of K.Once + o) (base_of K.Once) (omega arith),
      lt-ltb (base_of K.Once + o) (base_of K.Parker) (omega arith),
    )
kind-at K.Parker o h =
    rw (
      le-ltb (base_of K.Parker + o) (base_of K.RwLock) (omega arith),
      le-ltb (base_of K.Parker + o) (base_of K.WriterNotify) (omega arith),
      le-ltb (base_of K.Parker + o) (base_of K.Condvar) (omega arith),
      le-ltb (base_of K.Parker + o) (base_of K.Once) (omega arith),
      le-ltb (base_of K.Parker + o) (base_of K.Parker) (omega arith),
    )

-- the word of an object that exists
pub word-is : (kind : Kind) (object : ℕ) → object < size_of kind → word_of kind object ≡ base_of kind + object
unfolding word_of
word-is kind object h = rw (lt-ltb object (size_of kind) h)

-- one word, one object
pub words-apart :
    (kind other : Kind) (object number : ℕ) → object < size_of kind → number < size_of other → word_of kind object ≡ word_of other number →
    (kind ≡ other) × (object ≡ number)
words-apart kind other object number a b e =
    let s : base_of kind + object ≡ base_of other + number = sym (word-is kind object a) ∙ (e ∙ word-is other number b) in
    let q : kind ≡ other = sym (kind-at kind object a) ∙ (ap kind_at s ∙ kind-at other number b) in
    let z : base_of kind ≡ base_of other = ap base_of q in
    (q, omega arith)

-- an operand within the row is of an object that exists
pub operand-object : (t : ℕ) (at : At) → operand_of t at < WORDS → object_of t at < size_of (kind_of at)
operand-object t at h = by (ltb (object_of t at) (size_of (kind_of at))) refl
  where
    by : (c : Bool) → ltb (object_of t at) (size_of (kind_of at)) ≡ c → object_of t at < size_of (kind_of at)
    by true e = ltb-true (object_of t at) (size_of (kind_of at)) e
    by false e =
        let z : operand_of t at ≡ WORDS = operand-is t at ∙ word_none (kind_of at) (object_of t at) (omega (arith, ltb-false (object_of t at) (size_of (kind_of at)) e)) in
        absurd (omega arith)

-- a store in a word: that word is what was stored, the words of other objects are as they were
pub word-own :
    (words : List ℕ) (kind : Kind) (object k new : ℕ) → k < length words → k ≡ word_of kind object → word_for (set words k new) kind object ≡ new
unfolding word_for
word-own words kind object k new h e = rw (sym e) (get_or-set_same words k new 0 h)

pub word-other :
    (words : List ℕ) (kind : Kind) (object k new : ℕ) → (word_of kind object ≡ k → ⊥) → word_for (set words k new) kind object ≡ word_for words kind object
unfolding word_for
word-other words kind object k new n = get_or-set_other words k (word_of kind object) new 0 n
