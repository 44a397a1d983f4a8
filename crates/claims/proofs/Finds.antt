-- What a change of holds finds in the tables of a sound world: a hold that is taken was not there, one that ends was, and no count of reads
-- wraps. Assumes nothing.
use mathlib.Core.Path.{◌≡◌, refl, sym, ap, ◌∙◌, subst}
use mathlib.Core.Logic.{◌⊎◌, inl, inr, ◌≢◌}
use mathlib.Core.Bool.{Bool, true, false, cond}
use mathlib.Core.List.{List}
use Prim.Native.Nat.{ℕ, ◌+◌, ◌≤◌, ◌<◌}
use native.Mathlib.Omega.{arith}
use lib.Dec.{eqb, ltb}
use lib.ListN.{length}
use borrow.Author.Tests.{ltb-true}
use Rattle.words.specs.Atomic.{wrapping_add, wrapping_sub}
use Rattle.words.specs.Mutex.{UNLOCKED}
use Rattle.words.specs.RwLock.{MAX_READERS, count}
use Rattle.words.specs.declared.Hold.{Hold}
use Rattle.words.specs.declared.Hold.TheVariants as H
use Rattle.words.specs.declared.Kind.{Kind}
use Rattle.words.specs.declared.Kind.TheVariants as K
use Rattle.words.specs.declared.Needs.TheVariants as N
use Rattle.queue.specs.Row.{THREADS}
use Rattle.calls.specs.declared.At.{At}
use Rattle.calls.specs.declared.Need.{Need}
use Rattle.calls.specs.declared.Plan.{Plan}
use Rattle.calls.specs.Objects.{MUTEXES, RWLOCKS, WORDS, word_of}
use Rattle.calls.specs.Plans.{decide_of}
use Rattle.calls.specs.Positions.{need_of, passed_of}
use Rattle.world.specs.declared.World.{World}
use Rattle.world.specs.World.{thread_at, word_at}
use Rattle.world.specs.Holds.{holds_mutex, holds_write, reads_of, is_held, has_hold}
use Rattle.sound.specs.Sound.{word_for, mutex_holders, writers, reads_held, sound_world}
use Rattle.sound.proofs.Readings.{sound-clauses, mutex-agrees, lock-agrees, need-held, value-passed, Clauses}
use Rattle.sound.specs.Clauses.{Counts}
use Rattle.sound.specs.Clauses as Rd
use Rattle.sound.proofs.Ranges.{count_none}
use Rattle.sound.proofs.Holds.{reads-part}
use Rattle.kept.specs.Shape.{Shaped}
use Rattle.kept.specs.Laws.{MutexDid, mutex-same, mutex-taken, mutex-freed, RwLockDid, lock-same, read_taken, write-taken, read_freed, write-freed, write-downgraded, held_kind, kind_of, object_of}
use Rattle.kept.proofs.Calls.{mutex-holds, rwlock-holds, hold-about, freed-mutex, freed-read, freed-write, downgrades}
use Rattle.kept.proofs.Places.{operand-is}
use Rattle.local.specs.Part.{word_next, queue_at, plan_at}
use Rattle.local.proofs.Frame as F
use Rattle.local.proofs.Frame.{word-thread}
use Rattle.local.proofs.Storing.{mutex-exists, lock-exists}

pub record Finds (w : World) (t : ℕ) (hold : Hold) (object : ℕ) : Type 0 where
  pub is-mutex : held_kind hold ≡ K.Mutex → object < MUTEXES
  pub is-lock : held_kind hold ≡ K.RwLock → object < RWLOCKS
  pub takes-mutex : hold ≡ H.TakeMutex → holds_mutex w.locked object t ≡ false
  pub frees-mutex : hold ≡ H.FreeMutex → holds_mutex w.locked object t ≡ true
  pub takes_write : hold ≡ H.TakeWrite → holds_write w.written object t ≡ false
  pub frees-write : hold ≡ H.FreeWrite → holds_write w.written object t ≡ true
  pub turns_down : hold ≡ H.Downgrade → holds_write w.written object t ≡ true
  pub takes-read : hold ≡ H.TakeRead → wrapping_add (reads_of w.reads object t) 1 ≡ reads_of w.reads object t + 1
  pub frees-read : hold ≡ H.FreeRead → reads_of w.reads object t ≡ wrapping_sub (reads_of w.reads object t) 1 + 1
  pub turns-read : hold ≡ H.Downgrade → wrapping_add (reads_of w.reads object t) 1 ≡ reads_of w.reads object t + 1

-- the word that a hold is taken over
taken_free : (word new : ℕ) (hold : Hold) → MutexDid word hold new → hold ≡ H.TakeMutex → word ≡ 0
taken_free word new hold (mutex-same a b) e = let z : ◌≡◌ {A = ℕ} 0 1 = cc in absurd (omega arith)
taken_free word new hold (mutex-taken a n) e = a
taken_free word new hold (mutex-freed a) e = let z : ◌≡◌ {A = ℕ} 0 1 = cc in absurd (omega arith)

taken-write : (word new : ℕ) (hold : Hold) → RwLockDid word hold new → hold ≡ H.TakeWrite → count word ≡ 0
taken-write word new hold (lock-same a) e = let z : ◌≡◌ {A = ℕ} 0 1 = cc in absurd (omega arith)
taken-write word new hold (read_taken a b) e = let z : ◌≡◌ {A = ℕ} 0 1 = cc in absurd (omega arith)
taken-write word new hold (write-taken a b) e = a
taken-write word new hold (read_freed a) e = let z : ◌≡◌ {A = ℕ} 0 1 = cc in absurd (omega arith)
taken-write word new hold (write-freed a) e = let z : ◌≡◌ {A = ℕ} 0 1 = cc in absurd (omega arith)
taken-write word new hold (write-downgraded a) e = let z : ◌≡◌ {A = ℕ} 0 1 = cc in absurd (omega arith)

-- a lock's counts
no-writer : (low writing reads : ℕ) → Counts low writing reads → low ≡ 0 → writing ≡ 0
no-writer low writing reads (Rd.reading z e l) h = z
no-writer low writing reads (Rd.written z e l) h = absurd (omega arith)

few-reads : (low writing reads : ℕ) → Counts low writing reads → reads ≤ MAX_READERS
few-reads low writing reads (Rd.reading z e l) = l
few-reads low writing reads (Rd.written z e l) = omega arith

add-one : (n : ℕ) → n ≤ MAX_READERS → wrapping_add n 1 ≡ n + 1
unfolding wrapping_add
add-one n h = omega arith

sub-one : (n : ℕ) → 0 < n → n ≤ MAX_READERS → n ≡ wrapping_sub n 1 + 1
unfolding wrapping_sub
sub-one n a h = omega arith

-- the hold that a need names is there
module _ (locked ws : List Bool) (rs : List ℕ) (t : ℕ) (need : Need) (object : ℕ) (has : has_hold locked ws rs t need ≡ true) where
  had-mutex : need ≡ record { hold = N.Mutex; object = object } → holds_mutex locked object t ≡ true
  unfolding has_hold is_held
  had-mutex e = subst (λ (n : Need). has_hold locked ws rs t n ≡ true) e has

  had-write : need ≡ record { hold = N.Write; object = object } → holds_write ws object t ≡ true
  unfolding has_hold is_held
  had-write e = subst (λ (n : Need). has_hold locked ws rs t n ≡ true) e has

  had-read : need ≡ record { hold = N.Read; object = object } → 0 < reads_of rs object t
  unfolding has_hold is_held
  had-read e = ltb-true 0 (reads_of rs object t) (subst (λ (n : Need). has_hold locked ws rs t n ≡ true) e has)

module _ (w : World) (t : ℕ) (f : Bool) (sound : sound_world w ≡ true) (shaped : Shaped w) (within : word_next w t < WORDS) where
  abbrev at : At
  at = (thread_at w t).at

  abbrev word : ℕ
  word = word_at w (word_next w t)

  abbrev any : Bool
  any = ltb 0 (length (queue_at w (word_next w t)))

  abbrev p : Plan
  p = decide_of (thread_at w t).at f (word_at w (word_next w t)) (ltb 0 (length (queue_at w (word_next w t))))

  th : t < THREADS
  th = word-thread w t shaped within

  clauses : Clauses w
  clauses = sound-clauses w sound

  has : has_hold w.locked w.written w.reads t (need_of (thread_at w t).at) ≡ true
  has = need-held w t clauses.needs th

  passed : passed_of (thread_at w t).at ≡ true
  passed = value-passed w t clauses.values th

  -- a hold that changes is about the word of the step, which is of its kind
  about : (hold : Hold) (kind : Kind) → hold ≢ H.Same → held_kind hold ≡ kind → p.hold ≡ hold → (kind_of at ≡ kind) × (word_next w t ≡ word_of kind p.object)
  about hold kind n k e = by (hold-about at f word any)
    where
      by :
          (p.hold ≡ H.Same) ⊎ ((kind_of at ≡ held_kind p.hold) × ((u : ℕ) → p.object ≡ object_of u at)) →
          (kind_of at ≡ kind) × (word_next w t ≡ word_of kind p.object)
      by (inl q) = absurd (n (sym e ∙ q))
      by (inr (q, o)) =
          let z : kind_of at ≡ kind = q ∙ (ap held_kind e ∙ k) in
          (z, operand-is t at ∙ (ap (λ (x : Kind). word_of x (object_of t at)) z ∙ ap (word_of kind) (sym (o t))))

  mutex-there : held_kind p.hold ≡ K.Mutex → p.object < MUTEXES
  unfolding plan_at
  mutex-there = mutex-exists t (word_next w t) p.object p.hold th within (F.hold-about w t f)

  lock-there : held_kind p.hold ≡ K.RwLock → p.object < RWLOCKS
  unfolding plan_at
  lock-there = lock-exists t (word_next w t) p.object p.hold th within (F.hold-about w t f)

  taking-mutex : p.hold ≡ H.TakeMutex → holds_mutex w.locked p.object t ≡ false
  unfolding held_kind word_for mutex_holders
  taking-mutex e =
      let (k, o) = about H.TakeMutex K.Mutex (λ q. let z : ◌≡◌ {A = ℕ} 0 1 = cc in omega arith) refl e in
      let z : word ≡ 0 = taken_free word p.word p.hold (mutex-holds at f word any k) e in
      let y : word_for w.words K.Mutex p.object ≡ 0 = ap (word_at w) (sym o) ∙ z in
      let q : mutex_holders w.locked p.object ≡ 0 =
      mutex-agrees w p.object clauses.mutexes (mutex-there (ap held_kind e)) ∙ ap (λ (n : ℕ). cond (eqb n UNLOCKED) 0 1) y in
      count_none (holds_mutex w.locked p.object) THREADS t q th

  lock-counts :
      (hold : Hold) → hold ≢ H.Same → held_kind hold ≡ K.RwLock → p.hold ≡ hold →
      Counts (count word) (writers w.written p.object) (reads_held w.forgotten w.reads p.object) ×
      RwLockDid word p.hold p.word
  unfolding word_for
  lock-counts hold n k e =
      let (z, o) = about hold K.RwLock n k e in (
        subst (λ (x : ℕ). Counts (count (word_at w x)) (writers w.written p.object) (reads_held w.forgotten w.reads p.object)) (sym o)
            (lock-agrees w p.object clauses.locks (lock-there (ap held_kind e ∙ k))),
        rwlock-holds at f word any z passed (shaped.wide (word_next w t)),
      )

  taking-write : p.hold ≡ H.TakeWrite → holds_write w.written p.object t ≡ false
  unfolding held_kind writers
  taking-write e =
      let (c, d) = lock-counts H.TakeWrite (λ q. let z : ◌≡◌ {A = ℕ} 0 1 = cc in omega arith) refl e in
      count_none (holds_write w.written p.object) THREADS t
      (no-writer (count word) (writers w.written p.object) _ c (taken-write word p.word p.hold d e)) th

  few :
      (hold : Hold) → hold ≢ H.Same → held_kind hold ≡ K.RwLock → p.hold ≡ hold → reads_of w.reads p.object t ≤ MAX_READERS
  few hold n k e =
      let l : reads_of w.reads p.object t ≤ reads_held w.forgotten w.reads p.object = reads-part w.forgotten w.reads p.object t th in
      let b : reads_held w.forgotten w.reads p.object ≤ MAX_READERS =
      few-reads (count word) (writers w.written p.object) (reads_held w.forgotten w.reads p.object) (lock-counts hold n k e).0 in
      omega arith

  plan-finds : Finds w t p.hold p.object
  unfolding held_kind
  plan-finds = record {
    is-mutex = mutex-there;
    is-lock = lock-there;
    takes-mutex = taking-mutex;
    frees-mutex = λ e. had-mutex w.locked w.written w.reads t (need_of at) p.object has (freed-mutex at f word any e);
    takes_write = taking-write;
    frees-write = λ e. had-write w.locked w.written w.reads t (need_of at) p.object has (freed-write at f word any e);
    turns_down = λ e. had-write w.locked w.written w.reads t (need_of at) p.object has (downgrades at f word any e);
    takes-read = λ e. add-one (reads_of w.reads p.object t) (few H.TakeRead (λ q. let z : ◌≡◌ {A = ℕ} 0 1 = cc in omega arith) refl e);
    frees-read =
        λ e. sub-one (reads_of w.reads p.object t)
        (had-read w.locked w.written w.reads t (need_of at) p.object has (freed-read at f word any e))
        (few H.FreeRead (λ q. let z : ◌≡◌ {A = ℕ} 0 1 = cc in omega arith) refl e);
    turns-read = λ e. add-one (reads_of w.reads p.object t) (few H.Downgrade (λ q. let z : ◌≡◌ {A = ℕ} 0 1 = cc in omega arith) refl e);
  }

  pub finds : Finds w t (plan_at w t f).hold (plan_at w t f).object
  unfolding plan_at
  finds = plan-finds
