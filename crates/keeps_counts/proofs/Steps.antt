-- The stepping thread's own part of a step keeps the counts of all mutexes and of all RwLocks. Assumes nothing.
use mathlib.Core.Path.{◌≡◌, refl, sym, ap, ◌∙◌, subst}
use mathlib.Core.Logic.{◌⊎◌, inl, inr, ◌≢◌}
use mathlib.Core.Bool.{Bool, true, false, cond}
use mathlib.Core.List.{List}
use Prim.Native.Nat.{ℕ, ◌^◌, ◌<◌}
use native.Mathlib.Omega.{arith}
use lib.Dec.{eqb}
use lib.ListN.{length, get_or, set}
use lib.Seq.{set-get_or}
use borrow.Author.Tests.{eqb-true, eqb-false, ltb-true}
use Rattle.words.specs.Mutex.{UNLOCKED}
use Rattle.words.specs.RwLock.{count}
use Rattle.words.specs.declared.Hold.{Hold}
use Rattle.words.specs.declared.Hold.TheVariants as H
use Rattle.words.specs.declared.Kind.{Kind}
use Rattle.words.specs.declared.Kind.TheVariants as K
use Rattle.words.specs.declared.Needs.TheVariants as N
use Rattle.queue.specs.Row.{THREADS}
use Rattle.calls.specs.declared.At.{At}
use Rattle.calls.specs.declared.Need.{Need}
use Rattle.calls.specs.declared.Plan.{Plan}
use Rattle.calls.specs.Objects.{MUTEXES, RWLOCKS, WORDS, size_of, word_of}
use Rattle.calls.specs.Plans.{decide_of}
use Rattle.calls.specs.Positions.{operand_of, need_of, passed_of}
use Rattle.world.specs.declared.World.{World}
use Rattle.world.specs.World.{word_at}
use Rattle.world.specs.Holds.{MUTEXHOLDS, LOCKHOLDS, mutex_slot, lock_slot, holds_mutex, holds_write, reads_of, is_held, has_hold}
use Rattle.step.specs.Step.{own_plan}
use Rattle.sound.specs.Sound.{word_for, mutex_holders, mutexes_agree, writers, reads_held, locks_agree}
use Rattle.sound.proofs.Readings.{mutex-agrees, mutexes-agree-of, lock-agrees, locks-agree-of}
use Rattle.sound.specs.Clauses.{Counts}
use Rattle.kept.specs.Laws.{MutexDid, RwLockDid, held_kind, kind_of, object_of}
use Rattle.kept.proofs.Places.{operand-is}
use Rattle.kept.proofs.Calls.{mutex-holds, rwlock-holds, hold-about, freed-mutex, freed-read, freed-write, downgrades}
use Rattle.keeps_counts.proofs.Words.{words-apart, operand-object, word-own, word-other}
use Rattle.keeps_counts.proofs.Mutexes.{locked-same, mutex-stepped, mutex-elsewhere}
use Rattle.keeps_counts.specs.Tables.{locked_new, written_new, reads_new}
use Rattle.keeps_counts.proofs.Locks.{written_same, reads_same, lock-stepped, writers-elsewhere, reads-elsewhere}

-- a kind is a mutex's, or an RwLock's, or not
pub is-mutex-kind : (kind : Kind) → (kind ≡ K.Mutex) ⊎ (kind ≢ K.Mutex)
is-mutex-kind K.Nothing = inr (λ e. let z : ◌≡◌ {A = ℕ} 0 1 = cc in absurd (omega arith))
is-mutex-kind K.Mutex = inl refl
is-mutex-kind K.RwLock = inr (λ e. let z : ◌≡◌ {A = ℕ} 0 1 = cc in absurd (omega arith))
is-mutex-kind K.WriterNotify = inr (λ e. let z : ◌≡◌ {A = ℕ} 0 1 = cc in absurd (omega arith))
is-mutex-kind K.Condvar = inr (λ e. let z : ◌≡◌ {A = ℕ} 0 1 = cc in absurd (omega arith))
is-mutex-kind K.Once = inr (λ e. let z : ◌≡◌ {A = ℕ} 0 1 = cc in absurd (omega arith))
is-mutex-kind K.Parker = inr (λ e. let z : ◌≡◌ {A = ℕ} 0 1 = cc in absurd (omega arith))

pub is-lock-kind : (kind : Kind) → (kind ≡ K.RwLock) ⊎ (kind ≢ K.RwLock)
is-lock-kind K.Nothing = inr (λ e. let z : ◌≡◌ {A = ℕ} 0 1 = cc in absurd (omega arith))
is-lock-kind K.Mutex = inr (λ e. let z : ◌≡◌ {A = ℕ} 0 1 = cc in absurd (omega arith))
is-lock-kind K.RwLock = inl refl
is-lock-kind K.WriterNotify = inr (λ e. let z : ◌≡◌ {A = ℕ} 0 1 = cc in absurd (omega arith))
is-lock-kind K.Condvar = inr (λ e. let z : ◌≡◌ {A = ℕ} 0 1 = cc in absurd (omega arith))
is-lock-kind K.Once = inr (λ e. let z : ◌≡◌ {A = ℕ} 0 1 = cc in absurd (omega arith))
is-lock-kind K.Parker = inr (λ e. let z : ◌≡◌ {A = ℕ} 0 1 = cc in absurd (omega arith))

-- a change of holds about a word of one kind is not about a word of another
other-hold :
    (kind other : Kind) (hold : Hold) (P : Type 0) → (hold ≡ H.Same) ⊎ ((kind ≡ held_kind hold) × P) → kind ≢ other → K.Nothing ≢ other → held_kind hold ≢ other
unfolding held_kind
other-hold kind other hold P (inl e) n z q = z (sym (ap held_kind e) ∙ q)
other-hold kind other hold P (inr e) n z q = n (e.0 ∙ q)

-- the lists of mutex holds and words that agree
abbrev pub MutexesIn : List ℕ → List Bool → Type 0
MutexesIn words locked = (m : ℕ) → m < MUTEXES → mutex_holders locked m ≡ cond (eqb (word_for words K.Mutex m) UNLOCKED) 0 1

-- a step on a word that is no mutex's
mutexes-far :
    (words : List ℕ) (locked : List Bool) (t k new object : ℕ) (hold : Hold) → ((m : ℕ) → m < MUTEXES → word_of K.Mutex m ≡ k → ⊥) →
    held_kind hold ≢ K.Mutex → MutexesIn words locked → MutexesIn (set words k new) (locked_new locked t object hold)
mutexes-far words locked t k new object hold far n g m h =
    rw (locked-same locked t object hold n, word-other words K.Mutex m k new (far m h)) (g m h)

-- a step on a mutex's word
mutexes-near :
    (words : List ℕ) (locked : List Bool) (t k new o : ℕ) (hold : Hold) → k < length words → length locked ≡ MUTEXHOLDS → t < THREADS → o < MUTEXES →
    k ≡ word_of K.Mutex o → MutexDid (get_or words k 0) hold new → (hold ≡ H.FreeMutex → holds_mutex locked o t ≡ true) → MutexesIn words locked →
    MutexesIn (set words k new) (locked_new locked t o hold)
unfolding word_for
mutexes-near words locked t k new o hold row long th is w did own g m h = by (eqb m o) refl
  where
    before : mutex_holders locked o ≡ cond (eqb (get_or words k 0) 0) 0 1
    before = g o is ∙ ap (λ (i : ℕ). cond (eqb (get_or words i 0) 0) 0 1) (sym w)

    by : (c : Bool) → eqb m o ≡ c → mutex_holders (locked_new locked t o hold) m ≡ cond (eqb (word_for (set words k new) K.Mutex m) UNLOCKED) 0 1
    by true e =
        let s : m ≡ o = eqb-true m o e in
        subst (λ (i : ℕ). mutex_holders (locked_new locked t o hold) i ≡ cond (eqb (word_for (set words k new) K.Mutex i) UNLOCKED) 0 1) (sym s)
        (mutex-stepped locked t o long th is hold (get_or words k 0) new did own before
        ∙ ap (λ (i : ℕ). cond (eqb i 0) 0 1) (sym (word-own words K.Mutex o k new row w)))
    by false e =
        let z : m ≡ o → ⊥ = eqb-false m o e in
        mutex-elsewhere locked t o long th is hold m h z
        ∙ (g m h ∙ ap (λ (i : ℕ). cond (eqb i 0) 0 1)
        (sym (word-other words K.Mutex m k new (λ q. z (words-apart K.Mutex K.Mutex m o h is (q ∙ w)).1))))

-- the lists of RwLock holds, forgotten reads and words that agree
abbrev pub LocksIn : List ℕ → List Bool → List ℕ → List ℕ → Type 0
LocksIn words ws rs forgotten = (l : ℕ) → l < RWLOCKS → Counts (count (word_for words K.RwLock l)) (writers ws l) (reads_held forgotten rs l)

-- a step on a word that is no RwLock's state
locks-far :
    (words : List ℕ) (ws : List Bool) (rs forgotten : List ℕ) (t k new object : ℕ) (hold : Hold) → ((l : ℕ) → l < RWLOCKS → word_of K.RwLock l ≡ k → ⊥) →
    held_kind hold ≢ K.RwLock → LocksIn words ws rs forgotten → LocksIn (set words k new) (written_new ws t object hold) (reads_new rs t object hold) forgotten
locks-far words ws rs forgotten t k new object hold far n g l h =
    rw (written_same ws t object hold n, reads_same rs t object hold n, word-other words K.RwLock l k new (far l h)) (g l h)

-- a step on an RwLock's state
locks-near :
    (words : List ℕ) (ws : List Bool) (rs forgotten : List ℕ) (t k new o : ℕ) (hold : Hold) → k < length words → length ws ≡ LOCKHOLDS →
    length rs ≡ LOCKHOLDS → t < THREADS → o < RWLOCKS → k ≡ word_of K.RwLock o → RwLockDid (get_or words k 0) hold new →
    (hold ≡ H.FreeRead → 0 < reads_of rs o t) → (hold ≡ H.FreeWrite → holds_write ws o t ≡ true) → (hold ≡ H.Downgrade → holds_write ws o t ≡ true) →
    LocksIn words ws rs forgotten → LocksIn (set words k new) (written_new ws t o hold) (reads_new rs t o hold) forgotten
unfolding word_for
locks-near words ws rs forgotten t k new o hold row ws-long rs-long th is w did fr fw dg g l h = by (eqb l o) refl
  where
    before : Counts (count (get_or words k 0)) (writers ws o) (reads_held forgotten rs o)
    before = subst (λ (i : ℕ). Counts (count (get_or words i 0)) (writers ws o) (reads_held forgotten rs o)) (sym w) (g o is)

    by :
        (c : Bool) → eqb l o ≡ c →
        Counts (count (word_for (set words k new) K.RwLock l)) (writers (written_new ws t o hold) l) (reads_held forgotten (reads_new rs t o hold) l)
    by true e =
        let s : l ≡ o = eqb-true l o e in
        rw (s, word-own words K.RwLock o k new row w)
        (lock-stepped ws rs forgotten t o ws-long rs-long th is hold (get_or words k 0) new did fr fw dg before)
    by false e =
        let z : l ≡ o → ⊥ = eqb-false l o e in
        rw (
          word-other words K.RwLock l k new (λ q. z (words-apart K.RwLock K.RwLock l o h is (q ∙ w)).1),
          writers-elsewhere ws rs forgotten t o ws-long rs-long th is hold l h z,
          reads-elsewhere ws rs forgotten t o ws-long rs-long th is hold l h z,
        ) (g l h)

-- a step that leaves the holds alone leaves them alone at whatever object
object_of_lem :
    (kind : Kind) (hold : Hold) (object : ℕ) (of : ℕ → ℕ) (t : ℕ) → (hold ≡ H.Same) ⊎ ((kind ≡ held_kind hold) × ((u : ℕ) → object ≡ of u)) →
    (hold ≡ H.Same) ⊎ (object ≡ of t)
object_of_lem kind hold object of t (inl e) = inl e
object_of_lem kind hold object of t (inr e) = inr (e.1 t)

locked-at :
    (locked : List Bool) (t object o : ℕ) (hold : Hold) → (hold ≡ H.Same) ⊎ (object ≡ o) → locked_new locked t o hold ≡ locked_new locked t object hold
locked-at locked t object o hold (inl e) =
    rw (e, set-get_or locked (mutex_slot t o) false, set-get_or locked (mutex_slot t object) false)
locked-at locked t object o hold (inr e) = rw e

written_at : (ws : List Bool) (t object o : ℕ) (hold : Hold) → (hold ≡ H.Same) ⊎ (object ≡ o) → written_new ws t o hold ≡ written_new ws t object hold
written_at ws t object o hold (inl e) = rw (e, set-get_or ws (lock_slot t o) false, set-get_or ws (lock_slot t object) false)
written_at ws t object o hold (inr e) = rw e

reads_at : (rs : List ℕ) (t object o : ℕ) (hold : Hold) → (hold ≡ H.Same) ⊎ (object ≡ o) → reads_new rs t o hold ≡ reads_new rs t object hold
reads_at rs t object o hold (inl e) = rw (e, set-get_or rs (lock_slot t o) 0, set-get_or rs (lock_slot t object) 0)
reads_at rs t object o hold (inr e) = rw e

-- the hold that a step takes away is held, of the object that it is about
named : (hold freeing : Hold) (object o : ℕ) → (hold ≡ H.Same) ⊎ (object ≡ o) → hold ≡ freeing → freeing ≢ H.Same → object ≡ o
named hold freeing object o (inl e) q n = absurd (n (sym q ∙ e))
named hold freeing object o (inr e) q n = e

module _ (locked ws : List Bool) (rs : List ℕ) (t : ℕ) (need : Need) (object : ℕ) (held : has_hold locked ws rs t need ≡ true) where
  had-mutex : need ≡ record { hold = N.Mutex; object = object } → holds_mutex locked object t ≡ true
  unfolding has_hold is_held
  had-mutex e = subst (λ (n : Need). has_hold locked ws rs t n ≡ true) e held

  had-write : need ≡ record { hold = N.Write; object = object } → holds_write ws object t ≡ true
  unfolding has_hold is_held
  had-write e = subst (λ (n : Need). has_hold locked ws rs t n ≡ true) e held

  had-read : need ≡ record { hold = N.Read; object = object } → 0 < reads_of rs object t
  unfolding has_hold is_held
  had-read e = ltb-true 0 (reads_of rs object t) (subst (λ (n : Need). has_hold locked ws rs t n ≡ true) e held)

freed-none : H.FreeMutex ≢ H.Same
freed-none e = let z : ◌≡◌ {A = ℕ} 0 1 = cc in absurd (omega arith)

free-read-none : H.FreeRead ≢ H.Same
free-read-none e = let z : ◌≡◌ {A = ℕ} 0 1 = cc in absurd (omega arith)

free-write-none : H.FreeWrite ≢ H.Same
free-write-none e = let z : ◌≡◌ {A = ℕ} 0 1 = cc in absurd (omega arith)

downgrade-none : H.Downgrade ≢ H.Same
downgrade-none e = let z : ◌≡◌ {A = ℕ} 0 1 = cc in absurd (omega arith)

nothing-mutex : K.Nothing ≢ K.Mutex
nothing-mutex e = let z : ◌≡◌ {A = ℕ} 0 1 = cc in absurd (omega arith)

nothing-lock : K.Nothing ≢ K.RwLock
nothing-lock e = let z : ◌≡◌ {A = ℕ} 0 1 = cc in absurd (omega arith)

-- a step's own part, in a world whose lists are as long as they should be, of a thread that has the hold its position asks for
module _
    (v : World) (t : ℕ) (at : At) (f a : Bool) (is-thread : t < THREADS) (in_row : operand_of t at < WORDS) (words_long : length v.words ≡ WORDS)
    (held : has_hold v.locked v.written v.reads t (need_of at) ≡ true)
  where
    abbrev word : ℕ
    word = word_at v (operand_of t at)

    abbrev own : Plan
    own = decide_of at f (word_at v (operand_of t at)) a

    about : (own.hold ≡ H.Same) ⊎ (own.object ≡ object_of t at)
    about = object_of_lem (kind_of at) own.hold own.object (λ (u : ℕ). object_of u at) t (hold-about at f word a)

    far : (kind : Kind) → kind_of at ≢ kind → (m : ℕ) → m < size_of kind → word_of kind m ≡ operand_of t at → ⊥
    far kind n m h q = n (sym (words-apart kind (kind_of at) m (object_of t at) h (operand-object t at in_row) (q ∙ operand-is t at)).0)

    near : (kind : Kind) → kind_of at ≡ kind → (object_of t at < size_of kind) × (operand_of t at ≡ word_of kind (object_of t at))
    near kind e = (
      subst (λ (k : Kind). object_of t at < size_of k) e (operand-object t at in_row),
      operand-is t at ∙ ap (λ (k : Kind). word_of k (object_of t at)) e,
    )

    in_list : operand_of t at < length v.words
    in_list = omega (arith, words_long, in_row)

    frees-mutex : own.hold ≡ H.FreeMutex → holds_mutex v.locked (object_of t at) t ≡ true
    frees-mutex e =
        subst (λ (o : ℕ). holds_mutex v.locked o t ≡ true) (named own.hold H.FreeMutex own.object (object_of t at) about e freed-none)
        (had-mutex v.locked v.written v.reads t (need_of at) own.object held (freed-mutex at f word a e))

    frees-read : own.hold ≡ H.FreeRead → 0 < reads_of v.reads (object_of t at) t
    frees-read e =
        subst (λ (o : ℕ). 0 < reads_of v.reads o t) (named own.hold H.FreeRead own.object (object_of t at) about e free-read-none)
        (had-read v.locked v.written v.reads t (need_of at) own.object held (freed-read at f word a e))

    frees-write : own.hold ≡ H.FreeWrite → holds_write v.written (object_of t at) t ≡ true
    frees-write e =
        subst (λ (o : ℕ). holds_write v.written o t ≡ true) (named own.hold H.FreeWrite own.object (object_of t at) about e free-write-none)
        (had-write v.locked v.written v.reads t (need_of at) own.object held (freed-write at f word a e))

    turns_down : own.hold ≡ H.Downgrade → holds_write v.written (object_of t at) t ≡ true
    turns_down e =
        subst (λ (o : ℕ). holds_write v.written o t ≡ true) (named own.hold H.Downgrade own.object (object_of t at) about e downgrade-none)
        (had-write v.locked v.written v.reads t (need_of at) own.object held (downgrades at f word a e))

    mutexes-in :
        length v.locked ≡ MUTEXHOLDS → MutexesIn v.words v.locked → (kind_of at ≡ K.Mutex) ⊎ (kind_of at ≢ K.Mutex) →
        MutexesIn (set v.words (operand_of t at) own.word) (locked_new v.locked t own.object own.hold)
    mutexes-in long g (inl e) =
        subst (λ (l : List Bool). MutexesIn (set v.words (operand_of t at) own.word) l)
        (locked-at v.locked t own.object (object_of t at) own.hold about)
        (mutexes-near v.words v.locked t (operand_of t at) own.word (object_of t at) own.hold in_list long is-thread (near K.Mutex e).0
        (near K.Mutex e).1 (mutex-holds at f word a e) frees-mutex g)
    mutexes-in long g (inr n) =
        mutexes-far v.words v.locked t (operand_of t at) own.word own.object own.hold (far K.Mutex n)
        (other-hold (kind_of at) K.Mutex own.hold ((u : ℕ) → own.object ≡ object_of u at) (hold-about at f word a) n nothing-mutex) g

    -- clause 5
    pub own-mutexes :
        length v.locked ≡ MUTEXHOLDS → mutexes_agree v ≡ true →
        mutexes_agree (own_plan v t (operand_of t at) (decide_of at f (word_at v (operand_of t at)) a)) ≡ true
    unfolding own_plan
    own-mutexes long g =
        mutexes-agree-of (own_plan v t (operand_of t at) (decide_of at f (word_at v (operand_of t at)) a))
        (mutexes-in long (λ m h. mutex-agrees v m g h) (is-mutex-kind (kind_of at)))

    locks-in :
        length v.written ≡ LOCKHOLDS → length v.reads ≡ LOCKHOLDS → passed_of at ≡ true → word_at v (operand_of t at) < 2 ^ 32 →
        LocksIn v.words v.written v.reads v.forgotten → (kind_of at ≡ K.RwLock) ⊎ (kind_of at ≢ K.RwLock) →
        LocksIn (set v.words (operand_of t at) own.word) (written_new v.written t own.object own.hold)
        (reads_new v.reads t own.object own.hold) v.forgotten
    locks-in ws-long rs-long passed wide g (inl e) =
        subst (λ (b : List Bool). LocksIn (set v.words (operand_of t at) own.word) b (reads_new v.reads t own.object own.hold) v.forgotten)
        (written_at v.written t own.object (object_of t at) own.hold about)
        (subst (λ (n : List ℕ). LocksIn (set v.words (operand_of t at) own.word) (written_new v.written t (object_of t at) own.hold) n v.forgotten)
        (reads_at v.reads t own.object (object_of t at) own.hold about)
        (locks-near v.words v.written v.reads v.forgotten t (operand_of t at) own.word (object_of t at) own.hold in_list ws-long rs-long
        is-thread (near K.RwLock e).0 (near K.RwLock e).1 (rwlock-holds at f word a e passed wide) frees-read frees-write turns_down g))
    locks-in ws-long rs-long passed wide g (inr n) =
        locks-far v.words v.written v.reads v.forgotten t (operand_of t at) own.word own.object own.hold (far K.RwLock n)
        (other-hold (kind_of at) K.RwLock own.hold ((u : ℕ) → own.object ≡ object_of u at) (hold-about at f word a) n nothing-lock) g

    -- clause 6
    pub own-locks :
        length v.written ≡ LOCKHOLDS → length v.reads ≡ LOCKHOLDS → passed_of at ≡ true → word_at v (operand_of t at) < 2 ^ 32 → locks_agree v ≡ true →
        locks_agree (own_plan v t (operand_of t at) (decide_of at f (word_at v (operand_of t at)) a)) ≡ true
    unfolding own_plan
    own-locks ws-long rs-long passed wide g =
        locks-agree-of (own_plan v t (operand_of t at) (decide_of at f (word_at v (operand_of t at)) a))
        (locks-in ws-long rs-long passed wide (λ l h. lock-agrees v l g h) (is-lock-kind (kind_of at)))
