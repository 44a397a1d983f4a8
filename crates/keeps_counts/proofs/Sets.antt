-- A world that set acts alone have made is one after a further set act; and in such a world, which nobody has locked, the counts of holders
-- agree with the words. Assumes nothing.
use mathlib.Core.Path.{◌≡◌, refl, sym, ap, ◌∙◌, subst}
use mathlib.Core.Bool.{Bool, true, false, cond, not, ◌&&◌, ◌||◌}
use mathlib.Core.List.{List}
use Prim.Native.Nat.{ℕ, ◌≤◌, ◌<◌}
use native.Mathlib.Omega.{arith}
use lib.Dec.{eqb, ltb, leb}
use lib.ListN.{length, get_or, set}
use lib.Seq.{get_or-set_same, get_or-set_other}
use borrow.Author.Tests.{eqb-true, eqb-false, eq-eqb, ltb-true, ltb-false, le-ltb, leb-true, le-leb}
use Rattle.words.specs.Mutex.{UNLOCKED}
use Rattle.words.specs.Once.{INCOMPLETE, COMPLETE}
use Rattle.words.specs.RwLock.{MAX_READERS, count}
use Rattle.words.specs.declared.Kind.{Kind}
use Rattle.words.specs.declared.Kind.TheVariants as K
use Rattle.queue.specs.Row.{THREADS}
use Rattle.calls.specs.Objects.{MUTEXES, RWLOCKS, ONCES, WORDS, size_of, base_of, word_of}
use Rattle.calls.proofs.Objects.{word-there, word_none}
use Rattle.world.specs.declared.World.{World}
use Rattle.world.specs.Holds.{reads_of}
use Rattle.acts.specs.Acts.{with_word, with_forgotten, set_world}
use Rattle.acts.specs.Refusals.{set_exists, set_refusal}
use Rattle.sound.specs.Ranges.{sum_from}
use Rattle.sound.specs.Sound.{word_for, mutex_holders, mutexes_agree, writers, reads_held, locks_agree, threads_rest, nobody_sleeps, mutex_rests, mutexes_rest, state_is_set, lock_is_set, locks_are_set, once_is_set, onces_are_set, parker_rests, parkers_rest, set_alone}
use Rattle.sound.proofs.Ranges.{all-at, all-make}
use Rattle.sound.proofs.Readings.{both, mutexes-agree-of, locks-agree-of}
use Rattle.sound.specs.Clauses.{reading}
use Rattle.kept.specs.Shape.{Shaped}
use Rattle.kept.proofs.Tests.{decided}
use Rattle.keeps_counts.proofs.Words.{words-apart, word-own, word-other}

-- the parts of what set acts alone have made
pub record Alone (w : World) : Type 0 where
  pub threads : threads_rest w.threads ≡ true
  pub sleepers : nobody_sleeps w.sleepers ≡ true
  pub mutexes : mutexes_rest w.words w.locked ≡ true
  pub locks : locks_are_set w.words w.written w.reads w.forgotten ≡ true
  pub onces : onces_are_set w.words ≡ true
  pub parkers : parkers_rest w.words ≡ true

pub alone-read : (w : World) → set_alone w ≡ true → Alone w
unfolding set_alone
alone-read w q =
    let a = threads_rest w.threads in
    let b = nobody_sleeps w.sleepers in
    let c = mutexes_rest w.words w.locked in
    let d = locks_are_set w.words w.written w.reads w.forgotten in
    let e = onces_are_set w.words in
    let f' = both (a && b && c && d && e) (parkers_rest w.words) q in
    let e' = both (a && b && c && d) e f'.0 in
    let d' = both (a && b && c) d e'.0 in
    let c' = both (a && b) c d'.0 in
    let b' = both a b c'.0 in
    record { threads = b'.0; sleepers = b'.1; mutexes = c'.1; locks = d'.1; onces = e'.1; parkers = f'.1 }

pub alone-make : (w : World) → Alone w → set_alone w ≡ true
unfolding set_alone
alone-make w s = rw (s.threads, s.sleepers, s.mutexes, s.locks, s.onces, s.parkers)

-- a lock that set acts alone have made: its state is the reads forgotten, and nobody holds it
pub record Unheld (state forgotten writing held : ℕ) : Type 0 where
  pub no-writer : writing ≡ 0
  pub no_reader : held ≡ forgotten
  pub is_state : state ≡ forgotten
  pub bounded : forgotten ≤ MAX_READERS

unheld-read : (state forgotten writing held : ℕ) → state_is_set state forgotten writing held ≡ true → Unheld state forgotten writing held
unfolding state_is_set
unheld-read state forgotten writing held e =
    let a = both (eqb writing 0 && eqb held forgotten && eqb state forgotten) (leb forgotten MAX_READERS) e in
    let b = both (eqb writing 0 && eqb held forgotten) (eqb state forgotten) a.0 in
    let c = both (eqb writing 0) (eqb held forgotten) b.0 in
    record {
      no-writer = eqb-true writing 0 c.0;
      no_reader = eqb-true held forgotten c.1;
      is_state = eqb-true state forgotten b.1;
      bounded = leb-true forgotten MAX_READERS a.1;
    }

unheld-make : (state forgotten writing held : ℕ) → Unheld state forgotten writing held → state_is_set state forgotten writing held ≡ true
unfolding state_is_set
unheld-make state forgotten writing held u =
    rw (
      eq-eqb writing 0 u.no-writer,
      eq-eqb held forgotten u.no_reader,
      eq-eqb state forgotten u.is_state,
      le-leb forgotten MAX_READERS u.bounded,
    )

unfoldable pub LockUnheld : World → ℕ → Type 0
LockUnheld w l =
    Unheld (word_for w.words K.RwLock l) (get_or w.forgotten l 0) (writers w.written l) (reads_held w.forgotten w.reads l)

pub lock-unheld : (w : World) (l : ℕ) → Alone w → l < RWLOCKS → LockUnheld w l
unfolding locks_are_set lock_is_set LockUnheld
lock-unheld w l s h =
    unheld-read (word_for w.words K.RwLock l) (get_or w.forgotten l 0) (writers w.written l) (reads_held w.forgotten w.reads l)
    (all-at (lock_is_set w.words w.written w.reads w.forgotten) RWLOCKS l s.locks h)

locks-unheld-of :
    (w : World) → ((l : ℕ) → l < RWLOCKS → LockUnheld w l) → locks_are_set w.words w.written w.reads w.forgotten ≡ true
unfolding locks_are_set lock_is_set LockUnheld
locks-unheld-of w k =
    all-make (lock_is_set w.words w.written w.reads w.forgotten) RWLOCKS
    (λ l h. unheld-make (word_for w.words K.RwLock l) (get_or w.forgotten l 0) (writers w.written l)
    (reads_held w.forgotten w.reads l) (k l h))

-- the word of an object of one kind is not that of an object of another kind, whether that exists or not
word-far :
    (kind other : Kind) (object m : ℕ) → eqb (base_of kind) (base_of other) ≡ false → m < size_of other →
    word_of other m ≡ word_of kind object → ⊥
word-far kind other object m n h e = by (ltb object (size_of kind)) refl
  where
    by : (c : Bool) → ltb object (size_of kind) ≡ c → ⊥
    by true q =
        let z : other ≡ kind = (words-apart other kind m object h (ltb-true object (size_of kind) q) e).0 in
        eqb-false (base_of kind) (base_of other) n (sym (ap base_of z))
    by false q =
        let z : word_of kind object ≡ WORDS = word_none kind object (omega (arith, ltb-false object (size_of kind) q)) in
        let l : word_of other m < WORDS = word-there other m h in
        omega arith

-- a store in a word of a kind: words of other kinds are as they were
module _ (words : List ℕ) (kind : Kind) (object new : ℕ) where
  words' : List ℕ
  words' = set words (word_of kind object) new

  far : (other : Kind) → eqb (base_of kind) (base_of other) ≡ false → (m : ℕ) → m < size_of other → word_for words' other m ≡ word_for words other m
  unfolding words'
  far other n m h = word-other words other m (word_of kind object) new (word-far kind other object m n h)

  far-mutexes : (locked : List Bool) → eqb (base_of kind) (base_of K.Mutex) ≡ false → mutexes_rest words locked ≡ true → mutexes_rest words' locked ≡ true
  unfolding mutexes_rest mutex_rests
  far-mutexes locked n e =
      all-make (mutex_rests words' locked) MUTEXES (λ m h. rw (far K.Mutex n m h) (all-at (mutex_rests words locked) MUTEXES m e h))

  far-onces : eqb (base_of kind) (base_of K.Once) ≡ false → onces_are_set words ≡ true → onces_are_set words' ≡ true
  unfolding onces_are_set once_is_set
  far-onces n e = all-make (once_is_set words') ONCES (λ o h. rw (far K.Once n o h) (all-at (once_is_set words) ONCES o e h))

  far-parkers : eqb (base_of kind) (base_of K.Parker) ≡ false → parkers_rest words ≡ true → parkers_rest words' ≡ true
  unfolding parkers_rest parker_rests
  far-parkers n e = all-make (parker_rests words') THREADS (λ t h. rw (far K.Parker n t h) (all-at (parker_rests words) THREADS t e h))

-- a notify word, a condvar's word or a Once is set
module _ (w : World) (kind : Kind) (object new : ℕ) (alone : Alone w) where
  with-word-alone :
      eqb (base_of kind) (base_of K.Mutex) ≡ false → eqb (base_of kind) (base_of K.RwLock) ≡ false → eqb (base_of kind) (base_of K.Parker) ≡ false →
      onces_are_set (with_word w (word_of kind object) new).words ≡ true → Alone (with_word w (word_of kind object) new)
  unfolding words' LockUnheld
  with-word-alone m l p o = record {
    threads = alone.threads;
    sleepers = alone.sleepers;
    mutexes = far-mutexes w.words kind object new w.locked m alone.mutexes;
    locks = locks-unheld-of (with_word w (word_of kind object) new) (λ i h. rw (far w.words kind object new K.RwLock l i h) (lock-unheld w i alone h));
    onces = o;
    parkers = far-parkers w.words kind object new p alone.parkers;
  }

once-set : (w : World) (object : ℕ) → Shaped w → Alone w → object < ONCES → onces_are_set (set w.words (word_of K.Once object) COMPLETE) ≡ true
unfolding onces_are_set once_is_set
once-set w object shaped alone is =
    all-make (once_is_set (set w.words (word_of K.Once object) COMPLETE)) ONCES (λ o h. by o h (eqb o object) refl)
  where
    by :
        (o : ℕ) → o < ONCES → (c : Bool) → eqb o object ≡ c →
        eqb (word_for (set w.words (word_of K.Once object) COMPLETE) K.Once o) INCOMPLETE
        || eqb (word_for (set w.words (word_of K.Once object) COMPLETE) K.Once o) COMPLETE ≡ true
    by o h true q =
        let row : word_of K.Once object < length w.words = omega (arith, shaped.words, word-there K.Once object is) in
        rw (word-own w.words K.Once o (word_of K.Once object) COMPLETE row (ap (word_of K.Once) (sym (eqb-true o object q))))
    by o h false q =
        rw
        (word-other w.words K.Once o (word_of K.Once object) COMPLETE
        (λ z. eqb-false o object q (words-apart K.Once K.Once o object h is z).1))
        (all-at (once_is_set w.words) ONCES o alone.onces h)

-- reads are forgotten, with the state
module _ (w : World) (lock value : ℕ) (shaped : Shaped w) (alone : Alone w) (is : lock < RWLOCKS) (small : value ≤ MAX_READERS) where
  own-unheld : LockUnheld (with_forgotten w lock value) lock
  unfolding LockUnheld reads_held
  own-unheld =
      let u = lock-unheld w lock alone is in
      let row : word_of K.RwLock lock < length w.words = omega (arith, shaped.words, word-there K.RwLock lock is) in
      let f : get_or (set w.forgotten lock value) lock 0 ≡ value =
      get_or-set_same w.forgotten lock value 0 (omega (arith, shaped.forgotten, is)) in
      let none : sum_from (reads_of w.reads lock) THREADS 0 ≡ 0 = omega (arith, u.no_reader) in
      record {
        no-writer = u.no-writer;
        no_reader = omega (arith, none);
        is_state = word-own w.words K.RwLock lock (word_of K.RwLock lock) value row refl ∙ sym f;
        bounded = omega (arith, f, small);
      }

  other-unheld : (l : ℕ) → l < RWLOCKS → (l ≡ lock → ⊥) → LockUnheld (with_forgotten w lock value) l
  unfolding LockUnheld reads_held
  other-unheld l h n =
      rw (
        word-other w.words K.RwLock l (word_of K.RwLock lock) value (λ z. n (words-apart K.RwLock K.RwLock l lock h is z).1),
        get_or-set_other w.forgotten lock l value 0 n,
      ) (lock-unheld w l alone h)

  with-forgotten-alone : Alone (with_forgotten w lock value)
  unfolding words'
  with-forgotten-alone = record {
    threads = alone.threads;
    sleepers = alone.sleepers;
    mutexes = far-mutexes w.words K.RwLock lock value w.locked refl alone.mutexes;
    locks = locks-unheld-of (with_forgotten w lock value) (λ l h. by l h (eqb l lock) refl);
    onces = far-onces w.words K.RwLock lock value refl alone.onces;
    parkers = far-parkers w.words K.RwLock lock value refl alone.parkers;
  }
    where
      by : (l : ℕ) → l < RWLOCKS → (c : Bool) → eqb l lock ≡ c → LockUnheld (with_forgotten w lock value) l
      by l h true q = subst (LockUnheld (with_forgotten w lock value)) (sym (eqb-true l lock q)) own-unheld
      by l h false q = other-unheld l h (eqb-false l lock q)

-- what a set that is not refused names, and within which bounds
lock-there : (choice object : ℕ) → eqb choice 0 ≡ true → set_exists choice object ≡ true → object < RWLOCKS
unfolding set_exists
lock-there choice object z e = ltb-true object RWLOCKS (subst (λ (n : ℕ). set_exists n object ≡ true) (eqb-true choice 0 z) e)

once-there :
    (choice object : ℕ) → eqb choice 0 ≡ false → eqb choice 1 ≡ false → eqb choice 2 ≡ false → set_exists choice object ≡ true → object < ONCES
unfolding set_exists
once-there choice object a b c e =
    let q : ltb choice 2 ≡ false = le-ltb choice 2 (omega (arith, eqb-false choice 0 a, eqb-false choice 1 b)) in
    ltb-true object ONCES (rw (q, c) at e)

value-small : (w : World) (choice value : ℕ) → eqb choice 0 ≡ true → set_refusal w choice value ≡ 0 → value ≤ MAX_READERS
unfolding set_refusal
value-small w choice value z e = by w.started (leb value MAX_READERS) refl (rw z at e)
  where
    by : (b c : Bool) → leb value MAX_READERS ≡ c → ◌≡◌ {A = ℕ} (cond b 12 (cond (true && not c) 13 0)) 0 → value ≤ MAX_READERS
    by true c q r = absurd (omega arith)
    by false true q r = leb-true value MAX_READERS q
    by false false q r = absurd (omega arith)

-- a set, whichever
pub set-alone :
    (w : World) (choice object value : ℕ) → Shaped w → set_exists choice object ≡ true → set_refusal w choice value ≡ 0 → set_alone w ≡ true →
    set_alone (set_world w choice object value) ≡ true
unfolding set_world words'
set-alone w choice object value shaped there accepted e =
    let s : Alone w = alone-read w e in
    alone-make (set_world w choice object value)
    (decided Alone (eqb choice 0) _ _
    (λ q. with-forgotten-alone w object value shaped s (lock-there choice object q there) (value-small w choice value q accepted))
    (λ a. decided Alone (eqb choice 1) _ _
    (λ _. with-word-alone w K.WriterNotify object value s refl refl refl (far-onces w.words K.WriterNotify object value refl s.onces))
    (λ b. decided Alone (eqb choice 2) _ _
    (λ _. with-word-alone w K.Condvar object value s refl refl refl (far-onces w.words K.Condvar object value refl s.onces))
    (λ c. with-word-alone w K.Once object COMPLETE s refl refl refl (once-set w object shaped s (once-there choice object a b c there))))))

-- in such a world clauses 5 and 6 hold
pub alone-mutexes : (w : World) → set_alone w ≡ true → mutexes_agree w ≡ true
unfolding mutexes_rest mutex_rests
alone-mutexes w e =
    mutexes-agree-of w
    (λ m h. let p = both (eqb (word_for w.words K.Mutex m) UNLOCKED) (eqb (mutex_holders w.locked m) 0)
    (all-at (mutex_rests w.words w.locked) MUTEXES m (alone-read w e).mutexes h) in
    rw p.0 (eqb-true (mutex_holders w.locked m) 0 p.1))

pub alone-locks : (w : World) → set_alone w ≡ true → locks_agree w ≡ true
unfolding LockUnheld count
alone-locks w e =
    locks-agree-of w
    (λ l h. let u = lock-unheld w l (alone-read w e) h in
    reading u.no-writer (omega (arith, u.no_reader, u.is_state, u.bounded)) (omega (arith, u.no_reader, u.bounded)))
