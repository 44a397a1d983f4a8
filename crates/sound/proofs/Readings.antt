-- What a sound world says, clause by clause and at each index; and each clause made from what it says: a world is sound exactly if what
-- specs/Clauses.antt says of it holds. Assumes nothing.
use mathlib.Core.Path.{◌≡◌, refl, sym}
use mathlib.Core.Bool.{Bool, true, false, cond, not, ◌&&◌, ◌||◌, and-eq-true_iff, or-true, false≢true}
use Prim.Native.Nat.{ℕ, ◌+◌, ◌<◌}
use borrow.Author.Tests.{eqb-true, eqb-false, eq-eqb, ne_eqb, leb-true, le-leb}
use lib.Dec.{eqb, leb}
use lib.ListN.{get_or}
use Rattle.words.specs.Mutex.{UNLOCKED, CONTENDED}
use Rattle.words.specs.Once.{INCOMPLETE, COMPLETE, QUEUED}
use Rattle.words.specs.Parker.{EMPTY}
use Rattle.words.specs.RwLock.{MASK, MAX_READERS, count}
use Rattle.words.specs.declared.Kind.TheVariants as K
use Rattle.queue.specs.Row.{THREADS, sleepers, occ, is_tidy}
use Rattle.calls.specs.declared.Thread.{Thread}
use Rattle.calls.specs.Objects.{MUTEXES, RWLOCKS, ONCES}
use Rattle.calls.specs.Positions.{exists, passed_of, waits_of, is_idle, need_of}
use Rattle.world.specs.declared.World.{World}
use Rattle.world.specs.World.{thread_at}
use Rattle.world.specs.Holds.{has_hold}
use Rattle.sound.specs.Ranges.{all_from}
use Rattle.sound.specs.Sound.{word_for, name_exists, names_exist, value_passed, values_passed, stands_as, sleeper_stands, every_sleeper_stands, asleep_count, sleepers_stand, mutex_in_range, mutexes_in_range, once_in_range, onces_in_range, words_in_range, mutex_holders, mutex_agrees, mutexes_agree, writers, reads_held, count_agrees, lock_agrees, locks_agree, need_held, needs_held, thread_rests, threads_rest, is_asleep, nobody_sleeps, mutex_rests, mutexes_rest, state_is_set, lock_is_set, locks_are_set, once_is_set, onces_are_set, parker_rests, parkers_rest, set_alone, started_or_set, sound_world}
use Rattle.sound.specs.Clauses.{Sleepers, InRange, Agrees, free, taken, Counts, reading, written, LockSet, OnceSet, fresh, complete, BySets, IsSound, SoundExactly}
use Rattle.sound.proofs.Ranges.{all-at, all-make}

-- the clauses
pub record Clauses (w : World) : Type 0 where
  pub names : names_exist w ≡ true
  pub values : values_passed w ≡ true
  pub stand : sleepers_stand w ≡ true
  pub range : words_in_range w ≡ true
  pub mutexes : mutexes_agree w ≡ true
  pub locks : locks_agree w ≡ true
  pub needs : needs_held w ≡ true
  pub begun : started_or_set w ≡ true

-- two tests passed are each passed
pub both : (a b : Bool) → a && b ≡ true → (a ≡ true) × (b ≡ true)
both a b e = (and-eq-true_iff a b).0 e

eight :
    (a b c d e f g h : Bool) → a && b && c && d && e && f && g && h ≡ true →
    (a ≡ true) × ((b ≡ true) × ((c ≡ true) × ((d ≡ true) × ((e ≡ true) × ((f ≡ true) × ((g ≡ true) × (h ≡ true)))))))
eight a b c d e f g h q =
    let h' = both (a && b && c && d && e && f && g) h q in
    let g' = both (a && b && c && d && e && f) g h'.0 in
    let f' = both (a && b && c && d && e) f g'.0 in
    let e' = both (a && b && c && d) e f'.0 in
    let d' = both (a && b && c) d e'.0 in
    let c' = both (a && b) c d'.0 in
    let b' = both a b c'.0 in
    (b'.0, (b'.1, (c'.1, (d'.1, (e'.1, (f'.1, (g'.1, h'.1)))))))

pub sound-clauses : (w : World) → sound_world w ≡ true → Clauses w
unfolding sound_world
sound-clauses w s =
    let p =
    eight (names_exist w) (values_passed w) (sleepers_stand w) (words_in_range w) (mutexes_agree w) (locks_agree w) (needs_held w) (started_or_set w) s in
    record {
      names = p.0;
      values = p.1.0;
      stand = p.1.1.0;
      range = p.1.1.1.0;
      mutexes = p.1.1.1.1.0;
      locks = p.1.1.1.1.1.0;
      needs = p.1.1.1.1.1.1.0;
      begun = p.1.1.1.1.1.1.1;
    }

pub clauses-sound : (w : World) → Clauses w → sound_world w ≡ true
unfolding sound_world
clauses-sound w s = rw (s.names, s.values, s.stand, s.range, s.mutexes, s.locks, s.needs, s.begun)

-- 1. and 2., of each thread
pub name-exists : (w : World) (t : ℕ) → names_exist w ≡ true → t < THREADS → exists (thread_at w t).at ≡ true
unfolding names_exist name_exists
name-exists w t e h = all-at (name_exists w.threads) THREADS t e h

pub names-exist-of : (w : World) → ((t : ℕ) → t < THREADS → exists (thread_at w t).at ≡ true) → names_exist w ≡ true
unfolding names_exist name_exists
names-exist-of w h = all-make (name_exists w.threads) THREADS h

pub value-passed : (w : World) (t : ℕ) → values_passed w ≡ true → t < THREADS → passed_of (thread_at w t).at ≡ true
unfolding values_passed value_passed
value-passed w t e h = all-at (value_passed w.threads) THREADS t e h

pub values-passed-of : (w : World) → ((t : ℕ) → t < THREADS → passed_of (thread_at w t).at ≡ true) → values_passed w ≡ true
unfolding values_passed value_passed
values-passed-of w h = all-make (value_passed w.threads) THREADS h

-- 3. The sleepers
stands_read : (th : Thread) (times : ℕ) → stands_as th times ≡ true → (times ≡ cond th.asleep 1 0) × (th.asleep ≡ true → waits_of th.at ≡ true)
unfolding stands_as
stands_read th times e = by th.asleep e
  where
    by :
        (c : Bool) → cond c (waits_of th.at && eqb times 1) (eqb times 0) ≡ true →
        (times ≡ cond c 1 0) × (c ≡ true → waits_of th.at ≡ true)
    by true q =
        let p = both (waits_of th.at) (eqb times 1) q in
        (eqb-true times 1 p.1, λ z. p.0)
    by false q = (eqb-true times 0 q, λ z. absurd (false≢true z))

stands-make : (th : Thread) (times : ℕ) → times ≡ cond th.asleep 1 0 → (th.asleep ≡ true → waits_of th.at ≡ true) → stands_as th times ≡ true
unfolding stands_as
stands-make th times e k = by th.asleep e k
  where
    by :
        (c : Bool) → times ≡ cond c 1 0 → (c ≡ true → waits_of th.at ≡ true) →
        cond c (waits_of th.at && eqb times 1) (eqb times 0) ≡ true
    by true q l = rw (l refl) (eq-eqb times 1 q)
    by false q l = eq-eqb times 0 q

pub sleepers-read : (w : World) → sleepers_stand w ≡ true → Sleepers w
unfolding sleepers_stand every_sleeper_stands sleeper_stands
sleepers-read w e =
    let p = both (is_tidy w.sleepers && every_sleeper_stands w.threads w.sleepers) (eqb w.sleepers.count (asleep_count w.threads)) e in
    let q = both (is_tidy w.sleepers) (every_sleeper_stands w.threads w.sleepers) p.0 in
    let each : (t : ℕ) → t < THREADS → stands_as (thread_at w t) (occ t (sleepers w.sleepers)) ≡ true =
    λ t h. all-at (sleeper_stands w.threads w.sleepers) THREADS t q.1 h in
    record {
      tidy = q.0;
      stands = λ t h. (stands_read (thread_at w t) (occ t (sleepers w.sleepers)) (each t h)).0;
      waits = λ t h. (stands_read (thread_at w t) (occ t (sleepers w.sleepers)) (each t h)).1;
      counted = eqb-true w.sleepers.count (asleep_count w.threads) p.1;
    }

pub sleepers-make : (w : World) → Sleepers w → sleepers_stand w ≡ true
unfolding sleepers_stand every_sleeper_stands sleeper_stands
sleepers-make w s =
    let each : every_sleeper_stands w.threads w.sleepers ≡ true =
    all-make (sleeper_stands w.threads w.sleepers) THREADS
    (λ t h. stands-make (thread_at w t) (occ t (sleepers w.sleepers)) (s.stands t h) (s.waits t h)) in
    rw (s.tidy, each) (eq-eqb w.sleepers.count (asleep_count w.threads) s.counted)

-- 4. and 5., of each mutex and each Once
pub range-read : (w : World) → words_in_range w ≡ true → InRange w
unfolding words_in_range mutexes_in_range mutex_in_range onces_in_range once_in_range
range-read w e =
    let p = both (mutexes_in_range w.words) (onces_in_range w.words) e in
    record {
      mutex = λ m h. leb-true (word_for w.words K.Mutex m) CONTENDED (all-at (mutex_in_range w.words) MUTEXES m p.0 h);
      once = λ o h. leb-true (word_for w.words K.Once o) (INCOMPLETE + QUEUED) (all-at (once_in_range w.words) ONCES o p.1 h);
    }

pub range-make : (w : World) → InRange w → words_in_range w ≡ true
unfolding words_in_range mutexes_in_range mutex_in_range onces_in_range once_in_range
range-make w s =
    let m : mutexes_in_range w.words ≡ true =
    all-make (mutex_in_range w.words) MUTEXES (λ m h. le-leb (word_for w.words K.Mutex m) CONTENDED (s.mutex m h)) in
    let o : onces_in_range w.words ≡ true =
    all-make (once_in_range w.words) ONCES (λ o h. le-leb (word_for w.words K.Once o) (INCOMPLETE + QUEUED) (s.once o h)) in
    rw (m, o)

pub mutex-agrees :
    (w : World) (m : ℕ) → mutexes_agree w ≡ true → m < MUTEXES →
    mutex_holders w.locked m ≡ cond (eqb (word_for w.words K.Mutex m) UNLOCKED) 0 1
unfolding mutexes_agree mutex_agrees
mutex-agrees w m e h =
    eqb-true (mutex_holders w.locked m) (cond (eqb (word_for w.words K.Mutex m) UNLOCKED) 0 1)
    (all-at (mutex_agrees w.words w.locked) MUTEXES m e h)

pub mutexes-agree-of :
    (w : World) →
    ((m : ℕ) → m < MUTEXES → mutex_holders w.locked m ≡ cond (eqb (word_for w.words K.Mutex m) UNLOCKED) 0 1) → mutexes_agree w ≡ true
unfolding mutexes_agree mutex_agrees
mutexes-agree-of w k =
    all-make (mutex_agrees w.words w.locked) MUTEXES
    (λ m h. eq-eqb (mutex_holders w.locked m) (cond (eqb (word_for w.words K.Mutex m) UNLOCKED) 0 1) (k m h))

-- 6. The two ways in which the low bits of a state agree with the holds
counts-read : (low writing held : ℕ) → count_agrees low writing held ≡ true → Counts low writing held
unfolding count_agrees
counts-read low writing held e = by (eqb writing 0) refl e
  where
    by :
        (c : Bool) → eqb writing 0 ≡ c →
        cond c (eqb low held && leb held MAX_READERS) (eqb writing 1 && eqb low MASK && eqb held 0) ≡ true → Counts low writing held
    by true z q =
        let p = both (eqb low held) (leb held MAX_READERS) q in
        reading (eqb-true writing 0 z) (eqb-true low held p.0) (leb-true held MAX_READERS p.1)
    by false z q =
        let p = both (eqb writing 1 && eqb low MASK) (eqb held 0) q in
        let r = both (eqb writing 1) (eqb low MASK) p.0 in
        written (eqb-true writing 1 r.0) (eqb-true low MASK r.1) (eqb-true held 0 p.1)

counts-make : (low writing held : ℕ) → Counts low writing held → count_agrees low writing held ≡ true
unfolding count_agrees
counts-make low writing held (reading z e l) = rw (eq-eqb writing 0 z, eq-eqb low held e) (le-leb held MAX_READERS l)
counts-make low writing held (written z e n) = rw (z, eq-eqb low MASK e, eq-eqb held 0 n)

pub lock-agrees :
    (w : World) (l : ℕ) → locks_agree w ≡ true → l < RWLOCKS →
    Counts (count (word_for w.words K.RwLock l)) (writers w.written l) (reads_held w.forgotten w.reads l)
unfolding locks_agree lock_agrees
lock-agrees w l e h =
    counts-read (count (word_for w.words K.RwLock l)) (writers w.written l) (reads_held w.forgotten w.reads l)
    (all-at (lock_agrees w.words w.written w.reads w.forgotten) RWLOCKS l e h)

pub locks-agree-of :
    (w : World) →
    ((l : ℕ) → l < RWLOCKS → Counts (count (word_for w.words K.RwLock l)) (writers w.written l) (reads_held w.forgotten w.reads l)) →
    locks_agree w ≡ true
unfolding locks_agree lock_agrees
locks-agree-of w k =
    all-make (lock_agrees w.words w.written w.reads w.forgotten) RWLOCKS
    (λ l h. counts-make (count (word_for w.words K.RwLock l)) (writers w.written l) (reads_held w.forgotten w.reads l) (k l h))

-- 7. and 8.
pub need-held :
    (w : World) (t : ℕ) → needs_held w ≡ true → t < THREADS →
    has_hold w.locked w.written w.reads t (need_of (thread_at w t).at) ≡ true
unfolding needs_held need_held
need-held w t e h = all-at (need_held w.threads w.locked w.written w.reads) THREADS t e h

pub needs-held-of :
    (w : World) →
    ((t : ℕ) → t < THREADS → has_hold w.locked w.written w.reads t (need_of (thread_at w t).at) ≡ true) → needs_held w ≡ true
unfolding needs_held need_held
needs-held-of w k = all-make (need_held w.threads w.locked w.written w.reads) THREADS k

pub started-is : (w : World) → w.started ≡ true → started_or_set w ≡ true
unfolding started_or_set
started-is w e = rw e

pub set_is : (w : World) → set_alone w ≡ true → started_or_set w ≡ true
unfolding started_or_set
set_is w e = rw e (or-true w.started)

pub set-read : (w : World) → w.started ≡ false → started_or_set w ≡ true → set_alone w ≡ true
unfolding started_or_set
set-read w z e = by w.started z e
  where
    by : (c : Bool) → c ≡ false → c || set_alone w ≡ true → set_alone w ≡ true
    by true q k = absurd (false≢true (sym q))
    by false q k = k

-- a mutex's word and its holders, as the two ways that there are
mutex-ways : (word holders : ℕ) → holders ≡ cond (eqb word UNLOCKED) 0 1 → Agrees word holders
mutex-ways word holders e = by (eqb word UNLOCKED) refl e
  where
    by : (c : Bool) → eqb word UNLOCKED ≡ c → holders ≡ cond c 0 1 → Agrees word holders
    by true q k = free (eqb-true word UNLOCKED q) k
    by false q k = taken (eqb-false word UNLOCKED q) k

ways-mutex : (word holders : ℕ) → Agrees word holders → holders ≡ cond (eqb word UNLOCKED) 0 1
ways-mutex word holders (free z e) = rw (eq-eqb word UNLOCKED z) e
ways-mutex word holders (taken z e) = rw (ne_eqb word UNLOCKED z) e

-- what set acts alone have made, part by part
module _ (w : World) where
  abbrev low : ℕ → ℕ
  low l = word_for w.words K.RwLock l

  abbrev lost : ℕ → ℕ
  lost l = get_or w.forgotten l 0

  abbrev writing : ℕ → ℕ
  writing l = writers w.written l

  abbrev held : ℕ → ℕ
  held l = reads_held w.forgotten w.reads l

  rests-read : threads_rest w.threads ≡ true → (t : ℕ) → t < THREADS → ((thread_at w t).asleep ≡ false) × (is_idle (thread_at w t).at ≡ true)
  unfolding threads_rest thread_rests is_asleep
  rests-read e t h =
      let p = both (not (thread_at w t).asleep) (is_idle (thread_at w t).at) (all-at (thread_rests w.threads) THREADS t e h) in
      (shut (thread_at w t).asleep p.0, p.1)
    where
      shut : (c : Bool) → not c ≡ true → c ≡ false
      shut true q = sym q
      shut false q = refl

  rests-make :
      ((t : ℕ) → t < THREADS → (thread_at w t).asleep ≡ false) → ((t : ℕ) → t < THREADS → is_idle (thread_at w t).at ≡ true) →
      threads_rest w.threads ≡ true
  unfolding threads_rest thread_rests is_asleep
  rests-make a i = all-make (thread_rests w.threads) THREADS (λ t h. rw (a t h, i t h))

  locks-set-read :
      locks_are_set w.words w.written w.reads w.forgotten ≡ true → (l : ℕ) → l < RWLOCKS →
      LockSet (low l) (lost l) (writing l) (held l)
  unfolding locks_are_set lock_is_set state_is_set
  locks-set-read e l h =
      let q = all-at (lock_is_set w.words w.written w.reads w.forgotten) RWLOCKS l e h in
      let p = both (eqb (writing l) 0 && eqb (held l) (lost l) && eqb (low l) (lost l)) (leb (lost l) MAX_READERS) q in
      let r = both (eqb (writing l) 0 && eqb (held l) (lost l)) (eqb (low l) (lost l)) p.0 in
      let s = both (eqb (writing l) 0) (eqb (held l) (lost l)) r.0 in
      record {
        nobody-writes = eqb-true (writing l) 0 s.0;
        only-forgotten = eqb-true (held l) (lost l) s.1;
        state-is = eqb-true (low l) (lost l) r.1;
        within = leb-true (lost l) MAX_READERS p.1;
      }

  locks-set-make :
      ((l : ℕ) → l < RWLOCKS → LockSet (low l) (lost l) (writing l) (held l)) →
      locks_are_set w.words w.written w.reads w.forgotten ≡ true
  unfolding locks_are_set lock_is_set state_is_set
  locks-set-make k =
      all-make (lock_is_set w.words w.written w.reads w.forgotten) RWLOCKS
      (λ l h.
      let s = k l h in
      rw (eq-eqb (writing l) 0 s.nobody-writes, eq-eqb (held l) (lost l) s.only-forgotten, eq-eqb (low l) (lost l) s.state-is)
      (le-leb (lost l) MAX_READERS s.within))

  once-read : (word : ℕ) → eqb word INCOMPLETE || eqb word COMPLETE ≡ true → OnceSet word
  once-read word e = by (eqb word INCOMPLETE) refl e
    where
      by : (c : Bool) → eqb word INCOMPLETE ≡ c → c || eqb word COMPLETE ≡ true → OnceSet word
      by true q k = fresh (eqb-true word INCOMPLETE q)
      by false q k = complete (eqb-true word COMPLETE k)

  once-make : (word : ℕ) → OnceSet word → eqb word INCOMPLETE || eqb word COMPLETE ≡ true
  once-make word (fresh e) = rw (eq-eqb word INCOMPLETE e)
  once-make word (complete e) = rw (eq-eqb word COMPLETE e) (or-true (eqb word INCOMPLETE))

  sets-read : set_alone w ≡ true → BySets w
  unfolding set_alone nobody_sleeps mutexes_rest mutex_rests onces_are_set once_is_set parkers_rest parker_rests
  sets-read q =
      let a = threads_rest w.threads in
      let b = nobody_sleeps w.sleepers in
      let c = mutexes_rest w.words w.locked in
      let d = locks_are_set w.words w.written w.reads w.forgotten in
      let e = onces_are_set w.words in
      let f' = both (a && b && c && d && e) (parkers_rest w.words) q in
      let e' = both (a && b && c && d) e f'.0 in
      let d' = both (a && b && c) d e'.0 in
      let c' = both (a && b) c d'.0 in
      let b' = both a b c'.0 in
      record {
        awake = λ t h. (rests-read b'.0 t h).0;
        idle = λ t h. (rests-read b'.0 t h).1;
        nobody-sleeps = eqb-true w.sleepers.count 0 b'.1;
        mutexes = λ m h.
            let p =
            both (eqb (word_for w.words K.Mutex m) UNLOCKED) (eqb (mutex_holders w.locked m) 0)
            (all-at (mutex_rests w.words w.locked) MUTEXES m c'.1 h) in
            (eqb-true (word_for w.words K.Mutex m) UNLOCKED p.0, eqb-true (mutex_holders w.locked m) 0 p.1);
        locks = λ l h. locks-set-read d'.1 l h;
        onces = λ o h. once-read (word_for w.words K.Once o) (all-at (once_is_set w.words) ONCES o e'.1 h);
        parkers = λ t h. eqb-true (word_for w.words K.Parker t) EMPTY (all-at (parker_rests w.words) THREADS t f'.1 h);
      }

  sets-make : BySets w → set_alone w ≡ true
  unfolding set_alone nobody_sleeps mutexes_rest mutex_rests onces_are_set once_is_set parkers_rest parker_rests
  sets-make s =
      let a : threads_rest w.threads ≡ true = rests-make s.awake s.idle in
      let b : eqb w.sleepers.count 0 ≡ true = eq-eqb w.sleepers.count 0 s.nobody-sleeps in
      let c : all_from (mutex_rests w.words w.locked) MUTEXES 0 ≡ true =
      all-make (mutex_rests w.words w.locked) MUTEXES
      (λ m h.
      rw (eq-eqb (word_for w.words K.Mutex m) UNLOCKED (s.mutexes m h).0)
      (eq-eqb (mutex_holders w.locked m) 0 (s.mutexes m h).1)) in
      let d : locks_are_set w.words w.written w.reads w.forgotten ≡ true = locks-set-make s.locks in
      let e : all_from (once_is_set w.words) ONCES 0 ≡ true =
      all-make (once_is_set w.words) ONCES (λ o h. once-make (word_for w.words K.Once o) (s.onces o h)) in
      let f : all_from (parker_rests w.words) THREADS 0 ≡ true =
      all-make (parker_rests w.words) THREADS (λ t h. eq-eqb (word_for w.words K.Parker t) EMPTY (s.parkers t h)) in
      rw (a, b, c, d, e, f)

-- a world is sound exactly if what specs/Clauses.antt says of it holds
sound-is : (w : World) → sound_world w ≡ true → IsSound w
sound-is w s =
    let c = sound-clauses w s in
    record {
      names = λ t h. name-exists w t c.names h;
      values = λ t h. value-passed w t c.values h;
      sleepers-stand = sleepers-read w c.stand;
      in-range = range-read w c.range;
      mutexes = λ m h. mutex-ways (word_for w.words K.Mutex m) (mutex_holders w.locked m) (mutex-agrees w m c.mutexes h);
      locks = λ l h. lock-agrees w l c.locks h;
      needs = λ t h. need-held w t c.needs h;
      by-sets = λ z. sets-read w (set-read w z c.begun);
    }

is-sound : (w : World) → IsSound w → sound_world w ≡ true
is-sound w s =
    clauses-sound w
    (record {
      names = names-exist-of w s.names;
      values = values-passed-of w s.values;
      stand = sleepers-make w s.sleepers-stand;
      range = range-make w s.in-range;
      mutexes =
          mutexes-agree-of w (λ m h. ways-mutex (word_for w.words K.Mutex m) (mutex_holders w.locked m) (s.mutexes m h));
      locks = locks-agree-of w s.locks;
      needs = needs-held-of w s.needs;
      begun = by w.started refl;
    })
  where
    by : (c : Bool) → w.started ≡ c → started_or_set w ≡ true
    by true q = started-is w q
    by false q = set_is w (sets-make w (s.by-sets q))

pub sound-exactly : SoundExactly
sound-exactly w = (sound-is w, is-sound w)
