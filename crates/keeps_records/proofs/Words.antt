-- Every accepted act keeps the fourth clause of soundness: mutex words are 0 to 2 and Once words 0 to 7. Assumes nothing.
use mathlib.Core.Path.{◌≡◌, refl, ap, ◌∙◌}
use mathlib.Core.Bool.{Bool, true, false}
use mathlib.Core.List.{List}
use Prim.Native.Nat.{ℕ, ◌^◌, ◌≤◌, ◌<◌}
use native.Mathlib.Omega.{arith}
use borrow.Author.Tests.{eqb-true, eqb-false, ltb-true, lt-ltb}
use lib.Dec.{eqb, ltb}
use lib.ListN.{length, get_or, set}
use lib.Seq.{get_or-set_same, get_or-set_other}
use Rattle.words.proofs.Cond.{either}
use Rattle.words.specs.Once.{COMPLETE}
use Rattle.words.specs.declared.Kind.{Kind}
use Rattle.words.specs.declared.Kind.TheVariants as K
use Rattle.words.specs.declared.Wake.{Wake}
use Rattle.words.specs.declared.Wake.TheVariants as W
use Rattle.queue.specs.Row.{THREADS, place_of, take_out_of}
use Rattle.calls.specs.declared.At.{At}
use Rattle.calls.specs.declared.Plan.{Plan}
use Rattle.calls.specs.Objects.{MUTEXES, ONCES, WORDS, size_of, word_of}
use Rattle.calls.specs.Plans.{decide_of}
use Rattle.calls.specs.Positions.{operand_of}
use Rattle.calls.proofs.Objects.{word-there}
use Rattle.world.specs.declared.World.{World}
use Rattle.world.specs.World.{thread_at, word_at, on_word}
use Rattle.step.specs.declared.Acted.{Acted}
use Rattle.step.specs.Step.{Woken, wakes_of, own_plan, apply_plan, step_of}
use Rattle.step.specs.Acts.{recorded, begin_of, wake_of, close_of}
use Rattle.sound.specs.Sound.{sound_world, words_in_range, word_for}
use Rattle.sound.proofs.Readings.{sound-clauses, range-read, range-make}
use Rattle.sound.specs.Clauses.{InRange}
use Rattle.acts.specs.declared.Fields.{Fields}
use Rattle.acts.specs.Refusals.{SET, BEGIN, STEP, WAKE}
use Rattle.acts.specs.Acts.{set_world, set_of, accepted_of}
use Rattle.kept.specs.Shape.{Shaped}
use Rattle.kept.proofs.Tests.{decided}
use Rattle.kept.specs.Laws.{kind_of, object_of, largest}
use Rattle.kept.proofs.Places.{operand-is}
use Rattle.kept.proofs.Calls.{word_kept}
use Rattle.keeps_records.proofs.Names.{object-within, word_bound, each-passed}

-- a word of another kind is another word
mutex-word-is : (kind : Kind) (o m : ℕ) → o < size_of kind → m < MUTEXES → word_of K.Mutex m ≡ word_of kind o → largest kind ≤ 2
unfolding word_of largest
mutex-word-is K.Nothing o m h k e = absurd (omega arith)
mutex-word-is K.Mutex o m h k e = omega arith
mutex-word-is K.RwLock o m h k e = let z = rw (lt-ltb m 4 k, lt-ltb o 4 h) at e in absurd (omega arith)
mutex-word-is K.WriterNotify o m h k e = let z = rw (lt-ltb m 4 k, lt-ltb o 4 h) at e in absurd (omega arith)
mutex-word-is K.Condvar o m h k e = let z = rw (lt-ltb m 4 k, lt-ltb o 4 h) at e in absurd (omega arith)
mutex-word-is K.Once o m h k e = let z = rw (lt-ltb m 4 k, lt-ltb o 4 h) at e in absurd (omega arith)
mutex-word-is K.Parker o m h k e = let z = rw (lt-ltb m 4 k, lt-ltb o THREADS h) at e in absurd (omega arith)

once-word-is : (kind : Kind) (o m : ℕ) → o < size_of kind → m < ONCES → word_of K.Once m ≡ word_of kind o → largest kind ≤ 7
unfolding word_of largest
once-word-is K.Nothing o m h k e = absurd (omega arith)
once-word-is K.Mutex o m h k e = omega arith
once-word-is K.RwLock o m h k e = let z = rw (lt-ltb m 4 k, lt-ltb o 4 h) at e in absurd (omega arith)
once-word-is K.WriterNotify o m h k e = let z = rw (lt-ltb m 4 k, lt-ltb o 4 h) at e in absurd (omega arith)
once-word-is K.Condvar o m h k e = let z = rw (lt-ltb m 4 k, lt-ltb o 4 h) at e in absurd (omega arith)
once-word-is K.Once o m h k e = omega arith
once-word-is K.Parker o m h k e = let z = rw (lt-ltb m 4 k, lt-ltb o THREADS h) at e in absurd (omega arith)

-- a word stored: each word within a bound stays so, where the new one is, if it is that word
stored :
    (l : List ℕ) (i j x bound : ℕ) → j < length l → get_or l j 0 ≤ bound → (j ≡ i → x ≤ bound) → get_or (set l i x) j 0 ≤ bound
stored l i j x bound h b k = by (eqb j i) refl
  where
    by : (c : Bool) → eqb j i ≡ c → get_or (set l i x) j 0 ≤ bound
    by true q =
        let e : j ≡ i = eqb-true j i q in
        let z : get_or (set l j x) j 0 ≡ x = get_or-set_same l j x 0 h in
        rw (← e, z) (k e)
    by false q = rw (get_or-set_other l i j x 0 (eqb-false j i q)) b

-- the word of an object stored, within the bounds of its kind
range-stored :
    (w v : World) (kind : Kind) (o x : ℕ) → Shaped w → InRange w → v.words ≡ set w.words (word_of kind o) x → x ≤ largest kind → InRange v
unfolding word_for
range-stored w v kind o x s i e h = record {
  mutex = λ m k. rw e (stored w.words (word_of kind o) (word_of K.Mutex m) x 2 (inside K.Mutex m k) (i.mutex m k) (mutex m k));
  once = λ m k. rw e (stored w.words (word_of kind o) (word_of K.Once m) x 7 (inside K.Once m k) (i.once m k) (once m k));
}
  where
    inside : (c : Kind) (m : ℕ) → m < size_of c → word_of c m < length w.words
    inside c m k = rw s.words (word-there c m k)

    there : (c : Kind) (m : ℕ) → m < size_of c → word_of c m ≡ word_of kind o → o < size_of kind
    there c m k q = object-within kind o (rw (← q) (word-there c m k))

    mutex : (m : ℕ) → m < MUTEXES → word_of K.Mutex m ≡ word_of kind o → x ≤ 2
    mutex m k q = let z : largest kind ≤ 2 = mutex-word-is kind o m (there K.Mutex m k q) k q in omega arith

    once : (m : ℕ) → m < ONCES → word_of K.Once m ≡ word_of kind o → x ≤ 7
    once m k q = let z : largest kind ≤ 7 = once-word-is kind o m (there K.Once m k q) k q in omega arith

-- a world with the same words
range_same : (w v : World) → InRange w → v.words ≡ w.words → InRange v
range_same w v i e = record { mutex = λ m k. rw e (i.mutex m k); once = λ o k. rw e (i.once o k) }

pub wakes-words : (w : World) (k place : ℕ) (wake : Wake) → (wakes_of w k place wake).world.words ≡ w.words
unfolding wakes_of
wakes-words w k place W.None = refl
wakes-words w k place W.One = either (λ (x : Woken). x.world.words ≡ w.words) (take_out_of w.sleepers place).ok _ _ refl refl
wakes-words w k place W.All = refl

set-range : (w : World) (choice object value : ℕ) → Shaped w → InRange w → value < 2 ^ 32 → InRange (set_world w choice object value)
unfolding set_world largest
set-range w choice object value s i h =
    either InRange (eqb choice 0) _ _ (range-stored w _ K.RwLock object value s i refl (omega arith))
    (either InRange (eqb choice 1) _ _ (range-stored w _ K.WriterNotify object value s i refl (omega arith))
    (either InRange (eqb choice 2) _ _ (range-stored w _ K.Condvar object value s i refl (omega arith))
    (range-stored w _ K.Once object COMPLETE s i refl (omega arith))))

step_range : (w : World) (t : ℕ) (f : Bool) → sound_world w ≡ true → Shaped w → InRange w → InRange (step_of w t f).world
unfolding step_of apply_plan own_plan
step_range w t f e s i =
    let at : At = (thread_at w t).at in
    let k : ℕ = operand_of t at in
    let place : ℕ = place_of (on_word w.threads k) w.sleepers in
    let p : Plan = decide_of at f (word_at w k) (ltb place THREADS) in
    decided (λ (x : Acted). InRange x.world) (ltb k WORDS) _ _
    (λ q. range-stored w (own_plan (wakes_of w k place p.wake).world t k p) (kind_of at) (object_of t at) p.word s i
    (ap (λ (l : List ℕ). set l k p.word) (wakes-words w k place p.wake) ∙ ap (λ (n : ℕ). set w.words n p.word) (operand-is t at))
    (word_kept at f (word_at w k) (ltb place THREADS) (each-passed w e s t) (word_bound w e s t at (ltb-true k WORDS q))))
    (λ _. i)

-- 4.
pub range-kept : (w : World) (a : Fields) → sound_world w ≡ true → Shaped w → a.value < 2 ^ 32 → words_in_range (accepted_of w a).world ≡ true
unfolding accepted_of set_of begin_of wake_of close_of recorded
range-kept w a e s h =
    let i : InRange w = range-read w (sound-clauses w e).range in
    range-make (accepted_of w a).world
    (either P (eqb a.act SET) _ _ (set-range w a.choice a.object a.value s i h)
    (either P (eqb a.act BEGIN) _ _ (range_same w _ i refl)
    (either P (eqb a.act STEP) _ _ (step_range w a.thread (eqb a.choice 1) e s i)
    (either P (eqb a.act WAKE) _ _ (range_same w _ i refl)
    (range_same w _ i refl)))))
  where
    P : Acted → Type 0
    P x = InRange x.world
