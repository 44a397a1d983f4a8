-- The wakes of a step, and begin, wake and close, leave words and holds alone, so that their counts agree as before; and a whole step keeps
-- that they agree. Assumes nothing.
use mathlib.Core.Path.{◌≡◌, refl, sym, ap, ◌∙◌, subst}
use mathlib.Core.Bool.{Bool, true}
use Prim.Native.Nat.{ℕ, ◌^◌, ◌<◌}
use lib.Dec.{ltb}
use lib.ListN.{length}
use borrow.Author.Tests.{ltb-true}
use Rattle.words.proofs.Cond.{either}
use Rattle.words.specs.declared.Wake.{Wake}
use Rattle.words.specs.declared.Wake.TheVariants as W
use Rattle.queue.specs.declared.Row.{Row}
use Rattle.queue.specs.Row.{THREADS, place_of, take_out_of}
use Rattle.once.specs.declared.Ending.{Ending}
use Rattle.calls.specs.declared.At.{At}
use Rattle.calls.specs.declared.Event.{Event}
use Rattle.calls.specs.declared.Plan.{Plan}
use Rattle.calls.specs.declared.Thread.{Thread}
use Rattle.calls.specs.Objects.{WORDS}
use Rattle.calls.specs.Plans.{decide_of}
use Rattle.calls.specs.Positions.{operand_of, need_of, passed_of}
use Rattle.world.specs.declared.World.{World}
use Rattle.world.specs.World.{thread_at, word_at, on_word}
use Rattle.world.specs.Holds.{MUTEXHOLDS, LOCKHOLDS, has_hold}
use Rattle.step.specs.declared.Acted.{Acted}
use Rattle.step.specs.Step.{Woken, wakes_of, own_plan, apply_plan, refused, step_of}
use Rattle.step.specs.Acts.{recorded, begin_of, wake_of, close_of}
use Rattle.sound.specs.Sound.{mutexes_agree, locks_agree}
use Rattle.kept.proofs.Tests.{decided}
use Rattle.keeps_counts.proofs.Steps.{own-mutexes, own-locks}

-- two worlds with the same words and holds
pub record SameCounts (w v : World) : Type 0 where
  pub words_are : v.words ≡ w.words
  pub locked-are : v.locked ≡ w.locked
  pub written-are : v.written ≡ w.written
  pub reads-are : v.reads ≡ w.reads
  pub forgotten-are : v.forgotten ≡ w.forgotten

pub same_self : (w : World) → SameCounts w w
same_self w = record { words_are = refl; locked-are = refl; written-are = refl; reads-are = refl; forgotten-are = refl }

module _ (w v : World) (s : SameCounts w v) where
  pub same-mutexes : mutexes_agree w ≡ true → mutexes_agree v ≡ true
  unfolding mutexes_agree
  same-mutexes e = rw (s.words_are, s.locked-are) e

  pub same-locks : locks_agree w ≡ true → locks_agree v ≡ true
  unfolding locks_agree
  same-locks e = rw (s.words_are, s.written-are, s.reads-are, s.forgotten-are) e

-- the wakes of a step
pub wakes-same : (w : World) (k place : ℕ) (wake : Wake) → SameCounts w (wakes_of w k place wake).world
unfolding wakes_of
wakes-same w k place W.None = same_self w
wakes-same w k place W.One =
    either (λ (x : Woken). SameCounts w x.world) (take_out_of w.sleepers place).ok _ _
    (record { words_are = refl; locked-are = refl; written-are = refl; reads-are = refl; forgotten-are = refl })
    (record { words_are = refl; locked-are = refl; written-are = refl; reads-are = refl; forgotten-are = refl })
wakes-same w k place W.All =
    record { words_are = refl; locked-are = refl; written-are = refl; reads-are = refl; forgotten-are = refl }

-- begin, wake and close
pub recorded-same : (w : World) (t : ℕ) (th : Thread) (row : Row) (event : Event) → SameCounts w (recorded w t th row event).world
unfolding recorded
recorded-same w t th row event =
    record { words_are = refl; locked-are = refl; written-are = refl; reads-are = refl; forgotten-are = refl }

pub begin-same : (w : World) (t : ℕ) (at : At) → SameCounts w (begin_of w t at).world
unfolding begin_of
begin-same w t at = recorded-same w t _ _ _

pub wake-same : (w : World) (t : ℕ) → SameCounts w (wake_of w t).world
unfolding wake_of
wake-same w t = recorded-same w t _ _ _

pub close-same : (w : World) (t : ℕ) (ending : Ending) → SameCounts w (close_of w t ending).world
unfolding close_of
close-same w t ending = recorded-same w t _ _ _

pub begin-mutexes : (w : World) (t : ℕ) (at : At) → mutexes_agree w ≡ true → mutexes_agree (begin_of w t at).world ≡ true
begin-mutexes w t at = same-mutexes w (begin_of w t at).world (begin-same w t at)

pub begin-locks : (w : World) (t : ℕ) (at : At) → locks_agree w ≡ true → locks_agree (begin_of w t at).world ≡ true
begin-locks w t at = same-locks w (begin_of w t at).world (begin-same w t at)

pub wake-mutexes : (w : World) (t : ℕ) → mutexes_agree w ≡ true → mutexes_agree (wake_of w t).world ≡ true
wake-mutexes w t = same-mutexes w (wake_of w t).world (wake-same w t)

pub wake-locks : (w : World) (t : ℕ) → locks_agree w ≡ true → locks_agree (wake_of w t).world ≡ true
wake-locks w t = same-locks w (wake_of w t).world (wake-same w t)

pub close-mutexes : (w : World) (t : ℕ) (ending : Ending) → mutexes_agree w ≡ true → mutexes_agree (close_of w t ending).world ≡ true
close-mutexes w t ending = same-mutexes w (close_of w t ending).world (close-same w t ending)

pub close-locks : (w : World) (t : ℕ) (ending : Ending) → locks_agree w ≡ true → locks_agree (close_of w t ending).world ≡ true
close-locks w t ending = same-locks w (close_of w t ending).world (close-same w t ending)

-- the wakes and then the own part, in a world whose lists are as long as they should be, of a thread that has the hold its position asks for
module _
    (w v : World) (same : SameCounts w v) (t : ℕ) (at : At) (f a : Bool) (is-thread : t < THREADS) (in_row : operand_of t at < WORDS)
    (words_long : length w.words ≡ WORDS) (held : has_hold w.locked w.written w.reads t (need_of at) ≡ true)
  where
    long : length v.words ≡ WORDS
    long = rw same.words_are words_long

    has : has_hold v.locked v.written v.reads t (need_of at) ≡ true
    has = rw (same.locked-are, same.written-are, same.reads-are) held

    found : word_at v (operand_of t at) ≡ word_at w (operand_of t at)
    found = rw same.words_are

    pub after-mutexes :
        length w.locked ≡ MUTEXHOLDS → mutexes_agree w ≡ true →
        mutexes_agree (own_plan v t (operand_of t at) (decide_of at f (word_at w (operand_of t at)) a)) ≡ true
    after-mutexes l e =
        subst (λ (n : ℕ). mutexes_agree (own_plan v t (operand_of t at) (decide_of at f n a)) ≡ true) found
        (own-mutexes v t at f a is-thread in_row long has (ap length same.locked-are ∙ l) (same-mutexes w v same e))

    pub after-locks :
        length w.written ≡ LOCKHOLDS → length w.reads ≡ LOCKHOLDS → passed_of at ≡ true → word_at w (operand_of t at) < 2 ^ 32 → locks_agree w ≡ true →
        locks_agree (own_plan v t (operand_of t at) (decide_of at f (word_at w (operand_of t at)) a)) ≡ true
    after-locks l r passed wide e =
        subst (λ (n : ℕ). locks_agree (own_plan v t (operand_of t at) (decide_of at f n a)) ≡ true) found
        (own-locks v t at f a is-thread in_row long has (ap length same.written-are ∙ l) (ap length same.reads-are ∙ r) passed
        (subst (λ (n : ℕ). n < 2 ^ 32) (sym found) wide) (same-locks w v same e))

-- a whole step
module _
    (w : World) (t : ℕ) (fails : Bool) (is-thread : t < THREADS) (words_long : length w.words ≡ WORDS)
    (held : has_hold w.locked w.written w.reads t (need_of (thread_at w t).at) ≡ true)
  where
    abbrev at : At
    at = (thread_at w t).at

    abbrev place : ℕ
    place = place_of (on_word w.threads (operand_of t (thread_at w t).at)) w.sleepers

    abbrev own : Plan
    own = decide_of (thread_at w t).at fails (word_at w (operand_of t (thread_at w t).at)) (ltb place THREADS)

    pub step-mutexes : length w.locked ≡ MUTEXHOLDS → mutexes_agree w ≡ true → mutexes_agree (step_of w t fails).world ≡ true
    unfolding step_of apply_plan
    step-mutexes l e =
        decided (λ (x : Acted). mutexes_agree x.world ≡ true) (ltb (operand_of t at) WORDS) (apply_plan w t (operand_of t at) place own) (refused 19 w)
        (λ q. after-mutexes w (wakes_of w (operand_of t at) place own.wake).world (wakes-same w (operand_of t at) place own.wake) t at fails
        (ltb place THREADS) is-thread (ltb-true (operand_of t at) WORDS q) words_long held l e)
        (λ q. e)

    pub step-locks :
        length w.written ≡ LOCKHOLDS → length w.reads ≡ LOCKHOLDS → passed_of (thread_at w t).at ≡ true →
        word_at w (operand_of t (thread_at w t).at) < 2 ^ 32 → locks_agree w ≡ true → locks_agree (step_of w t fails).world ≡ true
    unfolding step_of apply_plan
    step-locks l r passed wide e =
        decided (λ (x : Acted). locks_agree x.world ≡ true) (ltb (operand_of t at) WORDS) (apply_plan w t (operand_of t at) place own) (refused 19 w)
        (λ q. after-locks w (wakes_of w (operand_of t at) place own.wake).world (wakes-same w (operand_of t at) place own.wake) t at fails
        (ltb place THREADS) is-thread (ltb-true (operand_of t at) WORDS q) words_long held l r passed wide e)
        (λ q. e)
