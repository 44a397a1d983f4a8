-- Every act but begin leaves every thread the hold that its position asks for, and begin does where the thread has the hold that its call
-- starts with. Assumes nothing.
use mathlib.Core.Path.{◌≡◌, refl, sym, ap, ◌∙◌, subst}
use mathlib.Core.Bool.{Bool, true, false}
use mathlib.Core.List.{List, [], ◌∷◌}
use Prim.Native.Nat.{ℕ, zero, suc, ◌+◌, ◌<◌}
use native.Mathlib.Omega.{arith}
use lib.Dec.{eqb, ltb}
use lib.ListN.{length, get_or, set, length-set}
use lib.Seq.{get_or-set_same, get_or-set_other}
use borrow.Author.Tests.{eqb-true, eqb-false, ltb-true}
use Rattle.words.proofs.Cond.{either}
use Rattle.words.specs.declared.Wake.{Wake}
use Rattle.words.specs.declared.Wake.TheVariants as W
use Rattle.queue.specs.declared.Row.{Row}
use Rattle.queue.specs.Row.{THREADS, place_of, take_out_of}
use Rattle.once.specs.declared.Ending.{Ending}
use Rattle.calls.specs.declared.At.{At}
use Rattle.calls.specs.declared.At.TheVariants as A
use Rattle.calls.specs.declared.Event.{Event}
use Rattle.calls.specs.declared.Need.{Need}
use Rattle.calls.specs.declared.Plan.{Plan}
use Rattle.calls.specs.declared.Thread.{Thread}
use Rattle.calls.specs.Objects.{WORDS}
use Rattle.calls.specs.Plans.{decide_of, idle}
use Rattle.calls.specs.Positions.{exists, operand_of, after_wait, need_of}
use Rattle.world.specs.declared.World.{World}
use Rattle.world.specs.World.{thread_at, word_at, sleeps_on, on_word}
use Rattle.world.specs.Holds.{MUTEXHOLDS, LOCKHOLDS, has_hold}
use Rattle.step.specs.declared.Acted.{Acted}
use Rattle.step.specs.Step.{Woken, roused, rouse_all, wakes_of, own_plan, apply_plan, refused, step_of}
use Rattle.step.specs.Acts.{recorded, begin_of, wake_of, closed_at, close_of}
use Rattle.acts.specs.Acts.{set_world, set_of}
use Rattle.sound.specs.Sound.{names_exist, needs_held}
use Rattle.sound.proofs.Readings.{name-exists, names-exist-of, need-held, needs-held-of}
use Rattle.kept.proofs.Tests.{decided}
use Rattle.kept.proofs.Waits.{exists-after-wait, need-after-wait, need-closed}
use Rattle.keeps_counts.proofs.Others.{SameCounts, wakes-same}
use Rattle.keeps_counts.proofs.Needs.{own-needs}

-- what a wait's end keeps of a position, a wake keeps of every thread's
module _ (P : At → Type 0) (on : (at : At) → P at → P (after_wait at)) where
  rouse-all : (k t : ℕ) (ths : List Thread) (u : ℕ) → P (get_or ths u idle).at → P (get_or (rouse_all k t ths) u idle).at
  unfolding rouse_all
  rouse-all k t [] u h = h
  rouse-all k t (th ∷ ths) zero h = either (λ (x : Thread). P x.at) (sleeps_on k t th) (roused th) th (on th.at h) h
  rouse-all k t (th ∷ ths) (suc u) h = rouse-all k (t + 1) ths u h

  rouse-one : (ths : List Thread) (i u : ℕ) → P (get_or ths u idle).at → P (get_or (set ths i (roused (get_or ths i idle))) u idle).at
  rouse-one [] i u h = h
  rouse-one (th ∷ ths) zero zero h = on th.at h
  rouse-one (th ∷ ths) zero (suc u) h = h
  rouse-one (th ∷ ths) (suc i) zero h = h
  rouse-one (th ∷ ths) (suc i) (suc u) h = rouse-one ths i u h

  pub wakes-keep : (w : World) (k place : ℕ) (wake : Wake) (u : ℕ) → P (thread_at w u).at → P (thread_at (wakes_of w k place wake).world u).at
  unfolding wakes_of
  wakes-keep w k place W.None u h = h
  wakes-keep w k place W.One u h =
      either (λ (x : Woken). P (thread_at x.world u).at) (take_out_of w.sleepers place).ok _ _
      (rouse-one w.threads (take_out_of w.sleepers place).thread u h) h
  wakes-keep w k place W.All u h = rouse-all k 0 w.threads u h

rouse-long : (k t : ℕ) (ths : List Thread) → length (rouse_all k t ths) ≡ length ths
unfolding rouse_all
rouse-long k t [] = refl
rouse-long k t (th ∷ ths) = ap suc (rouse-long k (t + 1) ths)

pub wakes-long : (w : World) (k place : ℕ) (wake : Wake) → length (wakes_of w k place wake).world.threads ≡ length w.threads
unfolding wakes_of
wakes-long w k place W.None = refl
wakes-long w k place W.One =
    either (λ (x : Woken). length x.world.threads ≡ length w.threads) (take_out_of w.sleepers place).ok _ _
    (length-set w.threads (take_out_of w.sleepers place).thread _) refl
wakes-long w k place W.All = rouse-long k 0 w.threads

-- the wakes of a step
module _ (w : World) (k place : ℕ) (wake : Wake) where
  pub wakes-names : names_exist w ≡ true → names_exist (wakes_of w k place wake).world ≡ true
  wakes-names e =
      names-exist-of (wakes_of w k place wake).world
      (λ u h. wakes-keep (λ (x : At). exists x ≡ true) exists-after-wait w k place wake u (name-exists w u e h))

  pub wakes-needs : needs_held w ≡ true → needs_held (wakes_of w k place wake).world ≡ true
  wakes-needs e =
      needs-held-of (wakes_of w k place wake).world
      (λ u h. rw ((wakes-same w k place wake).locked-are, (wakes-same w k place wake).written-are, (wakes-same w k place wake).reads-are)
      (wakes-keep (λ (x : At). has_hold w.locked w.written w.reads u (need_of x) ≡ true)
      (λ x q. subst (λ (n : Need). has_hold w.locked w.written w.reads u n ≡ true) (sym (need-after-wait x)) q) w k place wake u
      (need-held w u e h)))

-- a whole step
module _ (w : World) (t : ℕ) (fails : Bool) (is-thread : t < THREADS) where
  abbrev at : At
  at = (thread_at w t).at

  abbrev place : ℕ
  place = place_of (on_word w.threads (operand_of t (thread_at w t).at)) w.sleepers

  abbrev own : Plan
  own = decide_of (thread_at w t).at fails (word_at w (operand_of t (thread_at w t).at)) (ltb place THREADS)

  abbrev woken : World
  woken = (wakes_of w (operand_of t (thread_at w t).at) place own.wake).world

  same : SameCounts w woken
  same = wakes-same w (operand_of t at) place own.wake

  pub step-needs :
      length w.threads ≡ THREADS → length w.locked ≡ MUTEXHOLDS → length w.written ≡ LOCKHOLDS → length w.reads ≡ LOCKHOLDS →
      names_exist w ≡ true → needs_held w ≡ true → needs_held (step_of w t fails).world ≡ true
  unfolding step_of apply_plan
  step-needs long locked-long ws-long rs-long names e =
      decided (λ (x : Acted). needs_held x.world ≡ true) (ltb (operand_of t at) WORDS) (apply_plan w t (operand_of t at) place own) (refused 19 w)
      (λ q. subst (λ (n : ℕ). needs_held (own_plan woken t (operand_of t at) (decide_of at fails n (ltb place THREADS))) ≡ true)
      (ap (λ (l : List ℕ). get_or l (operand_of t at) 0) same.words_are)
      (own-needs woken t at fails (ltb place THREADS) is-thread (ltb-true (operand_of t at) WORDS q)
      (rw (same.locked-are, same.written-are, same.reads-are) (need-held w t e is-thread))
      (wakes-long w (operand_of t at) place own.wake ∙ long) (ap length same.locked-are ∙ locked-long) (ap length same.written-are ∙ ws-long)
      (ap length same.reads-are ∙ rs-long) (wakes-names w (operand_of t at) place own.wake names) (wakes-needs w (operand_of t at) place own.wake e)))
      (λ q. e)

-- begin, wake and close
module _ (w : World) (t : ℕ) (is-thread : t < THREADS) (long : length w.threads ≡ THREADS) (needs : needs_held w ≡ true) where
  pub recorded-needs :
      (th : Thread) (row : Row) (event : Event) → has_hold w.locked w.written w.reads t (need_of th.at) ≡ true →
      needs_held (recorded w t th row event).world ≡ true
  unfolding recorded
  recorded-needs th row event e = needs-held-of (recorded w t th row event).world (λ u h. by u h (eqb u t) refl)
    where
      by :
          (u : ℕ) → u < THREADS → (c : Bool) → eqb u t ≡ c →
          has_hold w.locked w.written w.reads u (need_of (get_or (set w.threads t th) u idle).at) ≡ true
      by u h true q =
          let s : u ≡ t = eqb-true u t q in
          rw (s, get_or-set_same w.threads t th idle (omega (arith, long, is-thread))) e
      by u h false q = rw (get_or-set_other w.threads t u th idle (eqb-false u t q)) (need-held w u needs h)

  pub begin-needs : (at : At) → has_hold w.locked w.written w.reads t (need_of at) ≡ true → needs_held (begin_of w t at).world ≡ true
  unfolding begin_of
  begin-needs at e = recorded-needs _ _ _ e

  pub wake-needs : needs_held (wake_of w t).world ≡ true
  unfolding wake_of
  wake-needs =
      recorded-needs _ _ _
      (subst (λ (n : Need). has_hold w.locked w.written w.reads t n ≡ true) (sym (need-after-wait (thread_at w t).at)) (need-held w t needs is-thread))

  need-close : (ending : Ending) (at : At) → need_of (closed_at ending at) ≡ need_of at
  need-close ending A.Idle = refl
  need-close ending (A.Mutex m p) = refl
  need-close ending (A.RwLock l p) = refl
  need-close ending (A.Condvar c p) = refl
  need-close ending (A.Once o p) = need-closed ending o p
  need-close ending (A.Parker p) = refl

  pub close-needs : (ending : Ending) → needs_held (close_of w t ending).world ≡ true
  unfolding close_of
  close-needs ending =
      recorded-needs _ _ _
      (subst (λ (n : Need). has_hold w.locked w.written w.reads t n ≡ true) (sym (need-close ending (thread_at w t).at)) (need-held w t needs is-thread))

-- set
pub set-needs : (w : World) (choice object value : ℕ) → needs_held w ≡ true → needs_held (set_of w choice object value).world ≡ true
unfolding set_of set_world needs_held
set-needs w choice object value e =
    either (λ (x : World). needs_held x ≡ true) (eqb choice 0) _ _ e
    (either (λ (x : World). needs_held x ≡ true) (eqb choice 1) _ _ e (either (λ (x : World). needs_held x ≡ true) (eqb choice 2) _ _ e e))
