-- Every act, seen by its entries in the history: it gave nothing and left the tables alone, set forgotten reads, or was a step with its change
-- of holds. Assumes nothing.
use mathlib.Core.Path.{◌≡◌, refl, sym, ap, ◌∙◌, subst}
use mathlib.Core.Bool.{Bool, true, false, cond}
use mathlib.Core.List.{List, [], ◌∷◌}
use Prim.Native.Nat.{ℕ, ◌≤◌, ◌<◌}
use lib.Dec.{eqb, ltb}
use lib.ListN.{length, set}
use Rattle.words.specs.Once.{COMPLETE}
use Rattle.words.specs.RwLock.{MAX_READERS}
use Rattle.words.specs.declared.Kind.TheVariants as K
use Rattle.calls.specs.declared.Event.TheVariants as E
use Rattle.calls.specs.Objects.{RWLOCKS, WORDS, word_of}
use Rattle.world.specs.declared.World.{World}
use Rattle.world.specs.World.{word_at}
use Rattle.step.specs.declared.Acted.{Acted}
use Rattle.step.specs.Acts.{recorded, begin_of, wake_of, close_of}
use Rattle.acts.specs.declared.Fields.{Fields}
use Rattle.acts.specs.Refusals.{start_of}
use Rattle.acts.specs.Acts.{with_word, with_forgotten, set_world, set_of, ending_of}
use Rattle.keeps_counts.proofs.Others.{SameCounts, same_self, begin-same, wake-same, close-same}
use Rattle.local.specs.Part.{word_next, queue_at, plan_at, woken_at, Stepped}
use Rattle.local.proofs.Happened.{Happened, was-refused, has-set, has-begun, has-stepped, has-woken, has-closed}
use Rattle.claims.specs.Claims.{Mark, forgets, answer_marks}
use Rattle.claims.proofs.Marks.{marks_of, plan-marks}

-- the tables of holds are as they were
pub record SameHolds (w v : World) : Type 0 where
  pub same-locked : v.locked ≡ w.locked
  pub same-written : v.written ≡ w.written
  pub same_reads : v.reads ≡ w.reads

pub data Gave (w : World) (r : Acted) : List Mark → Type 0 where
  gave-nothing : SameHolds w r.world → r.world.forgotten ≡ w.forgotten → Gave w r []
  gave-forgotten :
      {lock value : ℕ} → SameHolds w r.world → r.world.forgotten ≡ set w.forgotten lock value → lock < RWLOCKS → value ≤ MAX_READERS →
      Gave w r (forgets lock value ∷ [])
  gave-step :
      (t : ℕ) (f : Bool) → word_next w t < WORDS → Stepped w t (word_next w t) (woken_at w t f) (plan_at w t f) r →
      Gave w r (marks_of (plan_at w t f).hold t (plan_at w t f).object)

same-counts : (w : World) (r : Acted) → SameCounts w r.world → Gave w r []
same-counts w r c =
    gave-nothing (record { same-locked = c.locked-are; same-written = c.written-are; same_reads = c.reads-are }) c.forgotten-are

set-gave :
    (w : World) (a : Fields) → (eqb a.choice 0 ≡ true → (a.object < RWLOCKS) × (a.value ≤ MAX_READERS)) →
    Gave w (set_of w a.choice a.object a.value) (cond (eqb a.choice 0) (forgets a.object a.value ∷ []) [])
unfolding set_of set_world
set-gave w a named = by (eqb a.choice 0) refl (eqb a.choice 1) (eqb a.choice 2)
  where
    same : SameHolds w w
    same = record { same-locked = refl; same-written = refl; same_reads = refl }

    by :
        (c : Bool) → eqb a.choice 0 ≡ c → (d g : Bool) →
        Gave w (record {
          event = E.Set;
          world =
              cond c (with_forgotten w a.object a.value)
              (cond d (with_word w (word_of K.WriterNotify a.object) a.value)
              (cond g (with_word w (word_of K.Condvar a.object) a.value) (with_word w (word_of K.Once a.object) COMPLETE)));
        })
        (cond c (forgets a.object a.value ∷ []) [])
    by true q d g =
        gave-forgotten (record { same-locked = refl; same-written = refl; same_reads = refl }) refl (named q).0 (named q).1
    by false q true g = gave-nothing (record { same-locked = refl; same-written = refl; same_reads = refl }) refl
    by false q false true = gave-nothing (record { same-locked = refl; same-written = refl; same_reads = refl }) refl
    by false q false false = gave-nothing (record { same-locked = refl; same-written = refl; same_reads = refl }) refl

-- the entries of a step are its plan's
step-marks :
    (w : World) (a : Fields) (f : Bool) (r : Acted) → Stepped w a.thread (word_next w a.thread) (woken_at w a.thread f) (plan_at w a.thread f) r →
    answer_marks w a r.event ≡ marks_of (plan_at w a.thread f).hold a.thread (plan_at w a.thread f).object
unfolding plan_at
step-marks w a f r S =
    ap (answer_marks w a) S.event
    ∙ plan-marks w a f (word_at w (word_next w a.thread)) (ltb 0 (length (queue_at w (word_next w a.thread)))) (woken_at w a.thread f)

pub gave : (w : World) (a : Fields) (r : Acted) → Happened w a r → Gave w r (answer_marks w a r.event)
unfolding answer_marks set_of begin_of wake_of close_of recorded
gave w a r (was-refused number) = same-counts w r (same_self w)
gave w a r (has-set n named) = set-gave w a named
gave w a r (has-begun i q) = same-counts w r (begin-same w a.thread (start_of a))
gave w a r (has-stepped i awake within S) =
    subst (Gave w r) (sym (step-marks w a (eqb a.choice 1) r S)) (gave-step a.thread (eqb a.choice 1) within S)
gave w a r (has-woken i asleep) = same-counts w r (wake-same w a.thread)
gave w a r (has-closed i awake inside) = same-counts w r (close-same w a.thread (ending_of a.choice))
