-- M is kept by every act, refused ones too, and so holds in every world reached. Assumes nothing.
use mathlib.Core.Path.{◌≡◌, refl, sym, ap, ◌∙◌, subst}
use mathlib.Core.Logic.{inl, inr, ◌≢◌}
use mathlib.Core.Bool.{true, false}
use mathlib.Core.List.{List, [], ◌∷◌}
use Prim.Native.Nat.{ℕ, ◌<◌}
use native.Mathlib.Decide.{ℕ_discrete}
use lib.Seq.{get_or-set_same, get_or-set_other}
use Rattle.words.specs.declared.Kind.TheVariants as K
use Rattle.queue.specs.declared.Row.{Row}
use Rattle.queue.specs.Row.{THREADS}
use Rattle.calls.specs.declared.At.{At}
use Rattle.calls.specs.declared.At.TheVariants as A
use Rattle.calls.specs.declared.Thread.{Thread}
use Rattle.calls.specs.declared.Event.{Event}
use Rattle.calls.specs.Objects.{MUTEXES, word_of}
use Rattle.calls.specs.Plans.{idle}
use Rattle.calls.specs.Positions.{operand_of, in_closure, is_idle}
use Rattle.world.specs.declared.World.{World}
use Rattle.world.specs.World.{fresh_world, thread_at, sleeps_on}
use Rattle.step.specs.declared.Acted.{Acted}
use Rattle.step.specs.Acts.{recorded, begin_of, wake_of, close_of}
use Rattle.sound.specs.Sound.{sound_world}
use Rattle.sound.proofs.Examples.{fresh-sound}
use Rattle.acts.specs.declared.Fields.{Fields}
use Rattle.acts.specs.Acts.{set_of, act_of, acts_of, Sized, no-act, one-act}
use Rattle.kept.specs.Shape.{Shaped}
use Rattle.kept.proofs.Shape.{fresh-shaped}
use Rattle.kept.proofs.Tests.{no_way}
use Rattle.keeps.proofs.Keeps.{act-sound, act-shaped}
use Rattle.local.specs.Part.{sleeps_at}
use Rattle.local.proofs.Waking.{sleeps-asleep}
use Rattle.local.proofs.Happened.{Happened, was-refused, has-set, has-begun, has-stepped, has-woken, has-closed, happened, set-started, rests}
use Rattle.claims_mutex.proofs.Answers.{helps}
use Rattle.claims_mutex.proofs.Covered.{Answers, Cover, Covered, step-covered}

-- one thread has another record, awake, and it did not answer before
module _
    (w : World) (t : ℕ) (th : Thread) (row : Row) (event : Event) (shaped : Shaped w) (is-thread : t < THREADS) (aw : th.asleep ≡ false)
    (k : ℕ) (quiet : Answers w k t → ⊥) where
  own : thread_at (recorded w t th row event).world t ≡ th
  unfolding recorded
  own = get_or-set_same w.threads t th idle (rw shaped.threads is-thread)

  other : (u : ℕ) → u ≢ t → thread_at (recorded w t th row event).world u ≡ thread_at w u
  unfolding recorded
  other u n = get_or-set_other w.threads t u th idle n

  pub recorded-covered : Covered w k → Covered (recorded w t th row event).world k
  unfolding recorded
  recorded-covered I s a = here (ℕ_discrete s t)
    where
      cover : Cover w k → Cover (recorded w t th row event).world k
      cover (inl two) = inl two
      cover (inr (u, A)) = there (ℕ_discrete u t)
        where
          there : Dec (u ≡ t) → Cover (recorded w t th row event).world k
          there (yes e) = absurd (quiet (subst (Answers w k) e A))
          there (no n) =
              inr (
                u,
                record {
                  awake = ap (λ (x : Thread). x.asleep) (other u n) ∙ A.awake;
                  answers = ap (λ (x : Thread). helps x.at) (other u n) ∙ A.answers;
                  there = ap (λ (x : Thread). operand_of u x.at) (other u n) ∙ A.there;
                },
              )

      here : Dec (s ≡ t) → Cover (recorded w t th row event).world k
      here (yes e) =
          let q : sleeps_at (recorded w t th row event).world k t ≡ true = subst (λ (x : ℕ). sleeps_at (recorded w t th row event).world k x ≡ true) e a in
          no_way (sym aw ∙ (sym (ap (λ (x : Thread). x.asleep) own) ∙ sleeps-asleep k t (thread_at (recorded w t th row event).world t) q))
      here (no n) = cover (I s (sym (ap (sleeps_on k s) (other s n)) ∙ a))

-- an idle thread and one in a closure answer for nobody
idle-quiet : (at : At) → is_idle at ≡ true → helps at ≡ false
unfolding is_idle helps
idle-quiet A.Idle e = refl
idle-quiet (A.Mutex m p) e = no_way e
idle-quiet (A.RwLock l p) e = refl
idle-quiet (A.Condvar c p) e = no_way e
idle-quiet (A.Once o p) e = refl
idle-quiet (A.Parker p) e = refl

closure-quiet : (at : At) → in_closure at ≡ true → helps at ≡ false
unfolding in_closure helps
closure-quiet A.Idle e = refl
closure-quiet (A.Mutex m p) e = no_way e
closure-quiet (A.RwLock l p) e = refl
closure-quiet (A.Condvar c p) e = no_way e
closure-quiet (A.Once o p) e = refl
closure-quiet (A.Parker p) e = refl

-- where nobody sleeps
rests-covered : (w : World) (k : ℕ) → sound_world w ≡ true → Shaped w → w.started ≡ false → Covered w k
rests-covered w k e s n u a = no_way (sym (rests w e s n u).0 ∙ sleeps-asleep k u (thread_at w u) a)

-- every act
happened-covered :
    (w : World) (a : Fields) (r : Acted) → sound_world w ≡ true → Shaped w → sound_world r.world ≡ true → Shaped r.world → Happened w a r →
    (m : ℕ) → m < MUTEXES → Covered w (word_of K.Mutex m) → Covered r.world (word_of K.Mutex m)
unfolding set_of begin_of wake_of close_of
happened-covered w a r e s f v (was-refused number) m h I = I
happened-covered w a r e s f v (has-set n _) m h I =
    rests-covered (set_of w a.choice a.object a.value).world (word_of K.Mutex m) f v (set-started w a.choice a.object a.value ∙ n)
happened-covered w a r e s f v (has-begun i q) m h I =
    recorded-covered w a.thread _ _ _ s i refl (word_of K.Mutex m)
    (λ A. no_way (sym (idle-quiet (thread_at w a.thread).at q) ∙ A.answers)) I
happened-covered w a r e s f v (has-stepped i awake within S) m h I =
    step-covered w a.thread _ r e s within S m h I
happened-covered w a r e s f v (has-woken i asleep) m h I =
    recorded-covered w a.thread _ _ _ s i refl (word_of K.Mutex m) (λ A. no_way (sym A.awake ∙ asleep)) I
happened-covered w a r e s f v (has-closed i awake inside) m h I =
    recorded-covered w a.thread _ _ _ s i refl (word_of K.Mutex m)
    (λ A. no_way (sym (closure-quiet (thread_at w a.thread).at inside) ∙ A.answers)) I

-- every list of acts
pub acts-covered :
    (w : World) (acts : List Fields) → sound_world w ≡ true → Shaped w → Sized acts → (m : ℕ) → m < MUTEXES → Covered w (word_of K.Mutex m) →
    Covered (acts_of w acts) (word_of K.Mutex m)
unfolding acts_of
acts-covered w [] e s no-act m h I = I
acts-covered w (a ∷ acts) e s (one-act l r) m h I =
    let f : sound_world (act_of w a).world ≡ true = act-sound w a e s l in
    let v : Shaped (act_of w a).world = act-shaped w a s l in
    acts-covered (act_of w a).world acts f v r m h (happened-covered w a (act_of w a) e s f v (happened w a e s) m h I)

-- M, in every world reached
pub reached-covered : (acts : List Fields) → Sized acts → (m : ℕ) → m < MUTEXES → Covered (acts_of fresh_world acts) (word_of K.Mutex m)
unfolding fresh_world
reached-covered acts h m l =
    acts-covered fresh_world acts fresh-sound fresh-shaped h m l (rests-covered fresh_world (word_of K.Mutex m) fresh-sound fresh-shaped refl)
