-- M over worlds: who sleeps on a mutex is covered, by the word or by an awake thread that answers; a step keeps it. Assumes nothing.
use mathlib.Core.Path.{◌≡◌, refl, sym, ap, ◌∙◌, subst}
use mathlib.Core.Logic.{◌⊎◌, inl, inr, ◌≢◌}
use mathlib.Core.Bool.{Bool, true, false}
use mathlib.Core.List.{List, [], ◌∷◌}
use Prim.Native.Nat.{ℕ, suc, min, ◌<◌}
use native.Mathlib.Omega.{arith}
use native.Mathlib.Decide.{ℕ_discrete}
use lib.Dec.{eqb, ltb}
use lib.ListN.{length, take}
use borrow.Author.Tests.{eqb-true, eq-eqb}
use Rattle.words.specs.Mutex.{CONTENDED}
use Rattle.words.specs.declared.Kind.TheVariants as K
use Rattle.words.specs.declared.Wake.{Wake}
use Rattle.words.specs.declared.Wake.TheVariants as W
use Rattle.queue.specs.Row.{occ}
use Rattle.calls.specs.declared.At.{At}
use Rattle.calls.specs.declared.Thread.{Thread}
use Rattle.calls.specs.Objects.{MUTEXES, WORDS, word_of}
use Rattle.calls.specs.Positions.{operand_of}
use Rattle.world.specs.declared.World.{World}
use Rattle.world.specs.World.{thread_at, word_at, sleeps_on}
use Rattle.step.specs.declared.Acted.{Acted}
use Rattle.step.specs.Step.{roused}
use Rattle.sound.specs.Sound.{sound_world}
use Rattle.kept.specs.Shape.{Shaped}
use Rattle.kept.proofs.Tests.{no_way, and_right}
use Rattle.kept.specs.Laws.{kind_of, object_of}
use Rattle.kept.proofs.Calls.{sleeping}
use Rattle.kept.proofs.Places.{operand-is}
use Rattle.keeps_records.proofs.Sleeping.{each-waits}
use Rattle.keeps_counts.proofs.Words.{words-apart, operand-object}
use Rattle.local.specs.Part.{word_next, sleeps_at, queue_at, number_woken, plan_at, woken_at, Framed, Stepped}
use Rattle.local.proofs.Waking.{sleeps-asleep, sleeps-queue}
use Rattle.local.proofs.Frame.{sound-stand, only-woken}
use Rattle.claims_mutex.proofs.Answers.{helps, Leaves, marked, answering, apart, wakes-one, leaves, woken-helps}

-- thread u is awake at a position that answers for those who sleep on word k
pub record Answers (w : World) (k u : ℕ) : Type 0 where
  pub awake : (thread_at w u).asleep ≡ false
  pub answers : helps (thread_at w u).at ≡ true
  pub there : operand_of u (thread_at w u).at ≡ k

-- the word is marked as contended, or some thread answers
abbrev pub Cover : World → ℕ → Type 0
Cover w k = (word_at w k ≡ CONTENDED) ⊎ ((u : ℕ) × Answers w k u)

-- M: if a thread sleeps on it
abbrev pub Covered : World → ℕ → Type 0
Covered w k = (s : ℕ) → sleeps_at w k s ≡ true → Cover w k

pub sleeps-there : (k u : ℕ) (th : Thread) → sleeps_on k u th ≡ true → operand_of u th.at ≡ k
unfolding sleeps_on
sleeps-there k u th e = eqb-true (operand_of u th.at) k (and_right th.asleep (eqb (operand_of u th.at) k) e)

-- a word of a mutex is the operand of positions on a mutex only
pub mutex-operand : (t m : ℕ) (at : At) → m < MUTEXES → operand_of t at ≡ word_of K.Mutex m → operand_of t at < WORDS → kind_of at ≡ K.Mutex
mutex-operand t m at h e l = (words-apart (kind_of at) K.Mutex (object_of t at) m (operand-object t at l) h (sym (operand-is t at) ∙ e)).0

-- another thread's answer stays, and who sleeps after a step slept before it
module _ (w v : World) (t k₀ n : ℕ) (f : Framed w t k₀ n v) (k : ℕ) where
  still-answers : (u : ℕ) → u ≢ t → Answers w k u → Answers v k u
  still-answers u h a = by (only-woken w v t k₀ n f u h)
    where
      by : (thread_at v u ≡ thread_at w u) ⊎ ((sleeps_at w k₀ u ≡ true) × (thread_at v u ≡ roused (thread_at w u))) → Answers v k u
      by (inl e) = record {
        awake = ap (λ (th : Thread). th.asleep) e ∙ a.awake;
        answers = ap (λ (th : Thread). helps th.at) e ∙ a.answers;
        there = ap (λ (th : Thread). operand_of u th.at) e ∙ a.there;
      }
      by (inr (s, e)) = no_way (sym a.awake ∙ sleeps-asleep k₀ u (thread_at w u) s)

  slept-before : (u : ℕ) → u ≢ t → sleeps_at v k u ≡ true → sleeps_at w k u ≡ true
  slept-before u h a = by (only-woken w v t k₀ n f u h)
    where
      by : (thread_at v u ≡ thread_at w u) ⊎ ((sleeps_at w k₀ u ≡ true) × (thread_at v u ≡ roused (thread_at w u))) → sleeps_at w k u ≡ true
      by (inl e) = sym (ap (sleeps_on k u) e) ∙ a
      by (inr (s, e)) = no_way (sym (ap (λ (th : Thread). th.asleep) e) ∙ sleeps-asleep k u (thread_at v u) a)

first-woken : (queue : List ℕ) (s : ℕ) → occ s queue ≡ 1 → (u : ℕ) × (0 < occ u (take (number_woken W.One queue) queue))
unfolding occ number_woken
first-woken [] s e = absurd (omega arith)
first-woken (x ∷ rest) s e =
    let one : min 1 (suc (length rest)) ≡ 1 = omega arith in
    (x, rw one (rw (eq-eqb x x refl) (omega arith)))

plan-leaves :
    (w : World) (t : ℕ) (f : Bool) → kind_of (thread_at w t).at ≡ K.Mutex → Leaves (thread_at w t).at (word_at w (word_next w t)) (plan_at w t f)
unfolding plan_at
plan-leaves w t f k = leaves (thread_at w t).at f (word_at w (word_next w t)) (ltb 0 (length (queue_at w (word_next w t)))) k

asleep-word : (w : World) (t : ℕ) (f : Bool) → (plan_at w t f).next.asleep ≡ true → operand_of t (plan_at w t f).next.at ≡ word_next w t
unfolding plan_at
asleep-word w t f e =
    ap (operand_of t)
    (sleeping (thread_at w t).at f (word_at w (word_next w t)) (ltb 0 (length (queue_at w (word_next w t)))) e).stays

module _
    (w : World) (t : ℕ) (f : Bool) (r : Acted) (sound : sound_world w ≡ true) (shaped : Shaped w) (within : word_next w t < WORDS)
    (S : Stepped w t (word_next w t) (woken_at w t f) (plan_at w t f) r) where
  -- the stepping thread is not asleep after the step, where its plan says so
  not_own : (plan_at w t f).next.asleep ≡ false → (k s : ℕ) → sleeps_at r.world k s ≡ true → s ≢ t
  not_own aw k s a e =
      let q : sleeps_at r.world k t ≡ true = subst (λ (x : ℕ). sleeps_at r.world k x ≡ true) e a in
      no_way (sym aw ∙ (sym (ap (λ (th : Thread). th.asleep) S.own) ∙ sleeps-asleep k t (thread_at r.world t) q))

  -- a step on another word
  far : (k : ℕ) → word_next w t ≢ k → Covered w k → Covered r.world k
  far k d I s a = here (ℕ_discrete s t)
    where
      kept-cover : Cover w k → Cover r.world k
      kept-cover (inl two) = inl (S.frame.other-words k (λ e. d (sym e)) ∙ two)
      kept-cover (inr (u, A)) =
          inr (
            u,
            still-answers w r.world t (word_next w t) (woken_at w t f) S.frame k u
                (λ e. d (subst (λ (x : ℕ). operand_of x (thread_at w x).at ≡ k) e A.there)) A,
          )

      here : Dec (s ≡ t) → Cover r.world k
      here (yes e) =
          let q : sleeps_at r.world k t ≡ true = subst (λ (x : ℕ). sleeps_at r.world k x ≡ true) e a in
          let z : (plan_at w t f).next.asleep ≡ true = sym (ap (λ (th : Thread). th.asleep) S.own) ∙ sleeps-asleep k t (thread_at r.world t) q in
          let y : operand_of t (plan_at w t f).next.at ≡ k = sym (ap (λ (th : Thread). operand_of t th.at) S.own) ∙ sleeps-there k t (thread_at r.world t) q in
          absurd (d (sym (asleep-word w t f z) ∙ y))
      here (no n) = kept-cover (I s (slept-before w r.world t (word_next w t) (woken_at w t f) S.frame k s n a))

  -- a step on this word
  near : (m : ℕ) → m < MUTEXES → word_next w t ≡ word_of K.Mutex m → Covered w (word_next w t) → Covered r.world (word_next w t)
  near m h o I s a = by (plan-leaves w t f (mutex-operand t m (thread_at w t).at h o within))
    where
      before : s ≢ t → sleeps_at w (word_next w t) s ≡ true
      before n = slept-before w r.world t (word_next w t) (woken_at w t f) S.frame (word_next w t) s n a

      on : (u : ℕ) → u ≢ t → Answers w (word_next w t) u → Answers r.world (word_next w t) u
      on = still-answers w r.world t (word_next w t) (woken_at w t f) S.frame (word_next w t)

      kept-cover :
          helps (thread_at w t).at ≡ false → (word_at w (word_next w t) ≡ CONTENDED → (plan_at w t f).word ≡ CONTENDED) →
          Cover w (word_next w t) → Cover r.world (word_next w t)
      kept-cover n keep (inl two) = inl (S.word ∙ keep two)
      kept-cover n keep (inr (u, A)) =
          inr (u, on u (λ e. no_way (sym n ∙ subst (λ (x : ℕ). helps (thread_at w x).at ≡ true) e A.answers)) A)

      by : Leaves (thread_at w t).at (word_at w (word_next w t)) (plan_at w t f) → Cover r.world (word_next w t)
      by (marked e) = inl (S.word ∙ e)
      by (answering aw e there) =
          inr (
            t,
            record {
              awake = ap (λ (th : Thread). th.asleep) S.own ∙ aw;
              answers = ap (λ (th : Thread). helps th.at) S.own ∙ e;
              there = ap (λ (th : Thread). operand_of t th.at) S.own ∙ there t;
            },
          )
      by (apart aw n keep) = kept-cover n keep (I s (before (not_own aw (word_next w t) s a)))
      by (wakes-one aw e) =
          let q : occ s (queue_at w (word_next w t)) ≡ 1 = sleeps-queue w (sound-stand w sound shaped) (word_next w t) s (before (not_own aw (word_next w t) s a)) in
          let (u, z) = first-woken (queue_at w (word_next w t)) s q in
          let y : 0 < occ u (take (woken_at w t f) (queue_at w (word_next w t))) =
          subst (λ (x : Wake). 0 < occ u (take (number_woken x (queue_at w (word_next w t))) (queue_at w (word_next w t)))) (sym e) z in
          let (on-it, is) = S.frame.woken-records u y in
          let there : operand_of u (thread_at w u).at ≡ word_next w t = sleeps-there (word_next w t) u (thread_at w u) on-it in
          let kind : kind_of (thread_at w u).at ≡ K.Mutex = mutex-operand u m (thread_at w u).at h (there ∙ o) (subst (λ (x : ℕ). x < WORDS) (sym there) within) in
          let (help, same) = woken-helps u (thread_at w u).at kind (each-waits w sound shaped u (sleeps-asleep (word_next w t) u (thread_at w u) on-it)) in
          inr (
            u,
            record {
              awake = ap (λ (th : Thread). th.asleep) is;
              answers = ap (λ (th : Thread). helps th.at) is ∙ help;
              there = ap (λ (th : Thread). operand_of u th.at) is ∙ (same ∙ there);
            },
          )

  -- every step keeps M
  pub step-covered : (m : ℕ) → m < MUTEXES → Covered w (word_of K.Mutex m) → Covered r.world (word_of K.Mutex m)
  step-covered m h I = by (ℕ_discrete (word_next w t) (word_of K.Mutex m))
    where
      by : Dec (word_next w t ≡ word_of K.Mutex m) → Covered r.world (word_of K.Mutex m)
      by (yes e) = subst (λ (k : ℕ). Covered r.world k) e (near m h e (subst (λ (k : ℕ). Covered w k) (sym e) I))
      by (no n) = far (word_of K.Mutex m) n I
