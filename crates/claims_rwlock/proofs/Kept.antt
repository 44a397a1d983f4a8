-- Every act keeps R0 to R5 of an RwLock, with the notifications counted along. Assumes nothing.
use mathlib.Core.Path.{◌≡◌, refl, sym, ap, ◌∙◌, subst}
use mathlib.Core.Bool.{Bool, true, false}
use Prim.Native.Nat.{ℕ, ◌+◌, ◌%◌, ◌^◌, ◌<◌}
use native.Mathlib.Omega.{arith}
use lib.Dec.{eqb, ltb}
use lib.ListN.{length}
use borrow.Author.Tests.{eq-eqb}
use Rattle.rwlock.specs.declared.RwLockAt.{RwLockAt}
use Rattle.queue.specs.Row.{THREADS}
use Rattle.calls.specs.declared.At.{At}
use Rattle.calls.specs.declared.At.TheVariants as A
use Rattle.calls.specs.Objects.{RWLOCKS, WORDS}
use Rattle.calls.specs.Plans.{decide_of}
use Rattle.calls.specs.Positions.{operand_of}
use Rattle.world.specs.declared.World.{World}
use Rattle.world.specs.World.{thread_at, word_at}
use Rattle.step.specs.declared.Acted.{Acted}
use Rattle.sound.specs.Sound.{sound_world}
use Rattle.acts.specs.declared.Fields.{Fields}
use Rattle.acts.specs.Acts.{set_of, ending_of}
use Rattle.kept.specs.Shape.{Shaped}
use Rattle.local.specs.Part.{word_next, queue_at, number_woken, plan_at, woken_at, Stepped}
use Rattle.local.proofs.Happened.{Happened, was-refused, has-set, has-begun, has-stepped, has-woken, has-closed, set-started}
use Rattle.claims_rwlock.proofs.Codes.{outside}
use Rattle.claims_rwlock.proofs.Did.{code_of}
use Rattle.claims_rwlock.proofs.Own.{adds_of}
use Rattle.claims_rwlock.proofs.View.{here, code_at, here-is}
use Rattle.claims_rwlock.proofs.Near.{Holds, near-keeps}
use Rattle.claims_rwlock.proofs.Acts.{far-keeps, wake-keeps, close-keeps, begin-keeps, rests-holds}

pub code_off : (l : ℕ) (at : At) → here l at ≡ false → code_at l at ≡ outside
unfolding here code_at
code_off l A.Idle e = refl
code_off l (A.Mutex m p) e = refl
code_off l (A.RwLock j p) e = rw e refl
code_off l (A.Condvar c p) e = refl
code_off l (A.Once o p) e = refl
code_off l (A.Parker p) e = refl

pub code-on : (l : ℕ) (p : RwLockAt) → code_at l (A.RwLock l p) ≡ code_of p
unfolding code_at
code-on l p = rw (eq-eqb l l refl) refl

-- how many notifications of lock l an act was
unfoldable pub adds_by : (l : ℕ) (w : World) (a : Fields) (r : Acted) → Happened w a r → ℕ
adds_by l w a r (was-refused number) = 0
adds_by l w a r (has-set n c) = 0
adds_by l w a r (has-begun i q) = 0
adds_by l w a r (has-stepped i awake within S) = adds_of (code_at l (thread_at w a.thread).at)
adds_by l w a r (has-woken i asleep) = 0
adds_by l w a r (has-closed i awake inside) = 0

module _
    {Few : Type 0} (l : ℕ) (is-lock : l < RWLOCKS) (w : World) (snd : sound_world w ≡ true) (shp : Shaped w) (n : ℕ) (B : Holds Few l w n)
    (small : Few → n < 2 ^ 32) where
  -- a step
  module _
      (t : ℕ) (f : Bool) (r : Acted) (is-thread : t < THREADS) (awake : (thread_at w t).asleep ≡ false) (within : word_next w t < WORDS)
      (G : Stepped w t (word_next w t) (woken_at w t f) (plan_at w t f) r) where
    step-off : here l (thread_at w t).at ≡ false → Holds Few l r.world (n + adds_of (code_at l (thread_at w t).at))
    step-off e =
        let z : adds_of (code_at l (thread_at w t).at) ≡ 0 = ap adds_of (code_off l (thread_at w t).at e) in
        let y : n ≡ n + adds_of (code_at l (thread_at w t).at) = omega arith in
        subst (λ (k : ℕ). Holds Few l r.world k) y (far-keeps l is-lock w snd shp n t (woken_at w t f) f r e within G B)

    module _ (p : RwLockAt) (at-is : (thread_at w t).at ≡ A.RwLock l p) where
      k : ℕ
      k = operand_of t (A.RwLock l p)

      found : Bool
      found = ltb 0 (length (queue_at w (operand_of t (A.RwLock l p))))

      G' :
          Stepped w t k (number_woken (decide_of (A.RwLock l p) f (word_at w k) found).wake (queue_at w k))
          (decide_of (A.RwLock l p) f (word_at w k) found) r
      unfolding plan_at k found
      G' = subst T at-is G
        where
          T : At → Type 0
          T at =
              Stepped w t (operand_of t at)
              (number_woken (decide_of at f (word_at w (operand_of t at)) (ltb 0 (length (queue_at w (operand_of t at))))).wake
              (queue_at w (operand_of t at)))
              (decide_of at f (word_at w (operand_of t at)) (ltb 0 (length (queue_at w (operand_of t at))))) r

      step-on : Holds Few l r.world (n + adds_of (code_at l (thread_at w t).at))
      unfolding k found operand_of
      step-on =
          let z : code_of p ≡ code_at l (thread_at w t).at = sym (ap (code_at l) at-is ∙ code-on l p) in
          subst (λ (c : ℕ). Holds Few l r.world (n + adds_of c)) z
          (near-keeps l is-lock w snd shp n small B t is-thread p at-is awake f k refl found refl _ refl r G')

    step_keeps : Holds Few l r.world (n + adds_of (code_at l (thread_at w t).at))
    step_keeps = go (here l (thread_at w t).at) refl
      where
        go : (c : Bool) → here l (thread_at w t).at ≡ c → Holds Few l r.world (n + adds_of (code_at l (thread_at w t).at))
        go true e = let q = here-is l (thread_at w t).at e in step-on q.0 q.1
        go false e = step-off e

  more : {v : World} → Holds Few l v n → Holds Few l v (n + 0)
  more {v} = subst (λ (k : ℕ). Holds Few l v k) (let z : n ≡ n + 0 = omega arith in z)

  -- every act
  pub happened-holds :
      (a : Fields) (r : Acted) → sound_world r.world ≡ true → Shaped r.world → (H : Happened w a r) →
      Holds Few l r.world (n + adds_by l w a r H)
  unfolding adds_by set_of
  happened-holds a r e s (was-refused number) = more B
  happened-holds a r e s (has-set f c) =
      more (rests-holds l is-lock (set_of w a.choice a.object a.value).world e s (set-started w a.choice a.object a.value ∙ f) n)
  happened-holds a r e s (has-begun i q) = more (begin-keeps l w n a.thread a.choice a.object (a.value % 256) shp i q B)
  happened-holds a r e s (has-stepped i awake within S) = step_keeps a.thread (eqb a.choice 1) r i awake within S
  happened-holds a r e s (has-woken i asleep) = more (wake-keeps l w n a.thread snd shp asleep B)
  happened-holds a r e s (has-closed i awake inside) = more (close-keeps l w n a.thread (ending_of a.choice) inside B)
