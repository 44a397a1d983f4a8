-- Every act on a sound world, by what it did: it was refused, or it set, began, stepped, woke or closed, with what its refusals found. An
-- invariant of worlds is taken apart by the kind of act here and nowhere else. Assumes nothing.
use mathlib.Core.Path.{◌≡◌, refl, sym, subst}
use mathlib.Core.Bool.{Bool, true, false, cond, not, ◌&&◌}
use Prim.Native.Nat.{ℕ, ◌≤◌, ◌<◌}
use native.Mathlib.Omega.{arith}
use lib.Dec.{eqb, leb}
use borrow.Author.Tests.{eqb-true, ltb-true, leb-true}
use Rattle.words.specs.RwLock.{MAX_READERS}
use Rattle.queue.specs.Row.{THREADS}
use Rattle.calls.specs.declared.Thread.{Thread}
use Rattle.calls.specs.Objects.{RWLOCKS, WORDS}
use Rattle.calls.specs.Positions.{in_closure, is_idle}
use Rattle.world.specs.declared.World.{World}
use Rattle.world.specs.World.{thread_at}
use Rattle.step.specs.declared.Acted.{Acted}
use Rattle.step.specs.Step.{refused}
use Rattle.step.specs.Acts.{begin_of, wake_of, close_of}
use Rattle.sound.specs.Sound.{is_asleep, thread_rests, threads_rest, sound_world}
use Rattle.sound.proofs.Ranges.{all-at}
use Rattle.sound.proofs.Readings.{sound-clauses, set-read}
use Rattle.acts.specs.declared.Fields.{Fields}
use Rattle.acts.specs.Refusals.{SET, BEGIN, STEP, WAKE, start_of, set_exists, object_exists, fields_refusal, set_refusal, begin_refusal, step_refusal, wake_refusal, close_refusal, world_refusal}
use Rattle.acts.specs.Acts.{set_world, set_of, ending_of, accepted_of, acted_of, act_of}
use Rattle.acts.proofs.Laws.{sound-acts}
use Rattle.kept.specs.Shape.{Shaped}
use Rattle.kept.proofs.Tests.{decided, no_way, and_left, and_right}
use Rattle.keeps_records.proofs.Names.{fields-named}
use Rattle.keeps_records.proofs.Records.{everywhere}
use Rattle.keeps_records.proofs.Sleeping.{begins-idle, steps-awake, wakes-asleep, closes-awake, thread-named}
use Rattle.keeps_counts.proofs.Sets.{alone-read}
use Rattle.local.specs.Part.{word_next, plan_at, woken_at, Stepped}
use Rattle.local.proofs.Frame.{stepped, steps-word}

pub data Happened (w : World) (a : Fields) : Acted → Type 0 where
  was-refused : (number : ℕ) → Happened w a (refused number w)
  has-set :
      w.started ≡ false → (eqb a.choice 0 ≡ true → (a.object < RWLOCKS) × (a.value ≤ MAX_READERS)) →
      Happened w a (set_of w a.choice a.object a.value)
  has-begun : a.thread < THREADS → is_idle (thread_at w a.thread).at ≡ true → Happened w a (begin_of w a.thread (start_of a))
  has-stepped :
      {r : Acted} → a.thread < THREADS → (thread_at w a.thread).asleep ≡ false → word_next w a.thread < WORDS →
      Stepped w a.thread (word_next w a.thread) (woken_at w a.thread (eqb a.choice 1)) (plan_at w a.thread (eqb a.choice 1)) r →
      Happened w a r
  has-woken : a.thread < THREADS → (thread_at w a.thread).asleep ≡ true → Happened w a (wake_of w a.thread)
  has-closed :
      a.thread < THREADS → (thread_at w a.thread).asleep ≡ false → in_closure (thread_at w a.thread).at ≡ true →
      Happened w a (close_of w a.thread (ending_of a.choice))

-- what a set that is not refused has found
sets_first : (w : World) (choice value : ℕ) → set_refusal w choice value ≡ 0 → w.started ≡ false
unfolding set_refusal
sets_first w choice value e = by w.started _ e
  where
    by : (p : Bool) (k : ℕ) → ◌≡◌ {A = ℕ} (cond p 12 k) 0 → p ≡ false
    by true k e = absurd (omega arith)
    by false k e = refl

sets-few : (w : World) (choice value : ℕ) → set_refusal w choice value ≡ 0 → eqb choice 0 ≡ true → value ≤ MAX_READERS
unfolding set_refusal
sets-few w choice value e z = by w.started (leb value MAX_READERS) refl (rw z at e)
  where
    by : (b c : Bool) → leb value MAX_READERS ≡ c → ◌≡◌ {A = ℕ} (cond b 12 (cond (true && not c) 13 0)) 0 → value ≤ MAX_READERS
    by true c q r = absurd (omega arith)
    by false true q r = leb-true value MAX_READERS q
    by false false q r = absurd (omega arith)

sets-lock : (a : Fields) → fields_refusal a ≡ 0 → eqb a.act SET ≡ true → eqb a.choice 0 ≡ true → a.object < RWLOCKS
unfolding object_exists set_exists
sets-lock a f s c =
    let z : object_exists a ≡ true = (fields-named a f).object in
    let q : a.choice ≡ 0 = eqb-true a.choice 0 c in
    ltb-true a.object RWLOCKS (rw (s, q) at z)

-- .. and a close
closes-inside : (th : Thread) → close_refusal th ≡ 0 → in_closure th.at ≡ true
unfolding close_refusal
closes-inside th e = by (is_idle th.at) th.asleep (in_closure th.at) e
  where
    by : (p q r : Bool) → ◌≡◌ {A = ℕ} (cond p 5 (cond q 6 (cond r 0 11))) 0 → r ≡ true
    by true q r e = absurd (omega arith)
    by false true r e = absurd (omega arith)
    by false false true e = refl
    by false false false e = absurd (omega arith)

accepted-happened :
    (w : World) (a : Fields) → sound_world w ≡ true → Shaped w → fields_refusal a ≡ 0 → world_refusal w a ≡ 0 → Happened w a (accepted_of w a)
unfolding accepted_of world_refusal
accepted-happened w a e s f q =
    decided (Happened w a) (eqb a.act SET) _ _
    (λ x. let z : set_refusal w a.choice a.value ≡ 0 = rw x at q in
    has-set (sets_first w a.choice a.value z) (λ c. (sets-lock a f x c, sets-few w a.choice a.value z c)))
    (λ n. decided (Happened w a) (eqb a.act BEGIN) _ _
    (λ x. let z : begin_refusal w a ≡ 0 = rw (n, x) at q in has-begun (thread-named a f n) (begins-idle w a z))
    (λ b. decided (Happened w a) (eqb a.act STEP) _ _
    (λ x. let z : step_refusal (thread_at w a.thread) a.choice ≡ 0 = rw (n, b, x) at q in
    let within : word_next w a.thread < WORDS = steps-word w a.thread a.choice e s (thread-named a f n) z in
    let awake : (thread_at w a.thread).asleep ≡ false = steps-awake (thread_at w a.thread) a.choice z in
    has-stepped (thread-named a f n) awake within (stepped w a.thread (eqb a.choice 1) e s awake within))
    (λ c. decided (Happened w a) (eqb a.act WAKE) _ _
    (λ x. let z : wake_refusal (thread_at w a.thread) ≡ 0 = rw (n, b, c, x) at q in
    has-woken (thread-named a f n) (wakes-asleep (thread_at w a.thread) z))
    (λ x. let z : close_refusal (thread_at w a.thread) ≡ 0 = rw (n, b, c, x) at q in
    has-closed (thread-named a f n) (closes-awake (thread_at w a.thread) z) (closes-inside (thread_at w a.thread) z)))))

pub happened : (w : World) (a : Fields) → sound_world w ≡ true → Shaped w → Happened w a (act_of w a)
unfolding acted_of
happened w a e s =
    subst (Happened w a) (sym (sound-acts w a e))
    (decided (Happened w a) (eqb (fields_refusal a) 0) _ _
    (λ f. decided (Happened w a) (eqb (world_refusal w a) 0) _ _
    (λ q. accepted-happened w a e s (eqb-true (fields_refusal a) 0 f) (eqb-true (world_refusal w a) 0 q)) (λ q. was-refused (world_refusal w a)))
    (λ f. was-refused (fields_refusal a)))

-- a set does not start the world, and where none has everybody is idle and awake
pub set-started : (w : World) (choice object value : ℕ) → (set_world w choice object value).started ≡ w.started
unfolding set_world
set-started w choice object value =
    decided P (eqb choice 0) _ _ (λ _. refl)
    (λ _. decided P (eqb choice 1) _ _ (λ _. refl) (λ _. decided P (eqb choice 2) _ _ (λ _. refl) (λ _. refl)))
  where
    P : World → Type 0
    P v = v.started ≡ w.started

not-false : (b : Bool) → not b ≡ true → b ≡ false
not-false true e = no_way e
not-false false e = refl

pub rests :
    (w : World) → sound_world w ≡ true → Shaped w → w.started ≡ false →
    (u : ℕ) → ((thread_at w u).asleep ≡ false) × (is_idle (thread_at w u).at ≡ true)
unfolding threads_rest thread_rests is_asleep is_idle
rests w e s n =
    everywhere w (λ (th : Thread). (th.asleep ≡ false) × (is_idle th.at ≡ true)) s (refl, refl)
    (λ u h. let z : (not (thread_at w u).asleep && is_idle (thread_at w u).at) ≡ true =
    all-at (thread_rests w.threads) THREADS u (alone-read w (set-read w n (sound-clauses w e).begun)).threads h in (
      not-false (thread_at w u).asleep (and_left (not (thread_at w u).asleep) (is_idle (thread_at w u).at) z),
      and_right (not (thread_at w u).asleep) (is_idle (thread_at w u).at) z,
    ))
