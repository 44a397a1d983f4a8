-- A step is local: in a sound world its event and its changes depend on nothing but its part, whether it is accepted or refused, and
-- outside of that part everything stays. Assumes nothing.
use mathlib.Core.Path.{◌≡◌, refl, sym, ap, ◌∙◌, subst}
use mathlib.Core.Logic.{◌⊎◌, inl, inr, ◌≢◌}
use mathlib.Core.Bool.{Bool, true, false, cond}
use mathlib.Core.List.{List, [], ◌∷◌, ◌++◌}
use Prim.Native.Nat.{ℕ, zero, suc, ◌<◌}
use native.Mathlib.Omega.{arith}
use borrow.Author.Tests.{eqb-true, eqb-false, ltb-true}
use lib.Dec.{eqb, ltb}
use lib.ListN.{length, get_or, set, take, drop}
use Rattle.words.specs.declared.Hold.TheVariants as H
use Rattle.words.specs.declared.Kind.TheVariants as K
use Rattle.queue.specs.Row.{THREADS, occ}
use Rattle.calls.specs.declared.Thread.{Thread}
use Rattle.calls.specs.declared.Plan.{Plan}
use Rattle.calls.specs.Objects.{MUTEXES, RWLOCKS, WORDS, word_of}
use Rattle.calls.specs.Positions.{operand_of}
use Rattle.world.specs.declared.World.{World}
use Rattle.world.specs.World.{thread_at, sleeps_on}
use Rattle.world.specs.Holds.{mutex_slot, lock_slot, holds_mutex, holds_write, reads_of}
use Rattle.step.specs.declared.Acted.{Acted}
use Rattle.step.specs.Step.{roused, locked_after, written_after, reads_after, refused, step_of}
use Rattle.acts.specs.Refusals.{fields_refusal, step_refusal}
use Rattle.acts.proofs.Laws.{sound-acts}
use Rattle.step.proofs.Laws.{not-stepped}
use Rattle.kept.specs.Shape.{Shaped}
use Rattle.kept.proofs.Tests.{no_way}
use Rattle.kept.specs.Laws.{held_kind}
use Rattle.keeps_records.proofs.Shape.{step-shaped, sound-count}
use Rattle.keeps_records.proofs.Sleeping.{steps-awake}
use Rattle.keeps_counts.proofs.Mutexes.{locked-same}
use Rattle.keeps_counts.specs.Tables.{locked_new, written_new, reads_new}
use Rattle.keeps_counts.proofs.Locks.{written_same, reads_same}
use Rattle.keeps_counts.proofs.Steps.{is-mutex-kind, is-lock-kind}
use Rattle.local.specs.Part.{word_next, sleeps_at, queue_at, Agree, Alike, plan_at, woken_at, Framed, Stepped}
use Rattle.local.proofs.Waking.{none_or_some, sleeps-asleep, sleeps-once}
use Rattle.local.proofs.Storing.{mutex-exists, lock-exists}
use Rattle.local.proofs.Frame.{word-thread, hold-about, only-woken, stepped, step-acts}
use Rattle.local.specs.Local.{StepLocal, ActLocal, StepsApart}

-- the same store in two lists that agree at a place
stored-alike :
    {A : Type 0} (l m : List A) (i j : ℕ) (x y d : A) → length l ≡ length m → get_or l j d ≡ get_or m j d → x ≡ y →
    get_or (set l i x) j d ≡ get_or (set m i y) j d
stored-alike [] [] i j x y d e h q = refl
stored-alike [] (b ∷ m) i j x y d e h q = absurd (omega arith)
stored-alike (a ∷ l) [] i j x y d e h q = absurd (omega arith)
stored-alike (a ∷ l) (b ∷ m) zero zero x y d e h q = q
stored-alike (a ∷ l) (b ∷ m) zero (suc j) x y d e h q = h
stored-alike (a ∷ l) (b ∷ m) (suc i) zero x y d e h q = h
stored-alike (a ∷ l) (b ∷ m) (suc i) (suc j) x y d e h q = stored-alike l m i j x y d (omega arith) h q

-- two worlds that agree, after the same plan over the same word
module _
    (w v : World) (t k n : ℕ) (p : Plan) (r s : Acted) (sw : Shaped w) (sv : Shaped v) (awake : (thread_at w t).asleep ≡ false)
    (is-thread : t < THREADS) (within : k < WORDS) (about : (p.hold ≡ H.Same) ⊎ (k ≡ word_of (held_kind p.hold) p.object))
    (agree : Agree w v t k) (a : Stepped w t k n p r) (b : Stepped v t k n p s) where
  slept-other : (u : ℕ) → sleeps_at w k u ≡ true → u ≢ t
  slept-other u e q = no_way (sym awake ∙ (ap (λ (x : ℕ). (thread_at w x).asleep) (sym q) ∙ sleeps-asleep k u (thread_at w u) e))

  woken-alike : (u : ℕ) → occ u (take n (queue_at w k)) ≡ occ u (take n (queue_at v k))
  woken-alike u = ap (λ (l : List ℕ). occ u (take n l)) agree.same_queue

  slept-alike : (u : ℕ) → sleeps_at w k u ≡ true → thread_at r.world u ≡ thread_at s.world u
  slept-alike u e = by (none_or_some (occ u (take n (queue_at w k))))
    where
      by : (occ u (take n (queue_at w k)) ≡ 0) ⊎ (0 < occ u (take n (queue_at w k))) → thread_at r.world u ≡ thread_at s.world u
      by (inl z) =
          a.frame.other-records u (slept-other u e) z ∙
          (agree.same-sleepers u e ∙ sym (b.frame.other-records u (slept-other u e) (sym (woken-alike u) ∙ z)))
      by (inr h) =
          (a.frame.woken-records u h).1 ∙
          (ap roused (agree.same-sleepers u e) ∙ sym (b.frame.woken-records u (rw (woken-alike u) at h)).1)

  record-alike : thread_at r.world t ≡ thread_at s.world t
  record-alike = a.own ∙ sym b.own

  -- who sleeps on the word now is t, or slept on it before
  sleepers-alike : (u : ℕ) → sleeps_at r.world k u ≡ true → thread_at r.world u ≡ thread_at s.world u
  sleepers-alike u e = by (eqb u t) refl
    where
      before :
          u ≢ t → (thread_at r.world u ≡ thread_at w u) ⊎ ((sleeps_at w k u ≡ true) × (thread_at r.world u ≡ roused (thread_at w u))) →
          sleeps_at w k u ≡ true
      before h (inl q) = sym (ap (sleeps_on k u) q) ∙ e
      before h (inr q) = q.0

      by : (c : Bool) → eqb u t ≡ c → thread_at r.world u ≡ thread_at s.world u
      by true q = rw (eqb-true u t q) record-alike
      by false q =
          slept-alike u (before (eqb-false u t q) (only-woken w r.world t k n a.frame u (eqb-false u t q)))

  -- the holds: the one that the step changes is one that they agree on
  mutexes-alike : (m : ℕ) → m < MUTEXES → holds_mutex r.world.locked m t ≡ holds_mutex s.world.locked m t
  unfolding holds_mutex
  mutexes-alike m h = rw (a.locked, b.locked) (by (is-mutex-kind (held_kind p.hold)))
    where
      by :
          (held_kind p.hold ≡ K.Mutex) ⊎ (held_kind p.hold ≢ K.Mutex) →
          holds_mutex (locked_new w.locked t p.object p.hold) m t ≡ holds_mutex (locked_new v.locked t p.object p.hold) m t
      by (inl e) =
          stored-alike w.locked v.locked (mutex_slot t p.object) (mutex_slot t m) _ _ false (sw.locked ∙ sym sv.locked)
          (agree.same-mutexes m h)
          (ap (locked_after p.hold) (agree.same-mutexes p.object (mutex-exists t k p.object p.hold is-thread within about e)))
      by (inr e) =
          rw (locked-same w.locked t p.object p.hold e, locked-same v.locked t p.object p.hold e) (agree.same-mutexes m h)

  writes-alike : (l : ℕ) → l < RWLOCKS → holds_write r.world.written l t ≡ holds_write s.world.written l t
  unfolding holds_write
  writes-alike l h = rw (a.written, b.written) (by (is-lock-kind (held_kind p.hold)))
    where
      by :
          (held_kind p.hold ≡ K.RwLock) ⊎ (held_kind p.hold ≢ K.RwLock) →
          holds_write (written_new w.written t p.object p.hold) l t ≡ holds_write (written_new v.written t p.object p.hold) l t
      by (inl e) =
          stored-alike w.written v.written (lock_slot t p.object) (lock_slot t l) _ _ false (sw.written ∙ sym sv.written)
          (agree.same_writes l h)
          (ap (written_after p.hold) (agree.same_writes p.object (lock-exists t k p.object p.hold is-thread within about e)))
      by (inr e) =
          rw (written_same w.written t p.object p.hold e, written_same v.written t p.object p.hold e) (agree.same_writes l h)

  reads-alike : (l : ℕ) → l < RWLOCKS → reads_of r.world.reads l t ≡ reads_of s.world.reads l t
  unfolding reads_of
  reads-alike l h = rw (a.reads, b.reads) (by (is-lock-kind (held_kind p.hold)))
    where
      by :
          (held_kind p.hold ≡ K.RwLock) ⊎ (held_kind p.hold ≢ K.RwLock) →
          reads_of (reads_new w.reads t p.object p.hold) l t ≡ reads_of (reads_new v.reads t p.object p.hold) l t
      by (inl e) =
          stored-alike w.reads v.reads (lock_slot t p.object) (lock_slot t l) _ _ 0 (sw.reads ∙ sym sv.reads)
          (agree.same_reads l h)
          (ap (reads_after p.hold) (agree.same_reads p.object (lock-exists t k p.object p.hold is-thread within about e)))
      by (inr e) =
          rw (reads_same w.reads t p.object p.hold e, reads_same v.reads t p.object p.hold e) (agree.same_reads l h)

  stepped-alike : Alike w v t k r s
  stepped-alike = record {
    same-event = a.event ∙ sym b.event;
    agree = record {
      same-record = record-alike;
      same_word = a.word ∙ sym b.word;
      same-mutexes = mutexes-alike;
      same_writes = writes-alike;
      same_reads = reads-alike;
      same_queue = a.queue ∙ (ap (λ (l : List ℕ). drop n l ++ cond p.next.asleep (t ∷ []) []) agree.same_queue ∙ sym b.queue);
      same-sleepers = sleepers-alike;
    };
    same-slept = slept-alike;
  }

-- a refusal leaves them as they agree
refused-alike : (w v : World) (t k number : ℕ) → Agree w v t k → Alike w v t k (refused number w) (refused number v)
refused-alike w v t k number a = record { same-event = refl; agree = a; same-slept = a.same-sleepers }

-- what is read from the part is the same in both
module _ (w v : World) (t : ℕ) (agree : Agree w v t (word_next w t)) where
  same_next : word_next w t ≡ word_next v t
  same_next = ap (λ (th : Thread). operand_of t th.at) agree.same-record

  same-plan : (f : Bool) → plan_at w t f ≡ plan_at v t f
  unfolding plan_at
  same-plan f = rw (← same_next, ← agree.same_word, ← agree.same_queue, ← agree.same-record)

  same-woken : (f : Bool) → woken_at w t f ≡ woken_at v t f
  same-woken f = rw (← same-plan f, ← same_next, ← agree.same_queue)

same-stepped :
    (v : World) (t k j n m : ℕ) (p q : Plan) (r : Acted) → k ≡ j → n ≡ m → p ≡ q → Stepped v t j m q r → Stepped v t k n p r
same-stepped v t k j n m p q r a b c h = rw (a, b, c) h

-- a step of a thread that is awake: two sound worlds that agree on its part give the same event, and agree on it after the step
pub step_local : StepLocal
step_local w v t f ew ev sw sv agree awake = by (ltb (word_next w t) WORDS) refl
  where
    next : word_next w t ≡ word_next v t
    next = same_next w v t agree

    none : (x : World) → ltb (word_next x t) WORDS ≡ false → step_of x t f ≡ refused 19 x
    none x e = sym (not-stepped x t f (thread_at x t) (word_next x t) refl refl e)

    by : (c : Bool) → ltb (word_next w t) WORDS ≡ c → Alike w v t (word_next w t) (step_of w t f) (step_of v t f)
    by true e =
        let h : word_next w t < WORDS = ltb-true (word_next w t) WORDS e in
        stepped-alike w v t (word_next w t) (woken_at w t f) (plan_at w t f) (step_of w t f) (step_of v t f) sw sv awake
        (word-thread w t sw h) h (hold-about w t f) agree
        (stepped w t f ew sw awake h)
        (same-stepped v t (word_next w t) (word_next v t) (woken_at w t f) (woken_at v t f) (plan_at w t f) (plan_at v t f) (step_of v t f) next
        (same-woken w v t agree f) (same-plan w v t agree f)
        (stepped v t f ev sv (sym (ap (λ (th : Thread). th.asleep) agree.same-record) ∙ awake) (subst (λ (x : ℕ). x < WORDS) next h)))
    by false e =
        rw (none w e, none v (rw next at e)) (refused-alike w v t (word_next w t) 19 agree)

-- every step act, accepted or refused: two sound worlds that agree on its part give the same event, and agree on it after the act
pub act-local : ActLocal
act-local w v a ew ev sw sv step agree =
    rw (sound-acts w a ew, sound-acts v a ev, step-acts w a step, step-acts v a step, ← agree.same-record)
    (by (eqb (fields_refusal a) 0) (eqb (step_refusal (thread_at w a.thread) a.choice) 0) refl)
  where
    by :
        (c d : Bool) → eqb (step_refusal (thread_at w a.thread) a.choice) 0 ≡ d →
        Alike w v a.thread (word_next w a.thread)
        (cond c
        (cond d (step_of w a.thread (eqb a.choice 1)) (refused (step_refusal (thread_at w a.thread) a.choice) w))
        (refused (fields_refusal a) w))
        (cond c
        (cond d (step_of v a.thread (eqb a.choice 1)) (refused (step_refusal (thread_at w a.thread) a.choice) v))
        (refused (fields_refusal a) v))
    by true true e =
        step_local w v a.thread (eqb a.choice 1) ew ev sw sv agree
        (steps-awake (thread_at w a.thread) a.choice (eqb-true (step_refusal (thread_at w a.thread) a.choice) 0 e))
    by true false e =
        refused-alike w v a.thread (word_next w a.thread) (step_refusal (thread_at w a.thread) a.choice) agree
    by false d e = refused-alike w v a.thread (word_next w a.thread) (fields_refusal a) agree

-- a step elsewhere, of another thread on another word, leaves the part of a thread that is awake as it was
pub far-agree :
    (w v : World) (t k u j n : ℕ) → Framed w u j n v → t < THREADS → t ≢ u → k ≢ j → (thread_at w t).asleep ≡ false →
    (thread_at w u).asleep ≡ false → Agree w v t k
far-agree w v t k u j n f is-thread apart far awake other = record {
  same-record = own (only-woken w v u j n f t apart);
  same_word = sym (f.other-words k far);
  same-mutexes = λ m h. sym (f.other-mutexes t m is-thread h (inl apart));
  same_writes = λ l h. sym (f.other-writes t l is-thread h (inl apart));
  same_reads = λ l h. sym (f.other-reads t l is-thread h (inl apart));
  same_queue = sym (f.other-queues k far);
  same-sleepers =
      λ x e. there x e
      (only-woken w v u j n f x (λ q. no_way (sym other ∙ (ap (λ (y : ℕ). (thread_at w y).asleep) (sym q) ∙ sleeps-asleep k x (thread_at w x) e))));
}
  where
    own :
        (thread_at v t ≡ thread_at w t) ⊎ ((sleeps_at w j t ≡ true) × (thread_at v t ≡ roused (thread_at w t))) → thread_at w t ≡ thread_at v t
    own (inl q) = sym q
    own (inr q) = no_way (sym awake ∙ sleeps-asleep j t (thread_at w t) q.0)

    there :
        (x : ℕ) → sleeps_at w k x ≡ true →
        (thread_at v x ≡ thread_at w x) ⊎ ((sleeps_at w j x ≡ true) × (thread_at v x ≡ roused (thread_at w x))) → thread_at w x ≡ thread_at v x
    there x e (inl q) = sym q
    there x e (inr q) = no_way (sym (sleeps-once j k x (thread_at w x) far q.0) ∙ e)

-- so a thread's step has the same event before and after a step of another thread on another word
pub steps_apart : StepsApart
steps_apart w t u f g e after s apart far awake other within also =
    (step_local w (step_of w u g).world t f e after s (step-shaped w u g s (sound-count w e))
    (far-agree w (step_of w u g).world t (word_next w t) u (word_next w u) (woken_at w u g) (stepped w u g e s other also).frame
    (word-thread w t s within) apart far awake other)
    awake).same-event
