-- A step, whole, in a sound world: what it does to its part, and the frame around that part. Assumes nothing.
use mathlib.Core.Path.{◌≡◌, refl, sym, ap, ◌∙◌, subst}
use mathlib.Core.Logic.{◌⊎◌, inl, inr, ◌≢◌}
use mathlib.Core.Bool.{Bool, true, false, cond, not, ◌&&◌}
use mathlib.Core.List.{List, append-nil}
use Prim.Native.Nat.{ℕ, ◌+◌, ◌≤◌, ◌<◌}
use native.Mathlib.Omega.{arith}
use borrow.Author.Tests.{eqb-true, eq-eqb, ne_eqb, ltb-true, ltb-false, lt-ltb}
use lib.Dec.{eqb, ltb}
use lib.ListN.{length, get_or, take, drop, take-append-drop, get_or-eq_default}
use lib.Seq.{get_or-set_same, get_or-set_other}
use Rattle.words.specs.declared.Hold.TheVariants as H
use Rattle.words.specs.declared.Wake.{Wake}
use Rattle.queue.specs.Row.{THREADS, place_of, occ}
use Rattle.queue.proofs.Part.{occ-append}
use Rattle.calls.specs.declared.At.TheVariants as A
use Rattle.calls.specs.declared.Thread.{Thread}
use Rattle.calls.specs.declared.Plan.{Plan}
use Rattle.calls.specs.declared.Event.{Event}
use Rattle.calls.specs.Events.{woken_of, tell_of}
use Rattle.calls.specs.Objects.{WORDS, word_of}
use Rattle.calls.specs.Plans.{idle}
use Rattle.calls.specs.Positions.{operand_of, in_closure, weak_next, is_idle}
use Rattle.world.specs.declared.World.{World}
use Rattle.world.specs.World.{thread_at, word_at, sleeps_on, on_word}
use Rattle.world.specs.Holds.{holds_mutex, holds_write, reads_of}
use Rattle.step.specs.declared.Acted.{Acted}
use Rattle.step.specs.Step.{roused, wakes_of, own_plan, apply_plan, refused, step_of}
use Rattle.sound.specs.Sound.{sound_world}
use Rattle.sound.proofs.Readings.{sound-clauses, sleepers-read}
use Rattle.acts.specs.declared.Fields.{Fields}
use Rattle.acts.specs.Refusals.{SET, STEP, fields_refusal, step_refusal, world_refusal}
use Rattle.acts.specs.Acts.{accepted_of, acted_of}
use Rattle.acts.proofs.Laws.{sound-acts}
use Rattle.kept.specs.Shape.{Shaped}
use Rattle.kept.proofs.Tests.{no_way}
use Rattle.kept.specs.Laws.{held_kind}
use Rattle.kept.proofs.Places.{operand-there}
use Rattle.kept.proofs.Calls.{sleeping, hold-word}
use Rattle.keeps_records.proofs.Shape.{wakes-shaped, sound-count}
use Rattle.keeps_records.proofs.Names.{each-exists}
use Rattle.keeps_records.proofs.Rows.{Stand, wakes-stand, wakes-awake}
use Rattle.keeps_records.proofs.Sleeping.{sleepers-stand, steps-awake, thread-named}
use Rattle.keeps_counts.specs.Tables.{locked_new, written_new, reads_new}
use Rattle.local.specs.Part.{word_next, sleeps_at, queue_at, number_woken, plan_at, woken_at, Framed, Stepped}
use Rattle.local.proofs.Told.{Tells, tells}
use Rattle.local.proofs.Waking.{Waked, none_or_some, sleeps-asleep, queue-sleeps, anyone, waked}
use Rattle.local.proofs.Storing.{own-queue, mutexes-elsewhere, writes-elsewhere, reads-elsewhere}
use Rattle.local.specs.Local.{StepsAreStepped, OnlyWoken, ActStepped, ActFrame}

-- the row of a sound world
pub sound-stand : (w : World) → sound_world w ≡ true → Shaped w → Stand w.threads w.sleepers
sound-stand w e s = sleepers-stand w s (sleepers-read w (sound-clauses w e).stand)

-- only a thread that there is has a word
pub word-thread : (w : World) (t : ℕ) → Shaped w → word_next w t < WORDS → t < THREADS
unfolding operand_of
word-thread w t s h = by (ltb t THREADS) refl
  where
    by : (c : Bool) → ltb t THREADS ≡ c → t < THREADS
    by true e = ltb-true t THREADS e
    by false e =
        let b : THREADS ≤ t = ltb-false t THREADS e in
        let l : length w.threads ≡ THREADS = s.threads in
        let m : length w.threads ≤ t = omega arith in
        let z : word_next w t ≡ WORDS = ap (λ (th : Thread). operand_of t th.at) (get_or-eq_default w.threads idle m) in
        absurd (omega arith)

-- a thread that falls asleep does so on the word of that very step, and the hold that changes is of the object of that word
asleep-word : (w : World) (t : ℕ) (f : Bool) → (plan_at w t f).next.asleep ≡ true → operand_of t (plan_at w t f).next.at ≡ word_next w t
unfolding plan_at
asleep-word w t f e =
    ap (operand_of t)
    (sleeping (thread_at w t).at f (word_at w (word_next w t)) (ltb 0 (length (queue_at w (word_next w t)))) e).stays

pub hold-about :
    (w : World) (t : ℕ) (f : Bool) →
    ((plan_at w t f).hold ≡ H.Same) ⊎ (word_next w t ≡ word_of (held_kind (plan_at w t f).hold) (plan_at w t f).object)
unfolding plan_at
hold-about w t f = hold-word (thread_at w t).at f (word_at w (word_next w t)) (ltb 0 (length (queue_at w (word_next w t)))) t

-- the event tells how many are woken
plan-told : (w : World) (t : ℕ) (f : Bool) → woken_of (tell_of (plan_at w t f).event (woken_at w t f)) ≡ woken_at w t f
unfolding plan_at Tells number_woken
plan-told w t f =
    tells (thread_at w t).at f (word_at w (word_next w t)) (ltb 0 (length (queue_at w (word_next w t)))) (woken_at w t f)
    (λ e. ap (λ (x : Wake). number_woken x (queue_at w (word_next w t))) e)

sleeps-here : (t k : ℕ) (th : Thread) → (th.asleep ≡ true → operand_of t th.at ≡ k) → sleeps_on k t th ≡ th.asleep
unfolding sleeps_on
sleeps-here t k th h = by th.asleep h
  where
    by : (c : Bool) → (c ≡ true → operand_of t th.at ≡ k) → (c && eqb (operand_of t th.at) k) ≡ c
    by true q = eq-eqb (operand_of t th.at) k (q refl)
    by false q = refl

sleeps-nowhere : (t k j : ℕ) (th : Thread) → (th.asleep ≡ true → operand_of t th.at ≡ k) → j ≢ k → sleeps_on j t th ≡ false
unfolding sleeps_on
sleeps-nowhere t k j th h n = by th.asleep h
  where
    by : (c : Bool) → (c ≡ true → operand_of t th.at ≡ k) → (c && eqb (operand_of t th.at) j) ≡ false
    by true q = ne_eqb (operand_of t th.at) j (λ e. n (sym e ∙ q refl))
    by false q = refl

take-occ : (n u : ℕ) (l : List ℕ) → 0 < occ u (take n l) → 0 < occ u l
take-occ n u l h =
    let e : occ u (take n l) + occ u (drop n l) ≡ occ u l = sym (occ-append u (take n l) (drop n l)) ∙ ap (occ u) (take-append-drop n l) in
    omega arith

-- the two stages: from w to v the n longest asleep on word k wake, then thread t does its own part of plan p
module _
    (w v : World) (t k n : ℕ) (p : Plan) (s : Shaped w) (d : Stand w.threads w.sleepers) (m : Waked w k n v) (sv : Shaped v)
    (dv : Stand v.threads v.sleepers) (is-thread : t < THREADS) (within : k < WORDS) (awake : (thread_at w t).asleep ≡ false)
    (still : (thread_at v t).asleep ≡ false) (falls : p.next.asleep ≡ true → operand_of t p.next.at ≡ k)
    (about : (p.hold ≡ H.Same) ⊎ (k ≡ word_of (held_kind p.hold) p.object)) where
  -- who is woken slept, so it is not t
  not-woken : (u : ℕ) → 0 < occ u (take n (queue_at w k)) → u ≢ t
  not-woken u h e =
      let q : sleeps_at w k t ≡ true = subst (λ (x : ℕ). sleeps_at w k x ≡ true) e (queue-sleeps w d k u (take-occ n u (queue_at w k) h)) in
      no_way (sym awake ∙ sleeps-asleep k t (thread_at w t) q)

  other-record : (u : ℕ) → u ≢ t → thread_at (own_plan v t k p) u ≡ thread_at v u
  unfolding own_plan
  other-record u h = get_or-set_other v.threads t u p.next idle h

  locked-is : (own_plan v t k p).locked ≡ locked_new w.locked t p.object p.hold
  unfolding own_plan
  locked-is = ap (λ (l : List Bool). locked_new l t p.object p.hold) m.same-locked

  written_is : (own_plan v t k p).written ≡ written_new w.written t p.object p.hold
  unfolding own_plan
  written_is = ap (λ (l : List Bool). written_new l t p.object p.hold) m.same-written

  reads-is : (own_plan v t k p).reads ≡ reads_new w.reads t p.object p.hold
  unfolding own_plan
  reads-is = ap (λ (l : List ℕ). reads_new l t p.object p.hold) m.same_reads

  framed : Framed w t k n (own_plan v t k p)
  unfolding own_plan
  framed = record {
    other-words =
        λ j q. get_or-set_other v.words k j p.word 0 q ∙ ap (λ (l : List ℕ). get_or l j 0) m.same-words;
    other-mutexes =
        λ u o a b q. ap (λ (l : List Bool). holds_mutex l o u) locked-is ∙
        mutexes-elsewhere t k p.object p.hold is-thread within about w.locked s.locked u o a b q;
    other-writes =
        λ u o a b q. ap (λ (l : List Bool). holds_write l o u) written_is ∙
        writes-elsewhere t k p.object p.hold is-thread within about w.written s.written u o a b q;
    other-reads =
        λ u o a b q. ap (λ (l : List ℕ). reads_of l o u) reads-is ∙
        reads-elsewhere t k p.object p.hold is-thread within about w.reads s.reads u o a b q;
    same-forgotten = m.same-forgotten;
    other-queues =
        λ j q. own-queue v sv dv t is-thread still k p j ∙
        rw (sleeps-nowhere t k j p.next falls q) (append-nil (queue_at v j) ∙ m.elsewhere j q);
    other-records = λ u q h. other-record u q ∙ m.others u h;
    woken-records =
        λ u h. (queue-sleeps w d k u (take-occ n u (queue_at w k) h), other-record u (not-woken u h) ∙ m.woken u h);
  }

  pub plan-stepped :
      (event : Event) → event ≡ tell_of p.event n → woken_of (tell_of p.event n) ≡ n →
      Stepped w t k n p (record { event = event; world = own_plan v t k p })
  unfolding own_plan
  plan-stepped event e told = record {
    event = e;
    told = ap woken_of e ∙ told;
    word = get_or-set_same v.words k p.word 0 (rw sv.words within);
    own = get_or-set_same v.threads t p.next idle (rw sv.threads is-thread);
    locked = locked-is;
    written = written_is;
    reads = reads-is;
    queue = own-queue v sv dv t is-thread still k p k ∙ rw (sleeps-here t k p.next falls, m.queue);
    started = refl;
    frame = framed;
  }

-- the step is the plan that the part gives, carried out
step_is :
    (w : World) (t : ℕ) (f : Bool) → Shaped w → Stand w.threads w.sleepers → word_next w t < WORDS →
    step_of w t f ≡ apply_plan w t (word_next w t) (place_of (on_word w.threads (word_next w t)) w.sleepers) (plan_at w t f)
unfolding step_of plan_at
step_is w t f s d within = rw (lt-ltb (word_next w t) WORDS within, anyone w s d (word_next w t))

-- a step of a thread that is awake and has a word
pub stepped : StepsAreStepped
unfolding apply_plan
stepped w t f sound s awake within =
    let k : ℕ = word_next w t in
    let p : Plan = plan_at w t f in
    let place : ℕ = place_of (on_word w.threads k) w.sleepers in
    let d : Stand w.threads w.sleepers = sound-stand w sound s in
    let m = waked w s d k p.wake in
    subst (Stepped w t k (woken_at w t f) p) (sym (step_is w t f s d within))
    (plan-stepped w (wakes_of w k place p.wake).world t k (woken_at w t f) p s d m.0
    (wakes-shaped w k place p.wake s (sound-count w sound)) (wakes-stand w k place p.wake s d) (word-thread w t s within) within awake
    (wakes-awake w k place p.wake t awake) (asleep-word w t f) (hold-about w t f) _ (ap (tell_of p.event) m.1) (plan-told w t f))

-- of other threads' records only those of sleepers on the word change: they are roused
pub only-woken : OnlyWoken
only-woken w v t k n f u h = by (none_or_some (occ u (take n (queue_at w k))))
  where
    by :
        (occ u (take n (queue_at w k)) ≡ 0) ⊎ (0 < occ u (take n (queue_at w k))) →
        (thread_at v u ≡ thread_at w u) ⊎ ((sleeps_at w k u ≡ true) × (thread_at v u ≡ roused (thread_at w u)))
    by (inl z) = inl (f.other-records u h z)
    by (inr p) = inr (f.woken-records u p)

-- a step as an act: the refusals, then the step
pub step-acts :
    (w : World) (a : Fields) → a.act ≡ STEP →
    acted_of w a
    ≡ cond (eqb (fields_refusal a) 0)
    (cond (eqb (step_refusal (thread_at w a.thread) a.choice) 0)
    (step_of w a.thread (eqb a.choice 1))
    (refused (step_refusal (thread_at w a.thread) a.choice) w))
    (refused (fields_refusal a) w)
unfolding acted_of world_refusal accepted_of
step-acts w a e = rw e

-- a thread that may be stepped has a word
steps-inside : (th : Thread) (choice : ℕ) → step_refusal th choice ≡ 0 → (th.at ≢ A.Idle) × (in_closure th.at ≡ false)
unfolding step_refusal is_idle
steps-inside th choice e =
    let p = by (is_idle th.at) th.asleep (in_closure th.at) (eqb choice 1 && not (weak_next th.at)) e in
    ((λ q. no_way (sym p.0 ∙ ap is_idle q)), p.1)
  where
    by : (p q r s : Bool) → ◌≡◌ {A = ℕ} (cond p 5 (cond q 6 (cond r 10 (cond s 8 0)))) 0 → (p ≡ false) × (r ≡ false)
    by true q r s e = absurd (omega arith)
    by false true r s e = absurd (omega arith)
    by false false true s e = absurd (omega arith)
    by false false false s e = (refl, refl)

pub steps-word :
    (w : World) (t choice : ℕ) → sound_world w ≡ true → Shaped w → t < THREADS → step_refusal (thread_at w t) choice ≡ 0 → word_next w t < WORDS
steps-word w t choice e s h q =
    let p = steps-inside (thread_at w t) choice q in
    operand-there t (thread_at w t).at h (each-exists w e s t) p.0 p.1

-- a step act that is accepted: the whole of the step, with the frame around its part
not-refused :
    (w : World) (a : Fields) → sound_world w ≡ true → Shaped w → a.act ≡ STEP → fields_refusal a ≡ 0 →
    step_refusal (thread_at w a.thread) a.choice ≡ 0 →
    Stepped w a.thread (word_next w a.thread) (woken_at w a.thread (eqb a.choice 1)) (plan_at w a.thread (eqb a.choice 1))
    (step_of w a.thread (eqb a.choice 1))
not-refused w a ew s step e z =
    let n : eqb a.act SET ≡ false = rw step in
    stepped w a.thread (eqb a.choice 1) ew s (steps-awake (thread_at w a.thread) a.choice z)
    (steps-word w a.thread a.choice ew s (thread-named a e n) z)

pub act-stepped : ActStepped
unfolding world_refusal
act-stepped w a ew s step e q =
    let z : step_refusal (thread_at w a.thread) a.choice ≡ 0 = rw step at q in
    rw (sound-acts w a ew, step-acts w a step, e, z) (not-refused w a ew s step e z)

-- every step act: refused, and the world is as it was; or the whole of the step, with the frame around its part
pub act-frame : ActFrame
act-frame w a ew s step =
    rw (sound-acts w a ew, step-acts w a step) (by (eqb (fields_refusal a) 0) (eqb (step_refusal (thread_at w a.thread) a.choice) 0) refl refl)
  where
    by :
        (c d : Bool) → eqb (fields_refusal a) 0 ≡ c → eqb (step_refusal (thread_at w a.thread) a.choice) 0 ≡ d →
        ((number : ℕ) ×
        (◌≡◌ {A = Acted}
        (cond c
        (cond d (step_of w a.thread (eqb a.choice 1)) (refused (step_refusal (thread_at w a.thread) a.choice) w))
        (refused (fields_refusal a) w))
        (refused number w))) ⊎
        Stepped w a.thread (word_next w a.thread) (woken_at w a.thread (eqb a.choice 1)) (plan_at w a.thread (eqb a.choice 1))
        (cond c
        (cond d (step_of w a.thread (eqb a.choice 1)) (refused (step_refusal (thread_at w a.thread) a.choice) w))
        (refused (fields_refusal a) w))
    by true true e q =
        inr (not-refused w a ew s step (eqb-true (fields_refusal a) 0 e) (eqb-true (step_refusal (thread_at w a.thread) a.choice) 0 q))
    by true false e q = inl (step_refusal (thread_at w a.thread) a.choice, refl)
    by false d e q = inl (fields_refusal a, refl)
