-- A thread run alone is a row of plain step acts: the same event, count, sleepers woken and world, for every world of the right sizes,
-- thread and budget, refusals too. So a run ends in a sound world. Assumes nothing.
use mathlib.Core.Path.{◌≡◌, refl, sym, ap, ◌∙◌, subst}
use mathlib.Core.Logic.{◌≢◌}
use mathlib.Core.Bool.{Bool, true, false, cond, not}
use Prim.Native.Nat.{ℕ, zero, suc, ◌+◌, ◌≤◌, ◌<◌}
use native.Mathlib.Omega.{arith}
use lib.Dec.{eqb, ltb}
use lib.ListN.{length, replicate}
use lib.Seq.{get_or-set_same}
use borrow.Author.Tests.{eqb-true, ltb-true, lt-ltb}
use Rattle.words.proofs.Cond.{either}
use Rattle.queue.specs.Row.{THREADS, place_of}
use Rattle.calls.specs.declared.At.{At}
use Rattle.calls.specs.declared.At.TheVariants as A
use Rattle.calls.specs.declared.Event.{Event}
use Rattle.calls.specs.declared.Event.TheVariants as E
use Rattle.calls.specs.declared.Plan.{Plan}
use Rattle.calls.specs.declared.Thread.{Thread}
use Rattle.calls.specs.Events.{value_of, woken_of, tell_of, goes_on, is_step}
use Rattle.calls.specs.Objects.{WORDS}
use Rattle.calls.specs.Plans.{decide_of}
use Rattle.calls.specs.Positions.{operand_of, in_closure, is_idle}
use Rattle.world.specs.declared.World.{World}
use Rattle.world.specs.World.{thread_at, word_at, on_word}
use Rattle.step.specs.declared.Acted.{Acted}
use Rattle.step.specs.Step.{wakes_of, own_plan, apply_plan, refused, step_of}
use Rattle.sound.specs.Sound.{sound_world}
use Rattle.acts.specs.Refusals.{choices_of, both_zero, unnamed_zero, object_exists, thread_exists, fields_refusal, step_refusal, world_refusal}
use Rattle.acts.specs.Acts.{accepted_of, acted_of, act_of, acts_of}
use Rattle.solo.specs.Run.{Ran, run_from, refused_run, solo_of}
use Rattle.acts.proofs.Laws.{unsound-refused}
use Rattle.kept.specs.Shape.{Shaped}
use Rattle.kept.proofs.Tests.{no_way}
use Rattle.kept.proofs.Places.{operand-there}
use Rattle.keeps_records.proofs.Shape.{wakes-shaped, sound-count}
use Rattle.keeps_records.proofs.Names.{each-exists}
use Rattle.keeps.proofs.Keeps.{act-sound, act-shaped}
use Rattle.keeps.proofs.Moves.{leads}
use Rattle.keeps.specs.Solo.{Ended, Row, Steppable, acts_from, by-budget, by-stop, event_at, plain_step, solo_by_acts, woken_by, SoloIsActs, SoloKeeps, SoloRow}

-- what such an act is
plain-act :
    (w : World) (t : ℕ) → sound_world w ≡ true →
    act_of w (plain_step t)
    ≡ cond (ltb t THREADS) (cond (eqb (step_refusal (thread_at w t) 0) 0) (step_of w t false) (refused (step_refusal (thread_at w t) 0) w)) (refused 2 w)
unfolding act_of acted_of accepted_of fields_refusal world_refusal choices_of thread_exists unnamed_zero both_zero object_exists
plain-act w t e = rw e (by (ltb t THREADS))
  where
    by :
        (c : Bool) →
        cond (eqb (cond (not c) 2 0) 0)
        (cond (eqb (step_refusal (thread_at w t) 0) 0) (step_of w t false) (refused (step_refusal (thread_at w t) 0) w))
        (refused (cond (not c) 2 0) w)
        ≡ cond c (cond (eqb (step_refusal (thread_at w t) 0) 0) (step_of w t false) (refused (step_refusal (thread_at w t) 0) w)) (refused 2 w)
    by true = refl
    by false = refl

in-call : (th : Thread) → step_refusal th 0 ≡ 0 → (is_idle th.at ≡ false) × (in_closure th.at ≡ false)
unfolding step_refusal
in-call th e = by (is_idle th.at) th.asleep (in_closure th.at) e
  where
    by : (p q r : Bool) → ◌≡◌ {A = ℕ} (cond p 5 (cond q 6 (cond r 10 0))) 0 → (p ≡ false) × (r ≡ false)
    by true q r e = absurd (omega arith)
    by false true r e = absurd (omega arith)
    by false false true e = absurd (omega arith)
    by false false false e = (refl, refl)

not-idle : (at : At) → is_idle at ≡ false → at ≢ A.Idle
unfolding is_idle
not-idle at e q = no_way (sym e ∙ ap is_idle q)

-- the sleepers told do not change what kind of event it is
tell-step : (e : Event) (n : ℕ) → is_step (tell_of e n) ≡ is_step e
unfolding tell_of
tell-step E.Set n = refl
tell-step E.Begun n = refl
tell-step (E.Moved woken) n = refl
tell-step (E.Done value woken) n = refl
tell-step E.Slept n = refl
tell-step (E.Panic number woken) n = refl
tell-step E.Closure n = refl
tell-step E.Woken n = refl
tell-step E.Closed n = refl
tell-step (E.Refused number) n = refl

tell-goes-on : (e : Event) (n : ℕ) → goes_on (tell_of e n) ≡ goes_on e
unfolding tell_of
tell-goes-on E.Set n = refl
tell-goes-on E.Begun n = refl
tell-goes-on (E.Moved woken) n = refl
tell-goes-on (E.Done value woken) n = refl
tell-goes-on E.Slept n = refl
tell-goes-on (E.Panic number woken) n = refl
tell-goes-on E.Closure n = refl
tell-goes-on E.Woken n = refl
tell-goes-on E.Closed n = refl
tell-goes-on (E.Refused number) n = refl

module _ (w : World) (t : ℕ) (s : Steppable w t) where
  -- the act is the step
  plain-is-step : act_of w (plain_step t) ≡ step_of w t false
  plain-is-step = plain-act w t s.sound ∙ rw (lt-ltb t THREADS s.there, s.allowed)

  -- which has a word, is told as a step, and leaves the thread where it may be stepped if it moved
  step-leads :
      (is_step (step_of w t false).event ≡ true)
      × (goes_on (step_of w t false).event ≡ true → step_refusal (thread_at (step_of w t false).world t) 0 ≡ 0)
  unfolding step_of apply_plan own_plan
  step-leads =
      let c = in-call (thread_at w t) s.allowed in
      let at : At = (thread_at w t).at in
      let k : ℕ = operand_of t at in
      let place : ℕ = place_of (on_word w.threads k) w.sleepers in
      let p : Plan = decide_of at false (word_at w k) (ltb place THREADS) in
      let v : World = (wakes_of w k place p.wake).world in
      let l = leads at false (word_at w k) (ltb place THREADS) c.0 in
      let h : operand_of t at < WORDS = operand-there t at s.there (each-exists w s.sound s.shaped t) (not-idle at c.0) c.1 in
      let long : length v.threads ≡ THREADS = (wakes-shaped w k place p.wake s.shaped (sound-count w s.sound)).threads in
      let own : thread_at (own_plan v t k p) t ≡ p.next = get_or-set_same v.threads t p.next _ (omega (arith, long, s.there)) in
      rw (lt-ltb (operand_of t at) WORDS h) (
        tell-step p.event _ ∙ l.told,
        λ g. subst (λ (th : Thread). step_refusal th 0 ≡ 0) (sym own) (l.on (sym (tell-goes-on p.event _) ∙ g)),
      )

  pub plain-told : is_step (act_of w (plain_step t)).event ≡ true
  plain-told = rw plain-is-step step-leads.0

  -- after a step that moved the thread may be stepped again
  pub plain-on : goes_on (act_of w (plain_step t)).event ≡ true → Steppable (act_of w (plain_step t)).world t
  plain-on g = record {
    sound = act-sound w (plain_step t) s.sound s.shaped (omega arith);
    shaped = act-shaped w (plain_step t) s.shaped (omega arith);
    there = s.there;
    allowed = subst (λ (r : Acted). step_refusal (thread_at r.world t) 0 ≡ 0) (sym plain-is-step) (step-leads.1 (rw plain-is-step at g));
  }

-- where two choices differ only on the side that is taken, they agree
agree : {A : Type 0} (c : Bool) (x y z : A) → (c ≡ true → x ≡ y) → cond c x z ≡ cond c y z
agree true x y z e = e refl
agree false x y z e = refl

run-is-acts : (n count woken : ℕ) (w : World) (t : ℕ) → Steppable w t → run_from n count woken w t ≡ acts_from n count woken w t
unfolding run_from acts_from
run-is-acts zero count woken w t s = refl
run-is-acts (suc n) count woken w t s =
    rw (sym (plain-is-step w t s))
    (agree (goes_on (act_of w (plain_step t)).event) _ _ _
    (λ g. run-is-acts n (count + 1) (woken + woken_of (act_of w (plain_step t)).event) (act_of w (plain_step t)).world t (plain-on w t s g)))

-- a run is a row of acts
pub solo-is-acts : SoloIsActs
unfolding solo_of solo_by_acts value_of
solo-is-acts w t budget s = by (sound_world w) refl
  where
    allowed :
        (b d : Bool) → ltb t THREADS ≡ b → eqb (step_refusal (thread_at w t) 0) 0 ≡ d → sound_world w ≡ true →
        cond b (cond d (run_from budget 0 0 w t) (refused_run (step_refusal (thread_at w t) 0) w)) (refused_run 2 w)
        ≡ cond (is_step (cond b (cond d (step_of w t false) (refused (step_refusal (thread_at w t) 0) w)) (refused 2 w)).event)
        (acts_from budget 0 0 w t)
        (refused_run (value_of (cond b (cond d (step_of w t false) (refused (step_refusal (thread_at w t) 0) w)) (refused 2 w)).event) w)
    allowed false d p q e = refl
    allowed true false p q e = refl
    allowed true true p q e =
        let z : Steppable w t =
        record { sound = e; shaped = s; there = ltb-true t THREADS p; allowed = eqb-true (step_refusal (thread_at w t) 0) 0 q } in
        rw (step-leads w t z).0 (run-is-acts budget 0 0 w t z)

    by : (c : Bool) → sound_world w ≡ c → solo_of w t budget ≡ solo_by_acts w t budget
    by true e = rw (e, plain-act w t e) (allowed (ltb t THREADS) (eqb (step_refusal (thread_at w t) 0) 0) refl refl e)
    by false e = rw (e, unsound-refused w (plain_step t) e)

-- so it keeps soundness and sizes
Keeps : Ran → Type 0
Keeps r = (sound_world r.world ≡ true) × Shaped r.world

acts-from-keep : (n count woken : ℕ) (w : World) (t : ℕ) → sound_world w ≡ true → Shaped w → Keeps (acts_from n count woken w t)
unfolding acts_from Keeps
acts-from-keep zero count woken w t e s = (e, s)
acts-from-keep (suc n) count woken w t e s =
    let a : Acted = act_of w (plain_step t) in
    let f : sound_world a.world ≡ true = act-sound w (plain_step t) e s (omega arith) in
    let v : Shaped a.world = act-shaped w (plain_step t) s (omega arith) in
    either Keeps (goes_on a.event) _ _ (acts-from-keep n (count + 1) (woken + woken_of a.event) a.world t f v) (f, v)

pub solo-keeps : SoloKeeps
unfolding solo_by_acts Keeps
solo-keeps w t budget e s =
    subst Keeps (sym (solo-is-acts w t budget s))
    (either Keeps (is_step (act_of w (plain_step t)).event) _ _ (acts-from-keep budget 0 0 w t e s) (e, s))

module _ (w : World) (t : ℕ) (g : goes_on (act_of w (plain_step t)).event ≡ true) where
  -- the first act moved: what holds of each act after it and of it holds of each
  from_next :
      (k : ℕ) → ((i : ℕ) → i < k → goes_on (event_at (act_of w (plain_step t)).world t i) ≡ true) → (i : ℕ) → i < suc k →
      goes_on (event_at w t i) ≡ true
  unfolding event_at acts_of
  from_next k h zero l = g
  from_next k h (suc i) l = h i (omega arith)

  ended-next : (n k : ℕ) (event : Event) → Ended (act_of w (plain_step t)).world t n k event → Ended w t (suc n) (suc k) event
  unfolding event_at acts_of
  ended-next n k event (by-budget e h v) = by-budget (ap suc e) (from_next k h) v
  ended-next n k event (by-stop j e h v p q) = by-stop (suc j) (ap suc e) (from_next j h) v p q

-- after `count` acts that woke `woken`, a row of `more`
record More (w : World) (t n count woken : ℕ) (r : Ran) : Type 0 where
  more : ℕ
  counted : r.count ≡ count + more
  within : more ≤ n
  reached : r.world ≡ acts_of w (replicate more (plain_step t))
  wakes : r.woken ≡ woken + woken_by more w t
  ended : Ended w t n more r.event

more-from : (n count woken : ℕ) (w : World) (t : ℕ) → Steppable w t → More w t n count woken (acts_from n count woken w t)
unfolding acts_from acts_of woken_by event_at
more-from zero count woken w t s = record {
  more = 0;
  counted = omega arith;
  within = omega arith;
  reached = refl;
  wakes = omega arith;
  ended = by-budget refl (λ i h. absurd (omega arith)) refl;
}
more-from (suc n) count woken w t s =
    by (goes_on (act_of w (plain_step t)).event) refl
    (λ g. more-from n (count + 1) (woken + woken_of (act_of w (plain_step t)).event) (act_of w (plain_step t)).world t (plain-on w t s g))
  where
    a : Acted
    a = act_of w (plain_step t)

    next : Ran
    next = acts_from n (count + 1) (woken + woken_of a.event) a.world t

    stopped : Ran
    stopped = record { event = a.event; count = count + 1; woken = woken + woken_of a.event; world = a.world }

    by :
        (c : Bool) → goes_on a.event ≡ c →
        (goes_on a.event ≡ true → More a.world t n (count + 1) (woken + woken_of a.event) next) →
        More w t (suc n) count woken (cond c next stopped)
    by true g rest =
        let m = rest g in
        record {
          more = suc m.more;
          counted = omega (arith, m.counted);
          within = omega (arith, m.within);
          reached = m.reached;
          wakes = omega (arith, m.wakes);
          ended = ended-next w t g n m.more next.event m.ended;
        }
    by false g rest = record {
      more = 1;
      counted = refl;
      within = omega arith;
      reached = refl;
      wakes = omega arith;
      ended = by-stop 0 refl (λ i h. absurd (omega arith)) refl (plain-told w t s) g;
    }

row_of : (w : World) (t n : ℕ) (r : Ran) → More w t n 0 0 r → Row w t n r
row_of w t n r m =
    let e : m.more ≡ r.count = omega (arith, m.counted) in
    record {
      within = omega (arith, e, m.within);
      reached = m.reached ∙ ap (λ (k : ℕ). acts_of w (replicate k (plain_step t))) e;
      wakes = let z : r.woken ≡ woken_by m.more w t = omega (arith, m.wakes) in z ∙ ap (λ (k : ℕ). woken_by k w t) e;
      ended = subst (λ (k : ℕ). Ended w t n k r.event) e m.ended;
    }

-- the run of a thread that may be stepped, act by act
pub solo-row : SoloRow
unfolding solo_by_acts
solo-row w t budget s =
    let e : solo_of w t budget ≡ acts_from budget 0 0 w t = solo-is-acts w t budget s.shaped ∙ rw (plain-told w t s) in
    subst (Row w t budget) (sym e) (row_of w t budget (acts_from budget 0 0 w t) (more-from budget 0 0 w t s))
