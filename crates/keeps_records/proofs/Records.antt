-- Each thread's record after an act: what holds of every record before it, of the records that an act makes and of a sleeper roused, holds
-- of every record after it. Assumes nothing.
use mathlib.Core.Path.{◌≡◌, refl}
use mathlib.Core.Bool.{Bool, true, false}
use mathlib.Core.List.{List, [], ◌∷◌}
use Prim.Native.Nat.{ℕ, zero, suc, ◌+◌, ◌≤◌, ◌<◌}
use native.Mathlib.Omega.{arith}
use borrow.Author.Tests.{ltb-true, ltb-false}
use lib.Dec.{eqb, ltb}
use lib.ListN.{length, get_or, get_or-eq_default}
use Rattle.words.proofs.Cond.{either}
use Rattle.words.specs.declared.Wake.{Wake}
use Rattle.words.specs.declared.Wake.TheVariants as W
use Rattle.queue.specs.Row.{Taken, THREADS, place_of, take_out_of}
use Rattle.calls.specs.declared.At.{At}
use Rattle.calls.specs.declared.Thread.{Thread}
use Rattle.calls.specs.declared.Plan.{Plan}
use Rattle.calls.specs.Objects.{WORDS}
use Rattle.calls.specs.Plans.{idle, awake, decide_of}
use Rattle.calls.specs.Positions.{operand_of}
use Rattle.world.specs.declared.World.{World}
use Rattle.world.specs.World.{thread_at, word_at, on_word, sleeps_on}
use Rattle.step.specs.declared.Acted.{Acted}
use Rattle.step.specs.Step.{Woken, roused, rouse_all, wakes_of, own_plan, apply_plan, step_of}
use Rattle.step.specs.Acts.{recorded, begin_of, wake_of, close_of, closed_at}
use Rattle.acts.specs.declared.Fields.{Fields}
use Rattle.acts.specs.Refusals.{SET, BEGIN, STEP, WAKE, start_of}
use Rattle.acts.specs.Acts.{set_world, set_of, ending_of, accepted_of}
use Rattle.kept.specs.Shape.{Shaped}
use Rattle.kept.proofs.Tests.{decided}
use Rattle.keeps_records.proofs.Shape.{set-each}

-- past the last thread stands an idle one
pub everywhere : (w : World) (P : Thread → Type 0) → Shaped w → P idle → ((u : ℕ) → u < THREADS → P (thread_at w u)) → (u : ℕ) → P (thread_at w u)
everywhere w P s i h u = by (ltb u THREADS) refl
  where
    by : (c : Bool) → ltb u THREADS ≡ c → P (thread_at w u)
    by true e = h u (ltb-true u THREADS e)
    by false e =
        let k : THREADS ≤ u = ltb-false u THREADS e in
        let l : length w.threads ≡ THREADS = s.threads in
        let m : length w.threads ≤ u = omega arith in
        rw (get_or-eq_default w.threads idle m) i

module _ (P : Thread → Type 0) (r : (th : Thread) → P th → P (roused th)) where
  -- the wake stage
  rouse-each : (k t : ℕ) (l : List Thread) → ((u : ℕ) → P (get_or l u idle)) → (u : ℕ) → P (get_or (rouse_all k t l) u idle)
  unfolding rouse_all
  rouse-each k t [] h u = h u
  rouse-each k t (th ∷ ths) h zero = either P (sleeps_on k t th) _ _ (r th (h zero)) (h zero)
  rouse-each k t (th ∷ ths) h (suc u) = rouse-each k (t + 1) ths (λ v. h (suc v)) u

  pub wakes-each :
      (w : World) (k place : ℕ) (wake : Wake) → ((u : ℕ) → P (thread_at w u)) → (u : ℕ) → P (thread_at (wakes_of w k place wake).world u)
  unfolding wakes_of
  wakes-each w k place W.None h = h
  wakes-each w k place W.One h =
      let taken : Taken = take_out_of w.sleepers place in
      either (λ (x : Woken). (u : ℕ) → P (thread_at x.world u)) (take_out_of w.sleepers place).ok _ _
      (set-each P idle w.threads taken.thread (roused (thread_at w taken.thread)) h (r (thread_at w taken.thread) (h taken.thread))) h
  wakes-each w k place W.All h = rouse-each k 0 w.threads h

  -- a step: the wakes, then the thread's own record
  pub step-each :
      (w : World) (t : ℕ) (f : Bool) → ((u : ℕ) → P (thread_at w u)) →
      ((a : Bool) → operand_of t (thread_at w t).at < WORDS → P (decide_of (thread_at w t).at f (word_at w (operand_of t (thread_at w t).at)) a).next) →
      (u : ℕ) → P (thread_at (step_of w t f).world u)
  unfolding step_of apply_plan own_plan
  step-each w t f h q =
      let at : At = (thread_at w t).at in
      let k : ℕ = operand_of t at in
      let place : ℕ = place_of (on_word w.threads k) w.sleepers in
      let p : Plan = decide_of at f (word_at w k) (ltb place THREADS) in
      decided (λ (x : Acted). (u : ℕ) → P (thread_at x.world u)) (ltb k WORDS) _ _
      (λ e. set-each P idle (wakes_of w k place p.wake).world.threads t p.next (wakes-each w k place p.wake h)
      (q (ltb place THREADS) (ltb-true k WORDS e)))
      (λ e. h)

  set-records : (w : World) (choice object value : ℕ) → ((u : ℕ) → P (thread_at w u)) → (u : ℕ) → P (thread_at (set_world w choice object value) u)
  unfolding set_world
  set-records w choice object value h =
      either Q (eqb choice 0) _ _ h (either Q (eqb choice 1) _ _ h (either Q (eqb choice 2) _ _ h h))
    where
      Q : World → Type 0
      Q x = (u : ℕ) → P (thread_at x u)

  -- every accepted act: the records that begin, step and close make are to be shown
  pub accepted-each :
      (w : World) (a : Fields) → ((u : ℕ) → P (thread_at w u)) →
      (eqb a.act SET ≡ false → eqb a.act BEGIN ≡ true → P (awake (start_of a))) →
      ((b : Bool) → operand_of a.thread (thread_at w a.thread).at < WORDS →
      P (decide_of (thread_at w a.thread).at (eqb a.choice 1) (word_at w (operand_of a.thread (thread_at w a.thread).at)) b).next) →
      P (awake (closed_at (ending_of a.choice) (thread_at w a.thread).at)) →
      (u : ℕ) → P (thread_at (accepted_of w a).world u)
  unfolding accepted_of set_of begin_of wake_of close_of recorded
  accepted-each w a h begin step close =
      decided Q (eqb a.act SET) _ _ (λ _. set-records w a.choice a.object a.value h)
      (λ e. decided Q (eqb a.act BEGIN) _ _ (λ b. set-each P idle w.threads a.thread (awake (start_of a)) h (begin e b))
      (λ _. decided Q (eqb a.act STEP) _ _ (λ _. step-each w a.thread (eqb a.choice 1) h step)
      (λ _. decided Q (eqb a.act WAKE) _ _
      (λ _. set-each P idle w.threads a.thread (roused (thread_at w a.thread)) h (r (thread_at w a.thread) (h a.thread)))
      (λ _. set-each P idle w.threads a.thread (awake (closed_at (ending_of a.choice) (thread_at w a.thread).at)) h close))))
    where
      Q : Acted → Type 0
      Q x = (u : ℕ) → P (thread_at x.world u)
