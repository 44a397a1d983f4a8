-- Every accepted act of a sound world, its lists as long as they should be and its words of 32 bits, keeps the counts of holders against
-- the words, leaves every thread the hold that its position asks for, and a world that is in motion or that set acts alone have made.
-- Assumes nothing.
use mathlib.Core.Path.{◌≡◌, refl}
use mathlib.Core.Bool.{Bool, true, false, cond, not, ◌&&◌, ◌||◌}
use Prim.Native.Nat.{ℕ, ◌<◌}
use native.Mathlib.Omega.{arith}
use lib.Dec.{eqb, ltb, leb}
use borrow.Author.Tests.{ltb-true}
use Rattle.words.proofs.Cond.{either}
use Rattle.words.specs.RwLock.{MAX_READERS}
use Rattle.queue.specs.Row.{THREADS}
use Rattle.calls.specs.Objects.{WORDS}
use Rattle.calls.specs.Positions.{operand_of, need_of, is_idle}
use Rattle.world.specs.declared.World.{World}
use Rattle.world.specs.World.{thread_at}
use Rattle.world.specs.Holds.{has_hold}
use Rattle.step.specs.declared.Acted.{Acted}
use Rattle.step.specs.Step.{own_plan, apply_plan, step_of}
use Rattle.step.specs.Acts.{recorded, begin_of, wake_of, close_of}
use Rattle.acts.specs.declared.Fields.{Fields}
use Rattle.acts.specs.Acts.{set_of, ending_of, accepted_of}
use Rattle.acts.specs.Refusals.{SET, BEGIN, STEP, WAKE, choices_of, start_of, set_exists, unnamed_zero, object_exists, thread_exists, fields_refusal, set_refusal, begin_refusal, world_refusal}
use Rattle.sound.specs.Sound.{mutexes_agree, locks_agree, needs_held, set_alone, started_or_set, sound_world}
use Rattle.sound.proofs.Readings.{sound-clauses, value-passed, need-held, started-is, set_is, set-read, Clauses}
use Rattle.kept.specs.Shape.{Shaped}
use Rattle.kept.proofs.Tests.{decided}
use Rattle.keeps_counts.proofs.Others.{begin-mutexes, begin-locks, wake-mutexes, wake-locks, close-mutexes, close-locks, step-mutexes, step-locks}
use Rattle.keeps_counts.proofs.Sets.{set-alone, alone-mutexes, alone-locks}
use Rattle.keeps_counts.proofs.Holders.{step-needs, begin-needs, wake-needs, close-needs, set-needs}

-- fields that are not refused name a thread and an object that exist
fields_read : (c t u o : Bool) → ◌≡◌ {A = ℕ} (cond (not c) 1 (cond (not t) 2 (cond (not u) 1 (cond (not o) 3 0)))) 0 → (t ≡ true) × (o ≡ true)
fields_read false t u o e = absurd (omega arith)
fields_read true false u o e = absurd (omega arith)
fields_read true true false o e = absurd (omega arith)
fields_read true true true false e = absurd (omega arith)
fields_read true true true true e = (refl, refl)

pub fields-exist : (a : Fields) → fields_refusal a ≡ 0 → (thread_exists a ≡ true) × (object_exists a ≡ true)
unfolding fields_refusal
fields-exist a e = fields_read (ltb a.choice (choices_of a.act)) (thread_exists a) (unnamed_zero a) (object_exists a) e

is-thread : (a : Fields) → eqb a.act SET ≡ false → thread_exists a ≡ true → a.thread < THREADS
unfolding thread_exists
is-thread a n e = ltb-true a.thread THREADS (by (eqb a.act SET) n e)
  where
    by : (c : Bool) → c ≡ false → c || ltb a.thread THREADS ≡ true → ltb a.thread THREADS ≡ true
    by true q r = let z : ◌≡◌ {A = ℕ} 0 1 = cc in absurd (omega arith)
    by false q r = r

set_there : (a : Fields) → eqb a.act SET ≡ true → object_exists a ≡ true → set_exists a.choice a.object ≡ true
unfolding object_exists
set_there a q e = rw q at e

set-accepted : (w : World) (a : Fields) → eqb a.act SET ≡ true → world_refusal w a ≡ 0 → set_refusal w a.choice a.value ≡ 0
unfolding world_refusal
set-accepted w a q e = rw q at e

not-started : (w : World) (choice value : ℕ) → set_refusal w choice value ≡ 0 → w.started ≡ false
unfolding set_refusal
not-started w choice value e = by w.started (cond (eqb choice 0 && not (leb value MAX_READERS)) 13 0) e
  where
    by : (c : Bool) (n : ℕ) → cond c 12 n ≡ 0 → c ≡ false
    by true n e = absurd (omega arith)
    by false n e = refl

begin-accepted :
    (w : World) (a : Fields) → eqb a.act SET ≡ false → eqb a.act BEGIN ≡ true → world_refusal w a ≡ 0 →
    has_hold w.locked w.written w.reads a.thread (need_of (start_of a)) ≡ true
unfolding world_refusal begin_refusal
begin-accepted w a n q e =
    by (is_idle (thread_at w a.thread).at) (has_hold w.locked w.written w.reads a.thread (need_of (start_of a))) (rw (n, q) at e)
  where
    by : (b c : Bool) → ◌≡◌ {A = ℕ} (cond (not b) 4 (cond (not c) 9 0)) 0 → c ≡ true
    by b true e = refl
    by true false e = absurd (omega arith)
    by false false e = absurd (omega arith)

-- a step that has no word leaves the world as it was
step-begun : (w : World) (t : ℕ) (f : Bool) → started_or_set w ≡ true → started_or_set (step_of w t f).world ≡ true
unfolding step_of apply_plan own_plan
step-begun w t f e =
    either (λ (x : Acted). started_or_set x.world ≡ true) (ltb (operand_of t (thread_at w t).at) WORDS) _ _ (started-is _ refl) e

module _ (w : World) (a : Fields) (shaped : Shaped w) (sound : sound_world w ≡ true) (fields : fields_refusal a ≡ 0) (accepted : world_refusal w a ≡ 0) where
  clauses : Clauses w
  clauses = sound-clauses w sound

  thread-there : eqb a.act SET ≡ false → a.thread < THREADS
  thread-there n = is-thread a n (fields-exist a fields).0

  -- a set act is accepted only in a world that set acts alone have made
  set-made : eqb a.act SET ≡ true → set_alone (set_of w a.choice a.object a.value).world ≡ true
  unfolding set_of
  set-made q =
      let r : set_refusal w a.choice a.value ≡ 0 = set-accepted w a q accepted in
      set-alone w a.choice a.object a.value shaped (set_there a q (fields-exist a fields).1) r
      (set-read w (not-started w a.choice a.value r) clauses.begun)

  -- clause 5
  pub accepted-mutexes : mutexes_agree (accepted_of w a).world ≡ true
  unfolding accepted_of
  accepted-mutexes =
      decided (λ (x : Acted). mutexes_agree x.world ≡ true) (eqb a.act SET) _ _
      (λ q. alone-mutexes _ (set-made q))
      (λ n. decided (λ (x : Acted). mutexes_agree x.world ≡ true) (eqb a.act BEGIN) _ _
      (λ q. begin-mutexes w a.thread (start_of a) clauses.mutexes)
      (λ b. decided (λ (x : Acted). mutexes_agree x.world ≡ true) (eqb a.act STEP) _ _
      (λ q. step-mutexes w a.thread (eqb a.choice 1) (thread-there n) shaped.words
      (need-held w a.thread clauses.needs (thread-there n)) shaped.locked clauses.mutexes)
      (λ s. decided (λ (x : Acted). mutexes_agree x.world ≡ true) (eqb a.act WAKE) _ _
      (λ q. wake-mutexes w a.thread clauses.mutexes)
      (λ k. close-mutexes w a.thread (ending_of a.choice) clauses.mutexes))))

  -- clause 6
  pub accepted-locks : locks_agree (accepted_of w a).world ≡ true
  unfolding accepted_of
  accepted-locks =
      decided (λ (x : Acted). locks_agree x.world ≡ true) (eqb a.act SET) _ _
      (λ q. alone-locks _ (set-made q))
      (λ n. decided (λ (x : Acted). locks_agree x.world ≡ true) (eqb a.act BEGIN) _ _
      (λ q. begin-locks w a.thread (start_of a) clauses.locks)
      (λ b. decided (λ (x : Acted). locks_agree x.world ≡ true) (eqb a.act STEP) _ _
      (λ q. step-locks w a.thread (eqb a.choice 1) (thread-there n) shaped.words
      (need-held w a.thread clauses.needs (thread-there n)) shaped.written shaped.reads
      (value-passed w a.thread clauses.values (thread-there n)) (shaped.wide (operand_of a.thread (thread_at w a.thread).at)) clauses.locks)
      (λ s. decided (λ (x : Acted). locks_agree x.world ≡ true) (eqb a.act WAKE) _ _
      (λ q. wake-locks w a.thread clauses.locks)
      (λ k. close-locks w a.thread (ending_of a.choice) clauses.locks))))

  -- clause 7
  pub accepted-needs : needs_held (accepted_of w a).world ≡ true
  unfolding accepted_of
  accepted-needs =
      decided (λ (x : Acted). needs_held x.world ≡ true) (eqb a.act SET) _ _
      (λ q. set-needs w a.choice a.object a.value clauses.needs)
      (λ n. decided (λ (x : Acted). needs_held x.world ≡ true) (eqb a.act BEGIN) _ _
      (λ q. begin-needs w a.thread (thread-there n) shaped.threads clauses.needs (start_of a) (begin-accepted w a n q accepted))
      (λ b. decided (λ (x : Acted). needs_held x.world ≡ true) (eqb a.act STEP) _ _
      (λ q. step-needs w a.thread (eqb a.choice 1) (thread-there n) shaped.threads shaped.locked shaped.written
      shaped.reads clauses.names clauses.needs)
      (λ s. decided (λ (x : Acted). needs_held x.world ≡ true) (eqb a.act WAKE) _ _
      (λ q. wake-needs w a.thread (thread-there n) shaped.threads clauses.needs)
      (λ k. close-needs w a.thread (thread-there n) shaped.threads clauses.needs (ending_of a.choice)))))

  -- clause 8: a set leaves what set acts make, the other acts set the world in motion
  pub accepted-begun : started_or_set (accepted_of w a).world ≡ true
  unfolding accepted_of begin_of wake_of close_of recorded
  accepted-begun =
      decided (λ (x : Acted). started_or_set x.world ≡ true) (eqb a.act SET) _ _ (λ q. set_is _ (set-made q))
      (λ n. either (λ (x : Acted). started_or_set x.world ≡ true) (eqb a.act BEGIN) _ _ (started-is _ refl)
      (either (λ (x : Acted). started_or_set x.world ≡ true) (eqb a.act STEP) _ _ (step-begun w a.thread (eqb a.choice 1) clauses.begun)
      (either (λ (x : Acted). started_or_set x.world ≡ true) (eqb a.act WAKE) _ _ (started-is _ refl) (started-is _ refl))))
