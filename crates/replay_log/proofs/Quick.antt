-- A step that wakes nobody, or a begin, stored in place, is the act's answer. Assumes nothing.
use Prim.Native.Nat.{ℕ, ◌%◌, ◌<◌}
use native.Mathlib.Omega.{arith}
use mathlib.Core.Path.{◌≡◌, refl, sym, ap, ◌∙◌}
use mathlib.Core.Bool.{Bool, true, false, not, ◌&&◌}
use lib.Dec.{eqb, ltb}
use lib.ListN.{get_or, set}
use borrow.Author.Tests.{eqb-true, ltb-true}
use Rattle.std.specs.Prelude.{Some}
use Rattle.std.proofs.lemmas.Option.{cond_some}
use Rattle.words.specs.Found.{found}
use Rattle.words.specs.declared.Wake.TheVariants as W
use Rattle.queue.specs.declared.Row.{Row}
use Rattle.queue.specs.Row.{THREADS, place_of}
use Rattle.calls.specs.declared.At.{At}
use Rattle.calls.specs.declared.Event.{Event}
use Rattle.calls.specs.declared.Event.TheVariants as E
use Rattle.calls.specs.declared.Need.{Need}
use Rattle.calls.specs.declared.Thread.{Thread}
use Rattle.calls.specs.declared.Plan.{Plan}
use Rattle.calls.specs.Events.{tell_of}
use Rattle.calls.specs.Objects.{WORDS}
use Rattle.calls.specs.Plans.{idle, awake, decide_of}
use Rattle.calls.specs.Positions.{operand_of, may_wake, need_of, is_idle}
use Rattle.calls.proofs.Laws.{calm, quiet}
use Rattle.world.specs.declared.World.{World}
use Rattle.world.specs.World.{thread_at, word_at, on_word}
use Rattle.world.specs.Holds.{mutex_slot, lock_slot, has_hold}
use Rattle.step.specs.declared.Acted.{Acted}
use Rattle.step.specs.Step.{locked_after, written_after, reads_after, slept_row, own_plan, wakes_of, apply_plan, step_of}
use Rattle.step.specs.Acts.{recorded, begin_of}
use Rattle.sound.proofs.Readings.{both}
use Rattle.acts.specs.declared.Fields.{Fields}
use Rattle.acts.specs.Refusals.{SET, BEGIN, STEP, start_of, fields_refusal, begin_refusal, step_refusal, world_refusal}
use Rattle.acts.specs.Acts.{accepted_of, acted_of}
use Rattle.replay_log.specs.Run.{answer_of}
use Rattle.replay_log.specs.declared.InPlace.TheVariants as P
use Rattle.replay_log.specs.InPlace.{calm_of, quick_of, quick_begin, told_by, stored_by, Does}

negated : (b : Bool) → not b ≡ true → b ≡ false
negated true e = sym e
negated false e = refl

-- what the test of a step that wakes nobody found
record Found (sound : Bool) (a : Fields) (th : Thread) : Type 0 where
  sounds : sound ≡ true
  act : eqb a.act STEP ≡ true
  there : ltb a.thread THREADS ≡ true
  fields : eqb (fields_refusal a) 0 ≡ true
  allowed : eqb (step_refusal th a.choice) 0 ≡ true
  calms : may_wake th.at ≡ false

found_of : (sound : Bool) (a : Fields) (th : Thread) → calm_of sound a th ≡ true → Found sound a th
unfolding calm_of
found_of sound a th e =
    let e5 : ((((sound && eqb a.act STEP) && ltb a.thread THREADS) && eqb (fields_refusal a) 0) && eqb (step_refusal th a.choice) 0 ≡ true) × (not (may_wake th.at) ≡ true) = both ((((sound && eqb a.act STEP) && ltb a.thread THREADS) && eqb (fields_refusal a) 0) && eqb (step_refusal th a.choice) 0) (not (may_wake th.at)) e in
    let e4 : (((sound && eqb a.act STEP) && ltb a.thread THREADS) && eqb (fields_refusal a) 0 ≡ true) × (eqb (step_refusal th a.choice) 0 ≡ true) = both (((sound && eqb a.act STEP) && ltb a.thread THREADS) && eqb (fields_refusal a) 0) (eqb (step_refusal th a.choice) 0) e5.0 in
    let e3 : ((sound && eqb a.act STEP) && ltb a.thread THREADS ≡ true) × (eqb (fields_refusal a) 0 ≡ true) = both ((sound && eqb a.act STEP) && ltb a.thread THREADS) (eqb (fields_refusal a) 0) e4.0 in
    let e2 : (sound && eqb a.act STEP ≡ true) × (ltb a.thread THREADS ≡ true) = both (sound && eqb a.act STEP) (ltb a.thread THREADS) e3.0 in
    let e1 : (sound ≡ true) × (eqb a.act STEP ≡ true) = both (sound) (eqb a.act STEP) e2.0 in
    record { sounds = e1.0; act = e1.1; there = e2.1; fields = e3.1; allowed = e4.1; calms = negated (may_wake th.at) e5.1 }

-- .. and that of a quick step, the word too
quick-is :
    (sound : Bool) (a : Fields) (th : Thread) (k : ℕ) → quick_of sound a th k ≡ true → (calm_of sound a th ≡ true) × (ltb k WORDS ≡ true)
unfolding quick_of
quick-is sound a th k e = both (calm_of sound a th) (ltb k WORDS) e

is-quick : (sound : Bool) (a : Fields) (th : Thread) (k : ℕ) → calm_of sound a th ≡ true → ltb k WORDS ≡ true → quick_of sound a th k ≡ true
unfolding quick_of
is-quick sound a th k c h = rw (c, h) refl

module _ (w : World) (a : Fields) (e : eqb a.act STEP ≡ true) where
  is-step : a.act ≡ STEP
  is-step = eqb-true a.act STEP e

  not_set : eqb a.act SET ≡ false
  not_set = ap (λ (x : ℕ). eqb x SET) is-step

  not-begin : eqb a.act BEGIN ≡ false
  not-begin = ap (λ (x : ℕ). eqb x BEGIN) is-step

  step-accepted : accepted_of w a ≡ step_of w a.thread (eqb a.choice 1)
  unfolding accepted_of
  step-accepted = rw (not_set, not-begin, e) refl

  step-refused : world_refusal w a ≡ step_refusal (thread_at w a.thread) a.choice
  unfolding world_refusal
  step-refused = rw (not_set, not-begin, e) refl

-- an accepted step in a sound world is the step
step-answered :
    (sound : Bool) (w : World) (a : Fields) → sound ≡ true → eqb a.act STEP ≡ true → eqb (fields_refusal a) 0 ≡ true →
    eqb (step_refusal (thread_at w a.thread) a.choice) 0 ≡ true → answer_of sound w a ≡ step_of w a.thread (eqb a.choice 1)
unfolding answer_of acted_of
step-answered sound w a s e f r =
    let g : eqb (world_refusal w a) 0 ≡ true = ap (λ (n : ℕ). eqb n 0) (step-refused w a e) ∙ r in rw (s, f, g) (step-accepted w a e)

-- a step of a thread that wakes nobody, over a word that is there, is its own part
calm-step :
    (w : World) (t k : ℕ) (fails : Bool) (th : Thread) (p : Plan) → th ≡ thread_at w t → k ≡ operand_of t th.at → ltb k WORDS ≡ true →
    p ≡ decide_of th.at fails (word_at w k) (ltb (place_of (on_word w.threads k) w.sleepers) THREADS) → p.wake ≡ W.None →
    ◌≡◌ {A = Acted} (record { event = tell_of p.event 0; world = own_plan w t k p }) (step_of w t fails)
unfolding step_of apply_plan wakes_of
calm-step w t k fails th p eth ek inside ep none = rw (← eth, ← ek, inside, ← ep, none) refl

-- the record that the code read is the thread's
own-record : (w : World) (a : Fields) (th : Thread) {i : ℕ} → ltb a.thread THREADS ≡ true → i ≡ a.thread % THREADS → th ≡ get_or w.threads i idle → (i ≡ a.thread) × (th ≡ thread_at w a.thread)
own-record w a th {i} t ei eth =
    let small : a.thread < THREADS = ltb-true a.thread THREADS t in
    let ti : i ≡ a.thread = ei ∙ omega arith in
    (ti, eth ∙ ap (λ (x : ℕ). get_or w.threads x idle) ti)

pub quick-thread :
    (sound : Bool) (w : World) (a : Fields) (th : Thread) (k : ℕ) {i : ℕ} → quick_of sound a th k ≡ true → i ≡ a.thread % THREADS →
    th ≡ get_or w.threads i idle → th ≡ thread_at w a.thread
quick-thread sound w a th k q ei eth = (own-record w a th (found_of sound a th (quick-is sound a th k q).0).there ei eth).1

-- the stores of a quick step, each as what the code computed
pub quick-step :
    (sound : Bool) (w : World) (a : Fields) (th : Thread) (k : ℕ) {i j m l word : ℕ} {fails : Bool} {p : Plan} {told : Event}
    {locked written : Bool} {reads : ℕ} {row : Row} → quick_of sound a th k ≡ true → i ≡ a.thread % THREADS → th ≡ get_or w.threads i idle →
    k ≡ operand_of a.thread th.at → j ≡ k % WORDS → word ≡ get_or w.words j 0 → fails ≡ eqb a.choice 1 →
    p ≡ decide_of th.at fails word false → told ≡ tell_of p.event 0 → m ≡ mutex_slot a.thread p.object →
    l ≡ lock_slot a.thread p.object → locked ≡ locked_after p.hold (get_or w.locked m false) →
    written ≡ written_after p.hold (get_or w.written l false) → reads ≡ reads_after p.hold (get_or w.reads l 0) →
    row ≡ slept_row p.next.asleep w.sleepers a.thread →
    ◌≡◌ {A = Acted}
    (record {
      event = told;
      world = record {
        words = set w.words j p.word;
        locked = set w.locked m locked;
        written = set w.written l written;
        reads = set w.reads l reads;
        forgotten = w.forgotten;
        threads = set w.threads i p.next;
        sleepers = row;
        started = true;
      };
    })
    (answer_of sound w a)
unfolding own_plan
quick-step sound w a th k {i} {j} {m} {l} {word} {fails} {p} {told} {locked} {written} {reads} {row} q ei eth ek ej ew ef ep et em el elo ewr er es =
    let c : (calm_of sound a th ≡ true) × (ltb k WORDS ≡ true) = quick-is sound a th k q in
    let f : Found sound a th = found_of sound a th c.0 in
    let inside : k < WORDS = ltb-true k WORDS c.1 in
    let own : (i ≡ a.thread) × (th ≡ thread_at w a.thread) = own-record w a th f.there ei eth in
    let kj : j ≡ k = ej ∙ omega arith in
    let reads_word : word ≡ word_at w k = ew ∙ ap (word_at w) kj in
    let place : ℕ = place_of (on_word w.threads k) w.sleepers in
    let plan : p ≡ decide_of th.at fails (word_at w k) (ltb place THREADS) =
    ep ∙ quiet th.at fails word false (ltb place THREADS) f.calms ∙ ap (λ (x : ℕ). decide_of th.at fails x (ltb place THREADS)) reads_word in
    let none : p.wake ≡ W.None = ap (λ (x : Plan). x.wake) ep ∙ calm th.at fails word false f.calms in
    let allowed : eqb (step_refusal (thread_at w a.thread) a.choice) 0 ≡ true = ap (λ (x : Thread). eqb (step_refusal x a.choice) 0) (sym own.1) ∙ f.allowed in
    rw (et, elo, ewr, er, es, em, el, kj, own.0)
    (calm-step w a.thread k fails th p own.1 ek c.1 plan none ∙ ap (step_of w a.thread) ef ∙ sym (step-answered sound w a f.sounds f.act f.fields allowed))

-- the same of what is told and stored in place
pub quick-does :
    (sound : Bool) (w : World) (a : Fields) (th : Thread) (k : ℕ) (p : Plan) → calm_of sound a th ≡ true → th ≡ thread_at w a.thread →
    Some k ≡ found WORDS (operand_of a.thread th.at) → p ≡ decide_of th.at (eqb a.choice 1) (word_at w k) false → Does sound w a (P.Step k p)
unfolding told_by stored_by own_plan
quick-does sound w a th k p q at ek ep =
    let h : (ltb (operand_of a.thread th.at) WORDS ≡ true) × (operand_of a.thread th.at ≡ k) = cond_some (ltb (operand_of a.thread th.at) WORDS) (operand_of a.thread th.at) k (sym ek) in
    let inside : ltb k WORDS ≡ true = ap (λ (n : ℕ). ltb n WORDS) (sym h.1) ∙ h.0 in
    let there : a.thread < THREADS = ltb-true a.thread THREADS (found_of sound a th q).there in
    let word : k < WORDS = ltb-true k WORDS inside in
    let i : a.thread ≡ a.thread % THREADS = omega arith in
    let j : k ≡ k % WORDS = omega arith in
    let does = quick-step sound w a th k (is-quick sound a th k q inside) i at (sym h.1) j refl refl ep refl refl refl refl refl refl refl in
    record { there = there; event = ap (λ (d : Acted). d.event) does; world = ap (λ (d : Acted). d.world) does }

-- what the test of a quick begin found
record Ready (sound : Bool) (a : Fields) (th : Thread) (held : Bool) : Type 0 where
  sounds : sound ≡ true
  act : eqb a.act BEGIN ≡ true
  there : ltb a.thread THREADS ≡ true
  fields : eqb (fields_refusal a) 0 ≡ true
  rests : is_idle th.at ≡ true
  holds : held ≡ true

ready : (sound : Bool) (a : Fields) (th : Thread) (held : Bool) → quick_begin sound a th held ≡ true → Ready sound a th held
unfolding quick_begin
ready sound a th held e =
    let e5 : ((((sound && eqb a.act BEGIN) && ltb a.thread THREADS) && eqb (fields_refusal a) 0) && is_idle th.at ≡ true) × (held ≡ true) = both ((((sound && eqb a.act BEGIN) && ltb a.thread THREADS) && eqb (fields_refusal a) 0) && is_idle th.at) (held) e in
    let e4 : (((sound && eqb a.act BEGIN) && ltb a.thread THREADS) && eqb (fields_refusal a) 0 ≡ true) × (is_idle th.at ≡ true) = both (((sound && eqb a.act BEGIN) && ltb a.thread THREADS) && eqb (fields_refusal a) 0) (is_idle th.at) e5.0 in
    let e3 : ((sound && eqb a.act BEGIN) && ltb a.thread THREADS ≡ true) × (eqb (fields_refusal a) 0 ≡ true) = both ((sound && eqb a.act BEGIN) && ltb a.thread THREADS) (eqb (fields_refusal a) 0) e4.0 in
    let e2 : (sound && eqb a.act BEGIN ≡ true) × (ltb a.thread THREADS ≡ true) = both (sound && eqb a.act BEGIN) (ltb a.thread THREADS) e3.0 in
    let e1 : (sound ≡ true) × (eqb a.act BEGIN ≡ true) = both (sound) (eqb a.act BEGIN) e2.0 in
    record { sounds = e1.0; act = e1.1; there = e2.1; fields = e3.1; rests = e4.1; holds = e5.1 }

pub begin-thread :
    (sound : Bool) (w : World) (a : Fields) (th : Thread) (held : Bool) {i : ℕ} → quick_begin sound a th held ≡ true → i ≡ a.thread % THREADS →
    th ≡ get_or w.threads i idle → th ≡ thread_at w a.thread
begin-thread sound w a th held q ei eth = (own-record w a th (ready sound a th held q).there ei eth).1

module _ (w : World) (a : Fields) (e : eqb a.act BEGIN ≡ true) where
  begin-not-set : eqb a.act SET ≡ false
  begin-not-set = ap (λ (x : ℕ). eqb x SET) (eqb-true a.act BEGIN e)

  begin-accepted : accepted_of w a ≡ begin_of w a.thread (start_of a)
  unfolding accepted_of
  begin-accepted = rw (begin-not-set, e) refl

  begin-refused : world_refusal w a ≡ begin_refusal w a
  unfolding world_refusal
  begin-refused = rw (begin-not-set, e) refl

not-refused :
    (w : World) (a : Fields) → is_idle (thread_at w a.thread).at ≡ true →
    has_hold w.locked w.written w.reads a.thread (need_of (start_of a)) ≡ true → begin_refusal w a ≡ 0
unfolding begin_refusal
not-refused w a r h = rw (r, h) refl

begin-answered :
    (sound : Bool) (w : World) (a : Fields) → sound ≡ true → eqb a.act BEGIN ≡ true → eqb (fields_refusal a) 0 ≡ true →
    is_idle (thread_at w a.thread).at ≡ true → has_hold w.locked w.written w.reads a.thread (need_of (start_of a)) ≡ true →
    answer_of sound w a ≡ begin_of w a.thread (start_of a)
unfolding answer_of acted_of
begin-answered sound w a s e f r h =
    let g : eqb (world_refusal w a) 0 ≡ true = ap (λ (n : ℕ). eqb n 0) (begin-refused w a e ∙ not-refused w a r h) in
    rw (s, f, g) (begin-accepted w a e)

-- the stores of a quick begin, each as what the code computed
pub begin-step :
    (sound : Bool) (w : World) (a : Fields) (th next : Thread) (held : Bool) {i : ℕ} {start : At} {need : Need} → quick_begin sound a th held ≡ true →
    i ≡ a.thread % THREADS → th ≡ get_or w.threads i idle → start ≡ start_of a → need ≡ need_of start →
    held ≡ has_hold w.locked w.written w.reads a.thread need → next ≡ awake start →
    ◌≡◌ {A = Acted}
    (record {
      event = E.Begun;
      world = record {
        words = w.words;
        locked = w.locked;
        written = w.written;
        reads = w.reads;
        forgotten = w.forgotten;
        threads = set w.threads i next;
        sleepers = w.sleepers;
        started = true;
      };
    })
    (answer_of sound w a)
unfolding begin_of recorded
begin-step sound w a th next held {i} {start} {need} q ei eth es en eh ex =
    let f : Ready sound a th held = ready sound a th held q in
    let own : (i ≡ a.thread) × (th ≡ thread_at w a.thread) = own-record w a th f.there ei eth in
    let rests : is_idle (thread_at w a.thread).at ≡ true = ap (λ (x : Thread). is_idle x.at) (sym own.1) ∙ f.rests in
    let needs : need ≡ need_of (start_of a) = en ∙ ap need_of es in
    let holds : has_hold w.locked w.written w.reads a.thread (need_of (start_of a)) ≡ true =
    ap (has_hold w.locked w.written w.reads a.thread) (sym needs) ∙ (sym eh ∙ f.holds) in
    let record_is : next ≡ awake (start_of a) = ex ∙ ap awake es in
    rw (own.0, record_is) (sym (begin-answered sound w a f.sounds f.act f.fields rests holds))

-- the same of what is told and stored in place
pub begin-does :
    (sound : Bool) (w : World) (a : Fields) (th : Thread) (held : Bool) (at : At) (need : Need) → quick_begin sound a th held ≡ true → th ≡ thread_at w a.thread →
    at ≡ start_of a → need ≡ need_of at → held ≡ has_hold w.locked w.written w.reads a.thread need →
    Does sound w a (P.Begin at)
unfolding told_by stored_by begin_of recorded
begin-does sound w a th held at need q own es en eh =
    let there : a.thread < THREADS = ltb-true a.thread THREADS (ready sound a th held q).there in
    let i : a.thread ≡ a.thread % THREADS = omega arith in
    let does = begin-step sound w a th (awake at) held q i own es en eh refl in
    record { there = there; event = ap (λ (d : Acted). d.event) does; world = ap (λ (d : Acted). d.world) does }
