-- Every accepted act keeps the third clause of soundness: a thread asleep stands at a futex_wait and once in the row, one awake not at all,
-- and nobody else is there. Assumes nothing.
use mathlib.Core.Path.{◌≡◌, refl, sym, ap, ◌∙◌}
use mathlib.Core.Bool.{Bool, true, false, cond, not, ◌&&◌}
use Prim.Native.Nat.{ℕ, zero, suc, ◌^◌, ◌≤◌, ◌<◌}
use native.Mathlib.Omega.{arith}
use borrow.Author.Tests.{ltb-true, ltb-false}
use lib.Dec.{eqb, ltb}
use lib.ListN.{length, get_or-eq_default}
use Rattle.words.proofs.Cond.{either}
use Rattle.queue.specs.Row.{THREADS, sleepers, place_of, occ}
use Rattle.calls.specs.declared.At.{At}
use Rattle.calls.specs.declared.At.TheVariants as A
use Rattle.calls.specs.declared.Thread.{Thread}
use Rattle.calls.specs.declared.Plan.{Plan}
use Rattle.calls.specs.declared.Event.{Event}
use Rattle.calls.specs.declared.Event.TheVariants as E
use Rattle.once.specs.declared.Ending.{Ending}
use Rattle.calls.specs.Objects.{WORDS}
use Rattle.calls.specs.Plans.{idle, awake, decide_of}
use Rattle.calls.specs.Positions.{operand_of, waits_of, weak_next, in_closure, need_of, is_idle}
use Rattle.world.specs.declared.World.{World}
use Rattle.world.specs.World.{thread_at, word_at, on_word}
use Rattle.world.specs.Holds.{has_hold}
use Rattle.step.specs.declared.Acted.{Acted}
use Rattle.step.specs.Step.{wakes_of, apply_plan, step_of}
use Rattle.step.specs.Acts.{recorded, begin_of, wake_of, close_of, closed_at}
use Rattle.sound.specs.Sound.{sound_world, sleepers_stand}
use Rattle.sound.proofs.Readings.{sound-clauses, sleepers-read, sleepers-make}
use Rattle.sound.proofs.Standing.{nobody-else, sleepers-of}
use Rattle.sound.specs.Clauses.{Sleepers}
use Rattle.acts.specs.declared.Fields.{Fields}
use Rattle.acts.specs.Refusals.{SET, BEGIN, STEP, WAKE, start_of, thread_exists, fields_refusal, begin_refusal, step_refusal, wake_refusal, close_refusal, world_refusal}
use Rattle.acts.specs.Acts.{set_world, set_of, ending_of, accepted_of}
use Rattle.kept.specs.Shape.{Shaped}
use Rattle.kept.proofs.Tests.{decided, no_way}
use Rattle.kept.proofs.Calls.{sleeping}
use Rattle.keeps_records.proofs.Shape.{wakes-shaped, sound-count, shaped-kept}
use Rattle.keeps_records.proofs.Records.{everywhere, accepted-each}
use Rattle.keeps_records.proofs.Names.{fields-named}
use Rattle.keeps_records.proofs.Rows.{bit, Stand, below, stand-set, stand-woken, wakes-stand, wakes-awake, own-stand}

-- the clause, over every number
none : (n : ℕ) → (0 < n → ⊥) → n ≡ 0
none zero h = refl
none (suc n) h = absurd (h (omega arith))

pub sleepers-stand : (w : World) → Shaped w → Sleepers w → Stand w.threads w.sleepers
sleepers-stand w s l = record { tidy = l.tidy; stands = λ u. by u (ltb u THREADS) refl }
  where
    by : (u : ℕ) (c : Bool) → ltb u THREADS ≡ c → occ u (sleepers w.sleepers) ≡ bit (thread_at w u)
    by u true e = l.stands u (ltb-true u THREADS e)
    by u false e =
        let k : THREADS ≤ u = ltb-false u THREADS e in
        let n : length w.threads ≡ THREADS = s.threads in
        let m : length w.threads ≤ u = omega arith in
        let z : occ u (sleepers w.sleepers) ≡ 0 =
        none (occ u (sleepers w.sleepers)) (λ h. let b : u < THREADS = nobody-else w s.places l u h in omega arith) in
        z ∙ sym (ap bit (get_or-eq_default w.threads idle m))

pub stand-sleepers :
    (w : World) → Shaped w → Stand w.threads w.sleepers → ((u : ℕ) → (thread_at w u).asleep ≡ true → waits_of (thread_at w u).at ≡ true) →
    Sleepers w
stand-sleepers w s d h =
    sleepers-of w s.places d.tidy (λ t _. d.stands t) (λ t _. h t)
    (λ u k. let z : 0 < bit (thread_at w u) = rw (d.stands u) at k in let y : u < length w.threads = below w.threads u z in
    let n : length w.threads ≡ THREADS = s.threads in omega arith)

-- what an act that is not refused has found
pub begins-idle : (w : World) (a : Fields) → begin_refusal w a ≡ 0 → is_idle (thread_at w a.thread).at ≡ true
unfolding begin_refusal
begins-idle w a e =
    by (is_idle (thread_at w a.thread).at) (has_hold w.locked w.written w.reads a.thread (need_of (start_of a))) e
  where
    by : (p q : Bool) → ◌≡◌ {A = ℕ} (cond (not p) 4 (cond (not q) 9 0)) 0 → p ≡ true
    by true q e = refl
    by false q e = absurd (omega arith)

pub begins-with : (w : World) (a : Fields) → begin_refusal w a ≡ 0 → has_hold w.locked w.written w.reads a.thread (need_of (start_of a)) ≡ true
unfolding begin_refusal
begins-with w a e =
    by (is_idle (thread_at w a.thread).at) (has_hold w.locked w.written w.reads a.thread (need_of (start_of a))) e
  where
    by : (p q : Bool) → ◌≡◌ {A = ℕ} (cond (not p) 4 (cond (not q) 9 0)) 0 → q ≡ true
    by true true e = refl
    by true false e = absurd (omega arith)
    by false q e = absurd (omega arith)

pub steps-awake : (th : Thread) (choice : ℕ) → step_refusal th choice ≡ 0 → th.asleep ≡ false
unfolding step_refusal
steps-awake th choice e = by (is_idle th.at) th.asleep (in_closure th.at) (eqb choice 1 && not (weak_next th.at)) e
  where
    by : (p q r s : Bool) → ◌≡◌ {A = ℕ} (cond p 5 (cond q 6 (cond r 10 (cond s 8 0)))) 0 → q ≡ false
    by true q r s e = absurd (omega arith)
    by false true r s e = absurd (omega arith)
    by false false r s e = refl

pub wakes-asleep : (th : Thread) → wake_refusal th ≡ 0 → th.asleep ≡ true
unfolding wake_refusal
wakes-asleep th e = by (is_idle th.at) th.asleep e
  where
    by : (p q : Bool) → ◌≡◌ {A = ℕ} (cond p 5 (cond q 0 7)) 0 → q ≡ true
    by true q e = absurd (omega arith)
    by false true e = refl
    by false false e = absurd (omega arith)

pub closes-awake : (th : Thread) → close_refusal th ≡ 0 → th.asleep ≡ false
unfolding close_refusal
closes-awake th e = by (is_idle th.at) th.asleep (in_closure th.at) e
  where
    by : (p q r : Bool) → ◌≡◌ {A = ℕ} (cond p 5 (cond q 6 (cond r 0 11))) 0 → q ≡ false
    by true q r e = absurd (omega arith)
    by false true r e = absurd (omega arith)
    by false false r e = refl

pub thread-named : (a : Fields) → fields_refusal a ≡ 0 → eqb a.act SET ≡ false → a.thread < THREADS
unfolding thread_exists
thread-named a e s =
    let q : thread_exists a ≡ true = (fields-named a e).thread in
    ltb-true a.thread THREADS (rw s at q)

-- an idle thread waits for nothing
idle-awake : (at : At) (b : Bool) → is_idle at ≡ true → (b ≡ true → waits_of at ≡ true) → b ≡ false
unfolding is_idle waits_of
idle-awake A.Idle true e h = no_way (h refl)
idle-awake A.Idle false e h = refl
idle-awake (A.Mutex m p) b e h = no_way e
idle-awake (A.RwLock l p) b e h = no_way e
idle-awake (A.Condvar c p) b e h = no_way e
idle-awake (A.Once o p) b e h = no_way e
idle-awake (A.Parker p) b e h = no_way e

-- each record: asleep only at a futex_wait
Waiting : Thread → Type 0
Waiting th = th.asleep ≡ true → waits_of th.at ≡ true

pub each-waits : (w : World) → sound_world w ≡ true → Shaped w → (u : ℕ) → (thread_at w u).asleep ≡ true → waits_of (thread_at w u).at ≡ true
unfolding Waiting
each-waits w e s =
    everywhere w Waiting s (λ q. no_way q) (λ u h. (sleepers-read w (sound-clauses w e).stand).waits u h)

waits_kept :
    (w : World) (a : Fields) → sound_world w ≡ true → Shaped w → (u : ℕ) →
    (thread_at (accepted_of w a).world u).asleep ≡ true → waits_of (thread_at (accepted_of w a).world u).at ≡ true
unfolding Waiting
waits_kept w a e s =
    let at : At = (thread_at w a.thread).at in
    accepted-each Waiting (λ th _ q. no_way q) w a (each-waits w e s) (λ _ _ q. no_way q)
    (λ b _ q. asleep-there at (decide_of at (eqb a.choice 1) (word_at w (operand_of a.thread at)) b)
    (sleeping at (eqb a.choice 1) (word_at w (operand_of a.thread at)) b q).stays
    (sleeping at (eqb a.choice 1) (word_at w (operand_of a.thread at)) b q).waits)
    (λ q. no_way q)
  where
    asleep-there : (at : At) (p : Plan) → p.next.at ≡ at → waits_of at ≡ true → waits_of p.next.at ≡ true
    asleep-there at p e q = rw e q

-- each act
set-stand :
    (w : World) (choice object value : ℕ) → Stand w.threads w.sleepers →
    Stand (set_world w choice object value).threads (set_world w choice object value).sleepers
unfolding set_world
set-stand w choice object value d =
    either Q (eqb choice 0) _ _ d (either Q (eqb choice 1) _ _ d (either Q (eqb choice 2) _ _ d d))
  where
    Q : World → Type 0
    Q x = Stand x.threads x.sleepers

step-stand :
    (w : World) (t : ℕ) (f : Bool) → Shaped w → w.sleepers.count ≤ THREADS → t < THREADS → (thread_at w t).asleep ≡ false →
    Stand w.threads w.sleepers → Stand (step_of w t f).world.threads (step_of w t f).world.sleepers
unfolding step_of apply_plan
step-stand w t f s c b h d =
    let at : At = (thread_at w t).at in
    let k : ℕ = operand_of t at in
    let place : ℕ = place_of (on_word w.threads k) w.sleepers in
    let p : Plan = decide_of at f (word_at w k) (ltb place THREADS) in
    either (λ (x : Acted). Stand x.world.threads x.world.sleepers) (ltb k WORDS) _ _
    (own-stand (wakes_of w k place p.wake).world t k p (wakes-shaped w k place p.wake s c) b (wakes-awake w k place p.wake t h)
    (wakes-stand w k place p.wake s d))
    d

recorded-stand :
    (w : World) (t : ℕ) (th : Thread) (event : Event) → (thread_at w t).asleep ≡ false → th.asleep ≡ false → Stand w.threads w.sleepers →
    Stand (recorded w t th w.sleepers event).world.threads (recorded w t th w.sleepers event).world.sleepers
unfolding recorded
recorded-stand w t th event h k d = stand-set w.threads w.sleepers t th h k d

begin-stand :
    (w : World) (t : ℕ) (at : At) → (thread_at w t).asleep ≡ false → Stand w.threads w.sleepers →
    Stand (begin_of w t at).world.threads (begin_of w t at).world.sleepers
unfolding begin_of
begin-stand w t at h d = recorded-stand w t (awake at) E.Begun h refl d

close-stand :
    (w : World) (t : ℕ) (ending : Ending) → (thread_at w t).asleep ≡ false → Stand w.threads w.sleepers →
    Stand (close_of w t ending).world.threads (close_of w t ending).world.sleepers
unfolding close_of
close-stand w t ending h d = recorded-stand w t (awake (closed_at ending (thread_at w t).at)) E.Closed h refl d

wake-stand :
    (w : World) (t : ℕ) → Shaped w → t < THREADS → (thread_at w t).asleep ≡ true → Stand w.threads w.sleepers →
    Stand (wake_of w t).world.threads (wake_of w t).world.sleepers
unfolding wake_of recorded
wake-stand w t s b h d = stand-woken w.threads w.sleepers t s.places b h d

stand-kept :
    (w : World) (a : Fields) → sound_world w ≡ true → Shaped w → fields_refusal a ≡ 0 → world_refusal w a ≡ 0 →
    Stand w.threads w.sleepers → Stand (accepted_of w a).world.threads (accepted_of w a).world.sleepers
unfolding accepted_of set_of world_refusal
stand-kept w a e s r q d =
    decided Q (eqb a.act SET) _ _ (λ _. set-stand w a.choice a.object a.value d)
    (λ n. decided Q (eqb a.act BEGIN) _ _
    (λ b. let z : begin_refusal w a ≡ 0 = rw (n, b) at q in
    begin-stand w a.thread (start_of a)
    (idle-awake (thread_at w a.thread).at (thread_at w a.thread).asleep (begins-idle w a z) (each-waits w e s a.thread)) d)
    (λ nb. decided Q (eqb a.act STEP) _ _
    (λ b. let z : step_refusal (thread_at w a.thread) a.choice ≡ 0 = rw (n, nb, b) at q in
    step-stand w a.thread (eqb a.choice 1) s (sound-count w e) (thread-named a r n) (steps-awake (thread_at w a.thread) a.choice z) d)
    (λ ns. decided Q (eqb a.act WAKE) _ _
    (λ b. let z : wake_refusal (thread_at w a.thread) ≡ 0 = rw (n, nb, ns, b) at q in
    wake-stand w a.thread s (thread-named a r n) (wakes-asleep (thread_at w a.thread) z) d)
    (λ nw. let z : close_refusal (thread_at w a.thread) ≡ 0 = rw (n, nb, ns, nw) at q in
    close-stand w a.thread (ending_of a.choice) (closes-awake (thread_at w a.thread) z) d))))
  where
    Q : Acted → Type 0
    Q x = Stand x.world.threads x.world.sleepers

-- 3.
pub sleepers-kept :
    (w : World) (a : Fields) → sound_world w ≡ true → Shaped w → fields_refusal a ≡ 0 → world_refusal w a ≡ 0 → a.value < 2 ^ 32 →
    sleepers_stand (accepted_of w a).world ≡ true
sleepers-kept w a e s r q h =
    sleepers-make (accepted_of w a).world
    (stand-sleepers (accepted_of w a).world (shaped-kept w a e s h)
    (stand-kept w a e s r q (sleepers-stand w s (sleepers-read w (sound-clauses w e).stand))) (waits_kept w a e s))
