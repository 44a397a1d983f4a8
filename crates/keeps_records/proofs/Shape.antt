-- Every accepted act keeps the sizes of a world's lists and words. Assumes nothing.
use mathlib.Core.Path.{◌≡◌, refl, ap, ◌∙◌}
use mathlib.Core.Bool.{Bool, true, false, cond, ◌&&◌}
use mathlib.Core.List.{List, [], ◌∷◌}
use Prim.Native.Nat.{ℕ, zero, suc, ◌+◌, ◌^◌, ◌≤◌, ◌<◌}
use native.Mathlib.Omega.{arith}
use borrow.Author.Tests.{ltb-true}
use lib.Dec.{eqb, ltb}
use lib.ListN.{length, get_or, set, length-set}
use Rattle.words.proofs.Cond.{either}
use Rattle.words.specs.Once.{COMPLETE}
use Rattle.words.specs.declared.Kind.TheVariants as K
use Rattle.words.specs.declared.Wake.{Wake}
use Rattle.words.specs.declared.Wake.TheVariants as W
use Rattle.queue.specs.declared.Row.{Row}
use Rattle.queue.specs.Row.{Taken, Pushed, THREADS, place_of, push_of, taken_out, take_out_of, refused}
use Rattle.queue.proofs.Laws.{push-length, take-out-length, without-length}
use Rattle.queue.proofs.Tidy.{tidy-count}
use Rattle.calls.specs.declared.At.{At}
use Rattle.calls.specs.declared.Thread.{Thread}
use Rattle.calls.specs.declared.Plan.{Plan}
use Rattle.calls.specs.declared.Event.{Event}
use Rattle.calls.specs.Objects.{WORDS, word_of}
use Rattle.calls.specs.Plans.{decide_of}
use Rattle.calls.specs.Positions.{operand_of}
use Rattle.world.specs.declared.World.{World}
use Rattle.world.specs.World.{thread_at, word_at, on_word}
use Rattle.step.specs.declared.Acted.{Acted}
use Rattle.step.specs.Step.{Woken, roused, rouse_all, wakes_of, own_plan, apply_plan, step_of}
use Rattle.step.specs.Acts.{recorded, begin_of, wake_of, close_of}
use Rattle.acts.specs.declared.Fields.{Fields}
use Rattle.acts.specs.Refusals.{SET, BEGIN, STEP, WAKE}
use Rattle.acts.specs.Acts.{with_word, with_forgotten, set_world, set_of, accepted_of}
use Rattle.sound.specs.Sound.{sound_world}
use Rattle.sound.proofs.Readings.{sound-clauses, sleepers-read}
use Rattle.kept.specs.Shape.{Shaped}
use Rattle.kept.proofs.Calls.{word_wide}

-- what holds of each element and of a new one holds of each with the new one stored
pub set-each :
    {A : Type 0} (P : A → Type 0) (d : A) (l : List A) (t : ℕ) (x : A) → ((u : ℕ) → P (get_or l u d)) → P x → (u : ℕ) → P (get_or (set l t x) u d)
set-each P d [] t x h p u = h u
set-each P d (y ∷ ys) zero x h p zero = p
set-each P d (y ∷ ys) zero x h p (suc u) = h (suc u)
set-each P d (y ∷ ys) (suc t) x h p zero = h zero
set-each P d (y ∷ ys) (suc t) x h p (suc u) = set-each P d ys t x (λ v. h (suc v)) p u

set-wide : (l : List ℕ) (k v : ℕ) → ((j : ℕ) → get_or l j 0 < 2 ^ 32) → v < 2 ^ 32 → (j : ℕ) → get_or (set l k v) j 0 < 2 ^ 32
set-wide l k v h b = set-each (λ (n : ℕ). n < 2 ^ 32) 0 l k v h b

-- set
word-shaped : (w : World) (k v : ℕ) → Shaped w → v < 2 ^ 32 → Shaped (with_word w k v)
word-shaped w k v s h = record {
  words = length-set w.words k v ∙ s.words;
  locked = s.locked;
  written = s.written;
  reads = s.reads;
  forgotten = s.forgotten;
  threads = s.threads;
  places = s.places;
  wide = set-wide w.words k v s.wide h;
}

forgotten-shaped : (w : World) (l v : ℕ) → Shaped w → v < 2 ^ 32 → Shaped (with_forgotten w l v)
forgotten-shaped w l v s h = record {
  words = length-set w.words (word_of K.RwLock l) v ∙ s.words;
  locked = s.locked;
  written = s.written;
  reads = s.reads;
  forgotten = length-set w.forgotten l v ∙ s.forgotten;
  threads = s.threads;
  places = s.places;
  wide = set-wide w.words (word_of K.RwLock l) v s.wide h;
}

pub set-shaped : (w : World) (choice object value : ℕ) → Shaped w → value < 2 ^ 32 → Shaped (set_world w choice object value)
unfolding set_world
set-shaped w choice object value s h =
    either Shaped (eqb choice 0) _ _ (forgotten-shaped w object value s h)
    (either Shaped (eqb choice 1) _ _ (word-shaped w (word_of K.WriterNotify object) value s h)
    (either Shaped (eqb choice 2) _ _ (word-shaped w (word_of K.Condvar object) value s h)
    (word-shaped w (word_of K.Once object) COMPLETE s (omega arith))))

-- a record stored, with a row as long
pub recorded-shaped :
    (w : World) (t : ℕ) (th : Thread) (row : Row) (event : Event) → Shaped w → length row.places ≡ THREADS →
    Shaped (recorded w t th row event).world
unfolding recorded
recorded-shaped w t th row event s h = record {
  words = s.words;
  locked = s.locked;
  written = s.written;
  reads = s.reads;
  forgotten = s.forgotten;
  threads = length-set w.threads t th ∙ s.threads;
  places = h;
  wide = s.wide;
}

-- rows
pub taken-length : (row : Row) (p : ℕ) → length row.places ≡ THREADS → length (take_out_of row p).row.places ≡ THREADS
unfolding take_out_of
taken-length row p h = by (ltb p row.count) (ltb p THREADS) refl
  where
    by :
        (c d : Bool) → ltb p THREADS ≡ d →
        length (cond {A = Taken} (c && d) (record { row = taken_out row p; thread = get_or row.places p 0; ok = true }) (refused row)).row.places ≡ THREADS
    by true true e = let k : p < THREADS = ltb-true p THREADS e in take-out-length row p (omega arith) ∙ h
    by true false e = h
    by false d e = h

pub pushed-length : (row : Row) (t : ℕ) → length row.places ≡ THREADS → length (push_of row t).row.places ≡ THREADS
unfolding push_of
pushed-length row t h =
    either (λ (x : Pushed). length x.row.places ≡ THREADS) (ltb row.count THREADS) _ _ (push-length row t ∙ h) h

rouse-length : (k t : ℕ) (l : List Thread) → length (rouse_all k t l) ≡ length l
unfolding rouse_all
rouse-length k t [] = refl
rouse-length k t (th ∷ ths) = ap suc (rouse-length k (t + 1) ths)

-- the wakes of a step
pub wakes-shaped :
    (w : World) (k place : ℕ) (wake : Wake) → Shaped w → w.sleepers.count ≤ THREADS → Shaped (wakes_of w k place wake).world
unfolding wakes_of
wakes-shaped w k place W.None s h = s
wakes-shaped w k place W.One s h =
    let taken : Taken = take_out_of w.sleepers place in
    either (λ (x : Woken). Shaped x.world) (take_out_of w.sleepers place).ok _ _
    (record {
      words = s.words;
      locked = s.locked;
      written = s.written;
      reads = s.reads;
      forgotten = s.forgotten;
      threads = length-set w.threads taken.thread (roused (thread_at w taken.thread)) ∙ s.threads;
      places = taken-length w.sleepers place s.places;
      wide = s.wide;
    })
    s
wakes-shaped w k place W.All s h = record {
  words = s.words;
  locked = s.locked;
  written = s.written;
  reads = s.reads;
  forgotten = s.forgotten;
  threads = rouse-length k 0 w.threads ∙ s.threads;
  places = without-length (on_word w.threads k) w.sleepers h;
  wide = s.wide;
}

-- the stepping thread's own part
pub own-shaped : (v : World) (t k : ℕ) (p : Plan) → Shaped v → p.word < 2 ^ 32 → Shaped (own_plan v t k p)
unfolding own_plan
own-shaped v t k p s h = record {
  words = length-set v.words k p.word ∙ s.words;
  locked = length-set v.locked _ _ ∙ s.locked;
  written = length-set v.written _ _ ∙ s.written;
  reads = length-set v.reads _ _ ∙ s.reads;
  forgotten = s.forgotten;
  threads = length-set v.threads t p.next ∙ s.threads;
  places = either (λ (x : Row). length x.places ≡ THREADS) p.next.asleep _ _ (pushed-length v.sleepers t s.places) s.places;
  wide = set-wide v.words k p.word s.wide h;
}

pub step-shaped : (w : World) (t : ℕ) (f : Bool) → Shaped w → w.sleepers.count ≤ THREADS → Shaped (step_of w t f).world
unfolding step_of apply_plan
step-shaped w t f s h =
    let at : At = (thread_at w t).at in
    let k : ℕ = operand_of t at in
    let place : ℕ = place_of (on_word w.threads k) w.sleepers in
    let p : Plan = decide_of at f (word_at w k) (ltb place THREADS) in
    either (λ (x : Acted). Shaped x.world) (ltb k WORDS) _ _
    (own-shaped (wakes_of w k place p.wake).world t k p (wakes-shaped w k place p.wake s h)
    (word_wide at f (word_at w k) (ltb place THREADS) (s.wide k)))
    s

-- a sound world has no more sleepers than places
pub sound-count : (w : World) → sound_world w ≡ true → w.sleepers.count ≤ THREADS
sound-count w e = tidy-count w.sleepers (sleepers-read w (sound-clauses w e).stand).tidy

-- every accepted act, on a value of 32 bits
pub shaped-kept : (w : World) (a : Fields) → sound_world w ≡ true → Shaped w → a.value < 2 ^ 32 → Shaped (accepted_of w a).world
unfolding accepted_of set_of begin_of wake_of close_of
shaped-kept w a e s h =
    either P (eqb a.act SET) _ _ (set-shaped w a.choice a.object a.value s h)
    (either P (eqb a.act BEGIN) _ _ (recorded-shaped w a.thread _ w.sleepers _ s s.places)
    (either P (eqb a.act STEP) _ _ (step-shaped w a.thread (eqb a.choice 1) s (sound-count w e))
    (either P (eqb a.act WAKE) _ _ (recorded-shaped w a.thread _ _ _ s (taken-length w.sleepers _ s.places))
    (recorded-shaped w a.thread _ w.sleepers _ s s.places))))
  where
    P : Acted → Type 0
    P x = Shaped x.world
