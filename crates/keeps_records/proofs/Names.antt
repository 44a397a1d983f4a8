-- Every accepted act keeps the first two clauses of soundness: each position names objects that exist, and the values that it carries have
-- passed their tests. Assumes nothing.
use mathlib.Core.Path.{◌≡◌, refl, sym, ◌∙◌, subst}
use mathlib.Core.Bool.{Bool, true, false, cond, not, ◌&&◌}
use Prim.Native.Nat.{ℕ, ◌^◌, ◌%◌, ◌≤◌, ◌<◌}
use native.Mathlib.Omega.{arith}
use borrow.Author.Tests.{eqb-true, ltb-true, ltb-false}
use lib.Dec.{eqb, ltb}
use Rattle.words.specs.declared.Kind.{Kind}
use Rattle.words.specs.declared.Kind.TheVariants as K
use Rattle.once.specs.declared.Ending.{Ending}
use Rattle.calls.specs.declared.At.{At}
use Rattle.calls.specs.declared.At.TheVariants as A
use Rattle.calls.specs.declared.Thread.{Thread}
use Rattle.calls.specs.Objects.{MUTEXES, CONDVARS, WORDS, size_of, word_of}
use Rattle.calls.specs.Positions.{exists, condvar_exists, parker_exists, passed_of, entry_of, operand_of}
use Rattle.calls.proofs.Objects.{word_none}
use Rattle.condvar.specs.Condvar as Cv
use Rattle.thread_parking.specs.ThreadParking as Pk
use Rattle.world.specs.declared.World.{World}
use Rattle.world.specs.World.{thread_at, word_at}
use Rattle.step.specs.Acts.{closed_at}
use Rattle.sound.specs.Sound.{sound_world, names_exist, values_passed, word_for}
use Rattle.sound.proofs.Readings.{sound-clauses, name-exists, names-exist-of, value-passed, values-passed-of, range-read}
use Rattle.sound.specs.Clauses.{InRange}
use Rattle.acts.specs.declared.Fields.{Fields}
use Rattle.acts.specs.Refusals.{SET, BEGIN, choices_of, thread_exists, unnamed_zero, object_exists, call_exists, wait_exists, fields_refusal, start_of}
use Rattle.acts.specs.Acts.{ending_of, accepted_of}
use Rattle.kept.specs.Shape.{Shaped}
use Rattle.kept.proofs.Tests.{decided, and_right}
use Rattle.kept.specs.Laws.{kind_of, object_of, largest}
use Rattle.kept.proofs.Places.{operand-is}
use Rattle.kept.proofs.Calls.{exists-kept, passed-within}
use Rattle.kept.proofs.Waits.{exists-after-wait, passed-after-wait, exists-closed, passed-closed}
use Rattle.kept.proofs.Entries.{passed_entry}
use Rattle.keeps_records.proofs.Records.{everywhere, accepted-each}

-- what the fields of an act that is not refused for them have
pub record Named (a : Fields) : Type 0 where
  pub choice : ltb a.choice (choices_of a.act) ≡ true
  pub thread : thread_exists a ≡ true
  pub unnamed : unnamed_zero a ≡ true
  pub object : object_exists a ≡ true

pub fields-named : (a : Fields) → fields_refusal a ≡ 0 → Named a
unfolding fields_refusal
fields-named a e =
    let p = by (ltb a.choice (choices_of a.act)) (thread_exists a) (unnamed_zero a) (object_exists a) e in
    record { choice = p.0; thread = p.1.0; unnamed = p.1.1.0; object = p.1.1.1 }
  where
    by :
        (p q r s : Bool) → ◌≡◌ {A = ℕ} (cond (not p) 1 (cond (not q) 2 (cond (not r) 1 (cond (not s) 3 0)))) 0 →
        (p ≡ true) × ((q ≡ true) × ((r ≡ true) × (s ≡ true)))
    by true true true true e = (refl, (refl, (refl, refl)))
    by true true true false e = absurd (omega arith)
    by true true false s e = absurd (omega arith)
    by true false r s e = absurd (omega arith)
    by false q r s e = absurd (omega arith)

-- a call whose objects exist starts at a position whose objects do
entry-exists : (call object value : ℕ) → call_exists call object value ≡ true → exists (entry_of call object (value % 256)) ≡ true
unfolding call_exists wait_exists entry_of exists condvar_exists parker_exists Cv.entry_of Pk.entry_of
entry-exists call object value h =
    decided P (eqb call 0) _ _ (λ e. at 0 e)
    (λ _. decided P (eqb call 1) _ _ (λ e. at 1 e)
    (λ _. decided P (eqb call 2) _ _ (λ e. at 2 e)
    (λ _. decided P (eqb call 3) _ _ (λ e. at 3 e)
    (λ _. decided P (eqb call 4) _ _ (λ e. at 4 e)
    (λ _. decided P (eqb call 5) _ _ (λ e. at 5 e)
    (λ _. decided P (eqb call 6) _ _ (λ e. at 6 e)
    (λ _. decided P (eqb call 7) _ _ (λ e. at 7 e)
    (λ _. decided P (eqb call 8) _ _ (λ e. at 8 e)
    (λ _. decided P (eqb call 9) _ _ (λ e. at 9 e)
    (λ _. decided P (eqb call 10) _ _ (λ e. both (at 10 e))
    (λ _. decided P (eqb call 11) _ _ (λ e. alone (at 11 e))
    (λ _. decided P (eqb call 12) _ _ (λ e. alone (at 12 e))
    (λ _. decided P (eqb call 13) _ _ (λ e. at 13 e)
    (λ _. decided P (eqb call 14) _ _ (λ e. at 14 e)
    (λ _. decided P (eqb call 15) _ _ (λ e. at 15 e)
    (λ _. decided P (eqb call 16) _ _ (λ e. at 16 e)
    (λ _. decided P (eqb call 17) _ _ (λ e. at 17 e)
    (λ _. decided P (eqb call 18) _ _ (λ e. refl)
    (λ _. decided P (eqb call 19) _ _ (λ e. at 19 e)
    (λ _. refl))))))))))))))))))))
  where
    P : At → Type 0
    P p = exists p ≡ true

    at : (n : ℕ) → eqb call n ≡ true → call_exists n object value ≡ true
    at n e = subst (λ (c : ℕ). call_exists c object value ≡ true) (eqb-true call n e) h

    alone : ltb object CONDVARS ≡ true → (ltb object CONDVARS && true) ≡ true
    alone q = rw q

    both : (ltb object CONDVARS && ltb value MUTEXES) ≡ true → (ltb object CONDVARS && ltb (value % 256) MUTEXES) ≡ true
    both q =
        let k : value < MUTEXES = ltb-true value MUTEXES (and_right (ltb object CONDVARS) (ltb value MUTEXES) q) in
        let z : value % 256 ≡ value = omega arith in
        rw z q

-- .. which is so of a begin
pub start-exists : (a : Fields) → fields_refusal a ≡ 0 → eqb a.act SET ≡ false → eqb a.act BEGIN ≡ true → exists (start_of a) ≡ true
unfolding object_exists
start-exists a e s b =
    let q : object_exists a ≡ true = (fields-named a e).object in
    let z : object_exists a ≡ call_exists a.choice a.object a.value = rw (s, b) in
    entry-exists a.choice a.object a.value (sym z ∙ q)

-- the end of a closure
closed-exists : (ending : Ending) (at : At) → exists at ≡ true → exists (closed_at ending at) ≡ true
closed-exists ending A.Idle e = e
closed-exists ending (A.Mutex m p) e = e
closed-exists ending (A.RwLock l p) e = e
closed-exists ending (A.Condvar c p) e = e
closed-exists ending (A.Once o p) e = exists-closed ending o p e
closed-exists ending (A.Parker p) e = e

closed-passed : (ending : Ending) (at : At) → passed_of at ≡ true → passed_of (closed_at ending at) ≡ true
closed-passed ending A.Idle e = e
closed-passed ending (A.Mutex m p) e = e
closed-passed ending (A.RwLock l p) e = e
closed-passed ending (A.Condvar c p) e = e
closed-passed ending (A.Once o p) e = passed-closed ending o p e
closed-passed ending (A.Parker p) e = e

-- 1.
pub each-exists : (w : World) → sound_world w ≡ true → Shaped w → (u : ℕ) → exists (thread_at w u).at ≡ true
unfolding exists
each-exists w e s = everywhere w (λ (th : Thread). exists th.at ≡ true) s refl (λ u h. name-exists w u (sound-clauses w e).names h)

pub names-kept : (w : World) (a : Fields) → sound_world w ≡ true → Shaped w → fields_refusal a ≡ 0 → names_exist (accepted_of w a).world ≡ true
names-kept w a e s r =
    let each : (u : ℕ) → exists (thread_at w u).at ≡ true = each-exists w e s in
    let at : At = (thread_at w a.thread).at in
    names-exist-of (accepted_of w a).world
    (λ u _. accepted-each (λ (th : Thread). exists th.at ≡ true) (λ th q. exists-after-wait th.at q) w a each
    (λ n b. start-exists a r n b) (λ b _. exists-kept at (eqb a.choice 1) (word_at w (operand_of a.thread at)) b (each a.thread))
    (closed-exists (ending_of a.choice) at (each a.thread)) u)

-- a word is no larger than those of its kind get
kind-bound :
    (w : World) → Shaped w → InRange w → (kind : Kind) (object : ℕ) → object < size_of kind → word_at w (word_of kind object) ≤ largest kind
unfolding largest word_for
kind-bound w s i K.Nothing o h = let z : word_at w (word_of K.Nothing o) < 2 ^ 32 = s.wide (word_of K.Nothing o) in omega arith
kind-bound w s i K.Mutex o h = i.mutex o h
kind-bound w s i K.RwLock o h = let z : word_at w (word_of K.RwLock o) < 2 ^ 32 = s.wide (word_of K.RwLock o) in omega arith
kind-bound w s i K.WriterNotify o h = let z : word_at w (word_of K.WriterNotify o) < 2 ^ 32 = s.wide (word_of K.WriterNotify o) in omega arith
kind-bound w s i K.Condvar o h = let z : word_at w (word_of K.Condvar o) < 2 ^ 32 = s.wide (word_of K.Condvar o) in omega arith
kind-bound w s i K.Once o h = i.once o h
kind-bound w s i K.Parker o h = let z : word_at w (word_of K.Parker o) < 2 ^ 32 = s.wide (word_of K.Parker o) in omega arith

-- a word within the row is that of an object
pub object-within : (kind : Kind) (object : ℕ) → word_of kind object < WORDS → object < size_of kind
object-within kind object h = by (ltb object (size_of kind)) refl
  where
    by : (c : Bool) → ltb object (size_of kind) ≡ c → object < size_of kind
    by true q = ltb-true object (size_of kind) q
    by false q =
        let z : word_of kind object ≡ WORDS = word_none kind object (ltb-false object (size_of kind) q) in
        absurd (omega arith)

pub word_bound :
    (w : World) → sound_world w ≡ true → Shaped w → (t : ℕ) (at : At) → operand_of t at < WORDS → word_at w (operand_of t at) ≤ largest (kind_of at)
word_bound w e s t at h =
    let q : operand_of t at ≡ word_of (kind_of at) (object_of t at) = operand-is t at in
    let k : word_of (kind_of at) (object_of t at) < WORDS = rw q at h in
    rw q (kind-bound w s (range-read w (sound-clauses w e).range) (kind_of at) (object_of t at) (object-within (kind_of at) (object_of t at) k))

-- 2.
pub each-passed : (w : World) → sound_world w ≡ true → Shaped w → (u : ℕ) → passed_of (thread_at w u).at ≡ true
unfolding passed_of
each-passed w e s = everywhere w (λ (th : Thread). passed_of th.at ≡ true) s refl (λ u h. value-passed w u (sound-clauses w e).values h)

pub values-kept : (w : World) (a : Fields) → sound_world w ≡ true → Shaped w → values_passed (accepted_of w a).world ≡ true
values-kept w a e s =
    let each : (u : ℕ) → passed_of (thread_at w u).at ≡ true = each-passed w e s in
    let at : At = (thread_at w a.thread).at in
    values-passed-of (accepted_of w a).world
    (λ u _. accepted-each (λ (th : Thread). passed_of th.at ≡ true) (λ th q. passed-after-wait th.at q) w a each
    (λ _ _. passed_entry a.choice a.object (a.value % 256))
    (λ b h. passed-within at (eqb a.choice 1) (word_at w (operand_of a.thread at)) b (each a.thread) (word_bound w e s a.thread at h))
    (closed-passed (ending_of a.choice) at (each a.thread)) u)
