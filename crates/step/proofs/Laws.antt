-- The turns of the loops over all threads, the sleepers counted, and the stores of a plan. Assumes nothing.
use mathlib.Core.Path.{◌≡◌, refl, sym, ap, ◌∙◌}
use mathlib.Core.Bool.{Bool, true, false, cond, ◌&&◌, true≢false, false≢true}
use mathlib.Core.List.{List, [], ◌∷◌, ◌++◌, append-nil}
use Prim.Native.Nat.{ℕ, zero, suc, min, ◌+◌, ◌-◌, ◌≤◌, ◌<◌}
use native.Mathlib.Numerals.{add-one}
use native.Mathlib.Omega.{arith}
use lib.Dec.{eqb, ltb}
use lib.ListN.{length, get_or, take, drop, set, replicate, length-take, length-set, length-replicate, drop_of_length-le, get_or-eq_default}
use lib.Seq.{take-suc-set, drop-set-lt, take_all, drop-cons, append_snoc, get_or-set_same, get_or-set_other}
use borrow.Author.Tests.{eqb-true, eqb-false, ltb-true, ltb-false}
use Rattle.queue.specs.declared.Row.{Row}
use Rattle.queue.specs.Row.{Taken, THREADS, is_wanted, place_of, taken_out, refused as no_one, take_out_of, thread_of, sleepers, passing, failing, queue_of, row_of, without_of}
use Rattle.queue.proofs.Laws.{place-of-or}
use Rattle.step.specs.Acts.{only_of}
use Rattle.words.specs.Found.{found}
use Rattle.std.proofs.Common.{None, Some}
use Rattle.std.specs.Prelude.{Option}
use Rattle.std.specs.Option.{is_some, unwrap_or}
use Rattle.queue.proofs.Part.{passing-split}
use Rattle.calls.specs.declared.Thread.{Thread}
use Rattle.calls.specs.declared.Plan.{Plan}
use Rattle.calls.specs.Objects.{WORDS}
use Rattle.calls.specs.Plans.{idle, decide_of}
use Rattle.calls.specs.Positions.{operand_of}
use Rattle.world.specs.declared.World.{World}
use Rattle.world.specs.World.{thread_at, word_at, sleeps_on, on_word, with_sleepers}
use Rattle.step.specs.declared.Acted.{Acted}
use Rattle.step.specs.Step.{Woken, roused, rouse_all, woken_one, apply_plan, refused, step_of}

-- one more record roused, at place t
pub rouse-turn :
    (k t : ℕ) (x : Thread) (l : List Thread) → t < length l → x ≡ cond (sleeps_on k t (get_or l t idle)) (roused (get_or l t idle)) (get_or l t idle) →
    take (t + 1) (set l t x) ++ rouse_all k (t + 1) (drop (t + 1) (set l t x)) ≡ take t l ++ rouse_all k t (drop t l)
unfolding rouse_all
rouse-turn k t x l h e =
    let q : t < suc t = omega arith in
    let e1 : take (suc t) (set l t x) ≡ take t l ++ (x ∷ []) = take-suc-set l t x h in
    let e2 : drop (suc t) (set l t x) ≡ drop (suc t) l = drop-set-lt (suc t) l t x q in
    let e3 : drop t l ≡ get_or l t idle ∷ drop (suc t) l = drop-cons l t idle h in
    rw (e3, ← e, add-one t, e1, e2, append_snoc (take t l) x (rouse_all k (suc t) (drop (suc t) l)))

pub rouse-end : (k t : ℕ) (l : List Thread) → length l ≤ t → take t l ++ rouse_all k t (drop t l) ≡ l
unfolding rouse_all
rouse-end k t l h = rw (take_all t l h, drop_of_length-le l h, append-nil)

-- those who leave the row are those who pass the test
pub left_by :
    (f : ℕ → Bool) (row : Row) → length row.places ≡ THREADS →
    min row.count THREADS - (without_of f row).count ≡ length (queue_of f row)
unfolding queue_of without_of row_of
left_by f row e =
    let s : length (sleepers row) ≡ min row.count THREADS = length-take row.count row.places ∙ ap (min row.count) e in
    let p : length (sleepers row) ≡ length (passing f (sleepers row)) + length (failing f (sleepers row)) = passing-split f (sleepers row) in
    omega arith

-- a number found below a bound, by cases of whether it is below
module _ (n k : ℕ) where
  pub found-is_some : is_some (found n k) ≡ ltb k n
  found-is_some = by (ltb k n)
    where
      by : (c : Bool) → is_some (cond c (Some k) None) ≡ c
      by true = refl
      by false = refl

  pub found-some : (p : ℕ) → found n k ≡ Some p → (ltb k n ≡ true) × (p ≡ k)
  found-some p = by (ltb k n)
    where
      by : (c : Bool) → cond c (Some k) None ≡ Some p → (c ≡ true) × (p ≡ k)
      by true e = (refl, sym (ap (λ (o : Option ℕ). unwrap_or o 0) e))
      by false e = absurd (false≢true (ap is_some e))

  pub found-none : found n k ≡ None → ltb k n ≡ false
  found-none = by (ltb k n)
    where
      by : (c : Bool) → cond c (Some k) None ≡ None → c ≡ false
      by true e = absurd (true≢false (ap is_some e))
      by false e = refl

-- no flag is set where none is
replicate-out : (n u : ℕ) → get_or (replicate n false) u false ≡ false
replicate-out zero u = refl
replicate-out (suc n) zero = refl
replicate-out (suc n) (suc u) = replicate-out n u

-- thread t alone, as a test and as a flag for each thread
pub only_is : (t u : ℕ) → (eqb u t && ltb t THREADS) ≡ is_wanted (only_of t) u
only_is t u = by (eqb u t) (ltb t THREADS) refl refl
  where
    none : (u : ℕ) → get_or (replicate THREADS false) u false ≡ false
    none u = replicate-out THREADS u

    by : (a b : Bool) → eqb u t ≡ a → ltb t THREADS ≡ b → (a && b) ≡ get_or (set (replicate THREADS false) t true) u false
    by true true p q =
        let h : t < length (replicate THREADS false) = rw (length-replicate THREADS false) (ltb-true t THREADS q) in
        rw (eqb-true u t p) (sym (get_or-set_same (replicate THREADS false) t true false h))
    by true false p q =
        let h : length (replicate THREADS false) ≤ u = rw (length-replicate THREADS false, eqb-true u t p) (ltb-false t THREADS q) in
        sym (get_or-eq_default (set (replicate THREADS false) t true) false (rw (length-set (replicate THREADS false) t true) h))
    by false b p q =
        sym (get_or-set_other (replicate THREADS false) t u true false (eqb-false u t p) ∙ none u)

-- what is taken out of a row, where a sleeper stands at the place or does not
abbrev taken_if : Row → ℕ → Bool → Taken
taken_if row place c = cond c (record { row = taken_out row place; thread = get_or row.places place 0; ok = true }) (no_one row)

-- nobody is taken out of the row, and nobody wakes
pub nobody-woken :
    (w : World) (place : ℕ) (taken : Taken) → taken ≡ take_out_of w.sleepers place → taken.ok ≡ false →
    ◌≡◌ {A = Woken} (record { world = w; count = 0 }) (woken_one w (take_out_of w.sleepers place))
nobody-woken w place taken et none = rw (← et, none)

-- .. with the row that this leaves
pub nobody-leaves :
    (w : World) (place : ℕ) (row : Row) → row ≡ (take_out_of w.sleepers place).row → thread_of (take_out_of w.sleepers place) ≡ None →
    with_sleepers w w.threads row ≡ (woken_one w (take_out_of w.sleepers place)).world
unfolding take_out_of
nobody-leaves w place row = by (ltb place w.sleepers.count && ltb place THREADS)
  where
    by :
        (c : Bool) → row ≡ (taken_if w.sleepers place c).row → thread_of (taken_if w.sleepers place c) ≡ None →
        with_sleepers w w.threads row ≡ (woken_one w (taken_if w.sleepers place c)).world
    by true e n = absurd (true≢false (ap is_some n))
    by false e n = rw e

-- a step, from what the code found on the way
pub stepped :
    (w : World) (t : ℕ) (fails : Bool) (th : Thread) (k : ℕ) (place : Option ℕ) (word : ℕ) (anyone : Bool) (p : Plan) (r : Acted) →
    length w.sleepers.places ≤ THREADS → th ≡ thread_at w t → found WORDS (operand_of t th.at) ≡ Some k →
    place ≡ found THREADS (place_of (on_word w.threads k) w.sleepers) → word ≡ word_at w k → anyone ≡ is_some place →
    p ≡ decide_of th.at fails word anyone → r ≡ apply_plan w t k (unwrap_or place THREADS) p → r ≡ step_of w t fails
unfolding step_of
stepped w t fails th k place word anyone p r long eth ek epl ew ea ep er =
    let n : ℕ = place_of (on_word w.threads k) w.sleepers in
    let f : (ltb (operand_of t th.at) WORDS ≡ true) × (k ≡ operand_of t th.at) = found-some WORDS (operand_of t th.at) k ek in
    let h : ltb k WORDS ≡ true = rw f.1 f.0 in
    let m : unwrap_or place THREADS ≡ n = rw epl (place-of-or (on_word w.threads k) w.sleepers long) in
    let a : anyone ≡ ltb n THREADS = ea ∙ ap is_some epl ∙ found-is_some THREADS n in
    er ∙ rw (← eth, ← f.1, h, ← m, ← ew, ep, a, m)

pub not-stepped :
    (w : World) (t : ℕ) (fails : Bool) (th : Thread) (k : ℕ) →
    th ≡ thread_at w t → k ≡ operand_of t th.at → ltb k WORDS ≡ false → refused 19 w ≡ step_of w t fails
unfolding step_of
not-stepped w t fails th k eth ek h = rw (← eth, ← ek, h)
