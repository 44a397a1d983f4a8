-- The row of sleepers against the threads' records: each thread stands in it once where it sleeps and else not at all. Waking one, waking all,
-- falling asleep and storing the record of a thread that is awake keep it so. Assumes nothing.
use mathlib.Core.Path.{◌≡◌, refl, sym, ap, ◌∙◌, subst}
use mathlib.Core.Logic.{◌⊎◌, inl, inr}
use mathlib.Core.Bool.{Bool, true, false, cond, ◌&&◌}
use mathlib.Core.List.{List, [], ◌∷◌}
use Prim.Native.Nat.{ℕ, zero, suc, ◌+◌, ◌≤◌, ◌<◌}
use native.Mathlib.Omega.{arith}
use borrow.Author.Tests.{eqb-true, eqb-false, ltb-true, ltb-false}
use lib.Dec.{eqb, ltb}
use lib.ListN.{length, get_or, set, replicate, length-replicate, get_or-eq_default}
use lib.Seq.{get_or-set_same, get_or-set_other}
use Rattle.words.proofs.Cond.{either}
use Rattle.words.specs.declared.Wake.{Wake}
use Rattle.words.specs.declared.Wake.TheVariants as W
use Rattle.queue.specs.declared.Row.{Row}
use Rattle.queue.specs.Row.{Taken, Pushed, THREADS, sleepers, passing, queue_of, is_wanted, push_of, taken_out, take_out_of, refused, place_of, without_of, occ, is_tidy}
use Rattle.queue.proofs.Laws.{push-accepted, push-occ, push-room, take-out-accepted, take-out-occ, found_below, found-passes, without-occ, place-of-found, place-of-nothing, place-of-bound}
use Rattle.queue.proofs.Part.{occ-passing}
use Rattle.queue.proofs.Search.{Found}
use Rattle.queue.proofs.Tidy.{tidy-count, push-tidy, take-out-tidy, without-tidy}
use Rattle.calls.specs.declared.Thread.{Thread}
use Rattle.calls.specs.declared.Plan.{Plan}
use Rattle.calls.specs.Plans.{idle}
use Rattle.world.specs.declared.World.{World}
use Rattle.world.specs.World.{thread_at, sleeps_on, on_word}
use Rattle.step.specs.Step.{Woken, roused, rouse_all, woken_one, wakes_of, own_plan}
use Rattle.step.specs.Acts.{only_of}
use Rattle.kept.specs.Shape.{Shaped}
use Rattle.kept.proofs.Tests.{decided, no_way}

-- how often a thread is to stand in the row
abbrev pub bit : Thread → ℕ
bit th = cond th.asleep 1 0

bit-most : (th : Thread) → bit th ≤ 1
bit-most th = by th.asleep
  where
    by : (c : Bool) → cond c 1 0 ≤ 1
    by true = omega arith
    by false = omega arith

bit-one : (th : Thread) → th.asleep ≡ true → bit th ≡ 1
bit-one th e = rw e

bit-none : (th : Thread) → th.asleep ≡ false → bit th ≡ 0
bit-none th e = rw e

pub record Stand (ths : List Thread) (row : Row) : Type 0 where
  pub tidy : is_tidy row ≡ true
  pub stands : (u : ℕ) → occ u (sleepers row) ≡ bit (get_or ths u idle)

-- who stands there is a thread
pub below : (ths : List Thread) (u : ℕ) → 0 < bit (get_or ths u idle) → u < length ths
below ths u h = by (ltb u (length ths)) refl
  where
    by : (c : Bool) → ltb u (length ths) ≡ c → u < length ths
    by true e = ltb-true u (length ths) e
    by false e =
        let m : length ths ≤ u = ltb-false u (length ths) e in
        let z : bit (get_or ths u idle) ≡ 0 = bit-none (get_or ths u idle) (ap (λ (th : Thread). th.asleep) (get_or-eq_default ths idle m)) in
        absurd (omega arith)

-- an element after a store: the new one, or as it was
pub set_cases :
    {A : Type 0} (l : List A) (t : ℕ) (x d : A) (u : ℕ) → ((u ≡ t) × (get_or (set l t x) u d ≡ x)) ⊎ (get_or (set l t x) u d ≡ get_or l u d)
set_cases [] t x d u = inr refl
set_cases (y ∷ ys) zero x d zero = inl (refl, refl)
set_cases (y ∷ ys) zero x d (suc u) = inr refl
set_cases (y ∷ ys) (suc t) x d zero = inr refl
set_cases (y ∷ ys) (suc t) x d (suc u) = by (set_cases ys t x d u)
  where
    by :
        ((u ≡ t) × (get_or (set ys t x) u d ≡ x)) ⊎ (get_or (set ys t x) u d ≡ get_or ys u d) →
        ((suc u ≡ suc t) × (get_or (set ys t x) u d ≡ x)) ⊎ (get_or (set ys t x) u d ≡ get_or ys u d)
    by (inl (e, q)) = inl (ap suc e, q)
    by (inr q) = inr q

-- the record of a thread that is awake, before and after
pub stand-set :
    (ths : List Thread) (row : Row) (t : ℕ) (th : Thread) → (get_or ths t idle).asleep ≡ false → th.asleep ≡ false → Stand ths row →
    Stand (set ths t th) row
stand-set ths row t th h k s = record { tidy = s.tidy; stands = λ u. by u (set_cases ths t th idle u) }
  where
    by :
        (u : ℕ) → ((u ≡ t) × (get_or (set ths t th) u idle ≡ th)) ⊎ (get_or (set ths t th) u idle ≡ get_or ths u idle) →
        occ u (sleepers row) ≡ bit (get_or (set ths t th) u idle)
    by u (inl (e, q)) =
        s.stands u ∙ (ap (λ (n : ℕ). bit (get_or ths n idle)) e ∙ (bit-none (get_or ths t idle) h ∙ (sym (bit-none th k) ∙ sym (ap bit q))))
    by u (inr q) = s.stands u ∙ sym (ap bit q)

-- a thread that was awake falls asleep
pub stand-push :
    (ths : List Thread) (row : Row) (t : ℕ) (th : Thread) → length ths ≡ THREADS → length row.places ≡ THREADS → t < THREADS →
    (get_or ths t idle).asleep ≡ false → th.asleep ≡ true → Stand ths row → Stand (set ths t th) (push_of row t).row
stand-push ths row t th l m b h k s = record { tidy = push-tidy row t s.tidy; stands = λ u. more u ∙ by u (eqb u t) refl }
  where
    count : row.count ≤ length row.places
    count = let c : row.count ≤ THREADS = tidy-count row s.tidy in omega arith

    absent : occ t (sleepers row) ≡ 0
    absent = s.stands t ∙ bit-none (get_or ths t idle) h

    room : row.count < THREADS
    room =
        push-room row t count b absent
        (λ u p. let z : 0 < bit (get_or ths u idle) = rw (s.stands u) at p in let y : u < length ths = below ths u z in omega arith)
        (λ u. rw (s.stands u) (bit-most (get_or ths u idle)))

    more : (u : ℕ) → occ u (sleepers (push_of row t).row) ≡ occ u (sleepers row) + cond (eqb u t) 1 0
    more u =
        let c : row.count < length row.places = omega (arith, room, m) in
        ap (λ (x : Pushed). occ u (sleepers x.row)) (push-accepted row t room) ∙ push-occ row t u c

    by : (u : ℕ) (c : Bool) → eqb u t ≡ c → occ u (sleepers row) + cond c 1 0 ≡ bit (get_or (set ths t th) u idle)
    by u true q =
        let e : u ≡ t = eqb-true u t q in
        let z : get_or (set ths t th) t idle ≡ th = get_or-set_same ths t th idle (omega (arith, l, b)) in
        let y : bit (get_or (set ths t th) t idle) ≡ 1 = ap bit z ∙ bit-one th k in
        let x : occ t (sleepers row) ≡ 0 = absent in
        rw e (omega arith)
    by u false q =
        let z : get_or (set ths t th) u idle ≡ get_or ths u idle = get_or-set_other ths t u th idle (eqb-false u t q) in
        let y : bit (get_or (set ths t th) u idle) ≡ bit (get_or ths u idle) = ap bit z in
        let x : occ u (sleepers row) ≡ bit (get_or ths u idle) = s.stands u in
        omega arith

-- whoever stands at a place wakes
pub stand-out :
    (ths : List Thread) (row : Row) (p : ℕ) → length row.places ≡ THREADS → p < row.count → p < THREADS → Stand ths row →
    Stand (set ths (get_or row.places p 0) (roused (get_or ths (get_or row.places p 0) idle))) (taken_out row p)
stand-out ths row p m h k s =
    record {
      tidy = sym (ap (λ (x : Taken). is_tidy x.row) (take-out-accepted row p h k)) ∙ take-out-tidy row p s.tidy;
      stands = λ u. by u (eqb u (get_or row.places p 0)) refl (take-out-occ row p count u h);
    }
  where
    count : row.count ≤ length row.places
    count = let c : row.count ≤ THREADS = tidy-count row s.tidy in omega arith

    by :
        (u : ℕ) (c : Bool) → eqb u (get_or row.places p 0) ≡ c → occ u (sleepers row) ≡ occ u (sleepers (taken_out row p)) + cond c 1 0 →
        occ u (sleepers (taken_out row p)) ≡ bit (get_or (set ths (get_or row.places p 0) (roused (get_or ths (get_or row.places p 0) idle))) u idle)
    by u true q o =
        let e : u ≡ get_or row.places p 0 = eqb-true u (get_or row.places p 0) q in
        let x : occ u (sleepers row) ≡ bit (get_or ths u idle) = s.stands u in
        let y : bit (get_or ths u idle) ≤ 1 = bit-most (get_or ths u idle) in
        let a : u < length ths = below ths u (omega arith) in
        let z : get_or (set ths u (roused (get_or ths u idle))) u idle ≡ roused (get_or ths u idle) =
        get_or-set_same ths u (roused (get_or ths u idle)) idle a in
        let n : occ u (sleepers (taken_out row p)) ≡ 0 = omega arith in
        rw (← e) (n ∙ sym (ap bit z))
    by u false q o =
        let z : get_or (set ths (get_or row.places p 0) (roused (get_or ths (get_or row.places p 0) idle))) u idle ≡ get_or ths u idle =
        get_or-set_other ths (get_or row.places p 0) u (roused (get_or ths (get_or row.places p 0) idle)) idle (eqb-false u (get_or row.places p 0) q) in
        let x : occ u (sleepers row) ≡ bit (get_or ths u idle) = s.stands u in
        let n : occ u (sleepers (taken_out row p)) ≡ occ u (sleepers row) = omega arith in
        n ∙ (x ∙ sym (ap bit z))

-- everyone on a word wakes
pub rouse-at :
    (k i : ℕ) (l : List Thread) (j m : ℕ) → m ≡ i + j →
    get_or (rouse_all k i l) j idle ≡ cond (sleeps_on k m (get_or l j idle)) (roused (get_or l j idle)) (get_or l j idle)
unfolding rouse_all sleeps_on
rouse-at k i [] j m e = refl
rouse-at k i (th ∷ ths) zero m e = let z : m ≡ i = omega arith in rw z
rouse-at k i (th ∷ ths) (suc j) m e = rouse-at k (i + 1) ths j m (omega arith)

pub stand-all : (ths : List Thread) (row : Row) (k : ℕ) → Stand ths row → Stand (rouse_all k 0 ths) (without_of (on_word ths k) row)
stand-all ths row k s =
    record {
      tidy = without-tidy (on_word ths k) row s.tidy;
      stands = λ u. without-occ (on_word ths k) row u ∙ (by u (sleeps_on k u (get_or ths u idle)) ∙ sym (ap bit (rouse-at k 0 ths u u (omega arith))));
    }
  where
    by : (u : ℕ) (c : Bool) → cond c 0 (occ u (sleepers row)) ≡ bit (cond c (roused (get_or ths u idle)) (get_or ths u idle))
    by u true = refl
    by u false = s.stands u

-- a spurious wake
only-false : (n u : ℕ) → get_or (replicate n false) u false ≡ false
only-false zero u = refl
only-false (suc n) zero = refl
only-false (suc n) (suc u) = only-false n u

only-is : (t u : ℕ) → is_wanted (only_of t) u ≡ true → u ≡ t
only-is t u e = by (set_cases (replicate THREADS false) t true false u)
  where
    by :
        ((u ≡ t) × (get_or (set (replicate THREADS false) t true) u false ≡ true)) ⊎
        (get_or (set (replicate THREADS false) t true) u false ≡ get_or (replicate THREADS false) u false) → u ≡ t
    by (inl (q, _)) = q
    by (inr q) = no_way (sym (only-false THREADS u) ∙ (sym q ∙ e))

pub stand-woken :
    (ths : List Thread) (row : Row) (t : ℕ) → length row.places ≡ THREADS → t < THREADS → (get_or ths t idle).asleep ≡ true → Stand ths row →
    Stand (set ths t (roused (get_or ths t idle))) (take_out_of row (place_of (is_wanted (only_of t)) row)).row
unfolding queue_of occ
stand-woken ths row t m b h s =
    let c : row.count ≤ THREADS = tidy-count row s.tidy in
    let w : Found (is_wanted (only_of t)) (sleepers row) (place_of (is_wanted (only_of t)) row) = place-of-found (is_wanted (only_of t)) row c there in
    let n : place_of (is_wanted (only_of t)) row < row.count = found_below row (place_of (is_wanted (only_of t)) row) (is_wanted (only_of t)) w in
    let e : get_or row.places (place_of (is_wanted (only_of t)) row) 0 ≡ t =
    only-is t (get_or row.places (place_of (is_wanted (only_of t)) row) 0) (found-passes row (place_of (is_wanted (only_of t)) row) (is_wanted (only_of t)) w) in
    subst (λ (x : Taken). Stand (set ths t (roused (get_or ths t idle))) x.row) (sym (take-out-accepted row (place_of (is_wanted (only_of t)) row) n there))
    (subst (λ (x : ℕ). Stand (set ths x (roused (get_or ths x idle))) (taken_out row (place_of (is_wanted (only_of t)) row))) e
    (stand-out ths row (place_of (is_wanted (only_of t)) row) m n there s))
  where
    wanted : is_wanted (only_of t) t ≡ true
    wanted = get_or-set_same (replicate THREADS false) t true false (rw (length-replicate THREADS false) b)

    there : place_of (is_wanted (only_of t)) row < THREADS
    there = by (ltb (place_of (is_wanted (only_of t)) row) THREADS) refl
      where
        by : (c : Bool) → ltb (place_of (is_wanted (only_of t)) row) THREADS ≡ c → place_of (is_wanted (only_of t)) row < THREADS
        by true q = ltb-true (place_of (is_wanted (only_of t)) row) THREADS q
        by false q =
            let c : row.count ≤ THREADS = tidy-count row s.tidy in
            let g : THREADS ≤ place_of (is_wanted (only_of t)) row = ltb-false (place_of (is_wanted (only_of t)) row) THREADS q in
            let d : place_of (is_wanted (only_of t)) row ≤ THREADS = place-of-bound (is_wanted (only_of t)) row c in
            let z : passing (is_wanted (only_of t)) (sleepers row) ≡ [] = place-of-nothing (is_wanted (only_of t)) row c (omega arith) in
            let o : occ t (passing (is_wanted (only_of t)) (sleepers row)) ≡ cond (is_wanted (only_of t) t) (occ t (sleepers row)) 0 =
            occ-passing (is_wanted (only_of t)) t (sleepers row) in
            let y : occ t (sleepers row) ≡ 1 = s.stands t ∙ bit-one (get_or ths t idle) h in
            let x : occ t (passing (is_wanted (only_of t)) (sleepers row)) ≡ 0 = ap (occ t) z in
            let v : cond (is_wanted (only_of t) t) (occ t (sleepers row)) 0 ≡ occ t (sleepers row) =
            ap (λ (r : Bool). cond r (occ t (sleepers row)) 0) wanted in
            absurd (omega arith)

-- the wake stage of a step
abbrev taken_if : World → ℕ → Bool → Taken
taken_if w place c =
    cond c (record { row = taken_out w.sleepers place; thread = get_or w.sleepers.places place 0; ok = true }) (refused w.sleepers)

pub wakes-stand :
    (w : World) (k place : ℕ) (wake : Wake) → Shaped w → Stand w.threads w.sleepers →
    Stand (wakes_of w k place wake).world.threads (wakes_of w k place wake).world.sleepers
unfolding wakes_of take_out_of
wakes-stand w k place W.None s t = t
wakes-stand w k place W.One s t = by (ltb place w.sleepers.count) (ltb place THREADS) refl refl
  where
    by :
        (c d : Bool) → ltb place w.sleepers.count ≡ c → ltb place THREADS ≡ d →
        Stand (woken_one w (taken_if w place (c && d))).world.threads (woken_one w (taken_if w place (c && d))).world.sleepers
    by true true p q =
        stand-out w.threads w.sleepers place s.places (ltb-true place w.sleepers.count p) (ltb-true place THREADS q) t
    by true false p q = t
    by false d p q = t
wakes-stand w k place W.All s t = stand-all w.threads w.sleepers k t

-- which leaves who is awake so
pub wakes-awake :
    (w : World) (k place : ℕ) (wake : Wake) (t : ℕ) → (thread_at w t).asleep ≡ false → (thread_at (wakes_of w k place wake).world t).asleep ≡ false
unfolding wakes_of
wakes-awake w k place W.None t h = h
wakes-awake w k place W.One t h =
    either (λ (x : Woken). (thread_at x.world t).asleep ≡ false) (take_out_of w.sleepers place).ok _ _
    (by (take_out_of w.sleepers place).thread (thread_at w (take_out_of w.sleepers place).thread)
    (set_cases w.threads (take_out_of w.sleepers place).thread (roused (thread_at w (take_out_of w.sleepers place).thread)) idle t)) h
  where
    by :
        (n : ℕ) (x : Thread) → ((t ≡ n) × (get_or (set w.threads n (roused x)) t idle ≡ roused x)) ⊎
        (get_or (set w.threads n (roused x)) t idle ≡ get_or w.threads t idle) → (get_or (set w.threads n (roused x)) t idle).asleep ≡ false
    by n x (inl (e, q)) = ap (λ (th : Thread). th.asleep) q
    by n x (inr q) = ap (λ (th : Thread). th.asleep) q ∙ h
wakes-awake w k place W.All t h =
    ap (λ (th : Thread). th.asleep) (rouse-at k 0 w.threads t t (omega arith)) ∙
    either (λ (th : Thread). th.asleep ≡ false) (sleeps_on k t (thread_at w t)) (roused (thread_at w t)) (thread_at w t) refl h

-- the own stage
pub own-stand :
    (v : World) (t k : ℕ) (p : Plan) → Shaped v → t < THREADS → (thread_at v t).asleep ≡ false → Stand v.threads v.sleepers →
    Stand (own_plan v t k p).threads (own_plan v t k p).sleepers
unfolding own_plan
own-stand v t k p s b h d =
    decided (λ (row : Row). Stand (set v.threads t p.next) row) p.next.asleep _ _
    (λ e. stand-push v.threads v.sleepers t p.next s.threads s.places b h e d)
    (λ e. stand-set v.threads v.sleepers t p.next h e d)
