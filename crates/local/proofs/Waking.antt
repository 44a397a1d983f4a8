-- The wakes of a step, first of its two stages: the longest asleep on its word leave the queue of that word and stand after their
-- futex_wait; nothing else changes. Assumes nothing.
use mathlib.Core.Path.{◌≡◌, refl, sym, ap, ◌∙◌}
use mathlib.Core.Logic.{◌⊎◌, inl, inr, ◌≢◌}
use mathlib.Core.Bool.{Bool, true, false, cond}
use mathlib.Core.List.{List, [], ◌∷◌}
use Prim.Native.Nat.{ℕ, zero, suc, min, ◌+◌, ◌≤◌, ◌<◌}
use native.Mathlib.Omega.{arith}
use borrow.Author.Tests.{eqb-true, eq-eqb, ltb-true, ltb-false, lt-ltb, le-ltb}
use lib.Dec.{eqb, ltb}
use lib.ListN.{length, get_or, take, drop}
use lib.Seq.{get_or-set_same, get_or-set_other, take-length, drop-length}
use Rattle.words.specs.declared.Wake.{Wake}
use Rattle.words.specs.declared.Wake.TheVariants as W
use Rattle.queue.specs.declared.Row.{Row}
use Rattle.queue.specs.Row.{THREADS, sleepers, queue_of, taken_out, take_out_of, place_of, without_of, occ, passing}
use Rattle.queue.proofs.Laws.{take-out-accepted, take-out-refused, take-out-others, take-out-first, found_below, found-passes, without-queue, without-others, place-of-found, place-of-nothing, place-of-bound, queue-agree}
use Rattle.queue.proofs.Part.{occ-passing}
use Rattle.queue.proofs.Search.{Found}
use Rattle.queue.proofs.Tidy.{tidy-count}
use Rattle.calls.specs.declared.Thread.{Thread}
use Rattle.calls.specs.Plans.{idle}
use Rattle.calls.specs.Positions.{operand_of}
use Rattle.world.specs.declared.World.{World}
use Rattle.world.specs.World.{thread_at, sleeps_on, on_word}
use Rattle.step.specs.Step.{roused, woken_one, woken_all, wakes_of}
use Rattle.kept.specs.Shape.{Shaped}
use Rattle.kept.proofs.Tests.{no_way, and_left, and_right}
use Rattle.keeps_records.proofs.Rows.{Stand, below, rouse-at, stand-all, stand-out}
use Rattle.local.specs.Part.{sleeps_at, queue_at, number_woken}

-- a number is 0 or above it
pub none_or_some : (n : ℕ) → (n ≡ 0) ⊎ (0 < n)
none_or_some zero = inl refl
none_or_some (suc n) = inr (omega arith)

-- a thread sleeps on one word only
pub sleeps-asleep : (k u : ℕ) (th : Thread) → sleeps_on k u th ≡ true → th.asleep ≡ true
unfolding sleeps_on
sleeps-asleep k u th e = and_left th.asleep (eqb (operand_of u th.at) k) e

sleeps-word : (k u : ℕ) (th : Thread) → sleeps_on k u th ≡ true → operand_of u th.at ≡ k
unfolding sleeps_on
sleeps-word k u th e = eqb-true (operand_of u th.at) k (and_right th.asleep (eqb (operand_of u th.at) k) e)

pub sleeps-once : (k j u : ℕ) (th : Thread) → j ≢ k → sleeps_on k u th ≡ true → sleeps_on j u th ≡ false
sleeps-once k j u th n e = by (sleeps_on j u th) refl
  where
    by : (c : Bool) → sleeps_on j u th ≡ c → c ≡ false
    by true q = absurd (n (sym (sleeps-word j u th q) ∙ sleeps-word k u th e))
    by false q = refl

own-occ : (u : ℕ) → occ u (u ∷ []) ≡ 1
unfolding occ
own-occ u = rw (eq-eqb u u refl)

-- what a wake stage does, from w to v: the n longest asleep on word k wake
pub record Waked (w : World) (k n : ℕ) (v : World) : Type 0 where
  pub same-words : v.words ≡ w.words
  pub same-locked : v.locked ≡ w.locked
  pub same-written : v.written ≡ w.written
  pub same_reads : v.reads ≡ w.reads
  pub same-forgotten : v.forgotten ≡ w.forgotten
  pub woken : (u : ℕ) → 0 < occ u (take n (queue_at w k)) → thread_at v u ≡ roused (thread_at w u)
  pub others : (u : ℕ) → occ u (take n (queue_at w k)) ≡ 0 → thread_at v u ≡ thread_at w u
  pub queue : queue_at v k ≡ drop n (queue_at w k)
  pub elsewhere : (j : ℕ) → j ≢ k → queue_at v j ≡ queue_at w j

-- whoever stands in the row is asleep
stands-asleep : (ths : List Thread) (row : Row) → Stand ths row → (u : ℕ) → 0 < occ u (sleepers row) → (get_or ths u idle).asleep ≡ true
stands-asleep ths row d u h = by (get_or ths u idle).asleep (d.stands u)
  where
    by : (c : Bool) → occ u (sleepers row) ≡ cond c 1 0 → c ≡ true
    by true e = refl
    by false e = absurd (omega arith)

asleep-stands : (ths : List Thread) (row : Row) → Stand ths row → (u : ℕ) → (get_or ths u idle).asleep ≡ true → occ u (sleepers row) ≡ 1
asleep-stands ths row d u h = d.stands u ∙ ap (λ (c : Bool). cond c 1 0) h

-- who stands in the queue of a word is who sleeps on it
module _ (w : World) (d : Stand w.threads w.sleepers) (k u : ℕ) where
  pub queue-sleeps : 0 < occ u (queue_at w k) → sleeps_at w k u ≡ true
  unfolding queue_of
  queue-sleeps h = by (sleeps_at w k u) (occ-passing (on_word w.threads k) u (sleepers w.sleepers))
    where
      by : (c : Bool) → occ u (passing (on_word w.threads k) (sleepers w.sleepers)) ≡ cond c (occ u (sleepers w.sleepers)) 0 → c ≡ true
      by true e = refl
      by false e = absurd (omega arith)

  pub sleeps-queue : sleeps_at w k u ≡ true → occ u (queue_at w k) ≡ 1
  unfolding queue_of
  sleeps-queue e =
      occ-passing (on_word w.threads k) u (sleepers w.sleepers) ∙
      (ap (λ (c : Bool). cond c (occ u (sleepers w.sleepers)) 0) e ∙
      asleep-stands w.threads w.sleepers d u (sleeps-asleep k u (thread_at w u) e))

-- where the search on a word's row ends: at the first of its queue, or at no place
pub data Searched (w : World) (k place : ℕ) : Type 0 where
  first :
      place < THREADS → place < w.sleepers.count → sleeps_at w k (get_or w.sleepers.places place 0) ≡ true →
      queue_at w k ≡ get_or w.sleepers.places place 0 ∷ queue_of (on_word w.threads k) (taken_out w.sleepers place) → Searched w k place
  nobody : place ≡ THREADS → queue_at w k ≡ [] → Searched w k place

module _ (w : World) (s : Shaped w) (d : Stand w.threads w.sleepers) (k : ℕ) where
  few : w.sleepers.count ≤ THREADS
  few = tidy-count w.sleepers d.tidy

  room : w.sleepers.count ≤ length w.sleepers.places
  room = rw s.places few

  pub searched : Searched w k (place_of (on_word w.threads k) w.sleepers)
  searched = by (ltb place THREADS) refl
    where
      f : ℕ → Bool
      f = on_word w.threads k

      place : ℕ
      place = place_of f w.sleepers

      by : (c : Bool) → ltb place THREADS ≡ c → Searched w k place
      by true e =
          let h : place < THREADS = ltb-true place THREADS e in
          let x : Found f (sleepers w.sleepers) place = place-of-found f w.sleepers few h in
          first h (found_below w.sleepers place f x) (found-passes w.sleepers place f x) (take-out-first w.sleepers place room f x)
      by false e =
          let h : THREADS ≤ place = ltb-false place THREADS e in
          let b : place ≤ THREADS = place-of-bound f w.sleepers few in
          let z : place ≡ THREADS = omega arith in
          nobody z (place-of-nothing f w.sleepers few z)

  -- somebody is found exactly if the queue is not empty
  pub anyone : ltb (place_of (on_word w.threads k) w.sleepers) THREADS ≡ ltb 0 (length (queue_at w k))
  anyone = by (place_of (on_word w.threads k) w.sleepers) searched
    where
      by : (place : ℕ) → Searched w k place → ltb place THREADS ≡ ltb 0 (length (queue_at w k))
      by place (first h c x e) = rw (lt-ltb place THREADS h, e) (sym (lt-ltb 0 (suc (length (queue_of (on_word w.threads k) (taken_out w.sleepers place)))) (omega arith)))
      by place (nobody z e) = rw (z, e, le-ltb THREADS THREADS (omega arith))

  -- the records that change are those of the woken, who are awake then: so whoever still stands in the row is as before
  module _
      (v : World) (n : ℕ) (stand : Stand v.threads v.sleepers)
      (woken : (u : ℕ) → 0 < occ u (take n (queue_at w k)) → thread_at v u ≡ roused (thread_at w u))
      (others : (u : ℕ) → occ u (take n (queue_at w k)) ≡ 0 → thread_at v u ≡ thread_at w u) where
    still : (u : ℕ) → 0 < occ u (sleepers v.sleepers) → thread_at v u ≡ thread_at w u
    still u h = by (none_or_some (occ u (take n (queue_at w k))))
      where
        by : (occ u (take n (queue_at w k)) ≡ 0) ⊎ (0 < occ u (take n (queue_at w k))) → thread_at v u ≡ thread_at w u
        by (inl z) = others u z
        by (inr p) = no_way (sym (ap (λ (th : Thread). th.asleep) (woken u p)) ∙ stands-asleep v.threads v.sleepers stand u h)

    queue-still : (j : ℕ) → queue_at v j ≡ queue_of (on_word w.threads j) v.sleepers
    queue-still j =
        queue-agree (on_word v.threads j) (on_word w.threads j) v.sleepers (λ u h. ap (sleeps_on j u) (still u h))

  -- nobody
  waked-none : Waked w k 0 w
  unfolding occ
  waked-none = record {
    same-words = refl;
    same-locked = refl;
    same-written = refl;
    same_reads = refl;
    same-forgotten = refl;
    woken = λ u h. absurd (omega arith);
    others = λ u _. refl;
    queue = refl;
    elsewhere = λ j _. refl;
  }

  -- everyone
  waked-all : Waked w k (length (queue_at w k)) (woken_all w k).world
  waked-all = record {
    same-words = refl;
    same-locked = refl;
    same-written = refl;
    same_reads = refl;
    same-forgotten = refl;
    woken = woken;
    others = others;
    queue =
        queue-still v n stand woken others k ∙ (without-queue (on_word w.threads k) w.sleepers ∙ sym (drop-length (queue_at w k)));
    elsewhere =
        λ j q. queue-still v n stand woken others j ∙ unchanged j q;
  }
    where
      v : World
      v = (woken_all w k).world

      n : ℕ
      n = length (queue_at w k)

      stand : Stand v.threads v.sleepers
      stand = stand-all w.threads w.sleepers k d

      woken : (u : ℕ) → 0 < occ u (take n (queue_at w k)) → thread_at v u ≡ roused (thread_at w u)
      woken u h =
          let q : 0 < occ u (queue_at w k) = rw (take-length (queue_at w k)) at h in
          rouse-at k 0 w.threads u u (omega arith) ∙
          ap (λ (c : Bool). cond c (roused (thread_at w u)) (thread_at w u)) (queue-sleeps w d k u q)

      others : (u : ℕ) → occ u (take n (queue_at w k)) ≡ 0 → thread_at v u ≡ thread_at w u
      others u h = rouse-at k 0 w.threads u u (omega arith) ∙ by (sleeps_at w k u) refl
        where
          by : (c : Bool) → sleeps_at w k u ≡ c → cond c (roused (thread_at w u)) (thread_at w u) ≡ thread_at w u
          by true e =
              let z : occ u (queue_at w k) ≡ 0 = rw (take-length (queue_at w k)) at h in
              let y : occ u (queue_at w k) ≡ 1 = sleeps-queue w d k u e in
              absurd (omega arith)
          by false e = refl

      unchanged : (j : ℕ) → j ≢ k → queue_of (on_word w.threads j) (without_of (on_word w.threads k) w.sleepers) ≡ queue_at w j
      unchanged j q = without-others (on_word w.threads k) w.sleepers (on_word w.threads j) (λ u _ e. sleeps-once k j u (thread_at w u) q e)

  -- the longest asleep, at its place in the row
  waked-first :
      (place : ℕ) → place < THREADS → place < w.sleepers.count → sleeps_at w k (get_or w.sleepers.places place 0) ≡ true →
      queue_at w k ≡ get_or w.sleepers.places place 0 ∷ queue_of (on_word w.threads k) (taken_out w.sleepers place) →
      Waked w k 1
      (woken_one w (record { row = taken_out w.sleepers place; thread = get_or w.sleepers.places place 0; ok = true })).world
  unfolding occ
  waked-first place h c x e = record {
    same-words = refl;
    same-locked = refl;
    same-written = refl;
    same_reads = refl;
    same-forgotten = refl;
    woken = woken;
    others = others;
    queue = queue-still v 1 stand woken others k ∙ sym (ap (drop 1) e);
    elsewhere =
        λ j q. queue-still v 1 stand woken others j ∙
        take-out-others w.sleepers place room (on_word w.threads j) c (sleeps-once k j first_one (thread_at w first_one) q x);
  }
    where
      first_one : ℕ
      first_one = get_or w.sleepers.places place 0

      v : World
      v = (woken_one w (record { row = taken_out w.sleepers place; thread = get_or w.sleepers.places place 0; ok = true })).world

      stand : Stand v.threads v.sleepers
      stand = stand-out w.threads w.sleepers place s.places c h d

      there : first_one < length w.threads
      there = below w.threads first_one (rw (sleeps-asleep k first_one (thread_at w first_one) x) (omega arith))

      stands : (u : ℕ) → occ u (take 1 (queue_at w k)) ≡ occ u (first_one ∷ [])
      stands u = ap (λ (l : List ℕ). occ u (take 1 l)) e

      is-first : (u : ℕ) → 0 < occ u (first_one ∷ []) → u ≡ first_one
      is-first u p = by (eqb u first_one) refl p
        where
          by : (b : Bool) → eqb u first_one ≡ b → 0 < cond b 1 0 + 0 → u ≡ first_one
          by true q r = eqb-true u first_one q
          by false q r = absurd (omega arith)

      woken : (u : ℕ) → 0 < occ u (take 1 (queue_at w k)) → thread_at v u ≡ roused (thread_at w u)
      woken u p =
          let q : u ≡ first_one = is-first u (rw (stands u) at p) in
          rw q (get_or-set_same w.threads first_one (roused (thread_at w first_one)) idle there)

      others : (u : ℕ) → occ u (take 1 (queue_at w k)) ≡ 0 → thread_at v u ≡ thread_at w u
      others u p =
          get_or-set_other w.threads first_one u (roused (thread_at w first_one)) idle
          (λ q. let z : occ u (first_one ∷ []) ≡ 0 = sym (stands u) ∙ p in
          let y : occ first_one (first_one ∷ []) ≡ 1 = own-occ first_one in
          let x : occ u (first_one ∷ []) ≡ 1 = rw q y in omega arith)

  -- the wake stage of a step
  pub waked :
      (wake : Wake) →
      Waked w k (number_woken wake (queue_at w k)) (wakes_of w k (place_of (on_word w.threads k) w.sleepers) wake).world ×
      ((wakes_of w k (place_of (on_word w.threads k) w.sleepers) wake).count ≡ number_woken wake (queue_at w k))
  unfolding wakes_of number_woken
  waked W.None = (waked-none, refl)
  waked W.One = by (place_of (on_word w.threads k) w.sleepers) searched
    where
      by :
          (place : ℕ) → Searched w k place →
          Waked w k (min 1 (length (queue_at w k))) (woken_one w (take_out_of w.sleepers place)).world ×
          ((woken_one w (take_out_of w.sleepers place)).count ≡ min 1 (length (queue_at w k)))
      by place (first h c x e) =
          let one : min 1 (length (queue_at w k)) ≡ 1 = ap (λ (l : List ℕ). min 1 (length l)) e ∙ omega arith in
          rw (take-out-accepted w.sleepers place c h, one) (waked-first place h c x e, refl)
      by place (nobody z e) =
          let none : min 1 (length (queue_at w k)) ≡ 0 = ap (λ (l : List ℕ). min 1 (length l)) e in
          rw (take-out-refused w.sleepers place (omega arith), none) (waked-none, refl)
  waked W.All = (waked-all, refl)
