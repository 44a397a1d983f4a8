-- Each entry of the hold tables after a step is what the step's entries in the history lead to. Assumes nothing.
use mathlib.Core.Path.{◌≡◌, refl, sym, ap, ◌∙◌, subst}
use mathlib.Core.Bool.{Bool, true, false, cond, ◌&&◌}
use mathlib.Core.List.{List, [], ◌∷◌}
use Prim.Native.Nat.{ℕ, ◌+◌, ◌<◌}
use native.Mathlib.Omega.{arith}
use lib.Dec.{eqb}
use lib.ListN.{set}
use borrow.Author.Tests.{eqb-true, eq-eqb}
use lib.Seq.{set-get_or}
use Rattle.words.specs.declared.Hold.{Hold}
use Rattle.words.specs.declared.Hold.TheVariants as H
use Rattle.queue.specs.Row.{THREADS}
use Rattle.calls.specs.Objects.{MUTEXES, RWLOCKS, WORDS}
use Rattle.world.specs.declared.World.{World}
use Rattle.world.specs.Holds.{mutex_slot, lock_slot, holds_mutex, holds_write, reads_of}
use Rattle.step.specs.declared.Acted.{Acted}
use Rattle.sound.specs.Sound.{sound_world}
use Rattle.sound.proofs.Holds.{mutex-own, mutex-other, write-own, write-other, reads-own, reads_other}
use Rattle.kept.specs.Shape.{Shaped}
use Rattle.kept.proofs.Tests.{no_way, and_left, and_right}
use Rattle.kept.specs.Laws.{held_kind}
use Rattle.keeps_counts.specs.Tables.{locked_new, written_new, reads_new}
use Rattle.local.specs.Part.{word_next, plan_at, woken_at, Stepped}
use Rattle.local.proofs.Frame.{word-thread}
use Rattle.claims.specs.Claims.{What, of-mutex, for-writing, for-reading, begins, ends, same_hold, objects}
use Rattle.claims.proofs.Marks.{marks_of}
use Rattle.claims.proofs.Leads.{leads-on, Leads, at-end, it-begins, it-ends, other-begins, other-ends}
use Rattle.claims.proofs.Finds.{Finds, finds}

-- what the tables say of a hold
abbrev pub bit : Bool → ℕ
bit b = cond b 1 0

unfoldable pub held_in : World → What → ℕ → ℕ → ℕ
held_in w of-mutex t object = bit (holds_mutex w.locked object t)
held_in w for-writing t object = bit (holds_write w.written object t)
held_in w for-reading t object = reads_of w.reads object t

both-are : (u o t object : ℕ) → (eqb u t && eqb o object) ≡ true → (u ≡ t) × (o ≡ object)
both-are u o t object e = (eqb-true u t (and_left (eqb u t) (eqb o object) e), eqb-true o object (and_right (eqb u t) (eqb o object) e))

not-both : (u o t object : ℕ) → (eqb u t && eqb o object) ≡ false → u ≡ t → o ≡ object → ⊥
not-both u o t object e a b =
    let z : (eqb u t && eqb o object) ≡ true = rw (eq-eqb u t a, eq-eqb o object b) in
    no_way (sym e ∙ z)

-- one entry: it counts for its own hold, and for no other
one-begins :
    (what : What) (u o t object n m : ℕ) (c : Bool) → same_hold what u o what t object ≡ c → (c ≡ true → m ≡ n + 1) → (c ≡ false → m ≡ n) →
    Leads what u o n (begins what t object ∷ []) m
one-begins what u o t object n m true e a b = it-begins e (a refl) (at-end refl)
one-begins what u o t object n m false e a b = other-begins e (at-end (b refl))

one-ends :
    (what : What) (u o t object n m : ℕ) (c : Bool) → same_hold what u o what t object ≡ c → (c ≡ true → n ≡ m + 1) → (c ≡ false → m ≡ n) →
    Leads what u o n (ends what t object ∷ []) m
one-ends what u o t object n m true e a b = it-ends e (a refl) (at-end refl)
one-ends what u o t object n m false e a b = other-ends e (at-end (b refl))

module _ (w : World) (shaped : Shaped w) (t u o : ℕ) (is-thread : t < THREADS) (is-other : u < THREADS) where
  -- mutex holds
  mutex-at : (object : ℕ) (b : Bool) → object < MUTEXES → u ≡ t → o ≡ object → holds_mutex (set w.locked (mutex_slot t object) b) o u ≡ b
  mutex-at object b h e q = rw (e, q) (mutex-own w.locked t object b shaped.locked is-thread h)

  mutex-else :
      (object : ℕ) (b : Bool) → object < MUTEXES → o < MUTEXES → (u ≡ t → o ≡ object → ⊥) →
      holds_mutex (set w.locked (mutex_slot t object) b) o u ≡ holds_mutex w.locked o u
  mutex-else object b h i n = mutex-other w.locked t object b shaped.locked is-thread h u o is-other i n

  mutex-was : (object : ℕ) (b : Bool) → u ≡ t → o ≡ object → holds_mutex w.locked object t ≡ b → holds_mutex w.locked o u ≡ b
  mutex-was object b e q h = rw (e, q) h

  mutex-leads :
      (hold : Hold) (object : ℕ) → Finds w t hold object → o < MUTEXES →
      Leads of-mutex u o (bit (holds_mutex w.locked o u)) (marks_of hold t object) (bit (holds_mutex (locked_new w.locked t object hold) o u))
  unfolding marks_of held_kind
  mutex-leads H.Same object F h = at-end (ap (λ (l : List Bool). bit (holds_mutex l o u)) (set-get_or w.locked (mutex_slot t object) false))
  mutex-leads H.TakeMutex object F h =
      one-begins of-mutex u o t object _ _ (eqb u t && eqb o object) refl
      (λ e. let (a, b) = both-are u o t object e in
      let x : bit (holds_mutex (set w.locked (mutex_slot t object) true) o u) ≡ 1 = ap bit (mutex-at object true (F.is-mutex refl) a b) in
      let y : bit (holds_mutex w.locked o u) ≡ 0 = ap bit (mutex-was object _ a b (F.takes-mutex refl)) in omega arith)
      (λ e. ap bit (mutex-else object true (F.is-mutex refl) h (not-both u o t object e)))
  mutex-leads H.FreeMutex object F h =
      one-ends of-mutex u o t object _ _ (eqb u t && eqb o object) refl
      (λ e. let (a, b) = both-are u o t object e in
      let x : bit (holds_mutex (set w.locked (mutex_slot t object) false) o u) ≡ 0 = ap bit (mutex-at object false (F.is-mutex refl) a b) in
      let y : bit (holds_mutex w.locked o u) ≡ 1 = ap bit (mutex-was object _ a b (F.frees-mutex refl)) in omega arith)
      (λ e. ap bit (mutex-else object false (F.is-mutex refl) h (not-both u o t object e)))
  mutex-leads H.TakeRead object F h = other-begins refl (at-end (ap (λ (l : List Bool). bit (holds_mutex l o u)) (set-get_or w.locked (mutex_slot t object) false)))
  mutex-leads H.FreeRead object F h = other-ends refl (at-end (ap (λ (l : List Bool). bit (holds_mutex l o u)) (set-get_or w.locked (mutex_slot t object) false)))
  mutex-leads H.TakeWrite object F h = other-begins refl (at-end (ap (λ (l : List Bool). bit (holds_mutex l o u)) (set-get_or w.locked (mutex_slot t object) false)))
  mutex-leads H.FreeWrite object F h = other-ends refl (at-end (ap (λ (l : List Bool). bit (holds_mutex l o u)) (set-get_or w.locked (mutex_slot t object) false)))
  mutex-leads H.Downgrade object F h = other-ends refl (other-begins refl (at-end (ap (λ (l : List Bool). bit (holds_mutex l o u)) (set-get_or w.locked (mutex_slot t object) false))))

  -- write holds
  write-at : (object : ℕ) (b : Bool) → object < RWLOCKS → u ≡ t → o ≡ object → holds_write (set w.written (lock_slot t object) b) o u ≡ b
  write-at object b h e q = rw (e, q) (write-own w.written t object b shaped.written is-thread h)

  write-else :
      (object : ℕ) (b : Bool) → object < RWLOCKS → o < RWLOCKS → (u ≡ t → o ≡ object → ⊥) →
      holds_write (set w.written (lock_slot t object) b) o u ≡ holds_write w.written o u
  write-else object b h i n = write-other w.written t object b shaped.written is-thread h u o is-other i n

  write-was : (object : ℕ) (b : Bool) → u ≡ t → o ≡ object → holds_write w.written object t ≡ b → holds_write w.written o u ≡ b
  write-was object b e q h = rw (e, q) h

  write-leads :
      (hold : Hold) (object : ℕ) → Finds w t hold object → o < RWLOCKS →
      Leads for-writing u o (bit (holds_write w.written o u)) (marks_of hold t object) (bit (holds_write (written_new w.written t object hold) o u))
  unfolding marks_of held_kind
  write-leads H.Same object F h = at-end (ap (λ (l : List Bool). bit (holds_write l o u)) (set-get_or w.written (lock_slot t object) false))
  write-leads H.TakeMutex object F h = other-begins refl (at-end (ap (λ (l : List Bool). bit (holds_write l o u)) (set-get_or w.written (lock_slot t object) false)))
  write-leads H.FreeMutex object F h = other-ends refl (at-end (ap (λ (l : List Bool). bit (holds_write l o u)) (set-get_or w.written (lock_slot t object) false)))
  write-leads H.TakeRead object F h = other-begins refl (at-end (ap (λ (l : List Bool). bit (holds_write l o u)) (set-get_or w.written (lock_slot t object) false)))
  write-leads H.FreeRead object F h = other-ends refl (at-end (ap (λ (l : List Bool). bit (holds_write l o u)) (set-get_or w.written (lock_slot t object) false)))
  write-leads H.TakeWrite object F h =
      one-begins for-writing u o t object _ _ (eqb u t && eqb o object) refl
      (λ e. let (a, b) = both-are u o t object e in
      let x : bit (holds_write (set w.written (lock_slot t object) true) o u) ≡ 1 = ap bit (write-at object true (F.is-lock refl) a b) in
      let y : bit (holds_write w.written o u) ≡ 0 = ap bit (write-was object _ a b (F.takes_write refl)) in omega arith)
      (λ e. ap bit (write-else object true (F.is-lock refl) h (not-both u o t object e)))
  write-leads H.FreeWrite object F h =
      one-ends for-writing u o t object _ _ (eqb u t && eqb o object) refl
      (λ e. let (a, b) = both-are u o t object e in
      let x : bit (holds_write (set w.written (lock_slot t object) false) o u) ≡ 0 = ap bit (write-at object false (F.is-lock refl) a b) in
      let y : bit (holds_write w.written o u) ≡ 1 = ap bit (write-was object _ a b (F.frees-write refl)) in omega arith)
      (λ e. ap bit (write-else object false (F.is-lock refl) h (not-both u o t object e)))
  write-leads H.Downgrade object F h =
      leads-on for-writing u o _ _ _ (ends for-writing t object ∷ []) (begins for-reading t object ∷ [])
      (one-ends for-writing u o t object _ _ (eqb u t && eqb o object) refl
      (λ e. let (a, b) = both-are u o t object e in
      let x : bit (holds_write (set w.written (lock_slot t object) false) o u) ≡ 0 = ap bit (write-at object false (F.is-lock refl) a b) in
      let y : bit (holds_write w.written o u) ≡ 1 = ap bit (write-was object _ a b (F.turns_down refl)) in omega arith)
      (λ e. ap bit (write-else object false (F.is-lock refl) h (not-both u o t object e))))
      (other-begins refl (at-end refl))

  -- read holds
  read_at : (object n : ℕ) → object < RWLOCKS → u ≡ t → o ≡ object → reads_of (set w.reads (lock_slot t object) n) o u ≡ n
  read_at object n h e q = rw (e, q) (reads-own w.reads t object n shaped.reads is-thread h)

  read-else :
      (object n : ℕ) → object < RWLOCKS → o < RWLOCKS → (u ≡ t → o ≡ object → ⊥) →
      reads_of (set w.reads (lock_slot t object) n) o u ≡ reads_of w.reads o u
  read-else object n h i q = reads_other w.reads t object n shaped.reads is-thread h u o is-other i q

  found : (object : ℕ) → u ≡ t → o ≡ object → reads_of w.reads o u ≡ reads_of w.reads object t
  found object e q = rw (e, q)

  read-leads :
      (hold : Hold) (object : ℕ) → Finds w t hold object → o < RWLOCKS →
      Leads for-reading u o (reads_of w.reads o u) (marks_of hold t object) (reads_of (reads_new w.reads t object hold) o u)
  unfolding marks_of held_kind reads_of
  read-leads H.Same object F h = at-end (ap (λ (l : List ℕ). reads_of l o u) (set-get_or w.reads (lock_slot t object) 0))
  read-leads H.TakeMutex object F h = other-begins refl (at-end (ap (λ (l : List ℕ). reads_of l o u) (set-get_or w.reads (lock_slot t object) 0)))
  read-leads H.FreeMutex object F h = other-ends refl (at-end (ap (λ (l : List ℕ). reads_of l o u) (set-get_or w.reads (lock_slot t object) 0)))
  read-leads H.TakeRead object F h =
      one-begins for-reading u o t object _ _ (eqb u t && eqb o object) refl
      (λ e. let (a, b) = both-are u o t object e in
      read_at object _ (F.is-lock refl) a b ∙ (F.takes-read refl ∙ ap (λ (x : ℕ). x + 1) (sym (found object a b))))
      (λ e. read-else object _ (F.is-lock refl) h (not-both u o t object e))
  read-leads H.FreeRead object F h =
      one-ends for-reading u o t object _ _ (eqb u t && eqb o object) refl
      (λ e. let (a, b) = both-are u o t object e in
      found object a b ∙ (F.frees-read refl ∙ ap (λ (x : ℕ). x + 1) (sym (read_at object _ (F.is-lock refl) a b))))
      (λ e. read-else object _ (F.is-lock refl) h (not-both u o t object e))
  read-leads H.TakeWrite object F h = other-begins refl (at-end (ap (λ (l : List ℕ). reads_of l o u) (set-get_or w.reads (lock_slot t object) 0)))
  read-leads H.FreeWrite object F h = other-ends refl (at-end (ap (λ (l : List ℕ). reads_of l o u) (set-get_or w.reads (lock_slot t object) 0)))
  read-leads H.Downgrade object F h =
      other-ends refl (one-begins for-reading u o t object _ _ (eqb u t && eqb o object) refl
      (λ e. let (a, b) = both-are u o t object e in
      read_at object _ (F.is-lock refl) a b ∙ (F.turns-read refl ∙ ap (λ (x : ℕ). x + 1) (sym (found object a b))))
      (λ e. read-else object _ (F.is-lock refl) h (not-both u o t object e)))

-- a step
pub step-leads :
    (w : World) (t : ℕ) (f : Bool) (r : Acted) → sound_world w ≡ true → Shaped w → word_next w t < WORDS →
    Stepped w t (word_next w t) (woken_at w t f) (plan_at w t f) r → (what : What) (u o : ℕ) → u < THREADS → o < objects what →
    Leads what u o (held_in w what u o) (marks_of (plan_at w t f).hold t (plan_at w t f).object) (held_in r.world what u o)
unfolding held_in
step-leads w t f r e s within S of-mutex u o h i =
    subst (λ (l : List Bool). Leads of-mutex u o (bit (holds_mutex w.locked o u)) (marks_of (plan_at w t f).hold t (plan_at w t f).object) (bit (holds_mutex l o u))) (sym S.locked)
    (mutex-leads w s t u o (word-thread w t s within) h (plan_at w t f).hold (plan_at w t f).object (finds w t f e s within) i)
step-leads w t f r e s within S for-writing u o h i =
    subst (λ (l : List Bool). Leads for-writing u o (bit (holds_write w.written o u)) (marks_of (plan_at w t f).hold t (plan_at w t f).object) (bit (holds_write l o u))) (sym S.written)
    (write-leads w s t u o (word-thread w t s within) h (plan_at w t f).hold (plan_at w t f).object (finds w t f e s within) i)
step-leads w t f r e s within S for-reading u o h i =
    subst (λ (l : List ℕ). Leads for-reading u o (reads_of w.reads o u) (marks_of (plan_at w t f).hold t (plan_at w t f).object) (reads_of l o u)) (sym S.reads)
    (read-leads w s t u o (word-thread w t s within) h (plan_at w t f).hold (plan_at w t f).object (finds w t f e s within) i)
