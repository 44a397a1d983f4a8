-- After any list of acts from a fresh world the tables of holds are those that the history tells, nothing in the history ends that had not
-- begun, and every entry names what exists. Assumes nothing.
use mathlib.Core.Path.{◌≡◌, refl, sym, ap, ◌∙◌, subst}
use mathlib.Core.Bool.{Bool, true, false, cond}
use mathlib.Core.List.{List, [], ◌∷◌, ◌++◌}
use Prim.Native.Nat.{ℕ, ◌≤◌, ◌<◌}
use native.Mathlib.Omega.{arith}
use lib.Dec.{eqb, ltb}
use lib.ListN.{get_or, set, take, get_or-replicate}
use lib.Seq.{get_or-set_same, get_or-set_other}
use borrow.Author.Tests.{eqb-true, eqb-false, ltb-true, ltb-false}
use Rattle.words.specs.declared.Hold.{Hold}
use Rattle.words.specs.declared.Hold.TheVariants as H
use Rattle.queue.specs.Row.{THREADS}
use Rattle.calls.specs.Objects.{RWLOCKS}
use Rattle.world.specs.declared.World.{World}
use Rattle.world.specs.World.{fresh_world}
use Rattle.world.specs.Holds.{MUTEXHOLDS, LOCKHOLDS, mutex_slot, lock_slot, holds_mutex, holds_write, reads_of}
use Rattle.step.specs.declared.Acted.{Acted}
use Rattle.sound.specs.Sound.{sound_world}
use Rattle.sound.proofs.Holds.{mutex-slot-below, lock-slot-below}
use Rattle.sound.proofs.Examples.{fresh-sound}
use Rattle.acts.specs.declared.Fields.{Fields}
use Rattle.acts.specs.Acts.{act_of, acts_of, Sized, no-act, one-act}
use Rattle.kept.specs.Shape.{Shaped}
use Rattle.kept.proofs.Shape.{fresh-shaped}
use Rattle.keeps.proofs.Keeps.{act-sound, act-shaped}
use Rattle.local.specs.Part.{plan_at}
use Rattle.local.proofs.Frame.{word-thread}
use Rattle.local.proofs.Happened.{happened}
use Rattle.claims.specs.Claims.{What, of-mutex, for-writing, for-reading, Mark, ends, forgets, answer_marks, history_from, history, reached, begun, ended, held, forgotten_from, objects, TablesTold}
use Rattle.claims.proofs.Marks.{marks_of}
use Rattle.claims.proofs.Leads.{leads-on, Leads, at-end, one-forgets, leads-below, leads-held, leads-end}
use Rattle.claims.proofs.Finds.{finds}
use Rattle.claims.proofs.Tables.{bit, held_in, step-leads}
use Rattle.claims.proofs.Named.{AllNamed, no-entry, one_entry, named-append, named-take, named-at, marks-named, unnamed-none}
use Rattle.claims.proofs.Gave.{SameHolds, Gave, gave-nothing, gave-forgotten, gave-step, gave}

same-held : (w v : World) → SameHolds w v → (what : What) (t object : ℕ) → held_in v what t object ≡ held_in w what t object
unfolding held_in
same-held w v s of-mutex t object = ap (λ (l : List Bool). bit (holds_mutex l object t)) s.same-locked
same-held w v s for-writing t object = ap (λ (l : List Bool). bit (holds_write l object t)) s.same-written
same-held w v s for-reading t object = ap (λ (l : List ℕ). reads_of l object t) s.same_reads

-- one act
act-leads :
    (w : World) (r : Acted) (h : List Mark) → sound_world w ≡ true → Shaped w → Gave w r h →
    (what : What) (t object : ℕ) → t < THREADS → object < objects what →
    Leads what t object (held_in w what t object) h (held_in r.world what t object)
act-leads w r h e s (gave-nothing k f) what t object i j = at-end (same-held w r.world k what t object)
act-leads w r h e s (gave-forgotten k f l m) what t object i j = one-forgets (at-end (same-held w r.world k what t object))
act-leads w r h e s (gave-step u f within S) what t object i j = step-leads w u f r e s within S what t object i j

-- a list of acts
acts-lead :
    (w : World) (acts : List Fields) → sound_world w ≡ true → Shaped w → Sized acts → (what : What) (t object : ℕ) → t < THREADS → object < objects what →
    Leads what t object (held_in w what t object) (history_from w acts) (held_in (acts_of w acts) what t object)
unfolding acts_of history_from
acts-lead w [] e s no-act what t object i j = at-end refl
acts-lead w (a ∷ acts) e s (one-act l r) what t object i j =
    leads-on what t object _ (held_in (act_of w a).world what t object) _ (answer_marks w a (act_of w a).event) (history_from (act_of w a).world acts)
    (act-leads w (act_of w a) (answer_marks w a (act_of w a).event) e s (gave w a (act_of w a) (happened w a e s)) what t object i j)
    (acts-lead (act_of w a).world acts (act-sound w a e s l) (act-shaped w a s l) r what t object i j)

-- every entry names what exists
act-named : (w : World) (r : Acted) (h : List Mark) → sound_world w ≡ true → Shaped w → Gave w r h → AllNamed h
act-named w r h e s (gave-nothing k f) = no-entry
act-named w r h e s (gave-forgotten {lock = lock} {value = value} k f l m) = one_entry (forgets lock value) (l, m) no-entry
act-named w r h e s (gave-step t f within S) =
    let F = finds w t f e s within in
    marks-named (plan_at w t f).hold t (plan_at w t f).object (word-thread w t s within) F.is-mutex F.is-lock

acts-named : (w : World) (acts : List Fields) → sound_world w ≡ true → Shaped w → Sized acts → AllNamed (history_from w acts)
unfolding history_from
acts-named w [] e s no-act = no-entry
acts-named w (a ∷ acts) e s (one-act l r) =
    named-append (answer_marks w a (act_of w a).event) (history_from (act_of w a).world acts)
    (act-named w (act_of w a) (answer_marks w a (act_of w a).event) e s (gave w a (act_of w a) (happened w a e s)))
    (acts-named (act_of w a).world acts (act-sound w a e s l) (act-shaped w a s l) r)

-- in a fresh world nothing is held
fresh-held : (what : What) (t object : ℕ) → held_in fresh_world what t object ≡ 0
unfolding held_in holds_mutex holds_write reads_of fresh_world
fresh-held of-mutex t object = ap bit (get_or-replicate MUTEXHOLDS (mutex_slot t object) false false (mutex-slot-below t object))
fresh-held for-writing t object = ap bit (get_or-replicate LOCKHOLDS (lock_slot t object) false false (lock-slot-below t object))
fresh-held for-reading t object = get_or-replicate LOCKHOLDS (lock_slot t object) 0 0 (lock-slot-below t object)

-- forgotten reads: what was set last
act-forgotten :
    (w : World) (r : Acted) (h : List Mark) → Shaped w → Gave w r h → (lock : ℕ) → lock < RWLOCKS →
    (n : ℕ) → get_or w.forgotten lock 0 ≡ n → (rest : List Mark) →
    forgotten_from lock n (h ++ rest) ≡ forgotten_from lock (get_or r.world.forgotten lock 0) rest
unfolding forgotten_from marks_of
act-forgotten w r h s (gave-nothing k f) lock i n e rest =
    ap (λ (x : ℕ). forgotten_from lock x rest) (sym e ∙ ap (λ (l : List ℕ). get_or l lock 0) (sym f))
act-forgotten w r h s (gave-forgotten {lock = number} {value = value} k f l m) lock i n e rest = ap (λ (x : ℕ). forgotten_from lock x rest) (by (eqb lock number) refl)
  where
    by : (c : Bool) → eqb lock number ≡ c → cond c value n ≡ get_or r.world.forgotten lock 0
    by true q =
        let z : lock ≡ number = eqb-true lock number q in
        sym (ap (λ (x : List ℕ). get_or x lock 0) f ∙
        (ap (λ (x : ℕ). get_or (set w.forgotten number value) x 0) z ∙
        get_or-set_same w.forgotten number value 0 (rw s.forgotten l)))
    by false q =
        sym (ap (λ (x : List ℕ). get_or x lock 0) f ∙ (get_or-set_other w.forgotten number lock value 0 (eqb-false lock number q) ∙ e))
act-forgotten w r h s (gave-step t f within S) lock i n e rest =
    by (plan_at w t f).hold ∙ ap (λ (x : ℕ). forgotten_from lock x rest) (sym e ∙ ap (λ (l : List ℕ). get_or l lock 0) (sym S.frame.same-forgotten))
  where
    by : (hold : Hold) → forgotten_from lock n (marks_of hold t (plan_at w t f).object ++ rest) ≡ forgotten_from lock n rest
    by H.Same = refl
    by H.TakeMutex = refl
    by H.FreeMutex = refl
    by H.TakeRead = refl
    by H.FreeRead = refl
    by H.TakeWrite = refl
    by H.FreeWrite = refl
    by H.Downgrade = refl

acts-forgotten :
    (w : World) (acts : List Fields) → sound_world w ≡ true → Shaped w → Sized acts → (lock : ℕ) → lock < RWLOCKS →
    forgotten_from lock (get_or w.forgotten lock 0) (history_from w acts) ≡ get_or (acts_of w acts).forgotten lock 0
unfolding acts_of history_from forgotten_from
acts-forgotten w [] e s no-act lock i = refl
acts-forgotten w (a ∷ acts) e s (one-act l r) lock i =
    act-forgotten w (act_of w a) (answer_marks w a (act_of w a).event) s (gave w a (act_of w a) (happened w a e s)) lock i
    (get_or w.forgotten lock 0) refl (history_from (act_of w a).world acts) ∙
    acts-forgotten (act_of w a).world acts (act-sound w a e s l) (act-shaped w a s l) r lock i

-- after any list of acts from a fresh world
module _ (acts : List Fields) (sized : Sized acts) where
  module _ (what : What) (t object : ℕ) (is-thread : t < THREADS) (is-object : object < objects what) where
    from_nothing : Leads what t object 0 (history acts) (held_in (reached acts) what t object)
    from_nothing =
        subst (λ (n : ℕ). Leads what t object n (history acts) (held_in (reached acts) what t object))
        (fresh-held what t object) (acts-lead fresh_world acts fresh-sound fresh-shaped sized what t object is-thread is-object)

    -- the table's entry is how often the hold began less how often it ended
    pub table-told : held_in (reached acts) what t object ≡ held what t object (history acts)
    table-told = sym (leads-held what t object _ (history acts) from_nothing)

    -- in each first part of the history at least as many begin as end
    begun-before : (n : ℕ) → ended what t object (take n (history acts)) ≤ begun what t object (take n (history acts))
    begun-before n = omega (arith, leads-below what t object 0 (held_in (reached acts) what t object) (history acts) from_nothing n)

    -- each end in it is of a hold that is held then
    held-before : (before after : List Mark) → history acts ≡ before ++ (ends what t object ∷ after) → 0 < held what t object before
    unfolding held
    held-before before after e =
        let d : Leads what t object 0 (before ++ (ends what t object ∷ after)) (held_in (reached acts) what t object) =
        subst (λ (h : List Mark). Leads what t object 0 h (held_in (reached acts) what t object)) e from_nothing in
        omega (arith, leads-end what t object 0 (held_in (reached acts) what t object) before after d)

  all_named : AllNamed (history acts)
  all_named = acts-named fresh_world acts fresh-sound fresh-shaped sized

  pub forgotten-told : (lock : ℕ) → lock < RWLOCKS → get_or (reached acts).forgotten lock 0 ≡ forgotten_from lock 0 (history acts)
  unfolding fresh_world
  forgotten-told lock h =
      sym (ap (λ (n : ℕ). forgotten_from lock n (history acts)) (sym (get_or-replicate RWLOCKS lock 0 0 h)) ∙
      acts-forgotten fresh_world acts fresh-sound fresh-shaped sized lock h)

  -- an end names a thread and an object that exist; a hold that no entry names does not end
  ends-begun : (what : What) (t object n : ℕ) → ended what t object (take n (history acts)) ≤ begun what t object (take n (history acts))
  ends-begun what t object n = by (ltb t THREADS) refl (ltb object (objects what)) refl
    where
      none : ((t < THREADS) × (object < objects what) → ⊥) → ended what t object (take n (history acts)) ≤ begun what t object (take n (history acts))
      none k = omega (arith, unnamed-none what t object (take n (history acts)) (named-take n (history acts) all_named) k)

      by :
          (c : Bool) → ltb t THREADS ≡ c → (d : Bool) → ltb object (objects what) ≡ d →
          ended what t object (take n (history acts)) ≤ begun what t object (take n (history acts))
      by true e true q = begun-before what t object (ltb-true t THREADS e) (ltb-true object (objects what) q) n
      by true e false q = none (λ k. let z : objects what ≤ object = ltb-false object (objects what) q in omega (arith, k.1))
      by false e d q = none (λ k. let z : THREADS ≤ t = ltb-false t THREADS e in omega (arith, k.0))

  -- 2. the tables are the history's
  pub tables-told : TablesTold (reached acts) (history acts)
  unfolding held_in
  tables-told = record {
    mutexes = λ t mutex h i. table-told of-mutex t mutex h i;
    writes = λ t lock h i. table-told for-writing t lock h i;
    reads = λ t lock h i. table-told for-reading t lock h i;
    forgotten = forgotten-told;
    ends_held = λ what t object before after e.
        let n = named-at before after (ends what t object) (subst AllNamed e all_named) in
        held-before what t object n.0 n.1 before after e;
    ends-begun = ends-begun;
    named = λ x before after e. named-at before after x (subst AllNamed e all_named);
  }
