-- The worlds that set acts alone make of a fresh one are exactly the sound worlds of the code's sizes that have not started: such a world is
-- made by setting one word after another. Assumes nothing.
use mathlib.Core.Path.{◌≡◌, refl, sym, ap, ◌∙◌}
use mathlib.Core.Bool.{true, false}
use mathlib.Core.List.{List, [], ◌∷◌, ◌++◌, append-nil}
use Prim.Native.Nat.{ℕ, zero, suc, ◌+◌, ◌^◌, ◌≤◌, ◌<◌}
use native.Mathlib.Nat.{add-suc}
use native.Mathlib.Omega.{arith}
use lib.Dec.{eqb}
use lib.ListN.{length, get_or, set, take, drop}
use lib.Seq.{take-length, drop-length}
use borrow.Author.Tests.{eqb-true, lt-ltb, le-leb}
use Rattle.words.specs.Once.{INCOMPLETE, COMPLETE}
use Rattle.words.specs.RwLock.{MAX_READERS}
use Rattle.words.specs.declared.Kind.{Kind}
use Rattle.words.specs.declared.Kind.TheVariants as K
use Rattle.queue.specs.Row.{THREADS}
use Rattle.calls.specs.declared.Event.TheVariants as E
use Rattle.calls.specs.Objects.{MUTEXES, RWLOCKS, CONDVARS, ONCES, WORDS, size_of, base_of, word_of}
use Rattle.calls.proofs.Objects.{within}
use Rattle.world.specs.declared.World.{World}
use Rattle.world.specs.World.{fresh_world}
use Rattle.sound.specs.Sound.{word_for, once_is_set, onces_are_set, sound_world}
use Rattle.sound.proofs.Ranges.{all-at}
use Rattle.acts.specs.declared.Fields.{Fields}
use Rattle.acts.specs.Refusals.{SET, choices_of, set_unnamed_zero, unnamed_zero, set_exists, object_exists, thread_exists, fields_refusal, set_refusal, world_refusal}
use Rattle.acts.specs.Acts.{set_world, set_of, accepted_of, acted_of, act_of, acts_of, Sized, no-act, one-act}
use Rattle.acts.proofs.Laws.{sound-acts}
use Rattle.kept.specs.Shape.{Shaped}
use Rattle.kept.proofs.Shape.{fresh-shaped}
use Rattle.kept.proofs.Tests.{or_cases}
use Rattle.keeps_counts.proofs.Sets.{Alone, LockUnheld, lock-unheld}
use Rattle.keeps_counts.proofs.Words.{word-is}
use Rattle.claims.specs.Claims.{SetsOnly, no-set, one_set, MadeBySets, EverySetWorld}
use Rattle.claims.proofs.SetsKeep.{made_so}
use Rattle.claims.proofs.SetsRest.{rest_with, mutex-rests, parker-rests, fresh-alone, fresh-once, is-alone, at_rest}

-- what is so at the start and goes on to the next number is so at the end
upward : (P : ℕ → Type 0) (n : ℕ) → P 0 → ((i : ℕ) → i < n → P i → P (suc i)) → P n
upward P zero start next = start
upward P (suc n) start next = next n (omega arith) (upward P n start (λ i h. next i (omega arith)))

-- the first k elements of one list before the rest of another: one more element is a store, or nothing where both lists have it
module _ {X : Type 0} where
  unfoldable joined : List X → List X → ℕ → List X
  joined new old k = take k new ++ drop k old

  joined-next :
      (new old : List X) (d : X) (k : ℕ) → k < length new → k < length old →
      joined new old (suc k) ≡ set (joined new old k) k (get_or new k d)
  unfolding joined
  joined-next [] old d k h l = absurd (omega arith)
  joined-next (x ∷ new) [] d k h l = absurd (omega arith)
  joined-next (x ∷ new) (y ∷ old) d zero h l = refl
  joined-next (x ∷ new) (y ∷ old) d (suc k) h l = ap (λ (r : List X). x ∷ r) (joined-next new old d k (omega arith) (omega arith))

  joined_same :
      (new old : List X) (d : X) (k : ℕ) → k < length new → k < length old → get_or new k d ≡ get_or old k d →
      joined new old (suc k) ≡ joined new old k
  unfolding joined
  joined_same [] old d k h l e = absurd (omega arith)
  joined_same (x ∷ new) [] d k h l e = absurd (omega arith)
  joined_same (x ∷ new) (y ∷ old) d zero h l e = ap (λ (z : X). z ∷ old) e
  joined_same (x ∷ new) (y ∷ old) d (suc k) h l e = ap (λ (r : List X). x ∷ r) (joined_same new old d k (omega arith) (omega arith) e)

  joined-all : (new old : List X) (n : ℕ) → length new ≡ n → length old ≡ n → joined new old n ≡ new
  unfolding joined
  joined-all new old n e f = rw (← e, take-length new, e, ← f, drop-length old) (append-nil new)

-- one more set act
sized-more : {acts : List Fields} (a : Fields) → Sized acts → a.value < 2 ^ 32 → Sized (acts ++ (a ∷ []))
sized-more a no-act h = one-act h no-act
sized-more a (one-act k rest) h = one-act k (sized-more a rest h)

sets_more : {w : World} {acts : List Fields} (a : Fields) → SetsOnly w acts → (act_of (acts_of w acts) a).event ≡ E.Set → SetsOnly w (acts ++ (a ∷ []))
unfolding acts_of
sets_more a no-set e = one_set e no-set
sets_more a (one_set f rest) e = one_set f (sets_more a rest e)

acts-more : (w : World) (acts : List Fields) (a : Fields) → acts_of w (acts ++ (a ∷ [])) ≡ (act_of (acts_of w acts) a).world
unfolding acts_of
acts-more w [] a = refl
acts-more w (b ∷ acts) a = acts-more (act_of w b).world acts a

made_more : (w : World) (a : Fields) → MadeBySets w → a.value < 2 ^ 32 → (act_of w a).event ≡ E.Set → MadeBySets (act_of w a).world
made_more w a m h e = record {
  acts = m.acts ++ (a ∷ []);
  sized = sized-more a m.sized h;
  sets = sets_more a m.sets (rw m.makes e);
  makes = acts-more fresh_world m.acts a ∙ ap (λ (v : World). (act_of v a).world) m.makes;
}

-- a set act that nothing refuses
abbrev setting : ℕ → ℕ → ℕ → Fields
setting choice object value = record { act = SET; choice = choice; thread = 0; object = object; value = value }

made-set :
    (w : World) (choice object value : ℕ) → MadeBySets w → value < 2 ^ 32 → fields_refusal (setting choice object value) ≡ 0 →
    set_refusal w choice value ≡ 0 → MadeBySets (set_world w choice object value)
unfolding world_refusal acted_of accepted_of set_of
made-set w choice object value m h f q =
    let e : act_of w (setting choice object value) ≡ set_of w choice object value =
    sound-acts w (setting choice object value) (made_so w m).1.0 ∙ rw (f, q) in
    rw e at (made_more w (setting choice object value) m h (rw e))

-- each of the four set acts, in a world at rest
module _ (words forgotten : List ℕ) (object value : ℕ) (made : MadeBySets (rest_with words forgotten)) where
  set-forgotten : object < RWLOCKS → value ≤ MAX_READERS → MadeBySets (rest_with (set words (word_of K.RwLock object) value) (set forgotten object value))
  unfolding fields_refusal choices_of thread_exists unnamed_zero set_unnamed_zero object_exists set_exists set_refusal set_world
  set-forgotten h l =
      made-set (rest_with words forgotten) 0 object value made (omega arith) (rw (lt-ltb object RWLOCKS h)) (rw (le-leb value MAX_READERS l))

  set-notify : object < RWLOCKS → value < 2 ^ 32 → MadeBySets (rest_with (set words (word_of K.WriterNotify object) value) forgotten)
  unfolding fields_refusal choices_of thread_exists unnamed_zero set_unnamed_zero object_exists set_exists set_refusal set_world
  set-notify h l = made-set (rest_with words forgotten) 1 object value made l (rw (lt-ltb object RWLOCKS h)) refl

  set-condvar : object < CONDVARS → value < 2 ^ 32 → MadeBySets (rest_with (set words (word_of K.Condvar object) value) forgotten)
  unfolding fields_refusal choices_of thread_exists unnamed_zero set_unnamed_zero object_exists set_exists set_refusal set_world
  set-condvar h l = made-set (rest_with words forgotten) 2 object value made l (rw (lt-ltb object CONDVARS h)) refl

  set-once : object < ONCES → MadeBySets (rest_with (set words (word_of K.Once object) COMPLETE) forgotten)
  unfolding fields_refusal choices_of thread_exists unnamed_zero set_unnamed_zero object_exists set_exists set_refusal set_world
  set-once h = made-set (rest_with words forgotten) 3 object 0 made (omega arith) (rw (lt-ltb object ONCES h)) refl

-- a sound world that has not started, made so: its words are set in their order, k of them so far, and n forgotten reads
module _ (w : World) (shaped : Shaped w) (sound : sound_world w ≡ true) (unstarted : w.started ≡ false) where
  alone : Alone w
  alone = is-alone w sound unstarted

  Stage : ℕ → ℕ → Type 0
  Stage k n = MadeBySets (rest_with (joined w.words fresh_world.words k) (joined w.forgotten fresh_world.forgotten n))

  start : Stage 0 0
  unfolding Stage joined fresh_world acts_of
  start = record { acts = []; sized = no-act; sets = no-set; makes = refl }

  module _ (kind : Kind) (o : ℕ) (is : o < size_of kind) where
    word_next :
        joined w.words fresh_world.words (base_of kind + suc o)
        ≡ set (joined w.words fresh_world.words (base_of kind + o)) (word_of kind o) (word_for w.words kind o)
    unfolding word_for
    word_next =
        let there : base_of kind + size_of kind ≤ WORDS = within kind in
        rw (add-suc, word-is kind o is)
        (joined-next w.words fresh_world.words 0 (base_of kind + o) (omega (arith, shaped.words)) (omega (arith, fresh-shaped.words)))

    -- a word that is as in a fresh world
    word_kept :
        (n : ℕ) → word_for w.words kind o ≡ word_for fresh_world.words kind o → Stage (base_of kind + o) n → Stage (base_of kind + suc o) n
    unfolding Stage word_for
    word_kept n e made =
        let there : base_of kind + size_of kind ≤ WORDS = within kind in
        rw (
          add-suc,
          joined_same w.words fresh_world.words 0 (base_of kind + o) (omega (arith, shaped.words)) (omega (arith, fresh-shaped.words))
              (rw (word-is kind o is) at e),
        ) made

  mutex-next : (o : ℕ) → o < MUTEXES → Stage (base_of K.Mutex + o) 0 → Stage (base_of K.Mutex + suc o) 0
  mutex-next o h made = word_kept K.Mutex o h 0 ((mutex-rests w alone o h).0 ∙ sym (mutex-rests fresh_world fresh-alone o h).0) made

  -- a lock's state goes with its forgotten reads
  lock-next : (o : ℕ) → o < RWLOCKS → Stage (base_of K.RwLock + o) o → Stage (base_of K.RwLock + suc o) (suc o)
  unfolding Stage LockUnheld
  lock-next o h made =
      let rests = lock-unheld w o alone h in
      rw (
        word_next K.RwLock o h,
        rests.is_state,
        joined-next w.forgotten fresh_world.forgotten 0 o (omega (arith, shaped.forgotten)) (omega (arith, fresh-shaped.forgotten)),
      )
      (set-forgotten (joined w.words fresh_world.words (base_of K.RwLock + o)) (joined w.forgotten fresh_world.forgotten o) o
      (get_or w.forgotten o 0) made h rests.bounded)

  notify-next : (o : ℕ) → o < RWLOCKS → Stage (base_of K.WriterNotify + o) RWLOCKS → Stage (base_of K.WriterNotify + suc o) RWLOCKS
  unfolding Stage word_for
  notify-next o h made =
      rw (word_next K.WriterNotify o h)
      (set-notify (joined w.words fresh_world.words (base_of K.WriterNotify + o)) (joined w.forgotten fresh_world.forgotten RWLOCKS) o
      (word_for w.words K.WriterNotify o) made h (shaped.wide (word_of K.WriterNotify o)))

  condvar-next : (o : ℕ) → o < CONDVARS → Stage (base_of K.Condvar + o) RWLOCKS → Stage (base_of K.Condvar + suc o) RWLOCKS
  unfolding Stage word_for
  condvar-next o h made =
      rw (word_next K.Condvar o h)
      (set-condvar (joined w.words fresh_world.words (base_of K.Condvar + o)) (joined w.forgotten fresh_world.forgotten RWLOCKS) o
      (word_for w.words K.Condvar o) made h (shaped.wide (word_of K.Condvar o)))

  -- a Once that is INCOMPLETE is left, one that is COMPLETE is set
  once-next : (o : ℕ) → o < ONCES → Stage (base_of K.Once + o) RWLOCKS → Stage (base_of K.Once + suc o) RWLOCKS
  unfolding Stage onces_are_set once_is_set
  once-next o h made =
      or_cases (eqb (word_for w.words K.Once o) INCOMPLETE) (eqb (word_for w.words K.Once o) COMPLETE) (Stage (base_of K.Once + suc o) RWLOCKS)
      (all-at (once_is_set w.words) ONCES o alone.onces h)
      (λ e. word_kept K.Once o h RWLOCKS (eqb-true (word_for w.words K.Once o) INCOMPLETE e ∙ sym (fresh-once o h)) made)
      (λ e. rw (word_next K.Once o h, eqb-true (word_for w.words K.Once o) COMPLETE e)
      (set-once (joined w.words fresh_world.words (base_of K.Once + o)) (joined w.forgotten fresh_world.forgotten RWLOCKS) o 0 made h))

  parker-next : (t : ℕ) → t < THREADS → Stage (base_of K.Parker + t) RWLOCKS → Stage (base_of K.Parker + suc t) RWLOCKS
  parker-next t h made =
      word_kept K.Parker t h RWLOCKS (parker-rests w alone t h ∙ sym (parker-rests fresh_world fresh-alone t h)) made

  -- one kind after another, each object in turn
  all-stages : Stage WORDS RWLOCKS
  all-stages =
      let mutexes : Stage MUTEXES 0 = upward (λ (o : ℕ). Stage (base_of K.Mutex + o) 0) MUTEXES start mutex-next in
      let locks : Stage (base_of K.WriterNotify) RWLOCKS = upward (λ (o : ℕ). Stage (base_of K.RwLock + o) o) RWLOCKS mutexes lock-next in
      let notifies : Stage (base_of K.Condvar) RWLOCKS = upward (λ (o : ℕ). Stage (base_of K.WriterNotify + o) RWLOCKS) RWLOCKS locks notify-next in
      let condvars : Stage (base_of K.Once) RWLOCKS = upward (λ (o : ℕ). Stage (base_of K.Condvar + o) RWLOCKS) CONDVARS notifies condvar-next in
      let onces : Stage (base_of K.Parker) RWLOCKS = upward (λ (o : ℕ). Stage (base_of K.Once + o) RWLOCKS) ONCES condvars once-next in
      upward (λ (t : ℕ). Stage (base_of K.Parker + t) RWLOCKS) THREADS onces parker-next

  made-of-sets : MadeBySets w
  unfolding Stage
  made-of-sets =
      rw (
        joined-all w.words fresh_world.words WORDS shaped.words fresh-shaped.words,
        joined-all w.forgotten fresh_world.forgotten RWLOCKS shaped.forgotten fresh-shaped.forgotten,
        at_rest w shaped sound unstarted,
      ) at all-stages

pub every-set-world : EverySetWorld
every-set-world w = (made_so w, λ s. made-of-sets w s.0 s.1.0 s.1.1)
