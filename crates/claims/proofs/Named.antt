-- Entries that name threads and objects that exist; and what is not named neither begins nor ends. Assumes nothing.
use mathlib.Core.Path.{◌≡◌, refl}
use mathlib.Core.Bool.{Bool, true, false, cond, ◌&&◌}
use mathlib.Core.List.{List, [], ◌∷◌, ◌++◌}
use Prim.Native.Nat.{ℕ, zero, suc, ◌+◌, ◌<◌}
use native.Mathlib.Omega.{arith}
use lib.Dec.{eqb}
use lib.ListN.{take}
use borrow.Author.Tests.{eqb-true}
use Rattle.words.specs.declared.Hold.{Hold}
use Rattle.words.specs.declared.Hold.TheVariants as H
use Rattle.words.specs.declared.Kind.TheVariants as K
use Rattle.queue.specs.Row.{THREADS}
use Rattle.calls.specs.Objects.{MUTEXES, RWLOCKS}
use Rattle.kept.specs.Laws.{held_kind}
use Rattle.kept.proofs.Tests.{no_way, and_left, and_right}
use Rattle.claims.specs.Claims.{What, of-mutex, for-writing, for-reading, Mark, begins, ends, forgets, is_same, same_hold, ended, objects, Names}
use Rattle.claims.proofs.Marks.{marks_of}

pub data AllNamed : List Mark → Type 0 where
  no-entry : AllNamed []
  one_entry : (x : Mark) {h : List Mark} → Names x → AllNamed h → AllNamed (x ∷ h)

pub named-append : (g h : List Mark) → AllNamed g → AllNamed h → AllNamed (g ++ h)
named-append [] h no-entry m = m
named-append (x ∷ g) h (one_entry y n l) m = one_entry y n (named-append g h l m)

pub named-take : (n : ℕ) (h : List Mark) → AllNamed h → AllNamed (take n h)
named-take zero h m = no-entry
named-take (suc n) [] m = no-entry
named-take (suc n) (x ∷ h) (one_entry y k m) = one_entry y k (named-take n h m)

-- an entry wherever it stands
pub named-at : (before after : List Mark) (x : Mark) → AllNamed (before ++ (x ∷ after)) → Names x
named-at [] after x (one_entry y n m) = n
named-at (y ∷ before) after x (one_entry z n m) = named-at before after x m

-- the entries of a change of holds
pub marks-named :
    (hold : Hold) (t object : ℕ) → t < THREADS → (held_kind hold ≡ K.Mutex → object < MUTEXES) → (held_kind hold ≡ K.RwLock → object < RWLOCKS) →
    AllNamed (marks_of hold t object)
unfolding marks_of held_kind
marks-named H.Same t object h m l = no-entry
marks-named H.TakeMutex t object h m l = one_entry (begins of-mutex t object) (h, m refl) no-entry
marks-named H.FreeMutex t object h m l = one_entry (ends of-mutex t object) (h, m refl) no-entry
marks-named H.TakeRead t object h m l = one_entry (begins for-reading t object) (h, l refl) no-entry
marks-named H.FreeRead t object h m l = one_entry (ends for-reading t object) (h, l refl) no-entry
marks-named H.TakeWrite t object h m l = one_entry (begins for-writing t object) (h, l refl) no-entry
marks-named H.FreeWrite t object h m l = one_entry (ends for-writing t object) (h, l refl) no-entry
marks-named H.Downgrade t object h m l =
    one_entry (ends for-writing t object) (h, l refl) (one_entry (begins for-reading t object) (h, l refl) no-entry)

-- who names one hold names its thread and its object
same-objects : (what kind : What) → is_same what kind ≡ true → objects what ≡ objects kind
same-objects of-mutex of-mutex e = refl
same-objects of-mutex for-writing e = no_way e
same-objects of-mutex for-reading e = no_way e
same-objects for-writing of-mutex e = no_way e
same-objects for-writing for-writing e = refl
same-objects for-writing for-reading e = no_way e
same-objects for-reading of-mutex e = no_way e
same-objects for-reading for-writing e = no_way e
same-objects for-reading for-reading e = refl

same-named :
    (what : What) (t object : ℕ) (kind : What) (u number : ℕ) → same_hold what t object kind u number ≡ true → u < THREADS → number < objects kind →
    (t < THREADS) × (object < objects what)
same-named what t object kind u number e h l =
    let a : is_same what kind ≡ true = and_left (is_same what kind) (eqb t u && eqb object number) e in
    let b : (eqb t u && eqb object number) ≡ true = and_right (is_same what kind) (eqb t u && eqb object number) e in
    let p : t ≡ u = eqb-true t u (and_left (eqb t u) (eqb object number) b) in
    let q : object ≡ number = eqb-true object number (and_right (eqb t u) (eqb object number) b) in
    let o : objects what ≡ objects kind = same-objects what kind a in
    (omega arith, omega arith)

-- a hold that no entry names never ends
pub unnamed-none :
    (what : What) (t object : ℕ) (h : List Mark) → AllNamed h → ((t < THREADS) × (object < objects what) → ⊥) → ended what t object h ≡ 0
unfolding ended
unnamed-none what t object [] no-entry n = refl
unnamed-none what t object (begins kind u number ∷ h) (one_entry x k m) n = unnamed-none what t object h m n
unnamed-none what t object (ends kind u number ∷ h) (one_entry x k m) n =
    by (same_hold what t object kind u number) refl (unnamed-none what t object h m n)
  where
    by : (c : Bool) → same_hold what t object kind u number ≡ c → ended what t object h ≡ 0 → cond c 1 0 + ended what t object h ≡ 0
    by true e z = absurd (n (same-named what t object kind u number e k.0 k.1))
    by false e z = omega arith
unnamed-none what t object (forgets lock value ∷ h) (one_entry x k m) n = unnamed-none what t object h m n
