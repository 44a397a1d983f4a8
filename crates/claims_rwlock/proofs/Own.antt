-- A thread's own step on an RwLock keeps R0 to R5, given what counting says of the thread and what the wakes before it left.
-- Assumes nothing.
use mathlib.Core.Path.{◌≡◌, refl, sym, ap, ◌∙◌, subst}
use mathlib.Core.Logic.{◌⊎◌, inl, inr, ◌≢◌}
use mathlib.Core.Bool.{Bool, true, false, not, ◌&&◌, ◌||◌, cond}
use Prim.Native.Nat.{ℕ, zero, suc, ◌+◌, ◌-◌, ◌%◌, ◌^◌, ◌≤◌, ◌<◌}
use native.Mathlib.Omega.{arith}
use lib.Dec.{eqb}
use borrow.Author.Tests.{eqb-true, eqb-false}
use Rattle.words.specs.RwLock.{MASK, READERS_WAITING, WRITERS_WAITING, count, readers_waiting, writers_waiting, is_unlocked, has_readers_waiting, has_writers_waiting, read_unlocked, write_unlocked}
use Rattle.words.specs.Atomic.{wrapping_add}
use Rattle.words.proofs.Readings.{Reads as Has, count-le, readers-le, writers-le, word-is, read-unlocked, write-unlocked, downgrade, without-readers}
use Rattle.words.specs.declared.Hold.{Hold}
use Rattle.words.specs.declared.Hold.TheVariants as H
use Rattle.words.specs.declared.Wake.TheVariants as W
use Rattle.words.specs.declared.Next.{Next}
use Rattle.words.specs.declared.Next.TheVariants as Nx
use Rattle.words.specs.declared.Step.{Step}
use Rattle.words.specs.Steps.{ends}
use Rattle.rwlock.specs.declared.WriteAt.TheVariants as Wr
use Rattle.rwlock.specs.declared.WakeAt.TheVariants as Wk
use Rattle.rwlock.specs.declared.DowngradeAt.TheVariants as D
use Rattle.rwlock.specs.declared.RwLockAt.{RwLockAt}
use Rattle.rwlock.specs.declared.RwLockAt.TheVariants as A
use Rattle.rwlock.specs.RwLock.{wake_rest, wake_top, read_unlock_of, write_unlock_of}
use Rattle.kept.proofs.RwLockWords.{subtracted-wide}
use Rattle.words.proofs.Cond.{either}
use Rattle.kept.proofs.Tests.{no_way}
use Rattle.claims_rwlock.proofs.Codes.{outside, in_write, in_write_beside_others, at_write_wait, at_exchange_writers, at_exchange_both, at_notify, at_notify_both, at_wake_writer, at_wake_writer_both, at_exchange_readers, at_wake_readers, at_read_unlock, at_write_unlock, at_downgrade, at_subtract, at_read_wait}
use Rattle.claims_rwlock.proofs.Points.{Update, Some}
use Rattle.claims_rwlock.proofs.Moves.{LockView, Move, early-up, early-down, Place, Invariant, Reads, Keeps, Quiet, plain, to-read-wait, from-read-wait, writes-on, meets-others, beside-others, from-write-wait, to-write-wait, finds-both, finds-readers, writers-end, both_end, readers-end, up, down, stands, answers_readers, answers_writers, about_to_notify, reader_sleeps, writer_sleeps, Other, quiet_keeps, sleeps-reader, sleeps-writer, wakes-all, wakes-one, wakes-one-of, wakes-none, takes-read, sets-readers, takes_write, sets-writers, Onward, none-wait, writers-wait, both-wait, readers-wait, unlocks, read-leaves, downgrades-on, downgrades-off, subtracts, exchanges-writers, exchanges-both, exchanges-readers, alone, beside, notifies}
use Rattle.claims_rwlock.proofs.Did.{writing_code, code_of, next_code, stays_awake, BOTH, Did, d-quiet, d-takes-read, d-sets-readers, d-sleeps-reader, d-takes-write, d-sets-writers, d-sleeps-writer, d-frees-read, d-frees-write, d-downgrades, d-subtracts, d-exchanges-writers, d-exchanges-both, d-exchanges-readers, d-notifies, d-wakes-writer, d-wakes-readers, exactly, free-reads, readers-reads, writers-reads, both-reads}

-- a view of a lock whose state is w
pub record Sees (X : LockView) (w : ℕ) : Type 0 where
  pub count-seen : X.count ≡ count w
  pub readers-seen : X.readers ≡ readers_waiting w
  pub writers-seen : X.writers ≡ writers_waiting w

-- what counting says of a thread at p
pub record Counted (X : LockView) (w t : ℕ) (p : RwLockAt) : Type 0 where
  pub reader : p ≡ A.ReadUnlock → (0 < count w) × (count w < MASK) × ((u : ℕ) → stands at_subtract (X.of u) ≡ true → ⊥)
  pub writer : p ≡ A.WriteUnlock → count w ≡ MASK
  pub downer : p ≡ A.Downgrade D.Add → count w ≡ MASK
  pub alone-subtract : p ≡ A.Downgrade D.Subtract → (u : ℕ) → u ≢ t → stands at_subtract (X.of u) ≡ true → ⊥

-- what the wakes before the step left
pub record Woken (X : LockView) (t : ℕ) (found : Bool) (p : RwLockAt) : Type 0 where
  pub writers-paid : (b both : Bool) → p ≡ A.Wake b (Wk.WakeWriter both) → (u : ℕ) → writer_sleeps (X.of u) ≡ true → Other answers_writers X t
  pub readers-paid : (b both : Bool) → p ≡ A.Wake b (Wk.WakeWriter both) → found ≡ true → Other (answers_readers X.adds) X t
  pub all_paid : ((b : Bool) × (p ≡ A.Wake b Wk.WakeReaders)) ⊎ (p ≡ A.Downgrade D.WakeReaders) → (u : ℕ) → reader_sleeps (X.of u) ≡ true → ⊥

-- where a thread at p stands after a step
abbrev pub place_after : RwLockAt → Next RwLockAt → ℕ → Place
place_after p (Nx.Moved q) s = up (code_of q) s
place_after p Nx.Asleep s = down (code_of p) s
place_after p (Nx.Ended value) s = up outside s
place_after p (Nx.Panics number) s = up outside s
place_after p (Nx.Closure q) s = up (code_of q) s

pub after-awake : (p : RwLockAt) (x : Next RwLockAt) (s : ℕ) → stays_awake x ≡ true → place_after p x s ≡ up (next_code x) s
after-awake p (Nx.Moved q) s e = refl
after-awake p Nx.Asleep s e = no_way e
after-awake p (Nx.Ended value) s e = refl
after-awake p (Nx.Panics number) s e = refl
after-awake p (Nx.Closure q) s e = refl

-- how many notifications a step from a place is
abbrev pub adds_of : ℕ → ℕ
adds_of k = cond (eqb k at_notify || eqb k at_notify_both) 1 0

quiet-adds : {c r v k k' : ℕ} → Quiet c r v k k' → adds_of k ≡ 0
quiet-adds plain = refl
quiet-adds to-read-wait = refl
quiet-adds from-read-wait = refl
quiet-adds writes-on = refl
quiet-adds meets-others = refl
quiet-adds beside-others = refl
quiet-adds from-write-wait = refl
quiet-adds (to-write-wait a b) = refl
quiet-adds (finds-both a) = refl
quiet-adds (finds-readers a) = refl
quiet-adds (writers-end a) = refl
quiet-adds (both_end a) = refl
quiet-adds (readers-end a) = refl

-- writer_notify goes up by that much
pub did-notifies :
    (w n : ℕ) (found : Bool) (p : RwLockAt) (w' n' : ℕ) (x : Next RwLockAt) → n < 2 ^ 32 → Did w n found p w' n' x →
    n' ≡ (n + adds_of (code_of p)) % 2 ^ 32
unfolding wrapping_add
did-notifies w n found p w' n' x h D = go D
  where
    stays : (k : ℕ) → code_of p ≡ k → adds_of k ≡ 0 → n ≡ (n + adds_of (code_of p)) % 2 ^ 32
    stays k e z = let q : adds_of (code_of p) ≡ 0 = ap adds_of e ∙ z in omega arith

    with-others : (b : Bool) → code_of p ≡ writing_code b → n ≡ (n + adds_of (code_of p)) % 2 ^ 32
    with-others true e = stays in_write_beside_others e refl
    with-others false e = stays in_write e refl

    with-both : (b both : Bool) → p ≡ A.Wake b (Wk.WakeWriter both) → n ≡ (n + adds_of (code_of p)) % 2 ^ 32
    with-both b true e = stays at_wake_writer_both (ap code_of e) refl
    with-both b false e = stays at_wake_writer (ap code_of e) refl

    notes : (b both : Bool) → p ≡ A.Wake b (Wk.Notify both) → adds_of (code_of p) ≡ 1
    notes b true e = ap (λ (q : RwLockAt). adds_of (code_of q)) e
    notes b false e = ap (λ (q : RwLockAt). adds_of (code_of q)) e

    go : {w' n' : ℕ} {x : Next RwLockAt} → Did w n found p w' n' x → n' ≡ (n + adds_of (code_of p)) % 2 ^ 32
    go (d-quiet y k q) = stays (code_of p) refl (quiet-adds q)
    go (d-takes-read y v k r J) = stays outside k refl
    go (d-sets-readers y k r why J) = stays outside k refl
    go (d-sleeps-reader k r) = stays at_read_wait k refl
    go (d-takes-write y v' val c J vv (inl k)) = stays outside k refl
    go (d-takes-write y v' val c J vv (inr (inl k))) = stays in_write k refl
    go (d-takes-write y v' val c J vv (inr (inr k))) = stays in_write_beside_others k.0 refl
    go (d-sets-writers y b k c J) = with-others b k
    go (d-sleeps-writer e) = stays at_write_wait (ap code_of e) refl
    go (d-frees-read e) = stays at_read_unlock (ap code_of e) refl
    go (d-frees-write e) = stays at_write_unlock (ap code_of e) refl
    go (d-downgrades e y k q) = stays at_downgrade (ap code_of e) refl
    go (d-subtracts e) = stays at_subtract (ap code_of e) refl
    go (d-exchanges-writers b e q) = stays at_exchange_writers e refl
    go (d-exchanges-both b e q) = stays at_exchange_both e refl
    go (d-exchanges-readers b e q) = stays at_exchange_readers e refl
    go (d-notifies b both e) = rw (notes b both e) refl
    go (d-wakes-writer b both e y k q) = with-both b both e
    go (d-wakes-readers v e y) = stays at_wake_readers e refl

-- wake_writer_or_readers on an unlocked state goes on by its flags
wake-onward : (b : Bool) (st : ℕ) (hold : Hold) → st < 2 ^ 32 → count st ≡ 0 →
    (stays_awake (wake_top b st hold).next ≡ true) × Onward (readers_waiting st) (writers_waiting st) (next_code (wake_top b st hold).next)
unfolding wake_top wake_rest
wake-onward b st hold lt z = go (readers_waiting st) refl (writers_waiting st) refl
  where
    go :
        (r : ℕ) → readers_waiting st ≡ r → (v : ℕ) → writers_waiting st ≡ v →
        (stays_awake (wake_top b st hold).next ≡ true) × Onward r v (next_code (wake_top b st hold).next)
    go zero a zero d = rw (exactly st 0 0 lt z a d) (refl, none-wait refl refl)
    go zero a (suc zero) d = rw (exactly st 0 1 lt z a d) (refl, writers-wait refl refl)
    go (suc zero) a zero d = rw (exactly st 1 0 lt z a d) (refl, readers-wait refl refl)
    go (suc zero) a (suc zero) d = rw (exactly st 1 1 lt z a d) (refl, both-wait refl refl)
    go r a (suc (suc v)) d = absurd (omega (arith, writers-le st))
    go (suc (suc r)) a zero d = absurd (omega (arith, readers-le st))
    go (suc (suc r)) a (suc zero) d = absurd (omega (arith, readers-le st))

-- the steps that free, over the state left
top-word : (b : Bool) (st : ℕ) (hold : Hold) → (wake_top b st hold).word ≡ st
unfolding wake_top wake_rest
top-word b st hold =
    either P (eqb st WRITERS_WAITING) _ _ refl (either P (eqb st BOTH) _ _ refl (either P (eqb st READERS_WAITING) _ _ refl refl))
  where
    P : Step RwLockAt → Type 0
    P s = s.word ≡ st

free-read-word : (w : ℕ) → (read_unlock_of w).word ≡ read_unlocked w
unfolding read_unlock_of
free-read-word w =
    either (λ (s : Step RwLockAt). s.word ≡ read_unlocked w) (is_unlocked (read_unlocked w) && has_writers_waiting (read_unlocked w)) _ _
    (top-word false (read_unlocked w) H.FreeRead) refl

free-write-word : (w : ℕ) → (write_unlock_of w).word ≡ write_unlocked w
unfolding write_unlock_of
free-write-word w =
    either (λ (s : Step RwLockAt). s.word ≡ write_unlocked w) (has_writers_waiting (write_unlocked w) || has_readers_waiting (write_unlocked w)) _ _
    (top-word true (write_unlocked w) H.FreeWrite) refl

-- a read unlock that leaves the state unlocked with WRITERS_WAITING, or not
read-wakes : (w : ℕ) → count (read_unlocked w) ≡ 0 → writers_waiting (read_unlocked w) ≡ 1 → read_unlock_of w ≡ wake_top false (read_unlocked w) H.FreeRead
unfolding read_unlock_of is_unlocked has_writers_waiting
read-wakes w z q = rw (z, q) refl

read-rests :
    (w : ℕ) → (count (read_unlocked w) ≡ 0 → writers_waiting (read_unlocked w) ≡ 1 → ⊥) → read_unlock_of w ≡ ends (read_unlocked w) 1 H.FreeRead W.None
unfolding read_unlock_of is_unlocked has_writers_waiting
read-rests w never = go (eqb (count (read_unlocked w)) 0) refl (eqb (writers_waiting (read_unlocked w)) 1) refl
  where
    go : (a : Bool) → eqb (count (read_unlocked w)) 0 ≡ a → (b : Bool) → eqb (writers_waiting (read_unlocked w)) 1 ≡ b →
        cond (a && b) (wake_top false (read_unlocked w) H.FreeRead) (ends (read_unlocked w) 1 H.FreeRead W.None)
        ≡ ends (read_unlocked w) 1 H.FreeRead W.None
    go true p true q = absurd (never (eqb-true (count (read_unlocked w)) 0 p) (eqb-true (writers_waiting (read_unlocked w)) 1 q))
    go true p false q = refl
    go false p b q = refl

-- a write unlock always goes on by the flags
write-onward : (st : ℕ) → st < 2 ^ 32 → count st ≡ 0 →
    (stays_awake (cond (has_writers_waiting st || has_readers_waiting st) (wake_top true st H.FreeWrite) (ends st 1 H.FreeWrite W.None)).next ≡ true)
    × Onward (readers_waiting st) (writers_waiting st)
    (next_code (cond (has_writers_waiting st || has_readers_waiting st) (wake_top true st H.FreeWrite) (ends st 1 H.FreeWrite W.None)).next)
unfolding has_writers_waiting has_readers_waiting
write-onward st lt z = go (eqb (writers_waiting st) 1) refl (eqb (readers_waiting st) 1) refl
  where
    flag : (k : ℕ) → k ≤ 1 → (k ≡ 1 → ⊥) → k ≡ 0
    flag k a b = omega arith

    go : (v : Bool) → eqb (writers_waiting st) 1 ≡ v → (r : Bool) → eqb (readers_waiting st) 1 ≡ r →
        (stays_awake (cond (v || r) (wake_top true st H.FreeWrite) (ends st 1 H.FreeWrite W.None)).next ≡ true)
        × Onward (readers_waiting st) (writers_waiting st) (next_code (cond (v || r) (wake_top true st H.FreeWrite) (ends st 1 H.FreeWrite W.None)).next)
    go true p r q = wake-onward true st H.FreeWrite lt z
    go false p true q = wake-onward true st H.FreeWrite lt z
    go false p false q = (
      refl,
      none-wait (flag (readers_waiting st) (readers-le st) (eqb-false (readers_waiting st) 1 q))
          (flag (writers_waiting st) (writers-le st) (eqb-false (writers_waiting st) 1 p)),
    )

module _
    {Few : Type 0} (X X' : LockView) (w n t s s' : ℕ) (found : Bool) (p : RwLockAt) (lt : w < 2 ^ 32) (S : Sees X w)
    (old : X.of t ≡ up (code_of p) s) (l : s' ≤ X.adds) (counted : Counted X w t p) (woken : Woken X t found p)
    (fresh : Few → p ≡ A.Write (Wr.Wait n) → s ≡ X.adds) (I : Invariant Few X) where
  -- thread t's move from where p is: to a place where it is awake, or to sleep where it is
  move : {k k' : ℕ} → code_of p ≡ k → Update X.of X'.of t (up k' s') → Move X X' t (up k s) (up k' s')
  move {k' = k'} e U = record { was = old ∙ ap (λ (c : ℕ). up c s) e; update = U; early = early-up X.adds s' k' l }

  asleep-move : {k : ℕ} → code_of p ≡ k → s' ≡ s → Update X.of X'.of t (down (code_of p) s') → Move X X' t (up k s) (down k s)
  asleep-move {k} e q U = record {
    was = old ∙ ap (λ (c : ℕ). up c s) e;
    update = rw (e, q) at U;
    early = early-down X.adds s k (omega arith);
  }

  -- the readings after a step that is no notification, and after one that leaves the state alone
  no-adds : {k : ℕ} → code_of p ≡ k → adds_of k ≡ 0 → X'.adds ≡ X.adds + adds_of (code_of p) → X'.adds ≡ X.adds
  no-adds e z a = let q : adds_of (code_of p) ≡ 0 = ap adds_of e ∙ z in omega arith

  reads : {w' c r v : ℕ} → Sees X' w' → Has w' c r v → X'.adds ≡ X.adds → Reads X' c r v X.adds
  reads S' J a = record {
    count-is = S'.count-seen ∙ J.count-is;
    readers-are = S'.readers-seen ∙ J.readers-are;
    writers-are = S'.writers-seen ∙ J.writers-are;
    adds-is = a;
  }

  same : {adds : ℕ} → Sees X' w → X'.adds ≡ adds → Reads X' X.count X.readers X.writers adds
  same S' a = record {
    count-is = S'.count-seen ∙ sym S.count-seen;
    readers-are = S'.readers-seen ∙ sym S.readers-seen;
    writers-are = S'.writers-seen ∙ sym S.writers-seen;
    adds-is = a;
  }

  kept : {k : ℕ} → code_of p ≡ k → adds_of k ≡ 0 → Sees X' w → X'.adds ≡ X.adds + adds_of (code_of p) → Keeps X X'
  kept e z S' a = same S' (no-adds e z a)

  noted :
      {k : ℕ} → code_of p ≡ k → adds_of k ≡ 1 → Sees X' w → X'.adds ≡ X.adds + adds_of (code_of p) →
      Reads X' X.count X.readers X.writers (X.adds + 1)
  noted e one S' a = same S' (a ∙ ap (λ (x : ℕ). X.adds + x) (ap adds_of e ∙ one))

  no-subtract : (count w ≡ 0) ⊎ (count w ≡ MASK) → (u : ℕ) → stands at_subtract (X.of u) ≡ true → ⊥
  no-subtract (inl e) u h = omega (arith, (I.r0 u h).1, S.count-seen)
  no-subtract (inr e) u h = omega (arith, (I.r0 u h).1, S.count-seen)

  frees-read :
      p ≡ A.ReadUnlock → Sees X' (read_unlock_of w).word → X'.adds ≡ X.adds →
      Update X.of X'.of t (place_after p (read_unlock_of w).next s') → Invariant Few X'
  unfolding stands about_to_notify answers_writers
  frees-read e S₀ a U = go (count w - 1) refl (writers_waiting w) refl
    where
      st : ℕ
      st = read_unlocked w

      S' : Sees X' (read_unlocked w)
      S' = subst (Sees X') (free-read-word w) S₀

      J : Has (read_unlocked w) (count w - 1) (readers_waiting w) (writers_waiting w)
      J =
          read-unlocked w (count w) (readers_waiting w) (writers_waiting w) (word-is w lt) (count-le w) (readers-le w) (writers-le w)
          (counted.reader e).0

      no-readers : count w - 1 ≡ 0 → writers_waiting w ≡ 0 → X.readers ≡ 0
      no-readers z q = dec (readers_waiting w) refl
        where
          dec : (r : ℕ) → readers_waiting w ≡ r → X.readers ≡ 0
          dec zero h = S.readers-seen ∙ h
          dec (suc k) h =
              absurd (no (I.r2 (omega (arith, (counted.reader e).0, S.count-seen)) (omega (arith, (counted.reader e).1, S.count-seen))
              (omega (arith, S.readers-seen, readers-le w))))
            where
              no : (X.writers ≡ 1) ⊎ ((X.count ≡ 1) × Some (stands at_subtract) X.of) → ⊥
              no (inl y) = omega (arith, S.writers-seen)
              no (inr (_, (u, y))) = (counted.reader e).2 u y

      rests : (count (read_unlocked w) ≡ 0 → writers_waiting (read_unlocked w) ≡ 1 → ⊥) → Update X.of X'.of t (up outside s')
      rests never = subst (λ (x : Step RwLockAt). Update X.of X'.of t (place_after p x.next s')) (read-rests w never) U

      zero-R : count w - 1 ≡ 0 → Reads X' 0 X.readers X.writers X.adds
      zero-R h = rw (S.readers-seen, S.writers-seen) (reads S' (rw h at J) a)

      go : (c : ℕ) → count w - 1 ≡ c → (v : ℕ) → writers_waiting w ≡ v → Invariant Few X'
      go zero h zero q =
          unlocks I (zero-R h) (counted.reader e).2 (none-wait (no-readers h q) (S.writers-seen ∙ q))
          (move (ap code_of e) (rests (λ _ y. absurd (omega (arith, J.writers-are))))) refl refl refl
      go zero h (suc v) q =
          unlocks I (zero-R h) (counted.reader e).2
          (rw (S.readers-seen, S.writers-seen, ← J.readers-are, ← J.writers-are) onward.1)
          (move (ap code_of e) (rw (after-awake p (wake_top false st H.FreeRead).next s' onward.0) at wakes)) refl refl refl
        where
          one : writers_waiting w ≡ 1
          one = omega (arith, writers-le w)

          onward :
              (stays_awake (wake_top false (read_unlocked w) H.FreeRead).next ≡ true)
              × Onward (readers_waiting (read_unlocked w)) (writers_waiting (read_unlocked w))
              (next_code (wake_top false (read_unlocked w) H.FreeRead).next)
          onward = wake-onward false (read_unlocked w) H.FreeRead (subtracted-wide w 1) (J.count-is ∙ h)

          wakes : Update X.of X'.of t (place_after p (wake_top false (read_unlocked w) H.FreeRead).next s')
          wakes =
              subst (λ (x : Step RwLockAt). Update X.of X'.of t (place_after p x.next s'))
              (read-wakes w (J.count-is ∙ h) (J.writers-are ∙ one)) U
      go (suc c) h v q =
          read-leaves (move (ap code_of e) (rests (λ y _. absurd (omega (arith, J.count-is))))) I (counted.reader e).2
          (omega (arith, S'.count-seen, J.count-is)) (omega (arith, S.count-seen, (counted.reader e).1))
          (record {
            count-is = refl;
            readers-are = S'.readers-seen ∙ J.readers-are ∙ sym S.readers-seen;
            writers-are = S'.writers-seen ∙ J.writers-are ∙ sym S.writers-seen;
            adds-is = a;
          })
          (omega (arith, S.count-seen, S'.count-seen, J.count-is))

  frees-write :
      p ≡ A.WriteUnlock → Sees X' (write_unlock_of w).word → X'.adds ≡ X.adds →
      Update X.of X'.of t (place_after p (write_unlock_of w).next s') → Invariant Few X'
  unfolding stands about_to_notify answers_writers write_unlock_of
  frees-write e S₀ a U =
      unlocks I (rw (S.readers-seen, S.writers-seen) (reads S' J a)) (no-subtract (inr (counted.writer e)))
      (rw (S.readers-seen, S.writers-seen, ← J.readers-are, ← J.writers-are) onward.1)
      (move (ap code_of e) (rw (after-awake p (write_unlock_of w).next s' onward.0) at U)) refl refl refl
    where
      S' : Sees X' (write_unlocked w)
      S' = subst (Sees X') (free-write-word w) S₀

      J : Has (write_unlocked w) 0 (readers_waiting w) (writers_waiting w)
      J =
          write-unlocked w (count w) (readers_waiting w) (writers_waiting w) (word-is w lt) (count-le w) (readers-le w) (writers-le w)
          (counted.writer e)

      onward :
          (stays_awake (write_unlock_of w).next ≡ true)
          × Onward (readers_waiting (write_unlocked w)) (writers_waiting (write_unlocked w)) (next_code (write_unlock_of w).next)
      onward = write-onward (write_unlocked w) (subtracted-wide w MASK) J.count-is

  pub own-step :
      (w' n' : ℕ) (x : Next RwLockAt) → Did w n found p w' n' x → Sees X' w' → X'.adds ≡ X.adds + adds_of (code_of p) → (x ≡ Nx.Asleep → s' ≡ s) →
      Update X.of X'.of t (place_after p x s') → Invariant Few X'
  unfolding stands about_to_notify answers_writers
  own-step w' n' x (d-quiet y k q) S' a z U =
      quiet_keeps {k = code_of p} {k' = next_code x} {s = s} {s' = s'} (rw (S.count-seen, S.readers-seen, S.writers-seen) q)
      (move refl (rw (after-awake p x s' k) at U)) (kept refl (quiet-adds q) S' a) I
  own-step w' n' x (d-takes-read y v k r J) S' a z U =
      takes-read (move k U) I (S.readers-seen ∙ r) (rw (S.count-seen, S.readers-seen, S.writers-seen) (reads S' J (no-adds k refl a)))
  own-step w' n' x (d-sets-readers y k r why J) S' a z U =
      sets-readers (move k U) I (S.readers-seen ∙ r) (rw (S.count-seen, S.writers-seen) why)
      (rw (S.count-seen, S.writers-seen) (reads S' J (no-adds k refl a)))
  own-step w' n' x (d-sleeps-reader k r) S' a z U = sleeps-reader (asleep-move k (z refl) U) (kept k refl S' a) (S.readers-seen ∙ r) I
  own-step w' n' x (d-takes-write y v' val c J vv (inl k)) S' a z U =
      takes_write (move k U) I v' (S.count-seen ∙ c) (rw S.readers-seen (reads S' J (no-adds k refl a)))
      (λ q. vv (sym S.writers-seen ∙ q)) no_way refl refl
  own-step w' n' x (d-takes-write y v' val c J vv (inr (inl k))) S' a z U =
      takes_write (move k U) I v' (S.count-seen ∙ c) (rw S.readers-seen (reads S' J (no-adds k refl a)))
      (λ q. vv (sym S.writers-seen ∙ q)) no_way refl refl
  own-step w' n' x (d-takes-write y v' val c J vv (inr (inr k))) S' a z U =
      takes_write (move k.0 U) I v' (S.count-seen ∙ c) (rw S.readers-seen (reads S' J (no-adds k.0 refl a)))
      (λ q. vv (sym S.writers-seen ∙ q)) (λ q. k.1) refl refl
  own-step w' n' x (d-sets-writers y true k c J) S' a z U =
      sets-writers (move k U) I (λ q. c (sym S.count-seen ∙ q)) (rw (S.count-seen, S.readers-seen) (reads S' J (no-adds k refl a))) refl
  own-step w' n' x (d-sets-writers y false k c J) S' a z U =
      sets-writers (move k U) I (λ q. c (sym S.count-seen ∙ q)) (rw (S.count-seen, S.readers-seen) (reads S' J (no-adds k refl a))) refl
  own-step w' n' x (d-sleeps-writer e) S' a z U =
      sleeps-writer (asleep-move (ap code_of e) (z refl) U) (kept (ap code_of e) refl S' a) (λ q. fresh q e) I
  own-step w' n' x (d-frees-read e) S' a z U = frees-read e S' (no-adds (ap code_of e) refl a) U
  own-step w' n' x (d-frees-write e) S' a z U = frees-write e S' (no-adds (ap code_of e) refl a) U
  own-step w' n' x (d-downgrades e y k q) S' a z U = go q
    where
      full : count w ≡ MASK
      full = counted.downer e

      lands : Update X.of X'.of t (up (next_code x) s')
      lands = rw (after-awake p x s' k) at U

      R : Reads X' 1 X.readers X.writers X.adds
      R =
          rw (S.readers-seen, S.writers-seen)
          (reads S' (downgrade w (count w) (readers_waiting w) (writers_waiting w) (word-is w lt) (count-le w) (readers-le w) (writers-le w) full)
          (no-adds (ap code_of e) refl a))

      go : ((readers_waiting w ≡ 1) × (next_code x ≡ at_subtract)) ⊎ ((readers_waiting w ≡ 0) × (next_code x ≡ outside)) → Invariant Few X'
      go (inl (flag, c)) = downgrades-on (move (ap code_of e) (rw c at lands)) I (S.readers-seen ∙ flag) R
      go (inr (flag, c)) = downgrades-off (move (ap code_of e) (rw c at lands)) I (S.count-seen ∙ full) (S.readers-seen ∙ flag) R
  own-step w' n' x (d-subtracts e) S' a z U =
      let (one, count1) = I.r0 t (rw (old, e) refl) in
      subtracts (move (ap code_of e) U) I (counted.alone-subtract e) count1
      (rw (S.count-seen, S.writers-seen)
      (reads S'
      (without-readers w (count w) (readers_waiting w) (writers_waiting w) (word-is w lt) (count-le w) (readers-le w) (writers-le w)
      (sym S.readers-seen ∙ one)) (no-adds (ap code_of e) refl a)))
  own-step w' n' x (d-exchanges-writers b e q) S' a z U =
      let r : X.readers ≡ 0 = S.readers-seen ∙ (ap readers_waiting q ∙ writers-reads.readers-are) in
      exchanges-writers (move e U) I (S.count-seen ∙ (ap count q ∙ writers-reads.count-is)) r
      (rw r (reads S' free-reads (no-adds e refl a)))
  own-step w' n' x (d-exchanges-both b e q) S' a z U =
      let r : X.readers ≡ 1 = S.readers-seen ∙ (ap readers_waiting q ∙ both-reads.readers-are) in
      exchanges-both (move e U) I (S.count-seen ∙ (ap count q ∙ both-reads.count-is)) r
      (rw r (reads S' readers-reads (no-adds e refl a)))
  own-step w' n' x (d-exchanges-readers b e q) S' a z U =
      exchanges-readers (move e U) I (S.count-seen ∙ (ap count q ∙ readers-reads.count-is))
      (S.writers-seen ∙ (ap writers_waiting q ∙ readers-reads.writers-are)) (reads S' free-reads (no-adds e refl a))
  own-step w' n' x (d-notifies b true e) S' a z U = notifies I (noted (ap code_of e) refl S' a) beside (move (ap code_of e) U)
  own-step w' n' x (d-notifies b false e) S' a z U = notifies I (noted (ap code_of e) refl S' a) alone (move (ap code_of e) U)
  own-step w' n' x (d-wakes-writer b false e y k q) S' a z U =
      wakes-one (kept (ap code_of e) refl S' a) (woken.writers-paid b false e) (move (ap code_of e) (rw (after-awake p x s' k, q) at U)) I
  own-step w' n' x (d-wakes-writer b true e y k q) S' a z U = go found refl q
    where
      go : (f : Bool) → found ≡ f → next_code x ≡ cond (true && not f) at_exchange_readers outside → Invariant Few X'
      go true h q' =
          wakes-one-of (kept (ap code_of e) refl S' a) (woken.writers-paid b true e) (move (ap code_of e) (rw (after-awake p x s' k, q') at U))
          (woken.readers-paid b true e h) I
      go false h q' =
          wakes-none (kept (ap code_of e) refl S' a) (woken.writers-paid b true e) (move (ap code_of e) (rw (after-awake p x s' k, q') at U)) I
  own-step w' n' x (d-wakes-readers v e y) S' a z U = wakes-all (move e U) (kept e refl S' a) (woken.all_paid y) I
