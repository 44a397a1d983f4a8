-- What a thread carries: the sequence that a writer read, told by the number of notifications when it read it; and the read hold of a
-- thread in the middle of a downgrade. Assumes nothing.
use mathlib.Core.Path.{◌≡◌, refl, sym, ap, ◌∙◌, subst}
use mathlib.Core.Logic.{◌⊎◌, inl, inr}
use mathlib.Core.Bool.{Bool, true, false, not, ◌||◌, cond}
use Prim.Native.Nat.{ℕ, ◌+◌, ◌%◌, ◌^◌, ◌≤◌}
use native.Mathlib.Omega.{arith}
use lib.Dec.{eqb}
use borrow.Author.Tests.{eqb-true, eq-eqb}
use Rattle.words.specs.Atomic.{exchanges}
use Rattle.words.specs.RwLock.{downgraded, has_readers_waiting, is_unlocked, has_writers_waiting}
use Rattle.words.specs.declared.Hold.TheVariants as H
use Rattle.words.specs.declared.Wake.TheVariants as W
use Rattle.words.specs.declared.Next.{Next}
use Rattle.words.specs.declared.Next.TheVariants as Nx
use Rattle.words.specs.declared.Step.{Step}
use Rattle.words.specs.Steps.{moves_with, ends, map_next}
use Rattle.rwlock.specs.declared.WriteAt.{WriteAt}
use Rattle.rwlock.specs.declared.WriteAt.TheVariants as Wr
use Rattle.rwlock.specs.declared.DowngradeAt.{DowngradeAt}
use Rattle.rwlock.specs.declared.DowngradeAt.TheVariants as D
use Rattle.rwlock.specs.declared.RwLockAt.{RwLockAt}
use Rattle.rwlock.specs.declared.RwLockAt.TheVariants as Rw
use Rattle.rwlock.specs.Positions as RwP
use Rattle.rwlock.specs.RwLock.{write_after_wait, write_top, stops_write, write_of, downgrade_of}
use Rattle.rwlock.specs.RwLock as RwS
use Rattle.calls.specs.declared.At.{At}
use Rattle.calls.specs.declared.At.TheVariants as A
use Rattle.calls.specs.Plans.{moved, slept, done, panicked, rwlock_plan, decide_of, plan_next, plan_of, entered}
use Rattle.calls.specs.Positions.{after_wait, waits_of}
use Rattle.kept.proofs.Tests.{decided, no_way}
use Rattle.kept.specs.Laws.{Goes, ended, staying, locking, unlocking, reading, try-reading, read-unlocking, writing, try-writing, write-unlocking, waking, downgrading, waiting, notifying, calling, awaiting, parking, unparking}
use Rattle.kept.proofs.Calls.{goes}
use Rattle.claims_rwlock.proofs.View.{here}

-- the sequence that a position carries is what writer_notify was after s notifications, from `start` on
abbrev pub WriteCarries : ℕ → ℕ → WriteAt → Type 0
WriteCarries start s Wr.Exchange = Unit {0}
WriteCarries start s (Wr.Spin others left) = Unit {0}
WriteCarries start s (Wr.ExchangeContended others seen) = Unit {0}
WriteCarries start s (Wr.SetWaiting others seen) = Unit {0}
WriteCarries start s Wr.LoadSequence = Unit {0}
WriteCarries start s (Wr.LoadState sequence) = sequence ≡ (start + s) % 2 ^ 32
WriteCarries start s (Wr.Wait sequence) = sequence ≡ (start + s) % 2 ^ 32

abbrev pub LockCarries : ℕ → ℕ → RwLockAt → Type 0
LockCarries start s (Rw.Read p) = Unit {0}
LockCarries start s (Rw.TryRead p) = Unit {0}
LockCarries start s Rw.ReadUnlock = Unit {0}
LockCarries start s (Rw.Write p) = WriteCarries start s p
LockCarries start s (Rw.TryWrite p) = Unit {0}
LockCarries start s Rw.WriteUnlock = Unit {0}
LockCarries start s (Rw.Wake b p) = Unit {0}
LockCarries start s (Rw.Downgrade p) = Unit {0}

abbrev pub Carries : ℕ → ℕ → ℕ → At → Type 0
Carries l start s at = (p : RwLockAt) → at ≡ A.RwLock l p → LockCarries start s p

-- a position of another call carries none
pub carries-away : (l start s : ℕ) (at : At) → here l at ≡ false → Carries l start s at
unfolding here
carries-away l start s at e p q =
    let z : eqb l l ≡ false = subst (λ (x : At). here l x ≡ false) q e in
    no_way (sym z ∙ eq-eqb l l refl)

-- the lock's position of a call position
lock_of : RwLockAt → At → RwLockAt
lock_of d A.Idle = d
lock_of d (A.Mutex m p) = d
lock_of d (A.RwLock l p) = p
lock_of d (A.Condvar c p) = d
lock_of d (A.Once o p) = d
lock_of d (A.Parker p) = d

pub same-position : (l : ℕ) (p q : RwLockAt) → A.RwLock l p ≡ A.RwLock l q → p ≡ q
unfolding lock_of
same-position l p q e = ap (lock_of p) e

pub carries-near : (l start s : ℕ) (p : RwLockAt) → LockCarries start s p → Carries l start s (A.RwLock l p)
carries-near l start s p h q e = subst (LockCarries start s) (same-position l p q e) h

-- where a wait leads on nothing is carried
write-after : (start s : ℕ) (p : WriteAt) → WriteCarries start s p → WriteCarries start s (write_after_wait p)
unfolding write_after_wait
write-after start s Wr.Exchange h = h
write-after start s (Wr.Spin others left) h = h
write-after start s (Wr.ExchangeContended others seen) h = h
write-after start s (Wr.SetWaiting others seen) h = h
write-after start s Wr.LoadSequence h = h
write-after start s (Wr.LoadState sequence) h = h
write-after start s (Wr.Wait sequence) h = tt

lock-after : (start s : ℕ) (p : RwLockAt) → LockCarries start s p → LockCarries start s (RwP.after_wait p)
unfolding RwP.after_wait
lock-after start s (Rw.Read p) h = tt
lock-after start s (Rw.TryRead p) h = tt
lock-after start s Rw.ReadUnlock h = tt
lock-after start s (Rw.Write p) h = write-after start s p h
lock-after start s (Rw.TryWrite p) h = tt
lock-after start s Rw.WriteUnlock h = tt
lock-after start s (Rw.Wake b p) h = tt
lock-after start s (Rw.Downgrade p) h = tt

pub carries-after : (l start s : ℕ) (at : At) → Carries l start s at → Carries l start s (after_wait at)
unfolding after_wait here
carries-after l start s A.Idle h = h
carries-after l start s (A.Mutex m p) h = carries-away l start s (after_wait (A.Mutex m p)) refl
carries-after l start s (A.RwLock j p) h = go (eqb j l) refl
  where
    go : (b : Bool) → eqb j l ≡ b → Carries l start s (A.RwLock j (RwP.after_wait p))
    go true e =
        rw (eqb-true j l e) (carries-near l start s (RwP.after_wait p) (lock-after start s p (h p (ap (λ (x : ℕ). A.RwLock x p) (eqb-true j l e)))))
    go false e = carries-away l start s (A.RwLock j (RwP.after_wait p)) e
carries-after l start s (A.Condvar c p) h = carries-away l start s (after_wait (A.Condvar c p)) refl
carries-after l start s (A.Once o p) h = carries-away l start s (after_wait (A.Once o p)) refl
carries-after l start s (A.Parker p) h = carries-away l start s (after_wait (A.Parker p)) refl

-- ---- a step: the sequence is read at LoadSequence, and carried from there

abbrev pub write_since : ℕ → ℕ → WriteAt → ℕ
write_since n s Wr.Exchange = s
write_since n s (Wr.Spin others left) = s
write_since n s (Wr.ExchangeContended others seen) = s
write_since n s (Wr.SetWaiting others seen) = s
write_since n s Wr.LoadSequence = n
write_since n s (Wr.LoadState sequence) = s
write_since n s (Wr.Wait sequence) = s

-- the number of notifications when thread at p last read writer_notify, after its step
abbrev pub since_of : ℕ → ℕ → RwLockAt → ℕ
since_of n s (Rw.Read p) = s
since_of n s (Rw.TryRead p) = s
since_of n s Rw.ReadUnlock = s
since_of n s (Rw.Write p) = write_since n s p
since_of n s (Rw.TryWrite p) = s
since_of n s Rw.WriteUnlock = s
since_of n s (Rw.Wake b p) = s
since_of n s (Rw.Downgrade p) = s

write-since-le : (n s : ℕ) (p : WriteAt) → s ≤ n → write_since n s p ≤ n
write-since-le n s Wr.Exchange h = h
write-since-le n s (Wr.Spin others left) h = h
write-since-le n s (Wr.ExchangeContended others seen) h = h
write-since-le n s (Wr.SetWaiting others seen) h = h
write-since-le n s Wr.LoadSequence h = omega arith
write-since-le n s (Wr.LoadState sequence) h = h
write-since-le n s (Wr.Wait sequence) h = h

pub since-le : (n s : ℕ) (p : RwLockAt) → s ≤ n → since_of n s p ≤ n
since-le n s (Rw.Read p) h = h
since-le n s (Rw.TryRead p) h = h
since-le n s Rw.ReadUnlock h = h
since-le n s (Rw.Write p) h = write-since-le n s p h
since-le n s (Rw.TryWrite p) h = h
since-le n s Rw.WriteUnlock h = h
since-le n s (Rw.Wake b p) h = h
since-le n s (Rw.Downgrade p) h = h

abbrev pub NextCarries : ℕ → ℕ → RwLockAt → Next RwLockAt → Type 0
NextCarries start s p (Nx.Moved q) = LockCarries start s q
NextCarries start s p Nx.Asleep = LockCarries start s p
NextCarries start s p (Nx.Ended value) = Unit {0}
NextCarries start s p (Nx.Panics number) = Unit {0}
NextCarries start s p (Nx.Closure q) = LockCarries start s q

module _ (start s n : ℕ) where
  top-carries : (p : RwLockAt) (s' : ℕ) (b : Bool) (w : ℕ) → NextCarries start s' p (write_top b w).next
  unfolding write_top
  top-carries p s' b w =
      decided P (is_unlocked w) _ _ (λ _. tt) (λ _. decided P (has_writers_waiting w) _ _ (λ _. tt) (λ _. tt))
    where
      P : Step RwLockAt → Type 0
      P x = NextCarries start s' p x.next

  abbrev On : WriteAt → Step RwLockAt → Type 0
  On p x = NextCarries start (write_since n s p) (Rw.Write p) x.next

  write-carries :
      (p : WriteAt) (f : Bool) (word : ℕ) → WriteCarries start s p → (p ≡ Wr.LoadSequence → word ≡ (start + n) % 2 ^ 32) → On p (write_of p f word)
  unfolding write_of write_after_wait
  write-carries Wr.Exchange f word h e = decided (On Wr.Exchange) (exchanges word 0 f) _ _ (λ _. tt) (λ _. tt)
  write-carries (Wr.Spin others left) f word h e =
      decided (On (Wr.Spin others left)) (stops_write word || eqb left 0) _ _ (λ _. top-carries (Rw.Write (Wr.Spin others left)) s others word) (λ _. tt)
  write-carries (Wr.ExchangeContended others seen) f word h e =
      decided (On (Wr.ExchangeContended others seen)) (exchanges word seen f) _ _ (λ _. tt) (λ _. top-carries (Rw.Write (Wr.ExchangeContended others seen)) s others word)
  write-carries (Wr.SetWaiting others seen) f word h e =
      decided (On (Wr.SetWaiting others seen)) (eqb word seen) _ _ (λ _. tt) (λ _. top-carries (Rw.Write (Wr.SetWaiting others seen)) s others word)
  write-carries Wr.LoadSequence f word h e = e refl
  write-carries (Wr.LoadState sequence) f word h e =
      decided (On (Wr.LoadState sequence)) (is_unlocked word || not (has_writers_waiting word)) _ _ (λ _. top-carries (Rw.Write (Wr.LoadState sequence)) s true word) (λ _. h)
  write-carries (Wr.Wait sequence) f word h e = decided (On (Wr.Wait sequence)) (eqb word sequence) _ _ (λ _. h) (λ _. tt)

-- ---- the middle of a downgrade

abbrev pub down_at : DowngradeAt → Bool
down_at D.Add = false
down_at D.Subtract = true
down_at D.WakeReaders = true

abbrev pub lock_downer : RwLockAt → Bool
lock_downer (Rw.Read p) = false
lock_downer (Rw.TryRead p) = false
lock_downer Rw.ReadUnlock = false
lock_downer (Rw.Write p) = false
lock_downer (Rw.TryWrite p) = false
lock_downer Rw.WriteUnlock = false
lock_downer (Rw.Wake b p) = false
lock_downer (Rw.Downgrade p) = down_at p

-- whether a position is between downgrade's fetch_add on lock l and its end
abbrev pub Downs : ℕ → At → Type 0
Downs l at = (p : RwLockAt) × ((at ≡ A.RwLock l p) × (lock_downer p ≡ true))

-- ---- a step of a call on lock l

is_write : RwLockAt → Bool
is_write (Rw.Read p) = false
is_write (Rw.TryRead p) = false
is_write Rw.ReadUnlock = false
is_write (Rw.Write p) = true
is_write (Rw.TryWrite p) = false
is_write Rw.WriteUnlock = false
is_write (Rw.Wake b p) = false
is_write (Rw.Downgrade p) = false

writes : At → Bool
writes A.Idle = false
writes (A.Mutex m p) = false
writes (A.RwLock l p) = is_write p
writes (A.Condvar c p) = false
writes (A.Once o p) = false
writes (A.Parker p) = false

reads_none : (start s : ℕ) (p : RwLockAt) → is_write p ≡ false → LockCarries start s p
unfolding is_write
reads_none start s (Rw.Read p) e = tt
reads_none start s (Rw.TryRead p) e = tt
reads_none start s Rw.ReadUnlock e = tt
reads_none start s (Rw.Write p) e = no_way (sym e)
reads_none start s (Rw.TryWrite p) e = tt
reads_none start s Rw.WriteUnlock e = tt
reads_none start s (Rw.Wake b p) e = tt
reads_none start s (Rw.Downgrade p) e = tt

carries-none : (l start s : ℕ) (at : At) → writes at ≡ false → Carries l start s at
unfolding writes
carries-none l start s at e p q = reads_none start s p (subst (λ (x : At). writes x ≡ false) q e)

goes-reading : {at next : At} → Goes at next → writes at ≡ false → writes next ≡ false
unfolding writes is_write
goes-reading ended e = refl
goes-reading staying e = e
goes-reading locking e = refl
goes-reading unlocking e = refl
goes-reading reading e = refl
goes-reading try-reading e = refl
goes-reading read-unlocking e = refl
goes-reading writing e = no_way (sym e)
goes-reading try-writing e = refl
goes-reading write-unlocking e = refl
goes-reading waking e = refl
goes-reading downgrading e = refl
goes-reading waiting e = refl
goes-reading notifying e = refl
goes-reading calling e = refl
goes-reading awaiting e = refl
goes-reading parking e = refl
goes-reading unparking e = refl

next-carries : (l start s : ℕ) (p : RwLockAt) (st : Step RwLockAt) → NextCarries start s p st.next → Carries l start s (rwlock_plan l p st).next.at
unfolding plan_of moved slept done panicked entered here
next-carries l start s p st h = go st.next h
  where
    go : (x : Next RwLockAt) → NextCarries start s p x → Carries l start s (plan_next (A.RwLock l p) l st.word st.hold st.wake (map_next (A.RwLock l) x)).next.at
    go (Nx.Moved q) k = carries-near l start s q k
    go Nx.Asleep k = carries-near l start s p k
    go (Nx.Ended value) k = carries-away l start s A.Idle refl
    go (Nx.Panics number) k = carries-away l start s A.Idle refl
    go (Nx.Closure q) k = carries-near l start s q k

pub step-carries :
    (l start s n : ℕ) (p : RwLockAt) (f : Bool) (word : ℕ) (a : Bool) → LockCarries start s p →
    (p ≡ Rw.Write Wr.LoadSequence → word ≡ (start + n) % 2 ^ 32) →
    Carries l start (since_of n s p) (decide_of (A.RwLock l p) f word a).next.at
unfolding decide_of RwS.decide_of writes is_write
step-carries l start s n (Rw.Read p) f word a h e = carries-none l start s _ (goes-reading (goes (A.RwLock l (Rw.Read p)) f word a) refl)
step-carries l start s n (Rw.TryRead p) f word a h e = carries-none l start s _ (goes-reading (goes (A.RwLock l (Rw.TryRead p)) f word a) refl)
step-carries l start s n Rw.ReadUnlock f word a h e = carries-none l start s _ (goes-reading (goes (A.RwLock l Rw.ReadUnlock) f word a) refl)
step-carries l start s n (Rw.Write p) f word a h e =
    next-carries l start (write_since n s p) (Rw.Write p) (write_of p f word) (write-carries start s n p f word h (λ q. e (ap Rw.Write q)))
step-carries l start s n (Rw.TryWrite p) f word a h e = carries-none l start s _ (goes-reading (goes (A.RwLock l (Rw.TryWrite p)) f word a) refl)
step-carries l start s n Rw.WriteUnlock f word a h e = carries-none l start s _ (goes-reading (goes (A.RwLock l Rw.WriteUnlock) f word a) refl)
step-carries l start s n (Rw.Wake b p) f word a h e = carries-none l start s _ (goes-reading (goes (A.RwLock l (Rw.Wake b p)) f word a) refl)
step-carries l start s n (Rw.Downgrade p) f word a h e = carries-none l start s _ (goes-reading (goes (A.RwLock l (Rw.Downgrade p)) f word a) refl)

-- ---- who comes to the middle of a downgrade, and from where

is_down : RwLockAt → Bool
is_down (Rw.Read p) = false
is_down (Rw.TryRead p) = false
is_down Rw.ReadUnlock = false
is_down (Rw.Write p) = false
is_down (Rw.TryWrite p) = false
is_down Rw.WriteUnlock = false
is_down (Rw.Wake b p) = false
is_down (Rw.Downgrade p) = true

downs : At → Bool
downs A.Idle = false
downs (A.Mutex m p) = false
downs (A.RwLock l p) = is_down p
downs (A.Condvar c p) = false
downs (A.Once o p) = false
downs (A.Parker p) = false

goes-level : {at next : At} → Goes at next → downs at ≡ false → downs next ≡ false
unfolding downs is_down
goes-level ended e = refl
goes-level staying e = e
goes-level locking e = refl
goes-level unlocking e = refl
goes-level reading e = refl
goes-level try-reading e = refl
goes-level read-unlocking e = refl
goes-level writing e = refl
goes-level try-writing e = refl
goes-level write-unlocking e = refl
goes-level waking e = refl
goes-level downgrading e = no_way (sym e)
goes-level waiting e = refl
goes-level notifying e = refl
goes-level calling e = refl
goes-level awaiting e = refl
goes-level parking e = refl
goes-level unparking e = refl

downer-down : (p : RwLockAt) → lock_downer p ≡ true → is_down p ≡ true
unfolding is_down
downer-down (Rw.Read p) e = e
downer-down (Rw.TryRead p) e = e
downer-down Rw.ReadUnlock e = e
downer-down (Rw.Write p) e = e
downer-down (Rw.TryWrite p) e = e
downer-down Rw.WriteUnlock e = e
downer-down (Rw.Wake b p) e = e
downer-down (Rw.Downgrade p) e = refl

downs-down : (l : ℕ) (at : At) → Downs l at → downs at ≡ true
unfolding downs
downs-down l at (p, (e, d)) = ap downs e ∙ downer-down p d

pub downs-here : (l : ℕ) (at : At) → Downs l at → here l at ≡ true
unfolding here
downs-here l at (p, (e, d)) = ap (here l) e ∙ eq-eqb l l refl

-- a sleeper is not there, nor is it after its wait
lock-level : (p : RwLockAt) → RwP.waits_of p ≡ true → is_down (RwP.after_wait p) ≡ false
unfolding is_down RwP.waits_of RwP.after_wait
lock-level (Rw.Read p) e = refl
lock-level (Rw.TryRead p) e = refl
lock-level Rw.ReadUnlock e = refl
lock-level (Rw.Write p) e = refl
lock-level (Rw.TryWrite p) e = refl
lock-level Rw.WriteUnlock e = refl
lock-level (Rw.Wake b p) e = refl
lock-level (Rw.Downgrade p) e = no_way e

level : (at : At) → waits_of at ≡ true → downs (after_wait at) ≡ false
unfolding downs waits_of after_wait
level A.Idle h = refl
level (A.Mutex m p) h = refl
level (A.RwLock j p) h = lock-level p h
level (A.Condvar c p) h = refl
level (A.Once o p) h = refl
level (A.Parker p) h = refl

pub roused-level : (l : ℕ) (at : At) → waits_of at ≡ true → Downs l (after_wait at) → ⊥
roused-level l at h d = no_way (sym (level at h) ∙ downs-down l (after_wait at) d)

pub down_step :
    (l : ℕ) (p : RwLockAt) (f : Bool) (word : ℕ) (a : Bool) → Downs l (decide_of (A.RwLock l p) f word a).next.at →
    ((p ≡ Rw.Downgrade D.Add) × ((decide_of (A.RwLock l p) f word a).hold ≡ H.Downgrade))
    ⊎ ((p ≡ Rw.Downgrade D.Subtract) × ((decide_of (A.RwLock l p) f word a).hold ≡ H.Same))
unfolding decide_of RwS.decide_of downgrade_of plan_of moved done downs is_down here
down_step l (Rw.Read p) f word a d = no_way (sym (goes-level (goes (A.RwLock l (Rw.Read p)) f word a) refl) ∙ downs-down l _ d)
down_step l (Rw.TryRead p) f word a d = no_way (sym (goes-level (goes (A.RwLock l (Rw.TryRead p)) f word a) refl) ∙ downs-down l _ d)
down_step l Rw.ReadUnlock f word a d = no_way (sym (goes-level (goes (A.RwLock l Rw.ReadUnlock) f word a) refl) ∙ downs-down l _ d)
down_step l (Rw.Write p) f word a d = no_way (sym (goes-level (goes (A.RwLock l (Rw.Write p)) f word a) refl) ∙ downs-down l _ d)
down_step l (Rw.TryWrite p) f word a d = no_way (sym (goes-level (goes (A.RwLock l (Rw.TryWrite p)) f word a) refl) ∙ downs-down l _ d)
down_step l Rw.WriteUnlock f word a d = no_way (sym (goes-level (goes (A.RwLock l Rw.WriteUnlock) f word a) refl) ∙ downs-down l _ d)
down_step l (Rw.Wake b p) f word a d = no_way (sym (goes-level (goes (A.RwLock l (Rw.Wake b p)) f word a) refl) ∙ downs-down l _ d)
down_step l (Rw.Downgrade D.Add) f word a d = inl (refl, go (has_readers_waiting word))
  where
    go :
        (b : Bool) →
        (rwlock_plan l (Rw.Downgrade D.Add) (cond b (moves_with (downgraded word) (Rw.Downgrade D.Subtract) H.Downgrade W.None)
        (ends (downgraded word) 1 H.Downgrade W.None))).hold ≡ H.Downgrade
    go true = refl
    go false = refl
down_step l (Rw.Downgrade D.Subtract) f word a d = inr (refl, refl)
down_step l (Rw.Downgrade D.WakeReaders) f word a d = no_way (downs-here l A.Idle d)

-- the object of a step's hold is the lock
pub plan-object : (l : ℕ) (p : RwLockAt) (f : Bool) (word : ℕ) (a : Bool) → (decide_of (A.RwLock l p) f word a).object ≡ l
unfolding decide_of plan_of moved slept done panicked entered
plan-object l p f word a = go (RwS.decide_of p f word a).next
  where
    go :
        (x : Next RwLockAt) →
        (plan_next (A.RwLock l p) l (RwS.decide_of p f word a).word (RwS.decide_of p f word a).hold (RwS.decide_of p f word a).wake (map_next (A.RwLock l) x)).object ≡ l
    go (Nx.Moved q) = refl
    go Nx.Asleep = refl
    go (Nx.Ended value) = refl
    go (Nx.Panics number) = refl
    go (Nx.Closure q) = refl

pub plan-word : (l : ℕ) (p : RwLockAt) (f : Bool) (word : ℕ) (a : Bool) → (decide_of (A.RwLock l p) f word a).word ≡ (RwS.decide_of p f word a).word
unfolding decide_of plan_of moved slept done panicked entered
plan-word l p f word a = go (RwS.decide_of p f word a).next
  where
    go :
        (x : Next RwLockAt) →
        (plan_next (A.RwLock l p) l (RwS.decide_of p f word a).word (RwS.decide_of p f word a).hold
        (RwS.decide_of p f word a).wake (map_next (A.RwLock l) x)).word ≡ (RwS.decide_of p f word a).word
    go (Nx.Moved q) = refl
    go Nx.Asleep = refl
    go (Nx.Ended value) = refl
    go (Nx.Panics number) = refl
    go (Nx.Closure q) = refl

pub plan-wake : (l : ℕ) (p : RwLockAt) (f : Bool) (word : ℕ) (a : Bool) → (decide_of (A.RwLock l p) f word a).wake ≡ (RwS.decide_of p f word a).wake
unfolding decide_of plan_of moved slept done panicked entered
plan-wake l p f word a = go (RwS.decide_of p f word a).next
  where
    go :
        (x : Next RwLockAt) →
        (plan_next (A.RwLock l p) l (RwS.decide_of p f word a).word (RwS.decide_of p f word a).hold
        (RwS.decide_of p f word a).wake (map_next (A.RwLock l) x)).wake ≡ (RwS.decide_of p f word a).wake
    go (Nx.Moved q) = refl
    go Nx.Asleep = refl
    go (Nx.Ended value) = refl
    go (Nx.Panics number) = refl
    go (Nx.Closure q) = refl
