-- One RwLock as a thread's record and the words show it: where each thread stands on it, and what moves a record elsewhere. Assumes nothing.
use mathlib.Core.Path.{◌≡◌, refl, sym, ap, ◌∙◌, subst}
use mathlib.Core.Logic.{◌⊎◌, inl, inr, ◌≢◌}
use mathlib.Core.Bool.{Bool, true, false, ◌&&◌, cond}
use Prim.Native.Nat.{ℕ, ◌<◌}
use lib.Dec.{eqb}
use borrow.Author.Tests.{eqb-true, eq-eqb}
use Rattle.words.specs.RwLock.{count, readers_waiting, writers_waiting}
use Rattle.words.specs.declared.Kind.{Kind}
use Rattle.words.specs.declared.Kind.TheVariants as K
use Rattle.words.specs.declared.Next.{Next}
use Rattle.words.specs.declared.Next.TheVariants as Nx
use Rattle.words.specs.declared.Step.{Step}
use Rattle.words.specs.Steps.{map_next}
use Rattle.rwlock.specs.declared.ReadAt.{ReadAt}
use Rattle.rwlock.specs.declared.ReadAt.TheVariants as R
use Rattle.rwlock.specs.declared.WriteAt.{WriteAt}
use Rattle.rwlock.specs.declared.WriteAt.TheVariants as Wr
use Rattle.rwlock.specs.declared.WakeAt.TheVariants as Wk
use Rattle.rwlock.specs.declared.RwLockAt.{RwLockAt}
use Rattle.rwlock.specs.declared.RwLockAt.TheVariants as Rw
use Rattle.rwlock.specs.Positions as RwP
use Rattle.rwlock.specs.RwLock.{read_after_wait, write_after_wait}
use Rattle.mutex.specs.Mutex as Mx
use Rattle.condvar.specs.declared.WaitAt.TheVariants as Wt
use Rattle.condvar.specs.declared.CondvarAt.{CondvarAt}
use Rattle.condvar.specs.declared.CondvarAt.TheVariants as Cn
use Rattle.condvar.specs.Condvar as Cv
use Rattle.once.specs.Once as On
use Rattle.thread_parking.specs.ThreadParking as Pk
use Rattle.calls.specs.declared.At.{At}
use Rattle.calls.specs.declared.At.TheVariants as A
use Rattle.calls.specs.declared.Thread.{Thread}
use Rattle.calls.specs.Objects.{WORDS, size_of, word_of}
use Rattle.calls.specs.Plans.{moved, slept, done, panicked, rwlock_plan, plan_next, plan_of, entered}
use Rattle.calls.specs.Positions.{operand_of, after_wait, waits_of}
use Rattle.world.specs.declared.World.{World}
use Rattle.world.specs.World.{thread_at, word_at}
use Rattle.step.specs.Step.{roused}
use Rattle.kept.proofs.Tests.{no_way}
use Rattle.kept.specs.Laws.{kind_of, object_of, Goes, ended, staying, locking, unlocking, reading, try-reading, read-unlocking, writing, try-writing, write-unlocking, waking, downgrading, waiting, notifying, calling, awaiting, parking, unparking}
use Rattle.kept.proofs.Places.{operand-is}
use Rattle.keeps_counts.proofs.Words.{words-apart, operand-object}
use Rattle.claims_rwlock.proofs.Codes.{outside}
use Rattle.claims_rwlock.proofs.Moves.{LockView, Place, up, down}
use Rattle.claims_rwlock.proofs.Rouse.{Woke, unchanged, reader, writer}
use Rattle.claims_rwlock.proofs.Did.{code_of}
use Rattle.claims_rwlock.proofs.Own.{place_after}

-- whether a position is in a call on lock l
unfoldable pub here : ℕ → At → Bool
here l A.Idle = false
here l (A.Mutex mutex p) = false
here l (A.RwLock lock p) = eqb lock l
here l (A.Condvar condvar p) = false
here l (A.Once once p) = false
here l (A.Parker p) = false

-- its place by Codes
unfoldable pub code_at : ℕ → At → ℕ
code_at l A.Idle = outside
code_at l (A.Mutex mutex p) = outside
code_at l (A.RwLock lock p) = cond (eqb lock l) (code_of p) outside
code_at l (A.Condvar condvar p) = outside
code_at l (A.Once once p) = outside
code_at l (A.Parker p) = outside

-- a thread elsewhere is as one that is idle; s is the number of notifications when it last read writer_notify
unfoldable pub place_at : ℕ → At → Bool → ℕ → Place
place_at l at asleep s = record { code = code_at l at; asleep = asleep && here l at; since = s }

abbrev pub place_of : ℕ → Thread → ℕ → Place
place_of l th s = place_at l th.at th.asleep s

abbrev pub state_at : World → ℕ → ℕ
state_at w l = word_at w (word_of K.RwLock l)

abbrev pub notify_at : World → ℕ → ℕ
notify_at w l = word_at w (word_of K.WriterNotify l)

-- lock l of world w, after n notifications
abbrev pub view_of : ℕ → World → ℕ → (ℕ → ℕ) → LockView
view_of l w n since = record {
  count = count (state_at w l);
  readers = readers_waiting (state_at w l);
  writers = writers_waiting (state_at w l);
  adds = n;
  of = λ u. place_of l (thread_at w u) (since u);
}

pub away : (l : ℕ) (at : At) (b : Bool) (s : ℕ) → here l at ≡ false → place_at l at b s ≡ up outside s
unfolding place_at here code_at
away l A.Idle true s e = refl
away l A.Idle false s e = refl
away l (A.Mutex m p) true s e = refl
away l (A.Mutex m p) false s e = refl
away l (A.RwLock j p) true s e = rw e refl
away l (A.RwLock j p) false s e = rw e refl
away l (A.Condvar c p) true s e = refl
away l (A.Condvar c p) false s e = refl
away l (A.Once o p) true s e = refl
away l (A.Once o p) false s e = refl
away l (A.Parker p) true s e = refl
away l (A.Parker p) false s e = refl

pub near_up : (l : ℕ) (p : RwLockAt) (s : ℕ) → place_at l (A.RwLock l p) false s ≡ up (code_of p) s
unfolding place_at here code_at
near_up l p s = rw (eq-eqb l l refl) refl

pub near_down : (l : ℕ) (p : RwLockAt) (s : ℕ) → place_at l (A.RwLock l p) true s ≡ down (code_of p) s
unfolding place_at here code_at
near_down l p s = rw (eq-eqb l l refl) refl

pub here-is : (l : ℕ) (at : At) → here l at ≡ true → (p : RwLockAt) × (at ≡ A.RwLock l p)
unfolding here
here-is l A.Idle e = no_way e
here-is l (A.Mutex m p) e = no_way e
here-is l (A.RwLock j p) e = (p, ap (λ (x : ℕ). A.RwLock x p) (eqb-true j l e))
here-is l (A.Condvar c p) e = no_way e
here-is l (A.Once o p) e = no_way e
here-is l (A.Parker p) e = no_way e

-- ---- a sleeper that is roused

read-woke : (s : ℕ) (p : ReadAt) → RwP.read_wait_next p ≡ true → Woke (down (code_of (Rw.Read p)) s) (up (code_of (Rw.Read (read_after_wait p))) s)
unfolding RwP.read_wait_next read_after_wait
read-woke s R.Load e = no_way e
read-woke s (R.Exchange seen) e = no_way e
read-woke s (R.Spin slept left) e = no_way e
read-woke s (R.ExchangeContended slept seen) e = no_way e
read-woke s (R.SetWaiting slept seen) e = no_way e
read-woke s (R.Wait seen) e = reader s refl refl

write-woke : (s : ℕ) (p : WriteAt) → RwP.write_wait_next p ≡ true → Woke (down (code_of (Rw.Write p)) s) (up (code_of (Rw.Write (write_after_wait p))) s)
unfolding RwP.write_wait_next write_after_wait
write-woke s Wr.Exchange e = no_way e
write-woke s (Wr.Spin others left) e = no_way e
write-woke s (Wr.ExchangeContended others seen) e = no_way e
write-woke s (Wr.SetWaiting others seen) e = no_way e
write-woke s Wr.LoadSequence e = no_way e
write-woke s (Wr.LoadState sequence) e = no_way e
write-woke s (Wr.Wait sequence) e = writer s refl refl

lock-woke : (s : ℕ) (p : RwLockAt) → RwP.waits_of p ≡ true → Woke (down (code_of p) s) (up (code_of (RwP.after_wait p)) s)
unfolding RwP.waits_of RwP.after_wait
lock-woke s (Rw.Read p) e = read-woke s p e
lock-woke s (Rw.TryRead p) e = no_way e
lock-woke s Rw.ReadUnlock e = no_way e
lock-woke s (Rw.Write p) e = write-woke s p e
lock-woke s (Rw.TryWrite p) e = no_way e
lock-woke s Rw.WriteUnlock e = no_way e
lock-woke s (Rw.Wake b p) e = no_way e
lock-woke s (Rw.Downgrade p) e = no_way e

-- wherever a sleeper stands
pub roused-at : (l s : ℕ) (at : At) → waits_of at ≡ true → Woke (place_at l at true s) (place_at l (after_wait at) false s)
unfolding place_at here code_at waits_of after_wait
roused-at l s A.Idle e = unchanged refl
roused-at l s (A.Mutex m p) e = unchanged refl
roused-at l s (A.RwLock j p) e = go (eqb j l)
  where
    go :
        (b : Bool) →
        Woke (record { code = cond b (code_of p) outside; asleep = b; since = s }) (up (cond b (code_of (RwP.after_wait p)) outside) s)
    go true = lock-woke s p e
    go false = unchanged refl
roused-at l s (A.Condvar c p) e = unchanged refl
roused-at l s (A.Once o p) e = unchanged refl
roused-at l s (A.Parker p) e = unchanged refl

pub roused-of : (l s : ℕ) (th : Thread) → th.asleep ≡ true → waits_of th.at ≡ true → Woke (place_of l th s) (place_of l (roused th) s)
roused-of l s th e h = rw e (roused-at l s th.at h)

-- ---- a step of a call elsewhere stays elsewhere

pub goes-away : (l : ℕ) {at next : At} → Goes at next → here l at ≡ false → here l next ≡ false
unfolding here
goes-away l ended e = refl
goes-away l staying e = e
goes-away l locking e = refl
goes-away l unlocking e = refl
goes-away l reading e = e
goes-away l try-reading e = e
goes-away l read-unlocking e = e
goes-away l writing e = e
goes-away l try-writing e = e
goes-away l write-unlocking e = e
goes-away l waking e = e
goes-away l downgrading e = e
goes-away l waiting e = refl
goes-away l notifying e = refl
goes-away l calling e = refl
goes-away l awaiting e = refl
goes-away l parking e = refl
goes-away l unparking e = refl

-- ---- the words of a lock are named only by calls on it

unfoldable pub of_lock : Kind → Bool
of_lock K.Nothing = false
of_lock K.Mutex = false
of_lock K.RwLock = true
of_lock K.WriterNotify = true
of_lock K.Condvar = false
of_lock K.Once = false
of_lock K.Parker = false

condvar-far : (p : CondvarAt) → of_lock (Cv.operand_of p) ≡ false
unfolding of_lock Cv.operand_of Cv.wait_operand
condvar-far (Cn.Wait m Wt.Load) = refl
condvar-far (Cn.Wait m (Wt.Unlock sequence p)) = refl
condvar-far (Cn.Wait m (Wt.Wait sequence)) = refl
condvar-far (Cn.Wait m (Wt.Relock p)) = refl
condvar-far (Cn.Notify all p) = refl

pub kind-here : (l t : ℕ) (at : At) → of_lock (kind_of at) ≡ true → object_of t at ≡ l → here l at ≡ true
unfolding of_lock kind_of object_of here Mx.operand_of On.operand_of Pk.operand_of
kind-here l t A.Idle e o = no_way e
kind-here l t (A.Mutex m p) e o = no_way e
kind-here l t (A.RwLock j p) e o = eq-eqb j l o
kind-here l t (A.Condvar c p) e o = no_way (sym (condvar-far p) ∙ e)
kind-here l t (A.Once c p) e o = go (On.in_closure p) e
  where
    go : (b : Bool) → of_lock (cond b K.Nothing K.Once) ≡ true → false ≡ true
    go true q = q
    go false q = q
kind-here l t (A.Parker p) e o = no_way e

pub far-word :
    (l t : ℕ) (at : At) (kind : Kind) → of_lock kind ≡ true → l < size_of kind → operand_of t at < WORDS → here l at ≡ false →
    word_of kind l ≢ operand_of t at
far-word l t at kind k h within e q =
    let p = words-apart kind (kind_of at) l (object_of t at) h (operand-object t at within) (q ∙ operand-is t at) in
    no_way (sym e ∙ kind-here l t at (subst (λ (x : Kind). of_lock x ≡ true) p.0 k) (sym p.1))

-- ---- a step of a call on this lock

pub near_next : (l : ℕ) (p : RwLockAt) (st : Step RwLockAt) (s : ℕ) → place_of l (rwlock_plan l p st).next s ≡ place_after p st.next s
unfolding plan_of moved slept here done panicked entered
near_next l p st s = go st.next
  where
    go : (x : Next RwLockAt) → place_of l (plan_next (A.RwLock l p) l st.word st.hold st.wake (map_next (A.RwLock l) x)).next s ≡ place_after p x s
    go (Nx.Moved q) = near_up l q s
    go Nx.Asleep = near_down l p s
    go (Nx.Ended value) = away l A.Idle false s refl
    go (Nx.Panics number) = away l A.Idle false s refl
    go (Nx.Closure q) = near_up l q s

-- one of the two words
pub two-words : (p : RwLockAt) → (RwP.operand_of p ≡ K.RwLock) ⊎ (RwP.operand_of p ≡ K.WriterNotify)
unfolding RwP.operand_of RwP.write_operand RwP.wake_operand
two-words (Rw.Read p) = inl refl
two-words (Rw.TryRead p) = inl refl
two-words Rw.ReadUnlock = inl refl
two-words (Rw.Write Wr.Exchange) = inl refl
two-words (Rw.Write (Wr.Spin others left)) = inl refl
two-words (Rw.Write (Wr.ExchangeContended others seen)) = inl refl
two-words (Rw.Write (Wr.SetWaiting others seen)) = inl refl
two-words (Rw.Write Wr.LoadSequence) = inr refl
two-words (Rw.Write (Wr.LoadState sequence)) = inl refl
two-words (Rw.Write (Wr.Wait sequence)) = inr refl
two-words (Rw.TryWrite p) = inl refl
two-words Rw.WriteUnlock = inl refl
two-words (Rw.Wake b Wk.ExchangeWriters) = inl refl
two-words (Rw.Wake b Wk.ExchangeBoth) = inl refl
two-words (Rw.Wake b (Wk.Notify both)) = inr refl
two-words (Rw.Wake b (Wk.WakeWriter both)) = inr refl
two-words (Rw.Wake b Wk.ExchangeReaders) = inl refl
two-words (Rw.Wake b Wk.WakeReaders) = inl refl
two-words (Rw.Downgrade p) = inl refl
