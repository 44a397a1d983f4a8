-- Positions by their words and objects: which object the operand's word belongs to, that it exists where the position's objects do, and
-- that a step of a call keeps both. Assumes nothing.
use mathlib.Core.Path.{◌≡◌, refl, sym}
use mathlib.Core.Logic.{◌⊎◌, inl, inr, ◌≢◌}
use mathlib.Core.Bool.{Bool, true, false, cond, ◌&&◌}
use Prim.Native.Nat.{ℕ, ◌<◌}
use lib.Dec.{ltb}
use borrow.Author.Tests.{ltb-true}
use Rattle.queue.specs.Row.{THREADS}
use Rattle.words.specs.declared.Kind.TheVariants as K
use Rattle.rwlock.specs.declared.WriteAt.{WriteAt}
use Rattle.rwlock.specs.declared.WriteAt.TheVariants as Wr
use Rattle.rwlock.specs.declared.WakeAt.{WakeAt}
use Rattle.rwlock.specs.declared.WakeAt.TheVariants as Wk
use Rattle.rwlock.specs.declared.RwLockAt.{RwLockAt}
use Rattle.rwlock.specs.declared.RwLockAt.TheVariants as X
use Rattle.condvar.specs.declared.WaitAt.TheVariants as Wt
use Rattle.condvar.specs.declared.CondvarAt.{CondvarAt}
use Rattle.condvar.specs.declared.CondvarAt.TheVariants as C
use Rattle.thread_parking.specs.declared.ParkerAt.{ParkerAt}
use Rattle.thread_parking.specs.declared.ParkerAt.TheVariants as Pr
use Rattle.mutex.specs.Mutex as Mx
use Rattle.rwlock.specs.Positions as RwP
use Rattle.condvar.specs.Condvar as Cv
use Rattle.once.specs.Once as On
use Rattle.thread_parking.specs.ThreadParking as Pk
use Rattle.calls.specs.declared.At.{At}
use Rattle.calls.specs.declared.At.TheVariants as A
use Rattle.calls.specs.Objects.{MUTEXES, RWLOCKS, CONDVARS, ONCES, WORDS, size_of, word_of}
use Rattle.calls.specs.Positions.{call_of, mutex_call, rwlock_call, condvar_call, once_call, parker_call, exists, condvar_exists, parker_exists, in_closure, operand_of}
use Rattle.calls.proofs.Objects.{word-there}
use Rattle.kept.proofs.Tests.{no_way, and_left, and_right}
use Rattle.kept.specs.Laws.{Goes, ended, staying, locking, unlocking, reading, try-reading, read-unlocking, writing, try-writing, write-unlocking, waking, downgrading, waiting, notifying, calling, awaiting, parking, unparking, kind_of, object_of}

-- a step of a call leads to the same call, or ends it
pub goes-call : {at next : At} → Goes at next → (next ≡ A.Idle) ⊎ (call_of next ≡ call_of at)
unfolding call_of mutex_call rwlock_call condvar_call once_call parker_call
goes-call ended = inl refl
goes-call staying = inr refl
goes-call locking = inr refl
goes-call unlocking = inr refl
goes-call reading = inr refl
goes-call try-reading = inr refl
goes-call read-unlocking = inr refl
goes-call writing = inr refl
goes-call try-writing = inr refl
goes-call write-unlocking = inr refl
goes-call waking = inr refl
goes-call downgrading = inr refl
goes-call waiting = inr refl
goes-call notifying = inr refl
goes-call calling = inr refl
goes-call awaiting = inr refl
goes-call parking = inr refl
goes-call unparking = inr refl

-- .. and to a position whose objects exist
pub goes-exists : {at next : At} → Goes at next → exists at ≡ true → exists next ≡ true
unfolding exists condvar_exists parker_exists
goes-exists ended e = refl
goes-exists staying e = e
goes-exists locking e = e
goes-exists unlocking e = e
goes-exists reading e = e
goes-exists try-reading e = e
goes-exists read-unlocking e = e
goes-exists writing e = e
goes-exists try-writing e = e
goes-exists write-unlocking e = e
goes-exists waking e = e
goes-exists downgrading e = e
goes-exists waiting e = e
goes-exists notifying e = e
goes-exists calling e = e
goes-exists awaiting e = e
goes-exists parking e = e
goes-exists unparking e = e

-- the operand is the word of the object that it belongs to
pub operand-is : (t : ℕ) (at : At) → operand_of t at ≡ word_of (kind_of at) (object_of t at)
unfolding operand_of kind_of object_of word_of
operand-is t A.Idle = refl
operand-is t (A.Mutex m p) = refl
operand-is t (A.RwLock l p) = refl
operand-is t (A.Condvar c p) = refl
operand-is t (A.Once o p) = refl
operand-is t (A.Parker p) = refl

-- both words of an RwLock
write-size : (p : WriteAt) → size_of (RwP.write_operand p) ≡ RWLOCKS
unfolding RwP.write_operand
write-size Wr.Exchange = refl
write-size (Wr.Spin others left) = refl
write-size (Wr.ExchangeContended others seen) = refl
write-size (Wr.SetWaiting others seen) = refl
write-size Wr.LoadSequence = refl
write-size (Wr.LoadState sequence) = refl
write-size (Wr.Wait sequence) = refl

wake-size : (p : WakeAt) → size_of (RwP.wake_operand p) ≡ RWLOCKS
unfolding RwP.wake_operand
wake-size Wk.ExchangeWriters = refl
wake-size Wk.ExchangeBoth = refl
wake-size (Wk.Notify both) = refl
wake-size (Wk.WakeWriter both) = refl
wake-size Wk.ExchangeReaders = refl
wake-size Wk.WakeReaders = refl

lock-size : (p : RwLockAt) → size_of (RwP.operand_of p) ≡ RWLOCKS
unfolding RwP.operand_of
lock-size (X.Read p) = refl
lock-size (X.TryRead p) = refl
lock-size X.ReadUnlock = refl
lock-size (X.Write p) = write-size p
lock-size (X.TryWrite p) = refl
lock-size X.WriteUnlock = refl
lock-size (X.Wake writer p) = wake-size p
lock-size (X.Downgrade p) = refl

condvar-there : (c : ℕ) (p : CondvarAt) → (ltb c CONDVARS && condvar_exists p) ≡ true → Cv.object_of c p < size_of (Cv.operand_of p)
unfolding condvar_exists Cv.object_of Cv.wait_object Cv.operand_of Cv.wait_operand
condvar-there c (C.Wait m Wt.Load) e = ltb-true c CONDVARS (and_left _ (ltb m MUTEXES) e)
condvar-there c (C.Wait m (Wt.Unlock sequence p)) e = ltb-true m MUTEXES (and_right (ltb c CONDVARS) _ e)
condvar-there c (C.Wait m (Wt.Wait sequence)) e = ltb-true c CONDVARS (and_left _ (ltb m MUTEXES) e)
condvar-there c (C.Wait m (Wt.Relock p)) e = ltb-true m MUTEXES (and_right (ltb c CONDVARS) _ e)
condvar-there c (C.Notify all p) e = ltb-true c CONDVARS (and_left _ true e)

parker-there : (t : ℕ) (p : ParkerAt) → t < THREADS → parker_exists p ≡ true → Pk.parker_of t p < THREADS
unfolding parker_exists Pk.parker_of
parker-there t (Pr.Park p) h e = h
parker-there t (Pr.Unpark s p) h e = ltb-true s THREADS e

once-there : (o : ℕ) (b : Bool) → b ≡ false → o < ONCES → o < size_of (cond b K.Nothing K.Once)
once-there o true e h = no_way (sym e)
once-there o false e h = h

-- where a thread is neither idle nor in a closure, the object of its next operation exists
pub object-there : (t : ℕ) (at : At) → t < THREADS → exists at ≡ true → at ≢ A.Idle → in_closure at ≡ false → object_of t at < size_of (kind_of at)
unfolding exists in_closure kind_of object_of Mx.operand_of On.operand_of Pk.operand_of
object-there t A.Idle h e n c = absurd (n refl)
object-there t (A.Mutex m p) h e n c = ltb-true m MUTEXES e
object-there t (A.RwLock l p) h e n c = rw (lock-size p) (ltb-true l RWLOCKS e)
object-there t (A.Condvar c p) h e n k = condvar-there c p e
object-there t (A.Once o p) h e n c = once-there o (On.in_closure p) c (ltb-true o ONCES e)
object-there t (A.Parker p) h e n c = parker-there t p h e

-- .. and so its operand is within the row
pub operand-there : (t : ℕ) (at : At) → t < THREADS → exists at ≡ true → at ≢ A.Idle → in_closure at ≡ false → operand_of t at < WORDS
operand-there t at h e n c = rw (operand-is t at) (word-there (kind_of at) (object_of t at) (object-there t at h e n c))
