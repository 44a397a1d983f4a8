-- What every step keeps, stated once over a position, the word before and the plan. Assumes nothing.
use Rattle.std.specs.Prelude.{◌≡◌, ◌⊎◌, ◌≢◌, Bool, true, false, ℕ, ◌+◌, ◌-◌, ◌^◌, ◌≤◌, ◌<◌}
use Rattle.words.specs.RwLock.{MASK, MAX_READERS, count}
use Rattle.words.specs.declared.Hold.{Hold}
use Rattle.words.specs.declared.Hold.TheVariants as H
use Rattle.words.specs.declared.Kind.{Kind}
use Rattle.words.specs.declared.Kind.TheVariants as K
use Rattle.words.specs.declared.Needs.{Needs}
use Rattle.words.specs.declared.Needs.TheVariants as N
use Rattle.words.specs.declared.Wake.TheVariants as W
use Rattle.mutex.specs.declared.LockAt.{LockAt}
use Rattle.mutex.specs.declared.UnlockAt.{UnlockAt}
use Rattle.mutex.specs.declared.MutexAt.TheVariants as MxAt
use Rattle.rwlock.specs.declared.ReadAt.{ReadAt}
use Rattle.rwlock.specs.declared.TryAt.{TryAt}
use Rattle.rwlock.specs.declared.WriteAt.{WriteAt}
use Rattle.rwlock.specs.declared.WakeAt.{WakeAt}
use Rattle.rwlock.specs.declared.DowngradeAt.{DowngradeAt}
use Rattle.rwlock.specs.declared.RwLockAt.TheVariants as RwAt
use Rattle.condvar.specs.declared.WaitAt as CvWait
use Rattle.condvar.specs.declared.NotifyAt.{NotifyAt}
use Rattle.condvar.specs.declared.CondvarAt.TheVariants as CvAt
use Rattle.once.specs.declared.CallAt.{CallAt}
use Rattle.once.specs.declared.WaitAt as OnWait
use Rattle.once.specs.declared.OnceAt.TheVariants as OnAt
use Rattle.thread_parking.specs.declared.ParkAt.{ParkAt}
use Rattle.thread_parking.specs.declared.UnparkAt.{UnparkAt}
use Rattle.thread_parking.specs.declared.ParkerAt.TheVariants as PkAt
use Rattle.mutex.specs.Mutex as Mx
use Rattle.rwlock.specs.Positions as RwP
use Rattle.condvar.specs.Condvar as Cv
use Rattle.once.specs.Once as On
use Rattle.thread_parking.specs.ThreadParking as Pk
use Rattle.calls.specs.declared.At.{At}
use Rattle.calls.specs.declared.At.TheVariants as A
use Rattle.calls.specs.declared.Plan.{Plan}
use Rattle.calls.specs.Plans.{decide_of}
use Rattle.calls.specs.Positions.{passed_of, waits_of, need_of}

-- the kind of the word that the next operation is about, and the number of the object that the word belongs to
unfoldable pub kind_of : At → Kind
kind_of A.Idle = K.Nothing
kind_of (A.Mutex mutex p) = Mx.operand_of p
kind_of (A.RwLock lock p) = RwP.operand_of p
kind_of (A.Condvar condvar p) = Cv.operand_of p
kind_of (A.Once once p) = On.operand_of p
kind_of (A.Parker p) = Pk.operand_of p

unfoldable pub object_of : ℕ → At → ℕ
object_of t A.Idle = 0
object_of t (A.Mutex mutex p) = mutex
object_of t (A.RwLock lock p) = lock
object_of t (A.Condvar condvar p) = Cv.object_of condvar p
object_of t (A.Once once p) = once
object_of t (A.Parker p) = Pk.parker_of t p

-- the largest value of a word of each kind
unfoldable pub largest : Kind → ℕ
largest K.Nothing = 2 ^ 32 - 1
largest K.Mutex = 2
largest K.RwLock = 2 ^ 32 - 1
largest K.WriterNotify = 2 ^ 32 - 1
largest K.Condvar = 2 ^ 32 - 1
largest K.Once = 7
largest K.Parker = 2 ^ 32 - 1

-- from a position a step leads to one in the same call on the same objects, or the call ends
pub data Goes : At → At → Type 0 where
  ended : {at : At} → Goes at A.Idle
  staying : {at : At} → Goes at at
  locking : {m : ℕ} {p q : LockAt} → Goes (A.Mutex m (MxAt.Lock p)) (A.Mutex m (MxAt.Lock q))
  unlocking : {m : ℕ} {p q : UnlockAt} → Goes (A.Mutex m (MxAt.Unlock p)) (A.Mutex m (MxAt.Unlock q))
  reading : {l : ℕ} {p q : ReadAt} → Goes (A.RwLock l (RwAt.Read p)) (A.RwLock l (RwAt.Read q))
  try-reading : {l : ℕ} {p q : TryAt} → Goes (A.RwLock l (RwAt.TryRead p)) (A.RwLock l (RwAt.TryRead q))
  read-unlocking : {l : ℕ} {q : WakeAt} → Goes (A.RwLock l RwAt.ReadUnlock) (A.RwLock l (RwAt.Wake false q))
  writing : {l : ℕ} {p q : WriteAt} → Goes (A.RwLock l (RwAt.Write p)) (A.RwLock l (RwAt.Write q))
  try-writing : {l : ℕ} {p q : TryAt} → Goes (A.RwLock l (RwAt.TryWrite p)) (A.RwLock l (RwAt.TryWrite q))
  write-unlocking : {l : ℕ} {q : WakeAt} → Goes (A.RwLock l RwAt.WriteUnlock) (A.RwLock l (RwAt.Wake true q))
  waking : {l : ℕ} {b : Bool} {p q : WakeAt} → Goes (A.RwLock l (RwAt.Wake b p)) (A.RwLock l (RwAt.Wake b q))
  downgrading : {l : ℕ} {p q : DowngradeAt} → Goes (A.RwLock l (RwAt.Downgrade p)) (A.RwLock l (RwAt.Downgrade q))
  waiting : {c m : ℕ} {p q : CvWait.WaitAt} → Goes (A.Condvar c (CvAt.Wait m p)) (A.Condvar c (CvAt.Wait m q))
  notifying : {c : ℕ} {b : Bool} {p q : NotifyAt} → Goes (A.Condvar c (CvAt.Notify b p)) (A.Condvar c (CvAt.Notify b q))
  calling : {o : ℕ} {b : Bool} {p q : CallAt} → Goes (A.Once o (OnAt.Call b p)) (A.Once o (OnAt.Call b q))
  awaiting : {o : ℕ} {b : Bool} {p q : OnWait.WaitAt} → Goes (A.Once o (OnAt.Wait b p)) (A.Once o (OnAt.Wait b q))
  parking : {p q : ParkAt} → Goes (A.Parker (PkAt.Park p)) (A.Parker (PkAt.Park q))
  unparking : {s : ℕ} {p q : UnparkAt} → Goes (A.Parker (PkAt.Unpark s p)) (A.Parker (PkAt.Unpark s q))

-- the hold of a mutex against its word: free is 0
pub data MutexDid (word : ℕ) : Hold → ℕ → Type 0 where
  mutex-same : {new : ℕ} → (word ≡ 0 → new ≡ 0) → (new ≡ 0 → word ≡ 0) → MutexDid word H.Same new
  mutex-taken : {new : ℕ} → word ≡ 0 → new ≢ 0 → MutexDid word H.TakeMutex new
  mutex-freed : {new : ℕ} → new ≡ 0 → MutexDid word H.FreeMutex new

-- the hold of an RwLock against the count of its state: an operation that frees or downgrades relies on the hold that it needs
pub data RwLockDid (word : ℕ) : Hold → ℕ → Type 0 where
  lock-same : {new : ℕ} → count new ≡ count word → RwLockDid word H.Same new
  read_taken : {new : ℕ} → count word < MAX_READERS → count new ≡ count word + 1 → RwLockDid word H.TakeRead new
  write-taken : {new : ℕ} → count word ≡ 0 → count new ≡ MASK → RwLockDid word H.TakeWrite new
  read_freed : {new : ℕ} → (0 < count word → count word ≡ count new + 1) → RwLockDid word H.FreeRead new
  write-freed : {new : ℕ} → (count word ≡ MASK → count new ≡ 0) → RwLockDid word H.FreeWrite new
  write-downgraded : {new : ℕ} → (count word ≡ MASK → count new ≡ 1) → RwLockDid word H.Downgrade new

-- a hold against the word that the step is about; a word of another kind says nothing of holds
unfoldable pub Did : Kind → ℕ → Hold → ℕ → Type 0
Did K.Nothing word hold new = hold ≡ H.Same
Did K.Mutex word hold new = MutexDid word hold new
Did K.RwLock word hold new = RwLockDid word hold new
Did K.WriterNotify word hold new = hold ≡ H.Same
Did K.Condvar word hold new = hold ≡ H.Same
Did K.Once word hold new = hold ≡ H.Same
Did K.Parker word hold new = hold ≡ H.Same

-- which hold a change of holds takes away
unfoldable pub asks : Hold → Needs
asks H.Same = N.Nothing
asks H.TakeMutex = N.Nothing
asks H.FreeMutex = N.Mutex
asks H.TakeRead = N.Nothing
asks H.FreeRead = N.Read
asks H.TakeWrite = N.Nothing
asks H.FreeWrite = N.Write
asks H.Downgrade = N.Write

-- which kind of word a change of holds is about
unfoldable pub held_kind : Hold → Kind
held_kind H.Same = K.Nothing
held_kind H.TakeMutex = K.Mutex
held_kind H.FreeMutex = K.Mutex
held_kind H.TakeRead = K.RwLock
held_kind H.FreeRead = K.RwLock
held_kind H.TakeWrite = K.RwLock
held_kind H.FreeWrite = K.RwLock
held_kind H.Downgrade = K.RwLock

-- the values carried have passed their tests at a position, so they have at the next
abbrev pub Passes : At → ℕ → At → Type 0
Passes at word next = passed_of at ≡ true → word < 2 ^ 32 → (kind_of at ≡ K.Once → word ≤ 7) → passed_of next ≡ true

-- a thread that falls asleep does so at a futex_wait, where it stands, and changes nothing else
pub record Sleeps (at : At) (word : ℕ) (p : Plan) : Type 0 where
  pub waits : waits_of at ≡ true
  pub stays : p.next.at ≡ at
  pub calm : p.wake ≡ W.None
  pub same_word : p.word ≡ word
  pub same-hold : p.hold ≡ H.Same

-- the word that a step stores, in its bounds and against the hold; only a Once's bound and an RwLock's count rely on the values carried
pub record Stores (at : At) (word : ℕ) (hold : Hold) (new : ℕ) : Type 0 where
  pub wide : word < 2 ^ 32 → new < 2 ^ 32
  pub small : (kind_of at ≡ K.Once → passed_of at ≡ true) → word ≤ largest (kind_of at) → new ≤ largest (kind_of at)
  pub did : (kind_of at ≡ K.RwLock → (passed_of at ≡ true) × (word < 2 ^ 32)) → Did (kind_of at) word hold new

-- a position asks for a hold only where the one before did, and the step left the hold alone
abbrev pub Asks : At → At → Hold → Type 0
Asks at next hold = ((need_of next).hold ≡ N.Nothing) ⊎ ((need_of next ≡ need_of at) × (hold ≡ H.Same))

-- the hold that a step takes away is the one that its position asks for
abbrev pub Backed : At → Hold → ℕ → Type 0
Backed at hold object = (asks hold ≡ N.Nothing) ⊎ (need_of at ≡ record { hold = asks hold; object = object })

-- the hold that a step changes is of the object that its word belongs to
abbrev pub About : At → Hold → ℕ → Type 0
About at hold object = (hold ≡ H.Same) ⊎ ((kind_of at ≡ held_kind hold) × ((t : ℕ) → object ≡ object_of t at))

-- all of it
pub record Kept (at : At) (word : ℕ) (p : Plan) : Type 0 where
  pub goes : Goes at p.next.at
  pub passes : Passes at word p.next.at
  pub sleeps : p.next.asleep ≡ true → Sleeps at word p
  pub stores : Stores at word p.hold p.word
  pub asks-on : Asks at p.next.at p.hold
  pub backed : Backed at p.hold p.object
  pub about : About at p.hold p.object

-- every step of every call keeps it
abbrev pub EveryStep : Type 0
EveryStep = (at : At) (fails : Bool) (word : ℕ) (anyone : Bool) → Kept at word (decide_of at fails word anyone)
