-- Demand 3, sentence by sentence: what is said of every world that a list of acts makes of a fresh one. Here are the definitions that the
-- sentences use and the sentences, each a type; that they hold is `demand-three` and its neighbours in proofs/Proved.antt. Assumes nothing.
use Rattle.std.specs.Prelude.{◌≡◌, ◌⊎◌, ◌≢◌, Bool, true, false, not, cond, ◌&&◌, ◌||◌, List, [], ◌∷◌, ◌++◌, ℕ, zero, suc, ◌+◌, ◌-◌, ◌/◌, ◌^◌, ◌≤◌, ◌<◌, eqb, ltb, leb, get_or, drop, take}
use Rattle.words.specs.Once.{INCOMPLETE, POISONED, RUNNING, COMPLETE, QUEUED, state_of}
use Rattle.words.specs.RwLock.{READ_LOCKED, WRITE_LOCKED, MASK, MAX_READERS, count, is_unlocked, is_write_locked, has_readers_waiting, has_writers_waiting, read_unlocked, write_unlocked}
use Rattle.words.specs.declared.Kind.{Kind}
use Rattle.words.specs.declared.Kind.TheVariants as K
use Rattle.queue.specs.Row.{THREADS}
use Rattle.mutex.specs.declared.LockAt.{LockAt}
use Rattle.mutex.specs.declared.LockAt.TheVariants as L
use Rattle.mutex.specs.declared.UnlockAt.{UnlockAt}
use Rattle.mutex.specs.declared.UnlockAt.TheVariants as U
use Rattle.mutex.specs.declared.MutexAt.{MutexAt}
use Rattle.mutex.specs.declared.MutexAt.TheVariants as M
use Rattle.condvar.specs.declared.WaitAt.{WaitAt}
use Rattle.condvar.specs.declared.WaitAt.TheVariants as Wt
use Rattle.condvar.specs.declared.CondvarAt.TheVariants as C
use Rattle.once.specs.declared.CallAt.{CallAt}
use Rattle.once.specs.declared.CallAt.TheVariants as Ca
use Rattle.once.specs.declared.WaitAt as OnceWait
use Rattle.once.specs.declared.WaitAt.TheVariants as Ow
use Rattle.once.specs.declared.OnceAt.{OnceAt}
use Rattle.once.specs.declared.OnceAt.TheVariants as O
use Rattle.rwlock.specs.declared.ReadAt.{ReadAt}
use Rattle.rwlock.specs.declared.ReadAt.TheVariants as R
use Rattle.rwlock.specs.declared.TryAt.{TryAt}
use Rattle.rwlock.specs.declared.TryAt.TheVariants as T
use Rattle.rwlock.specs.declared.WriteAt.{WriteAt}
use Rattle.rwlock.specs.declared.WriteAt.TheVariants as Wr
use Rattle.rwlock.specs.declared.WakeAt.{WakeAt}
use Rattle.rwlock.specs.declared.WakeAt.TheVariants as Wk
use Rattle.rwlock.specs.declared.DowngradeAt.{DowngradeAt}
use Rattle.rwlock.specs.declared.DowngradeAt.TheVariants as D
use Rattle.rwlock.specs.declared.RwLockAt.{RwLockAt}
use Rattle.rwlock.specs.declared.RwLockAt.TheVariants as X
use Rattle.calls.specs.declared.At.{At}
use Rattle.calls.specs.declared.At.TheVariants as A
use Rattle.calls.specs.declared.Event.{Event}
use Rattle.calls.specs.declared.Event.TheVariants as E
use Rattle.calls.specs.Objects.{MUTEXES, RWLOCKS, word_of}
use Rattle.calls.specs.Positions.{operand_of, is_idle}
use Rattle.tally.specs.declared.Tally.{Tally}
use Rattle.world.specs.declared.World.{World}
use Rattle.world.specs.World.{fresh_world, thread_at, word_at, sleeps_on}
use Rattle.world.specs.Holds.{holds_mutex, holds_write, reads_of}
use Rattle.sound.specs.Ranges.{sum_from}
use Rattle.sound.specs.Sound.{sound_world}
use Rattle.acts.specs.declared.Fields.{Fields}
use Rattle.acts.specs.Acts.{act_of, acts_of, Sized}
use Rattle.replay_log.specs.Run.{fields_of, state_of as replay_state}
use Rattle.kept.specs.Shape.{Shaped}
use Rattle.parts.specs.Parts.{Bytes, Part, bytes_of, Reached, in_parts}

-- each follows from the other
abbrev pub Exactly : Type 0 → Type 0 → Type 0
Exactly P Q = (P → Q) × (Q → P)

-- the world that a list of acts, accepted or refused, makes of a fresh one
abbrev pub reached : List Fields → World
reached acts = acts_of fresh_world acts

-- ---- 1. The history: the beginnings and ends of holds that a list of acts gave, each from an act and its own answer

-- the kinds of holds
pub data What : Type 0 where
  of-mutex : What
  for-writing : What
  for-reading : What

-- an entry: a hold of a thread on an object begins, or ends; an RwLock has so many forgotten reads
pub data Mark : Type 0 where
  begins : What → ℕ → ℕ → Mark
  ends : What → ℕ → ℕ → Mark
  forgets : ℕ → ℕ → Mark

-- a call that takes a lock does so by its last step, which answers done 1
abbrev pub taken : Bool → What → ℕ → ℕ → List Mark
taken granted what t object = cond granted (begins what t object ∷ []) []

-- unlock frees by its swap
unfoldable pub unlock_marks : UnlockAt → ℕ → ℕ → List Mark
unlock_marks U.Swap t mutex = ends of-mutex t mutex ∷ []
unlock_marks U.Wake t mutex = []

unfoldable pub mutex_marks : MutexAt → Bool → ℕ → ℕ → List Mark
mutex_marks (M.Lock p) granted t mutex = taken granted of-mutex t mutex
mutex_marks M.TryLock granted t mutex = taken granted of-mutex t mutex
mutex_marks (M.Unlock p) granted t mutex = unlock_marks p t mutex

-- a condvar wait frees its mutex and takes it again
unfoldable pub wait_marks : WaitAt → Bool → ℕ → ℕ → List Mark
wait_marks Wt.Load granted t mutex = []
wait_marks (Wt.Unlock sequence p) granted t mutex = unlock_marks p t mutex
wait_marks (Wt.Wait sequence) granted t mutex = []
wait_marks (Wt.Relock p) granted t mutex = taken granted of-mutex t mutex

-- downgrade turns the write hold into a read hold by its fetch_add
unfoldable pub downgrade_marks : DowngradeAt → ℕ → ℕ → List Mark
downgrade_marks D.Add t lock = ends for-writing t lock ∷ begins for-reading t lock ∷ []
downgrade_marks D.Subtract t lock = []
downgrade_marks D.WakeReaders t lock = []

-- the unlocks free by their fetch_sub
unfoldable pub rwlock_marks : RwLockAt → Bool → ℕ → ℕ → List Mark
rwlock_marks (X.Read p) granted t lock = taken granted for-reading t lock
rwlock_marks (X.TryRead p) granted t lock = taken granted for-reading t lock
rwlock_marks X.ReadUnlock granted t lock = ends for-reading t lock ∷ []
rwlock_marks (X.Write p) granted t lock = taken granted for-writing t lock
rwlock_marks (X.TryWrite p) granted t lock = taken granted for-writing t lock
rwlock_marks X.WriteUnlock granted t lock = ends for-writing t lock ∷ []
rwlock_marks (X.Wake writer p) granted t lock = []
rwlock_marks (X.Downgrade p) granted t lock = downgrade_marks p t lock

-- a step of thread t from a position; `granted`: whether it answered done 1
unfoldable pub step_marks : At → Bool → ℕ → List Mark
step_marks A.Idle granted t = []
step_marks (A.Mutex mutex p) granted t = mutex_marks p granted t mutex
step_marks (A.RwLock lock p) granted t = rwlock_marks p granted t lock
step_marks (A.Condvar condvar (C.Wait mutex p)) granted t = wait_marks p granted t mutex
step_marks (A.Condvar condvar (C.Notify all p)) granted t = []
step_marks (A.Once once p) granted t = []
step_marks (A.Parker p) granted t = []

-- an act in world w, by its answer: a set of forgotten reads gives that, a step what its position says, all else nothing
unfoldable pub answer_marks : World → Fields → Event → List Mark
answer_marks w a E.Set = cond (eqb a.choice 0) (forgets a.object a.value ∷ []) []
answer_marks w a E.Begun = []
answer_marks w a (E.Moved woken) = step_marks (thread_at w a.thread).at false a.thread
answer_marks w a (E.Done value woken) = step_marks (thread_at w a.thread).at (eqb value 1) a.thread
answer_marks w a E.Slept = step_marks (thread_at w a.thread).at false a.thread
answer_marks w a (E.Panic number woken) = step_marks (thread_at w a.thread).at false a.thread
answer_marks w a E.Closure = step_marks (thread_at w a.thread).at false a.thread
answer_marks w a E.Woken = []
answer_marks w a E.Closed = []
answer_marks w a (E.Refused number) = []

-- the history from world w on, the first act's entries first
unfoldable pub history_from : World → List Fields → List Mark
history_from w [] = []
history_from w (a ∷ acts) = answer_marks w a (act_of w a).event ++ history_from (act_of w a).world acts

abbrev pub history : List Fields → List Mark
history acts = history_from fresh_world acts

-- one hold: its kind, its thread, its object
abbrev pub is_same : What → What → Bool
is_same of-mutex of-mutex = true
is_same of-mutex for-writing = false
is_same of-mutex for-reading = false
is_same for-writing of-mutex = false
is_same for-writing for-writing = true
is_same for-writing for-reading = false
is_same for-reading of-mutex = false
is_same for-reading for-writing = false
is_same for-reading for-reading = true

abbrev pub same_hold : What → ℕ → ℕ → What → ℕ → ℕ → Bool
same_hold what t object kind u number = is_same what kind && (eqb t u && eqb object number)

-- how often it began, how often it ended, and how often it is held: begun less ended
unfoldable pub begun : What → ℕ → ℕ → List Mark → ℕ
begun what t object [] = 0
begun what t object (begins kind u number ∷ h) = cond (same_hold what t object kind u number) 1 0 + begun what t object h
begun what t object (ends kind u number ∷ h) = begun what t object h
begun what t object (forgets lock value ∷ h) = begun what t object h

unfoldable pub ended : What → ℕ → ℕ → List Mark → ℕ
ended what t object [] = 0
ended what t object (begins kind u number ∷ h) = ended what t object h
ended what t object (ends kind u number ∷ h) = cond (same_hold what t object kind u number) 1 0 + ended what t object h
ended what t object (forgets lock value ∷ h) = ended what t object h

unfoldable pub held : What → ℕ → ℕ → List Mark → ℕ
held what t object h = begun what t object h - ended what t object h

-- how many forgotten reads a lock has, from n on: as many as were set last
unfoldable pub forgotten_from : ℕ → ℕ → List Mark → ℕ
forgotten_from lock n [] = n
forgotten_from lock n (begins kind u number ∷ h) = forgotten_from lock n h
forgotten_from lock n (ends kind u number ∷ h) = forgotten_from lock n h
forgotten_from lock n (forgets number value ∷ h) = forgotten_from lock (cond (eqb lock number) value n) h

abbrev pub forgotten_by : ℕ → List Mark → ℕ
forgotten_by lock h = forgotten_from lock 0 h

-- over all threads: the holds of a kind on an object, and the reads held of a lock, forgotten ones included
unfoldable pub holds_by : What → ℕ → List Mark → ℕ
holds_by what object h = sum_from (λ (t : ℕ). held what t object h) THREADS 0

abbrev pub reads_by : ℕ → List Mark → ℕ
reads_by lock h = forgotten_by lock h + holds_by for-reading lock h

-- how many objects of a kind of hold there are
abbrev pub objects : What → ℕ
objects of-mutex = MUTEXES
objects for-writing = RWLOCKS
objects for-reading = RWLOCKS

-- ---- 2. The tables are the history's

-- an entry names what exists
abbrev pub Names : Mark → Type 0
Names (begins what t object) = (t < THREADS) × (object < objects what)
Names (ends what t object) = (t < THREADS) × (object < objects what)
Names (forgets lock value) = (lock < RWLOCKS) × (value ≤ MAX_READERS)

pub record TablesTold (w : World) (h : List Mark) : Type 0 where
  -- each table's entry is what the history counts
  pub mutexes : (t mutex : ℕ) → t < THREADS → mutex < MUTEXES → cond (holds_mutex w.locked mutex t) 1 0 ≡ held of-mutex t mutex h
  pub writes : (t lock : ℕ) → t < THREADS → lock < RWLOCKS → cond (holds_write w.written lock t) 1 0 ≡ held for-writing t lock h
  pub reads : (t lock : ℕ) → t < THREADS → lock < RWLOCKS → reads_of w.reads lock t ≡ held for-reading t lock h
  pub forgotten : (lock : ℕ) → lock < RWLOCKS → get_or w.forgotten lock 0 ≡ forgotten_by lock h
  -- nothing ends that had not begun: at each end the hold is held, by what came before it
  pub ends_held : (what : What) (t object : ℕ) (before after : List Mark) → h ≡ before ++ (ends what t object ∷ after) → 0 < held what t object before
  -- so in each first part no difference is lost
  pub ends-begun : (what : What) (t object : ℕ) (n : ℕ) → ended what t object (take n h) ≤ begun what t object (take n h)
  -- and no entry is of a thread or an object that does not exist
  pub named : (x : Mark) (before after : List Mark) → h ≡ before ++ (x ∷ after) → Names x

-- ---- 3. Counting, from the history

-- nobody holds an object, and somebody does, by a kind of hold
abbrev pub Nobody : What → ℕ → List Mark → Type 0
Nobody what object h = (t : ℕ) → t < THREADS → held what t object h ≡ 0

abbrev pub Somebody : What → ℕ → List Mark → Type 0
Somebody what object h = (t : ℕ) × ((t < THREADS) × (0 < held what t object h))

-- one at the most, and once
pub record AtMostOne (what : What) (object : ℕ) (h : List Mark) : Type 0 where
  pub once : (t : ℕ) → t < THREADS → held what t object h ≤ 1
  pub alone : (t u : ℕ) → t < THREADS → u < THREADS → 0 < held what t object h → 0 < held what u object h → u ≡ t

abbrev pub mutex_word : World → ℕ → ℕ
mutex_word w mutex = word_at w (word_of K.Mutex mutex)

abbrev pub low_bits : World → ℕ → ℕ
low_bits w lock = count (word_at w (word_of K.RwLock lock))

-- a mutex word is 0 exactly when nobody holds it, and never two do
pub record MutexCounted (w : World) (mutex : ℕ) (h : List Mark) : Type 0 where
  pub free : Exactly (mutex_word w mutex ≡ 0) (Nobody of-mutex mutex h)
  pub locked : Exactly (mutex_word w mutex ≢ 0) (Somebody of-mutex mutex h)
  pub holders : AtMostOne of-mutex mutex h

-- nobody holds an RwLock: none for writing, none for reading, and no read is forgotten
pub record LockFree (lock : ℕ) (h : List Mark) : Type 0 where
  pub no-writer : Nobody for-writing lock h
  pub no_reader : Nobody for-reading lock h
  pub none-forgotten : forgotten_by lock h ≡ 0

-- the low 30 bits are the reads held, forgotten ones included, exactly when nobody writes, or MASK, exactly under its one writer, with no
-- read held or forgotten then; they are never both
pub record LockCounted (w : World) (lock : ℕ) (h : List Mark) : Type 0 where
  pub either : (low_bits w lock ≡ reads_by lock h) ⊎ (low_bits w lock ≡ MASK)
  pub never_both : low_bits w lock ≡ reads_by lock h → low_bits w lock ≡ MASK → ⊥
  pub reading : Exactly (low_bits w lock ≡ reads_by lock h) (Nobody for-writing lock h)
  pub few : reads_by lock h ≤ MAX_READERS
  pub writing : Exactly (low_bits w lock ≡ MASK) (Somebody for-writing lock h)
  pub writers : AtMostOne for-writing lock h
  pub writer-alone : Somebody for-writing lock h → Nobody for-reading lock h × (forgotten_by lock h ≡ 0)
  pub free : Exactly (low_bits w lock ≡ 0) (LockFree lock h)

-- ---- 4. and 5. No sleeper forgotten

-- thread t sleeps on the word of an object
abbrev pub SleepsOn : World → Kind → ℕ → ℕ → Type 0
SleepsOn w kind object t = sleeps_on (word_of kind object) t (thread_at w t) ≡ true

-- another thread than t is awake at such a position
pub record Another (w : World) (t : ℕ) (There : At → Type 0) : Type 0 where
  pub who : ℕ
  pub is-thread : who < THREADS
  pub another : who ≢ t
  pub awake : (thread_at w who).asleep ≡ false
  pub there : There (thread_at w who).at

-- the positions of `lock_contended`'s loop
pub data Contends : LockAt → Type 0 where
  at-swap : Contends L.Swap
  at-wait : Contends L.Wait
  at-spin-again : {left : ℕ} → Contends (L.SpinAgain left)

-- inside lock or unlock on a mutex, or in a condvar wait's mutex part on it: in the loop of lock, or at the wake of unlock
pub data TendsMutex (mutex : ℕ) : At → Type 0 where
  locking : {p : LockAt} → Contends p → TendsMutex mutex (A.Mutex mutex (M.Lock p))
  unlocking : TendsMutex mutex (A.Mutex mutex (M.Unlock U.Wake))
  wait-locking : {condvar : ℕ} {p : LockAt} → Contends p → TendsMutex mutex (A.Condvar condvar (C.Wait mutex (Wt.Relock p)))
  wait-unlocking : {condvar sequence : ℕ} → TendsMutex mutex (A.Condvar condvar (C.Wait mutex (Wt.Unlock sequence U.Wake)))

-- where a thread sleeps on a mutex that nobody holds, another tends it
abbrev pub MutexWakes : List Fields → ℕ → Type 0
MutexWakes acts mutex =
    (t : ℕ) → SleepsOn (reached acts) K.Mutex mutex t → Nobody of-mutex mutex (history acts) → Another (reached acts) t (TendsMutex mutex)

-- a thread sleeps on an RwLock: on its state word in read, or on its writer_notify in write
pub data SleepsOnLock (w : World) (lock t : ℕ) : Type 0 where
  in-read : {seen : ℕ} → SleepsOn w K.RwLock lock t → (thread_at w t).at ≡ A.RwLock lock (X.Read (R.Wait seen)) → SleepsOnLock w lock t
  in-write : {sequence : ℕ} → SleepsOn w K.WriterNotify lock t → (thread_at w t).at ≡ A.RwLock lock (X.Write (Wr.Wait sequence)) → SleepsOnLock w lock t

-- whoever sleeps on one of its words does so in that call
abbrev pub LockSleepers : World → ℕ → Type 0
LockSleepers w lock = (t : ℕ) → SleepsOn w K.RwLock lock t ⊎ SleepsOn w K.WriterNotify lock t → SleepsOnLock w lock t

-- inside write, or inside read_unlock or write_unlock behind the operation that freed it (`writer` says which)
pub data TendsLock (lock : ℕ) : At → Type 0 where
  writing : {p : WriteAt} → TendsLock lock (A.RwLock lock (X.Write p))
  waking : {writer : Bool} {p : WakeAt} → TendsLock lock (A.RwLock lock (X.Wake writer p))

-- where a thread sleeps on an RwLock that nobody holds, another tends it
abbrev pub LockWakes : List Fields → ℕ → Type 0
LockWakes acts lock =
    (t : ℕ) → SleepsOnLock (reached acts) lock t → LockFree lock (history acts) → Another (reached acts) t (TendsLock lock)

-- whether a fetch_add on writer_notify is next
unfoldable pub wake_notifies : WakeAt → Bool
wake_notifies Wk.ExchangeWriters = false
wake_notifies Wk.ExchangeBoth = false
wake_notifies (Wk.Notify both) = true
wake_notifies (Wk.WakeWriter both) = false
wake_notifies Wk.ExchangeReaders = false
wake_notifies Wk.WakeReaders = false

unfoldable pub lock_notifies : RwLockAt → Bool
lock_notifies (X.Read p) = false
lock_notifies (X.TryRead p) = false
lock_notifies X.ReadUnlock = false
lock_notifies (X.Write p) = false
lock_notifies (X.TryWrite p) = false
lock_notifies X.WriteUnlock = false
lock_notifies (X.Wake writer p) = wake_notifies p
lock_notifies (X.Downgrade p) = false

-- .. on that of one lock
unfoldable pub notifies_next : ℕ → At → Bool
notifies_next lock A.Idle = false
notifies_next lock (A.Mutex mutex p) = false
notifies_next lock (A.RwLock number p) = eqb number lock && lock_notifies p
notifies_next lock (A.Condvar condvar p) = false
notifies_next lock (A.Once once p) = false
notifies_next lock (A.Parker p) = false

-- an act in world w that answered so ran the fetch_add: it moved, from before it
unfoldable pub notifies : ℕ → World → Fields → Event → ℕ
notifies lock w a E.Set = 0
notifies lock w a E.Begun = 0
notifies lock w a (E.Moved woken) = cond (notifies_next lock (thread_at w a.thread).at) 1 0
notifies lock w a (E.Done value woken) = 0
notifies lock w a E.Slept = 0
notifies lock w a (E.Panic number woken) = 0
notifies lock w a E.Closure = 0
notifies lock w a E.Woken = 0
notifies lock w a E.Closed = 0
notifies lock w a (E.Refused number) = 0

-- how many writer notifications of a lock a list of acts gave, and of all locks together
unfoldable pub notifications_from : World → List Fields → ℕ → ℕ
notifications_from w [] lock = 0
notifications_from w (a ∷ acts) lock = notifies lock w a (act_of w a).event + notifications_from (act_of w a).world acts lock

abbrev pub notifications : List Fields → ℕ → ℕ
notifications acts lock = notifications_from fresh_world acts lock

abbrev pub all_notifications : List Fields → ℕ
all_notifications acts = sum_from (notifications acts) RWLOCKS 0

-- ---- 8. The sources' own asserts, and their plain sums and differences

-- a test that is run only where another comes out true
abbrev pub implies : Bool → Bool → Bool
implies a b = not a || b

-- rwlock/futex.rs 111, 115 and 118 with 270: read_unlock over the word that its fetch_sub sees
unfoldable pub read_unlock_holds : ℕ → Bool
read_unlock_holds word =
    let state = read_unlocked word in
    leb READ_LOCKED word
    && implies (has_readers_waiting state) (has_writers_waiting state)
    && implies (is_unlocked state && has_writers_waiting state) (is_unlocked state)

-- 183, 185 and 187 with 270: write_unlock
unfoldable pub write_unlock_holds : ℕ → Bool
write_unlock_holds word =
    let state = write_unlocked word in
    leb WRITE_LOCKED word
    && is_unlocked state
    && implies (has_writers_waiting state || has_readers_waiting state) (is_unlocked state)

-- 199: downgrade, of the state before its fetch_add
unfoldable pub downgrade_holds : DowngradeAt → ℕ → Bool
downgrade_holds D.Add word = is_write_locked word
downgrade_holds D.Subtract word = true
downgrade_holds D.WakeReaders word = true

-- 99, 132 and 89: state + READ_LOCKED; 167: s + WRITE_LOCKED
unfoldable pub fits : ℕ → ℕ → Bool
fits seen more = ltb (seen + more) (2 ^ 32)

unfoldable pub read_holds : ReadAt → Bool
read_holds R.Load = true
read_holds (R.Exchange seen) = fits seen READ_LOCKED
read_holds (R.Spin slept left) = true
read_holds (R.ExchangeContended slept seen) = fits seen READ_LOCKED
read_holds (R.SetWaiting slept seen) = true
read_holds (R.Wait seen) = true

unfoldable pub try_holds : ℕ → TryAt → Bool
try_holds more T.Load = true
try_holds more (T.Exchange seen) = fits seen more

unfoldable pub rwlock_holds : RwLockAt → ℕ → Bool
rwlock_holds (X.Read p) word = read_holds p
rwlock_holds (X.TryRead p) word = try_holds READ_LOCKED p
rwlock_holds X.ReadUnlock word = read_unlock_holds word
rwlock_holds (X.Write p) word = true
rwlock_holds (X.TryWrite p) word = try_holds WRITE_LOCKED p
rwlock_holds X.WriteUnlock word = write_unlock_holds word
rwlock_holds (X.Wake writer p) word = true
rwlock_holds (X.Downgrade p) word = downgrade_holds p word

-- once/futex.rs 189: the arm of call's match that no other takes, over the value that its loop goes on with
unfoldable pub other_arm : Bool → ℕ → Bool
other_arm ignores state =
    not (eqb state COMPLETE) && (not (eqb state POISONED && not ignores) && not (eqb state INCOMPLETE || eqb state POISONED))

unfoldable pub running_else : Bool → ℕ → Bool
running_else ignores seen = implies (other_arm ignores (state_of seen)) (eqb (state_of seen) RUNNING)

-- 193 and 125: state_and_queued + QUEUED has room in a byte, so in a SmallPrimitive of any width
unfoldable pub queued_fits : ℕ → Bool
queued_fits seen = ltb (seen + QUEUED) 256

unfoldable pub call_holds : Bool → CallAt → ℕ → Bool
call_holds ignores Ca.Load word = running_else ignores word
call_holds ignores (Ca.ExchangeRunning seen) word = running_else ignores word
call_holds ignores Ca.Closure word = true
call_holds ignores (Ca.Swap ending) word = true
call_holds ignores (Ca.WakeAll panicking) word = true
call_holds ignores (Ca.ExchangeQueued seen) word = running_else ignores word && queued_fits seen
call_holds ignores (Ca.Wait seen) word = true

unfoldable pub once_wait_holds : OnceWait.WaitAt → Bool
once_wait_holds Ow.Load = true
once_wait_holds (Ow.ExchangeQueued seen) = queued_fits seen
once_wait_holds (Ow.Wait seen) = true

unfoldable pub once_holds : OnceAt → ℕ → Bool
once_holds (O.Call ignores p) word = call_holds ignores p word
once_holds (O.Wait ignores p) word = once_wait_holds p
once_holds O.IsCompleted word = true

-- a thread that is about to run the operation at its position, over the word that it will see: every assert behind it holds, and no plain
-- sum or difference wraps
unfoldable pub asserts_hold : At → ℕ → Bool
asserts_hold A.Idle word = true
asserts_hold (A.Mutex mutex p) word = true
asserts_hold (A.RwLock lock p) word = rwlock_holds p word
asserts_hold (A.Condvar condvar p) word = true
asserts_hold (A.Once once p) word = once_holds p word
asserts_hold (A.Parker p) word = true

abbrev pub NoAssertFails : World → Type 0
NoAssertFails w = (t : ℕ) → asserts_hold (thread_at w t).at (word_at w (operand_of t (thread_at w t).at)) ≡ true

-- ---- 10. Quiet worlds

-- every thread inside a call sleeps
abbrev pub Quiet : World → Type 0
Quiet w = (t : ℕ) → (thread_at w t).asleep ≡ false → is_idle (thread_at w t).at ≡ true

-- somebody holds an RwLock, or a read of it is forgotten
pub data LockHeld (lock : ℕ) (h : List Mark) : Type 0 where
  by-writer : Somebody for-writing lock h → LockHeld lock h
  by-reader : Somebody for-reading lock h → LockHeld lock h
  by-forgotten : 0 < forgotten_by lock h → LockHeld lock h

-- ---- Demand 3, of a list of acts

pub record DemandThree (acts : List Fields) : Type 0 where
  -- 2. the tables of the world reached are the history's
  pub tables : TablesTold (reached acts) (history acts)
  -- 3. counting holds from the history
  pub mutexes : (mutex : ℕ) → mutex < MUTEXES → MutexCounted (reached acts) mutex (history acts)
  pub locks : (lock : ℕ) → lock < RWLOCKS → LockCounted (reached acts) lock (history acts)
  -- 4. no sleeper on a mutex is forgotten
  pub mutex-wakes : (mutex : ℕ) → mutex < MUTEXES → MutexWakes acts mutex
  -- 5. no sleeper on an RwLock is forgotten, with fewer than 2 ^ 32 writer notifications of it; so too with fewer of all locks together
  pub lock-sleepers : (lock : ℕ) → lock < RWLOCKS → LockSleepers (reached acts) lock
  pub lock-wakes : (lock : ℕ) → lock < RWLOCKS → notifications acts lock < 2 ^ 32 → LockWakes acts lock
  pub locks-wake : all_notifications acts < 2 ^ 32 → (lock : ℕ) → lock < RWLOCKS → LockWakes acts lock
  -- 8. no assert of the sources fails, and no plain sum or difference of theirs wraps
  pub asserts : NoAssertFails (reached acts)
  -- 10. in a quiet world who sleeps on a mutex or an RwLock sleeps on one that is held
  pub quiet-mutexes :
      Quiet (reached acts) → (mutex t : ℕ) → mutex < MUTEXES → SleepsOn (reached acts) K.Mutex mutex t → Somebody of-mutex mutex (history acts)
  pub quiet-locks :
      Quiet (reached acts) → (lock t : ℕ) → lock < RWLOCKS → notifications acts lock < 2 ^ 32 → SleepsOnLock (reached acts) lock t →
      LockHeld lock (history acts)

-- the whole demand
abbrev pub EveryList : Type 0
EveryList = (acts : List Fields) → Sized acts → DemandThree acts

-- ---- 6. The premise is needed: with 2 ^ 32 notifications a writer sleeps on a lock that nobody holds, and all others are idle

pub record PremiseNeeded : Type 0 where
  pub acts : List Fields
  pub sized : Sized acts
  pub lock : ℕ
  pub is-lock : lock < RWLOCKS
  pub many : notifications acts lock ≡ 2 ^ 32
  pub t : ℕ
  pub sleeps : SleepsOnLock (reached acts) lock t
  pub free : LockFree lock (history acts)
  pub others-idle : (u : ℕ) → u ≢ t → is_idle (thread_at (reached acts) u).at ≡ true

-- ---- 7. For the replay no premise is left

-- the first n records of a log, as acts
unfoldable pub acts_in : ℕ → List ℕ → List Fields
acts_in zero log = []
acts_in (suc n) log = fields_of log ∷ acts_in n (drop 10 log)

-- what the replay reached from a fresh world over a log, in whatever parts its bytes come and with whatever room, and the acts that it ran
abbrev pub replayed : Tally → List Part → Reached
replayed tally parts = in_parts (replay_state fresh_world tally 0) parts

abbrev pub acts_run : Tally → List Part → List Fields
acts_run tally parts = acts_in ((replayed tally parts).run.used / 10) (bytes_of parts)

pub record ReplayDemand (tally : Tally) (parts : List Part) : Type 0 where
  pub world_is : (replayed tally parts).run.state.world ≡ reached (acts_run tally parts)
  pub demand : DemandThree (acts_run tally parts)
  pub few : (lock : ℕ) → lock < RWLOCKS → notifications (acts_run tally parts) lock < 2 ^ 32
  pub lock-wakes : (lock : ℕ) → lock < RWLOCKS → LockWakes (acts_run tally parts) lock
  pub quiet-locks :
      Quiet (reached (acts_run tally parts)) → (lock t : ℕ) → lock < RWLOCKS → SleepsOnLock (reached (acts_run tally parts)) lock t →
      LockHeld lock (history (acts_run tally parts))

abbrev pub EveryReplay : Type 0
EveryReplay = (tally : Tally) (parts : List Part) → Bytes (bytes_of parts) → ReplayDemand tally parts

-- ---- 9. Worlds that only set acts made

-- every act of a list is a set that is accepted
pub data SetsOnly : World → List Fields → Type 0 where
  no-set : {w : World} → SetsOnly w []
  one_set :
      {w : World} {a : Fields} {acts : List Fields} → (act_of w a).event ≡ E.Set → SetsOnly (act_of w a).world acts → SetsOnly w (a ∷ acts)

pub record MadeBySets (w : World) : Type 0 where
  pub acts : List Fields
  pub sized : Sized acts
  pub sets : SetsOnly fresh_world acts
  pub makes : reached acts ≡ w

-- exactly the sound worlds of the code's sizes that have not started
abbrev pub EverySetWorld : Type 0
EverySetWorld = (w : World) → Exactly (MadeBySets w) (Shaped w × ((sound_world w ≡ true) × (w.started ≡ false)))
