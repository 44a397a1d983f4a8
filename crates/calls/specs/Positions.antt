-- What holds of each position over all modules: its word, where a wait leads on, what it needs, which call it is in. Assumes nothing.
use Rattle.std.specs.Prelude.{ℕ, Bool, true, false, cond, ◌&&◌, eqb, ltb}
use Rattle.queue.specs.Row.{THREADS}
use Rattle.words.specs.declared.Needs.TheVariants as N
use Rattle.mutex.specs.declared.MutexCall.TheVariants as MC
use Rattle.rwlock.specs.declared.RwLockCall.TheVariants as RC
use Rattle.condvar.specs.declared.CondvarCall.TheVariants as CC
use Rattle.once.specs.declared.OnceCall.TheVariants as OC
use Rattle.thread_parking.specs.declared.ParkerCall.TheVariants as PC
use Rattle.mutex.specs.declared.MutexAt.{MutexAt}
use Rattle.mutex.specs.declared.MutexAt.TheVariants as MxAt
use Rattle.rwlock.specs.declared.RwLockAt.{RwLockAt}
use Rattle.rwlock.specs.declared.RwLockAt.TheVariants as RwAt
use Rattle.condvar.specs.declared.CondvarAt.{CondvarAt}
use Rattle.condvar.specs.declared.CondvarAt.TheVariants as CvAt
use Rattle.once.specs.declared.OnceAt.{OnceAt}
use Rattle.once.specs.declared.OnceAt.TheVariants as OnAt
use Rattle.thread_parking.specs.declared.ParkerAt.{ParkerAt}
use Rattle.thread_parking.specs.declared.ParkerAt.TheVariants as PkAt
use Rattle.mutex.specs.Mutex as Mx
use Rattle.rwlock.specs.RwLock as Rw
use Rattle.condvar.specs.Condvar as Cv
use Rattle.once.specs.Once as On
use Rattle.thread_parking.specs.ThreadParking as Pk
use Rattle.rwlock.specs.Positions as RwP
use Rattle.calls.specs.declared.At.{At}
use Rattle.calls.specs.declared.At.TheVariants as A
use Rattle.calls.specs.declared.Need.{Need}
use Rattle.calls.specs.Objects.{MUTEXES, RWLOCKS, CONDVARS, ONCES, WORDS, word_of}

-- where each call starts, by document 01's numbers; `mutex` is the one that a condvar wait names
unfoldable pub entry_of : ℕ → ℕ → ℕ → At
entry_of call object mutex =
    cond (eqb call 0) (A.Mutex object (Mx.entry_of MC.Lock))
    (cond (eqb call 1) (A.Mutex object (Mx.entry_of MC.TryLock))
    (cond (eqb call 2) (A.Mutex object (Mx.entry_of MC.Unlock))
    (cond (eqb call 3) (A.RwLock object (Rw.entry_of RC.Read))
    (cond (eqb call 4) (A.RwLock object (Rw.entry_of RC.TryRead))
    (cond (eqb call 5) (A.RwLock object (Rw.entry_of RC.ReadUnlock))
    (cond (eqb call 6) (A.RwLock object (Rw.entry_of RC.Write))
    (cond (eqb call 7) (A.RwLock object (Rw.entry_of RC.TryWrite))
    (cond (eqb call 8) (A.RwLock object (Rw.entry_of RC.WriteUnlock))
    (cond (eqb call 9) (A.RwLock object (Rw.entry_of RC.Downgrade))
    (cond (eqb call 10) (A.Condvar object (Cv.entry_of (CC.Wait mutex)))
    (cond (eqb call 11) (A.Condvar object (Cv.entry_of CC.NotifyOne))
    (cond (eqb call 12) (A.Condvar object (Cv.entry_of CC.NotifyAll))
    (cond (eqb call 13) (A.Once object (On.entry_of (OC.Call false)))
    (cond (eqb call 14) (A.Once object (On.entry_of (OC.Call true)))
    (cond (eqb call 15) (A.Once object (On.entry_of (OC.Wait false)))
    (cond (eqb call 16) (A.Once object (On.entry_of (OC.Wait true)))
    (cond (eqb call 17) (A.Once object (On.entry_of OC.IsCompleted))
    (cond (eqb call 18) (A.Parker (Pk.entry_of PC.Park))
    (cond (eqb call 19) (A.Parker (Pk.entry_of (PC.Unpark object)))
    A.Idle)))))))))))))))))))

-- the number of the call that a position is in; 20, which is none, for an idle thread
unfoldable pub mutex_call : MutexAt → ℕ
mutex_call (MxAt.Lock p) = 0
mutex_call MxAt.TryLock = 1
mutex_call (MxAt.Unlock p) = 2

unfoldable pub rwlock_call : RwLockAt → ℕ
rwlock_call (RwAt.Read p) = 3
rwlock_call (RwAt.TryRead p) = 4
rwlock_call RwAt.ReadUnlock = 5
rwlock_call (RwAt.Write p) = 6
rwlock_call (RwAt.TryWrite p) = 7
rwlock_call RwAt.WriteUnlock = 8
rwlock_call (RwAt.Wake writer p) = cond writer 8 5
rwlock_call (RwAt.Downgrade p) = 9

unfoldable pub condvar_call : CondvarAt → ℕ
condvar_call (CvAt.Wait mutex p) = 10
condvar_call (CvAt.Notify all p) = cond all 12 11

unfoldable pub once_call : OnceAt → ℕ
once_call (OnAt.Call ignores p) = cond ignores 14 13
once_call (OnAt.Wait ignores p) = cond ignores 16 15
once_call OnAt.IsCompleted = 17

unfoldable pub parker_call : ParkerAt → ℕ
parker_call (PkAt.Park p) = 18
parker_call (PkAt.Unpark thread p) = 19

unfoldable pub call_of : At → ℕ
call_of A.Idle = 20
call_of (A.Mutex mutex p) = mutex_call p
call_of (A.RwLock lock p) = rwlock_call p
call_of (A.Condvar condvar p) = condvar_call p
call_of (A.Once once p) = once_call p
call_of (A.Parker p) = parker_call p

-- the number, in the row of words, of the word that the next operation of thread t is about; past the row where there is none
unfoldable pub operand_of : ℕ → At → ℕ
operand_of t A.Idle = WORDS
operand_of t (A.Mutex mutex p) = word_of (Mx.operand_of p) mutex
operand_of t (A.RwLock lock p) = word_of (RwP.operand_of p) lock
operand_of t (A.Condvar condvar p) = word_of (Cv.operand_of p) (Cv.object_of condvar p)
operand_of t (A.Once once p) = word_of (On.operand_of p) once
operand_of t (A.Parker p) = word_of (Pk.operand_of p) (Pk.parker_of t p)

-- where a thread stands after its futex_wait, woken or not
unfoldable pub after_wait : At → At
after_wait A.Idle = A.Idle
after_wait (A.Mutex mutex p) = A.Mutex mutex (Mx.after_wait p)
after_wait (A.RwLock lock p) = A.RwLock lock (RwP.after_wait p)
after_wait (A.Condvar condvar p) = A.Condvar condvar (Cv.after_wait p)
after_wait (A.Once once p) = A.Once once (On.after_wait p)
after_wait (A.Parker p) = A.Parker (Pk.after_wait p)

-- whether a futex_wait is next: a sleeper stands at one
unfoldable pub waits_of : At → Bool
waits_of A.Idle = false
waits_of (A.Mutex mutex p) = Mx.waits_of p
waits_of (A.RwLock lock p) = RwP.waits_of p
waits_of (A.Condvar condvar p) = Cv.waits_of p
waits_of (A.Once once p) = On.waits_of p
waits_of (A.Parker p) = Pk.waits_of p

-- whether the next operation may wake a sleeper
unfoldable pub may_wake : At → Bool
may_wake A.Idle = false
may_wake (A.Mutex mutex p) = Mx.may_wake p
may_wake (A.RwLock lock p) = RwP.may_wake p
may_wake (A.Condvar condvar p) = Cv.may_wake p
may_wake (A.Once once p) = On.may_wake p
may_wake (A.Parker p) = Pk.may_wake p

-- whether the next operation is a weak exchange
unfoldable pub weak_next : At → Bool
weak_next A.Idle = false
weak_next (A.Mutex mutex p) = Mx.weak_next p
weak_next (A.RwLock lock p) = RwP.weak_next p
weak_next (A.Condvar condvar p) = Cv.weak_next p
weak_next (A.Once once p) = On.weak_next p
weak_next (A.Parker p) = Pk.weak_next p

-- whether the values carried have passed the tests that lead to the position
unfoldable pub passed_of : At → Bool
passed_of A.Idle = true
passed_of (A.Mutex mutex p) = Mx.passed_of p
passed_of (A.RwLock lock p) = RwP.passed_of p
passed_of (A.Condvar condvar p) = Cv.passed_of p
passed_of (A.Once once p) = On.passed_of p
passed_of (A.Parker p) = Pk.passed_of p

-- whether a thread is in no call
unfoldable pub is_idle : At → Bool
is_idle A.Idle = true
is_idle (A.Mutex mutex p) = false
is_idle (A.RwLock lock p) = false
is_idle (A.Condvar condvar p) = false
is_idle (A.Once once p) = false
is_idle (A.Parker p) = false

-- whether a thread is in a Once's closure
unfoldable pub in_closure : At → Bool
in_closure A.Idle = false
in_closure (A.Mutex mutex p) = false
in_closure (A.RwLock lock p) = false
in_closure (A.Condvar condvar p) = false
in_closure (A.Once once p) = On.in_closure p
in_closure (A.Parker p) = false

-- the hold that a thread has until the operation that frees or downgrades, and of which object
unfoldable pub need_of : At → Need
need_of A.Idle = record { hold = N.Nothing; object = 0 }
need_of (A.Mutex mutex p) = record { hold = Mx.needs_of p; object = mutex }
need_of (A.RwLock lock p) = record { hold = RwP.needs_of p; object = lock }
need_of (A.Condvar condvar p) = record { hold = Cv.needs_of p; object = Cv.mutex_of p }
need_of (A.Once once p) = record { hold = On.needs_of p; object = once }
need_of (A.Parker p) = record { hold = Pk.needs_of p; object = 0 }

-- whether every object that a position names exists
unfoldable pub condvar_exists : CondvarAt → Bool
condvar_exists (CvAt.Wait mutex p) = ltb mutex MUTEXES
condvar_exists (CvAt.Notify all p) = true

unfoldable pub parker_exists : ParkerAt → Bool
parker_exists (PkAt.Park p) = true
parker_exists (PkAt.Unpark thread p) = ltb thread THREADS

unfoldable pub exists : At → Bool
exists A.Idle = true
exists (A.Mutex mutex p) = ltb mutex MUTEXES
exists (A.RwLock lock p) = ltb lock RWLOCKS
exists (A.Condvar condvar p) = ltb condvar CONDVARS && condvar_exists p
exists (A.Once once p) = ltb once ONCES
exists (A.Parker p) = parker_exists p
