-- condvar/futex.rs, a step at a time; the mutex's part of a wait is the mutex's own. Assumes nothing.
use Rattle.std.specs.Prelude.{ℕ, Bool, true, false, cond, eqb}
use Rattle.words.specs.Counter.{incremented}
use Rattle.words.specs.declared.Hold.TheVariants as H
use Rattle.words.specs.declared.Kind.{Kind}
use Rattle.words.specs.declared.Kind.TheVariants as K
use Rattle.words.specs.declared.Needs.{Needs}
use Rattle.words.specs.declared.Needs.TheVariants as N
use Rattle.words.specs.declared.Wake.TheVariants as W
use Rattle.words.specs.declared.Step.{Step}
use Rattle.words.specs.Steps.{moves, sleeps, ends, map_step, then_step}
use Rattle.mutex.specs.declared.LockAt.{LockAt}
use Rattle.mutex.specs.declared.UnlockAt.{UnlockAt}
use Rattle.mutex.specs.declared.LockAt.TheVariants as L
use Rattle.mutex.specs.declared.UnlockAt.TheVariants as U
use Rattle.mutex.specs.Mutex.{lock_of, unlock_of, lock_after_wait, lock_passed, unlock_needs, lock_waits, unlock_may_wake}
use Rattle.condvar.specs.declared.CondvarCall.{CondvarCall}
use Rattle.condvar.specs.declared.CondvarCall.TheVariants as C
use Rattle.condvar.specs.declared.WaitAt.{WaitAt}
use Rattle.condvar.specs.declared.WaitAt.TheVariants as Wt
use Rattle.condvar.specs.declared.NotifyAt.{NotifyAt}
use Rattle.condvar.specs.declared.NotifyAt.TheVariants as Nf
use Rattle.condvar.specs.declared.CondvarAt.{CondvarAt}
use Rattle.condvar.specs.declared.CondvarAt.TheVariants as A

-- where each call starts
unfoldable pub entry_of : CondvarCall → CondvarAt
entry_of (C.Wait mutex) = A.Wait mutex Wt.Load
entry_of C.NotifyOne = A.Notify false Nf.Add
entry_of C.NotifyAll = A.Notify true Nf.Add

-- after a futex_wait, woken or not: on the condvar `mutex.lock()`, and inside that as `lock` has it
unfoldable pub wait_after_wait : WaitAt → WaitAt
wait_after_wait Wt.Load = Wt.Load
wait_after_wait (Wt.Unlock sequence p) = Wt.Unlock sequence p
wait_after_wait (Wt.Wait sequence) = Wt.Relock L.Exchange
wait_after_wait (Wt.Relock p) = Wt.Relock (lock_after_wait p)

-- `mutex.unlock()`, after which comes the futex_wait on the sequence seen before it
unfoldable pub unlock_step : ℕ → ℕ → Step UnlockAt → Step CondvarAt
unlock_step mutex sequence s = then_step (λ (p : UnlockAt). A.Wait mutex (Wt.Unlock sequence p)) (A.Wait mutex (Wt.Wait sequence)) s

-- `mutex.lock()`, whose end is the call's
unfoldable pub relock_step : ℕ → Step LockAt → Step CondvarAt
relock_step mutex s = map_step (λ (p : LockAt). A.Wait mutex (Wt.Relock p)) s

-- no call of these returns a value, which is told as 1
-- `wait`: the counter is examined before the mutex is unlocked, so that no notification after that is missed
unfoldable pub wait_of : ℕ → WaitAt → ℕ → Step CondvarAt
wait_of mutex Wt.Load word = moves word (A.Wait mutex (Wt.Unlock word U.Swap))
wait_of mutex (Wt.Unlock sequence p) word = unlock_step mutex sequence (unlock_of p word)
wait_of mutex (Wt.Wait sequence) word =
    cond (eqb word sequence) (sleeps word) (moves word (A.Wait mutex (wait_after_wait (Wt.Wait sequence))))
wait_of mutex (Wt.Relock p) word = relock_step mutex (lock_of p word)

-- `notify_one` and `notify_all`
unfoldable pub notify_of : Bool → NotifyAt → ℕ → Step CondvarAt
notify_of all Nf.Add word = moves (incremented word) (A.Notify all Nf.Wake)
notify_of all Nf.Wake word = ends word 1 H.Same (cond all W.All W.One)

-- one step, over the word that it is about
unfoldable pub decide_of : CondvarAt → Bool → ℕ → Bool → Step CondvarAt
decide_of (A.Wait mutex p) fails word anyone = wait_of mutex p word
decide_of (A.Notify all p) fails word anyone = notify_of all p word

unfoldable pub after_wait : CondvarAt → CondvarAt
after_wait (A.Wait mutex p) = A.Wait mutex (wait_after_wait p)
after_wait (A.Notify all p) = A.Notify all p

-- the condvar's word, or the mutex's while it is unlocked and locked again
unfoldable pub wait_operand : WaitAt → Kind
wait_operand Wt.Load = K.Condvar
wait_operand (Wt.Unlock sequence p) = K.Mutex
wait_operand (Wt.Wait sequence) = K.Condvar
wait_operand (Wt.Relock p) = K.Mutex

unfoldable pub operand_of : CondvarAt → Kind
operand_of (A.Wait mutex p) = wait_operand p
operand_of (A.Notify all p) = K.Condvar

-- the number of the object that the word belongs to: the condvar's own, or the mutex's
unfoldable pub wait_object : ℕ → ℕ → WaitAt → ℕ
wait_object own mutex Wt.Load = own
wait_object own mutex (Wt.Unlock sequence p) = mutex
wait_object own mutex (Wt.Wait sequence) = own
wait_object own mutex (Wt.Relock p) = mutex

unfoldable pub object_of : ℕ → CondvarAt → ℕ
object_of own (A.Wait mutex p) = wait_object own mutex p
object_of own (A.Notify all p) = own

-- the mutex that a wait names
unfoldable pub mutex_of : CondvarAt → ℕ
mutex_of (A.Wait mutex p) = mutex
mutex_of (A.Notify all p) = 0

-- no exchange of this module is weak
unfoldable pub weak_next : CondvarAt → Bool
weak_next at = false

unfoldable pub wait_passed : WaitAt → Bool
wait_passed Wt.Load = true
wait_passed (Wt.Unlock sequence p) = true
wait_passed (Wt.Wait sequence) = true
wait_passed (Wt.Relock p) = lock_passed p

unfoldable pub passed_of : CondvarAt → Bool
passed_of (A.Wait mutex p) = wait_passed p
passed_of (A.Notify all p) = true

-- a wait has its mutex until the swap that unlocks it
unfoldable pub wait_needs : WaitAt → Needs
wait_needs Wt.Load = N.Mutex
wait_needs (Wt.Unlock sequence p) = unlock_needs p
wait_needs (Wt.Wait sequence) = N.Nothing
wait_needs (Wt.Relock p) = N.Nothing

unfoldable pub needs_of : CondvarAt → Needs
needs_of (A.Wait mutex p) = wait_needs p
needs_of (A.Notify all p) = N.Nothing

-- whether a futex_wait is next
unfoldable pub wait_waits : WaitAt → Bool
wait_waits Wt.Load = false
wait_waits (Wt.Unlock sequence p) = false
wait_waits (Wt.Wait sequence) = true
wait_waits (Wt.Relock p) = lock_waits p

unfoldable pub waits_of : CondvarAt → Bool
waits_of (A.Wait mutex p) = wait_waits p
waits_of (A.Notify all p) = false

-- whether a futex_wake or futex_wake_all is next
unfoldable pub wait_may_wake : WaitAt → Bool
wait_may_wake Wt.Load = false
wait_may_wake (Wt.Unlock sequence p) = unlock_may_wake p
wait_may_wake (Wt.Wait sequence) = false
wait_may_wake (Wt.Relock p) = false

unfoldable pub notify_may_wake : NotifyAt → Bool
notify_may_wake Nf.Add = false
notify_may_wake Nf.Wake = true

unfoldable pub may_wake : CondvarAt → Bool
may_wake (A.Wait mutex p) = wait_may_wake p
may_wake (A.Notify all p) = notify_may_wake p
