-- mutex/futex.rs, a step at a time: the operation at each position, what it stores, and the local code up to the next one. Assumes nothing.
use Rattle.std.specs.Prelude.{ℕ, ◌-◌, Bool, true, false, not, cond, ◌&&◌, eqb, leb}
use Rattle.words.specs.Atomic.{SPINS}
use Rattle.words.specs.Mutex.{UNLOCKED, LOCKED, CONTENDED, is_unlocked, is_locked, is_contended}
use Rattle.words.specs.declared.Hold.TheVariants as H
use Rattle.words.specs.declared.Kind.{Kind}
use Rattle.words.specs.declared.Kind.TheVariants as K
use Rattle.words.specs.declared.Needs.{Needs}
use Rattle.words.specs.declared.Needs.TheVariants as N
use Rattle.words.specs.declared.Step.{Step}
use Rattle.words.specs.declared.Wake.TheVariants as W
use Rattle.words.specs.Steps.{moves_with, moves, sleeps, ends, map_step}
use Rattle.mutex.specs.declared.MutexCall.{MutexCall}
use Rattle.mutex.specs.declared.MutexCall.TheVariants as C
use Rattle.mutex.specs.declared.LockAt.{LockAt}
use Rattle.mutex.specs.declared.LockAt.TheVariants as L
use Rattle.mutex.specs.declared.UnlockAt.{UnlockAt}
use Rattle.mutex.specs.declared.UnlockAt.TheVariants as U
use Rattle.mutex.specs.declared.MutexAt.{MutexAt}
use Rattle.mutex.specs.declared.MutexAt.TheVariants as M

-- where each call starts
unfoldable pub entry_of : MutexCall → MutexAt
entry_of C.Lock = M.Lock L.Exchange
entry_of C.TryLock = M.TryLock
entry_of C.Unlock = M.Unlock U.Swap

-- `lock` ends with the lock taken; it returns nothing, which is told as 1, and so does `unlock`
unfoldable pub takes : ℕ → Step LockAt
takes word = ends word 1 H.TakeMutex W.None

-- after a futex_wait, woken or not: `state = self.spin()` at the loop's end
unfoldable pub lock_after_wait : LockAt → LockAt
lock_after_wait L.Exchange = L.Exchange
lock_after_wait (L.Spin left) = L.Spin left
lock_after_wait L.ExchangeAgain = L.ExchangeAgain
lock_after_wait L.Swap = L.Swap
lock_after_wait L.Wait = L.SpinAgain SPINS
lock_after_wait (L.SpinAgain left) = L.SpinAgain left

-- the loop of `lock_contended` with the state seen: the swap, unless it is marked as contended already
unfoldable pub contended : ℕ → Step LockAt
contended state = cond (is_contended state) (moves state L.Wait) (moves state L.Swap)

-- `lock_contended` after its first spin: if the mutex is free, the one attempt to take it without marking it as contended
unfoldable pub spun : ℕ → Step LockAt
spun state = cond (is_unlocked state) (moves state L.ExchangeAgain) (contended state)

-- `lock`, `lock_contended` and `spin`
unfoldable pub lock_of : LockAt → ℕ → Step LockAt
lock_of L.Exchange word = cond (is_unlocked word) (takes LOCKED) (moves word (L.Spin SPINS))
lock_of (L.Spin left) word = cond (is_locked word && not (eqb left 0)) (moves word (L.Spin (left - 1))) (spun word)
lock_of L.ExchangeAgain word = cond (is_unlocked word) (takes LOCKED) (contended word)
lock_of L.Swap word = cond (is_unlocked word) (takes CONTENDED) (moves CONTENDED L.Wait)
lock_of L.Wait word = cond (is_contended word) (sleeps word) (moves word (lock_after_wait L.Wait))
lock_of (L.SpinAgain left) word = cond (is_locked word && not (eqb left 0)) (moves word (L.SpinAgain (left - 1))) (contended word)

-- `try_lock`
unfoldable pub try_lock_of : ℕ → Step MutexAt
try_lock_of word = cond (is_unlocked word) (ends LOCKED 1 H.TakeMutex W.None) (ends word 0 H.Same W.None)

-- `unlock` and `wake`
unfoldable pub unlock_of : UnlockAt → ℕ → Step UnlockAt
unlock_of U.Swap word =
    cond (is_contended word) (moves_with UNLOCKED U.Wake H.FreeMutex W.None) (ends UNLOCKED 1 H.FreeMutex W.None)
unlock_of U.Wake word = ends word 1 H.Same W.One

-- one step, over the mutex's word
unfoldable pub decide_of : MutexAt → Bool → ℕ → Bool → Step MutexAt
decide_of (M.Lock p) fails word anyone = map_step M.Lock (lock_of p word)
decide_of M.TryLock fails word anyone = try_lock_of word
decide_of (M.Unlock p) fails word anyone = map_step M.Unlock (unlock_of p word)

unfoldable pub after_wait : MutexAt → MutexAt
after_wait (M.Lock p) = M.Lock (lock_after_wait p)
after_wait M.TryLock = M.TryLock
after_wait (M.Unlock p) = M.Unlock p

unfoldable pub operand_of : MutexAt → Kind
operand_of at = K.Mutex

-- no exchange of this module is weak
unfoldable pub weak_next : MutexAt → Bool
weak_next at = false

unfoldable pub lock_passed : LockAt → Bool
lock_passed L.Exchange = true
lock_passed (L.Spin left) = leb left SPINS
lock_passed L.ExchangeAgain = true
lock_passed L.Swap = true
lock_passed L.Wait = true
lock_passed (L.SpinAgain left) = leb left SPINS

unfoldable pub passed_of : MutexAt → Bool
passed_of (M.Lock p) = lock_passed p
passed_of M.TryLock = true
passed_of (M.Unlock p) = true

-- the hold that a call has until the operation that frees it
unfoldable pub unlock_needs : UnlockAt → Needs
unlock_needs U.Swap = N.Mutex
unlock_needs U.Wake = N.Nothing

unfoldable pub needs_of : MutexAt → Needs
needs_of (M.Lock p) = N.Nothing
needs_of M.TryLock = N.Nothing
needs_of (M.Unlock p) = unlock_needs p

-- whether a futex_wait is next
unfoldable pub lock_waits : LockAt → Bool
lock_waits L.Exchange = false
lock_waits (L.Spin left) = false
lock_waits L.ExchangeAgain = false
lock_waits L.Swap = false
lock_waits L.Wait = true
lock_waits (L.SpinAgain left) = false

unfoldable pub waits_of : MutexAt → Bool
waits_of (M.Lock p) = lock_waits p
waits_of M.TryLock = false
waits_of (M.Unlock p) = false

-- whether a futex_wake is next
unfoldable pub unlock_may_wake : UnlockAt → Bool
unlock_may_wake U.Swap = false
unlock_may_wake U.Wake = true

unfoldable pub may_wake : MutexAt → Bool
may_wake (M.Lock p) = false
may_wake M.TryLock = false
may_wake (M.Unlock p) = unlock_may_wake p
