-- once/futex.rs, a step at a time; the guard's drop is the positions after the closure. Assumes nothing.
use Rattle.std.specs.Prelude.{ℕ, ◌+◌, Bool, true, false, not, cond, ◌&&◌, ◌||◌, eqb}
use Rattle.words.specs.Atomic.{exchanges}
use Rattle.words.specs.Once.{INCOMPLETE, POISONED, RUNNING, COMPLETE, QUEUED, state_of, is_queued, with_queued, running_with}
use Rattle.words.specs.Steps.{moves, sleeps, ends, panics, enters}
use Rattle.words.specs.declared.Hold.TheVariants as H
use Rattle.words.specs.declared.Kind.{Kind}
use Rattle.words.specs.declared.Kind.TheVariants as K
use Rattle.words.specs.declared.Needs.{Needs}
use Rattle.words.specs.declared.Needs.TheVariants as N
use Rattle.words.specs.declared.Panic.TheVariants as P
use Rattle.words.specs.declared.Step.{Step}
use Rattle.words.specs.declared.Wake.{Wake}
use Rattle.words.specs.declared.Wake.TheVariants as W
use Rattle.once.specs.declared.OnceCall.{OnceCall}
use Rattle.once.specs.declared.OnceCall.TheVariants as O
use Rattle.once.specs.declared.Ending.{Ending}
use Rattle.once.specs.declared.Ending.TheVariants as E
use Rattle.once.specs.declared.CallAt.{CallAt}
use Rattle.once.specs.declared.CallAt.TheVariants as C
use Rattle.once.specs.declared.WaitAt.{WaitAt}
use Rattle.once.specs.declared.WaitAt.TheVariants as Wt
use Rattle.once.specs.declared.OnceAt.{OnceAt}
use Rattle.once.specs.declared.OnceAt.TheVariants as A

-- where each call starts
unfoldable pub entry_of : OnceCall → OnceAt
entry_of (O.Call ignores) = A.Call ignores C.Load
entry_of (O.Wait ignores) = A.Wait ignores Wt.Load
entry_of O.IsCompleted = A.IsCompleted

-- a thread waits: with QUEUED set already it goes on to the futex_wait, else it sets it first
unfoldable pub queues : OnceAt → OnceAt → ℕ → Step OnceAt
queues waiting setting seen = cond (is_queued seen) (moves seen waiting) (moves seen setting)

-- the top of `call`'s loop with the value seen; all states but these are RUNNING
unfoldable pub call_top : Bool → ℕ → Step OnceAt
call_top ignores seen =
    cond (eqb (state_of seen) COMPLETE) (ends seen 1 H.Same W.None)
    (cond (eqb (state_of seen) POISONED && not ignores) (panics seen P.OncePoisoned W.None)
    (cond (eqb (state_of seen) POISONED || eqb (state_of seen) INCOMPLETE)
    (moves seen (A.Call ignores (C.ExchangeRunning seen)))
    (queues (A.Call ignores (C.Wait seen)) (A.Call ignores (C.ExchangeQueued seen)) seen)))

-- the top of `wait`'s loop with the value seen
unfoldable pub wait_top : Bool → ℕ → Step OnceAt
wait_top ignores seen =
    cond (eqb (state_of seen) COMPLETE) (ends seen 1 H.Same W.None)
    (cond (eqb (state_of seen) POISONED && not ignores) (panics seen P.OncePoisoned W.None)
    (queues (A.Wait ignores (Wt.Wait seen)) (A.Wait ignores (Wt.ExchangeQueued seen)) seen))

-- set_state_on_drop_to: COMPLETE, or POISONED after poison() and where the closure did not return
unfoldable pub drops_to : Ending → ℕ
drops_to E.Returned = COMPLETE
drops_to E.Poisoned = POISONED
drops_to E.Panicked = POISONED

unfoldable pub is_panicked : Ending → Bool
is_panicked E.Returned = false
is_panicked E.Poisoned = false
is_panicked E.Panicked = true

-- the guard's last step: the call returns, or the closure's panic goes on
unfoldable pub finishes : Bool → ℕ → Wake → Step OnceAt
finishes panicking word wake = cond panicking (panics word P.InClosure wake) (ends word 1 H.Same wake)

-- after a futex_wait, woken or not: the load at the loop's end
unfoldable pub call_after_wait : CallAt → CallAt
call_after_wait C.Load = C.Load
call_after_wait (C.ExchangeRunning seen) = C.ExchangeRunning seen
call_after_wait C.Closure = C.Closure
call_after_wait (C.Swap ending) = C.Swap ending
call_after_wait (C.WakeAll panicking) = C.WakeAll panicking
call_after_wait (C.ExchangeQueued seen) = C.ExchangeQueued seen
call_after_wait (C.Wait seen) = C.Load

unfoldable pub wait_after_wait : WaitAt → WaitAt
wait_after_wait Wt.Load = Wt.Load
wait_after_wait (Wt.ExchangeQueued seen) = Wt.ExchangeQueued seen
wait_after_wait (Wt.Wait seen) = Wt.Load

-- `call`, and CompletionGuard's `drop`
unfoldable pub call_of : Bool → CallAt → Bool → ℕ → Step OnceAt
call_of ignores C.Load fails word = call_top ignores word
call_of ignores (C.ExchangeRunning seen) fails word =
    cond (exchanges word seen fails) (enters (running_with (is_queued seen)) (A.Call ignores C.Closure)) (call_top ignores word)
call_of ignores C.Closure fails word = enters word (A.Call ignores C.Closure)
call_of ignores (C.Swap ending) fails word =
    cond (is_queued word)
    (moves (drops_to ending) (A.Call ignores (C.WakeAll (is_panicked ending))))
    (finishes (is_panicked ending) (drops_to ending) W.None)
call_of ignores (C.WakeAll panicking) fails word = finishes panicking word W.All
call_of ignores (C.ExchangeQueued seen) fails word =
    cond (exchanges word (state_of seen) fails)
    (moves (with_queued seen) (A.Call ignores (C.Wait (with_queued seen))))
    (call_top ignores word)
call_of ignores (C.Wait seen) fails word =
    cond (eqb word seen) (sleeps word) (moves word (A.Call ignores (call_after_wait (C.Wait seen))))

-- `wait`
unfoldable pub wait_of : Bool → WaitAt → Bool → ℕ → Step OnceAt
wait_of ignores Wt.Load fails word = wait_top ignores word
wait_of ignores (Wt.ExchangeQueued seen) fails word =
    cond (exchanges word (state_of seen) fails)
    (moves (with_queued seen) (A.Wait ignores (Wt.Wait (with_queued seen))))
    (wait_top ignores word)
wait_of ignores (Wt.Wait seen) fails word =
    cond (eqb word seen) (sleeps word) (moves word (A.Wait ignores (wait_after_wait (Wt.Wait seen))))

-- `is_completed`: the whole word, not the state alone
unfoldable pub is_completed_of : ℕ → Step OnceAt
is_completed_of word = ends word (cond (eqb word COMPLETE) 1 0) H.Same W.None

-- one step, over the Once's word
unfoldable pub decide_of : OnceAt → Bool → ℕ → Bool → Step OnceAt
decide_of (A.Call ignores p) fails word anyone = call_of ignores p fails word
decide_of (A.Wait ignores p) fails word anyone = wait_of ignores p fails word
decide_of A.IsCompleted fails word anyone = is_completed_of word

unfoldable pub call_in_closure : CallAt → Bool
call_in_closure C.Load = false
call_in_closure (C.ExchangeRunning seen) = false
call_in_closure C.Closure = true
call_in_closure (C.Swap ending) = false
call_in_closure (C.WakeAll panicking) = false
call_in_closure (C.ExchangeQueued seen) = false
call_in_closure (C.Wait seen) = false

unfoldable pub in_closure : OnceAt → Bool
in_closure (A.Call ignores p) = call_in_closure p
in_closure (A.Wait ignores p) = false
in_closure A.IsCompleted = false

-- the closure ends, and the guard is dropped; elsewhere nothing
unfoldable pub close_of : Ending → OnceAt → OnceAt
close_of ending (A.Call ignores p) = A.Call ignores (cond (call_in_closure p) (C.Swap ending) p)
close_of ending (A.Wait ignores p) = A.Wait ignores p
close_of ending A.IsCompleted = A.IsCompleted

unfoldable pub after_wait : OnceAt → OnceAt
after_wait (A.Call ignores p) = A.Call ignores (call_after_wait p)
after_wait (A.Wait ignores p) = A.Wait ignores (wait_after_wait p)
after_wait A.IsCompleted = A.IsCompleted

-- in the closure no operation is next
unfoldable pub operand_of : OnceAt → Kind
operand_of at = cond (in_closure at) K.Nothing K.Once

unfoldable pub call_weak_next : CallAt → Bool
call_weak_next C.Load = false
call_weak_next (C.ExchangeRunning seen) = true
call_weak_next C.Closure = false
call_weak_next (C.Swap ending) = false
call_weak_next (C.WakeAll panicking) = false
call_weak_next (C.ExchangeQueued seen) = true
call_weak_next (C.Wait seen) = false

unfoldable pub wait_weak_next : WaitAt → Bool
wait_weak_next Wt.Load = false
wait_weak_next (Wt.ExchangeQueued seen) = true
wait_weak_next (Wt.Wait seen) = false

unfoldable pub weak_next : OnceAt → Bool
weak_next (A.Call ignores p) = call_weak_next p
weak_next (A.Wait ignores p) = wait_weak_next p
weak_next A.IsCompleted = false

-- of the values that a Once's word has, those that lead to the position
unfoldable pub running_passed : Bool → ℕ → Bool
running_passed ignores seen =
    eqb seen INCOMPLETE || eqb seen (INCOMPLETE + QUEUED) || (ignores && (eqb seen POISONED || eqb seen (POISONED + QUEUED)))

unfoldable pub call_passed : Bool → CallAt → Bool
call_passed ignores C.Load = true
call_passed ignores (C.ExchangeRunning seen) = running_passed ignores seen
call_passed ignores C.Closure = true
call_passed ignores (C.Swap ending) = true
call_passed ignores (C.WakeAll panicking) = true
call_passed ignores (C.ExchangeQueued seen) = eqb seen RUNNING
call_passed ignores (C.Wait seen) = eqb seen (RUNNING + QUEUED)

-- `wait` waits for what is incomplete, too; on top of that the flag, if any
unfoldable pub queued_passed : Bool → ℕ → ℕ → Bool
queued_passed ignores flag seen =
    eqb seen (RUNNING + flag) || eqb seen (INCOMPLETE + flag) || (ignores && eqb seen (POISONED + flag))

unfoldable pub wait_passed : Bool → WaitAt → Bool
wait_passed ignores Wt.Load = true
wait_passed ignores (Wt.ExchangeQueued seen) = queued_passed ignores 0 seen
wait_passed ignores (Wt.Wait seen) = queued_passed ignores QUEUED seen

unfoldable pub passed_of : OnceAt → Bool
passed_of (A.Call ignores p) = call_passed ignores p
passed_of (A.Wait ignores p) = wait_passed ignores p
passed_of A.IsCompleted = true

-- nothing is held
unfoldable pub needs_of : OnceAt → Needs
needs_of at = N.Nothing

-- whether a futex_wait is next
unfoldable pub call_waits : CallAt → Bool
call_waits C.Load = false
call_waits (C.ExchangeRunning seen) = false
call_waits C.Closure = false
call_waits (C.Swap ending) = false
call_waits (C.WakeAll panicking) = false
call_waits (C.ExchangeQueued seen) = false
call_waits (C.Wait seen) = true

unfoldable pub wait_waits : WaitAt → Bool
wait_waits Wt.Load = false
wait_waits (Wt.ExchangeQueued seen) = false
wait_waits (Wt.Wait seen) = true

unfoldable pub waits_of : OnceAt → Bool
waits_of (A.Call ignores p) = call_waits p
waits_of (A.Wait ignores p) = wait_waits p
waits_of A.IsCompleted = false

-- whether a futex_wake_all is next
unfoldable pub call_may_wake : CallAt → Bool
call_may_wake C.Load = false
call_may_wake (C.ExchangeRunning seen) = false
call_may_wake C.Closure = false
call_may_wake (C.Swap ending) = false
call_may_wake (C.WakeAll panicking) = true
call_may_wake (C.ExchangeQueued seen) = false
call_may_wake (C.Wait seen) = false

unfoldable pub may_wake : OnceAt → Bool
may_wake (A.Call ignores p) = call_may_wake p
may_wake (A.Wait ignores p) = false
may_wake A.IsCompleted = false
