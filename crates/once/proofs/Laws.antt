-- A step on a Once looks at the choice only where a weak exchange is next, never at the sleepers, and only its wake-all wakes anybody.
-- Assumes nothing.
use mathlib.Core.Path.{◌≡◌, refl}
use mathlib.Core.Bool.{Bool, false, not, ◌&&◌, ◌||◌}
use Prim.Native.Nat.{ℕ}
use lib.Dec.{eqb}
use Rattle.words.proofs.Cond.{either}
use Rattle.words.specs.Atomic.{exchanges}
use Rattle.words.specs.Once.{COMPLETE, POISONED, INCOMPLETE, state_of, is_queued}
use Rattle.words.specs.declared.Hold.TheVariants as H
use Rattle.words.specs.declared.Wake.{Wake}
use Rattle.words.specs.declared.Wake.TheVariants as W
use Rattle.words.specs.declared.Step.{Step}
use Rattle.once.specs.declared.CallAt.{CallAt}
use Rattle.once.specs.declared.CallAt.TheVariants as C
use Rattle.once.specs.declared.WaitAt.{WaitAt}
use Rattle.once.specs.declared.WaitAt.TheVariants as Wt
use Rattle.once.specs.declared.OnceAt.{OnceAt}
use Rattle.once.specs.declared.OnceAt.TheVariants as A
use Rattle.once.specs.Once.{queues, finishes, call_top, wait_top, call_of, wait_of, is_completed_of, decide_of, is_panicked, weak_next, call_weak_next, wait_weak_next, may_wake, call_may_wake}

call-strong : (i : Bool) (at : CallAt) (f g : Bool) (word : ℕ) → call_weak_next at ≡ false → call_of i at f word ≡ call_of i at g word
unfolding call_of call_weak_next
call-strong i C.Load f g word e = refl
call-strong i (C.ExchangeRunning seen) f g word e = cc
call-strong i C.Closure f g word e = refl
call-strong i (C.Swap ending) f g word e = refl
call-strong i (C.WakeAll panicking) f g word e = refl
call-strong i (C.ExchangeQueued seen) f g word e = cc
call-strong i (C.Wait seen) f g word e = refl

wait-strong : (i : Bool) (at : WaitAt) (f g : Bool) (word : ℕ) → wait_weak_next at ≡ false → wait_of i at f word ≡ wait_of i at g word
unfolding wait_of wait_weak_next
wait-strong i Wt.Load f g word e = refl
wait-strong i (Wt.ExchangeQueued seen) f g word e = cc
wait-strong i (Wt.Wait seen) f g word e = refl

-- where no weak exchange is next, the choice decides nothing
pub strong : (at : OnceAt) (f g : Bool) (word : ℕ) (a : Bool) → weak_next at ≡ false → decide_of at f word a ≡ decide_of at g word a
unfolding decide_of weak_next
strong (A.Call i p) f g word a e = call-strong i p f g word e
strong (A.Wait i p) f g word a e = wait-strong i p f g word e
strong A.IsCompleted f g word a e = refl

-- the sleepers decide nothing
pub quiet : (at : OnceAt) (f : Bool) (word : ℕ) (a b : Bool) → decide_of at f word a ≡ decide_of at f word b
unfolding decide_of
quiet (A.Call i p) f word a b = refl
quiet (A.Wait i p) f word a b = refl
quiet A.IsCompleted f word a b = refl

abbrev Calm : Step OnceAt → Type 0
Calm s = s.wake ≡ W.None

queues-calm : (p q : OnceAt) (seen : ℕ) → Calm (queues p q seen)
unfolding queues
queues-calm p q seen = either Calm (is_queued seen) _ _ refl refl

call-top-calm : (i : Bool) (seen : ℕ) → Calm (call_top i seen)
unfolding call_top
call-top-calm i seen =
    either Calm (eqb (state_of seen) COMPLETE) _ _ refl
    (either Calm (eqb (state_of seen) POISONED && not i) _ _ refl
    (either Calm (eqb (state_of seen) POISONED || eqb (state_of seen) INCOMPLETE) _ _ refl (queues-calm _ _ seen)))

wait-top-calm : (i : Bool) (seen : ℕ) → Calm (wait_top i seen)
unfolding wait_top
wait-top-calm i seen =
    either Calm (eqb (state_of seen) COMPLETE) _ _ refl
    (either Calm (eqb (state_of seen) POISONED && not i) _ _ refl (queues-calm _ _ seen))

finishes-calm : (panicking : Bool) (word : ℕ) → Calm (finishes panicking word W.None)
unfolding finishes
finishes-calm panicking word = either Calm panicking _ _ refl refl

call-calm : (i : Bool) (at : CallAt) (f : Bool) (word : ℕ) → call_may_wake at ≡ false → Calm (call_of i at f word)
unfolding call_of call_may_wake
call-calm i C.Load f word e = call-top-calm i word
call-calm i (C.ExchangeRunning seen) f word e = either Calm (exchanges word seen f) _ _ refl (call-top-calm i word)
call-calm i C.Closure f word e = refl
call-calm i (C.Swap ending) f word e = either Calm (is_queued word) _ _ refl (finishes-calm (is_panicked ending) _)
call-calm i (C.WakeAll panicking) f word e = cc
call-calm i (C.ExchangeQueued seen) f word e = either Calm (exchanges word (state_of seen) f) _ _ refl (call-top-calm i word)
call-calm i (C.Wait seen) f word e = either Calm (eqb word seen) _ _ refl refl

wait-calm : (i : Bool) (at : WaitAt) (f : Bool) (word : ℕ) → Calm (wait_of i at f word)
unfolding wait_of
wait-calm i Wt.Load f word = wait-top-calm i word
wait-calm i (Wt.ExchangeQueued seen) f word = either Calm (exchanges word (state_of seen) f) _ _ refl (wait-top-calm i word)
wait-calm i (Wt.Wait seen) f word = either Calm (eqb word seen) _ _ refl refl

-- where `may_wake` says no, a step wakes nobody
pub calm : (at : OnceAt) (f : Bool) (word : ℕ) (a : Bool) → may_wake at ≡ false → (decide_of at f word a).wake ≡ W.None
unfolding decide_of may_wake is_completed_of
calm (A.Call i p) f word a e = call-calm i p f word e
calm (A.Wait i p) f word a e = wait-calm i p f word
calm A.IsCompleted f word a e = refl

-- no step changes a hold
abbrev Same : Step OnceAt → Type 0
Same s = s.hold ≡ H.Same

queues-same : (p q : OnceAt) (seen : ℕ) → Same (queues p q seen)
unfolding queues
queues-same p q seen = either Same (is_queued seen) _ _ refl refl

call-top-same : (i : Bool) (seen : ℕ) → Same (call_top i seen)
unfolding call_top
call-top-same i seen =
    either Same (eqb (state_of seen) COMPLETE) _ _ refl
    (either Same (eqb (state_of seen) POISONED && not i) _ _ refl
    (either Same (eqb (state_of seen) POISONED || eqb (state_of seen) INCOMPLETE) _ _ refl (queues-same _ _ seen)))

wait-top-same : (i : Bool) (seen : ℕ) → Same (wait_top i seen)
unfolding wait_top
wait-top-same i seen =
    either Same (eqb (state_of seen) COMPLETE) _ _ refl
    (either Same (eqb (state_of seen) POISONED && not i) _ _ refl (queues-same _ _ seen))

finishes-same : (panicking : Bool) (word : ℕ) (wake : Wake) → Same (finishes panicking word wake)
unfolding finishes
finishes-same panicking word wake = either Same panicking _ _ refl refl

call-same : (i : Bool) (at : CallAt) (f : Bool) (word : ℕ) → Same (call_of i at f word)
unfolding call_of
call-same i C.Load f word = call-top-same i word
call-same i (C.ExchangeRunning seen) f word = either Same (exchanges word seen f) _ _ refl (call-top-same i word)
call-same i C.Closure f word = refl
call-same i (C.Swap ending) f word = either Same (is_queued word) _ _ refl (finishes-same (is_panicked ending) _ _)
call-same i (C.WakeAll panicking) f word = finishes-same panicking word _
call-same i (C.ExchangeQueued seen) f word = either Same (exchanges word (state_of seen) f) _ _ refl (call-top-same i word)
call-same i (C.Wait seen) f word = either Same (eqb word seen) _ _ refl refl

wait-same : (i : Bool) (at : WaitAt) (f : Bool) (word : ℕ) → Same (wait_of i at f word)
unfolding wait_of
wait-same i Wt.Load f word = wait-top-same i word
wait-same i (Wt.ExchangeQueued seen) f word = either Same (exchanges word (state_of seen) f) _ _ refl (wait-top-same i word)
wait-same i (Wt.Wait seen) f word = either Same (eqb word seen) _ _ refl refl

pub holds-same : (at : OnceAt) (f : Bool) (word : ℕ) (a : Bool) → (decide_of at f word a).hold ≡ H.Same
unfolding decide_of is_completed_of
holds-same (A.Call i p) f word a = call-same i p f word
holds-same (A.Wait i p) f word a = wait-same i p f word
holds-same A.IsCompleted f word a = refl
