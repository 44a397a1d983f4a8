-- The calls and their numbers. Assumes nothing.
use Rattle.std.specs.Prelude.{ℕ, ◌≡◌, ◌≤◌, Option, None, Some, Result, MatchResult}
use Rattle.calls.specs.declared.Call.{Call}
use Rattle.calls.specs.declared.Call.TheVariants as C
use Rattle.calls.specs.declared.NoCall.{NoCall}

abbrev pub number_of : Call → ℕ
number_of C.Lock = 0
number_of C.TryLock = 1
number_of C.Unlock = 2
number_of C.Read = 3
number_of C.TryRead = 4
number_of C.ReadUnlock = 5
number_of C.Write = 6
number_of C.TryWrite = 7
number_of C.WriteUnlock = 8
number_of C.Downgrade = 9
number_of C.CondvarWait = 10
number_of C.NotifyOne = 11
number_of C.NotifyAll = 12
number_of C.OnceCall = 13
number_of C.OnceCallForce = 14
number_of C.OnceWait = 15
number_of C.OnceWaitForce = 16
number_of C.IsCompleted = 17
number_of C.Park = 18
number_of C.Unpark = 19

-- the number of a call that there may be: 20, which is none's
abbrev pub told_call : Option Call → ℕ
told_call None = 20
told_call (Some call) = number_of call

-- a number names the call that has it; from 20 on it names none
abbrev pub Names : ℕ → Result Call NoCall → Type 0
Names n r = MatchResult r (λ call. n ≡ number_of call) (λ _. 20 ≤ n)
