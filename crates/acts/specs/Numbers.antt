-- The numbers of the acts, of what a set changes and of the refusals, by document 01. Assumes nothing.
use Rattle.std.specs.Prelude.{ℕ, ◌≡◌, ◌≤◌, Result, Ok, Err, MatchResult}
use Rattle.acts.specs.declared.Action.{Action}
use Rattle.acts.specs.declared.Action.TheVariants as A
use Rattle.acts.specs.declared.Change.{Change}
use Rattle.acts.specs.declared.Change.TheVariants as C
use Rattle.acts.specs.declared.Unnamed.{Unnamed}
use Rattle.acts.specs.declared.Refusal.{Refusal}
use Rattle.acts.specs.declared.Refusal.TheVariants as R

abbrev pub act_number : Action → ℕ
act_number A.Set = 0
act_number A.Begin = 1
act_number A.Step = 2
act_number A.Wake = 3
act_number A.Close = 4

abbrev pub change_number : Change → ℕ
change_number C.ForgottenReads = 0
change_number C.WriterNotify = 1
change_number C.Condvar = 2
change_number C.CompleteOnce = 3

-- a number names the act that has it; from 5 on it names none; so a choice of set's, up to 4
abbrev pub NamesAct : ℕ → Result Action Unnamed → Type 0
NamesAct n r = MatchResult r (λ act. n ≡ act_number act) (λ _. 5 ≤ n)

abbrev pub NamesChange : ℕ → Result Change Unnamed → Type 0
NamesChange n r = MatchResult r (λ change. n ≡ change_number change) (λ _. 4 ≤ n)

abbrev pub number_of : Refusal → ℕ
number_of R.Unknown = 1
number_of R.NoSuchThread = 2
number_of R.NoSuchObject = 3
number_of R.InsideCall = 4
number_of R.Idle = 5
number_of R.Asleep = 6
number_of R.Awake = 7
number_of R.NoWeakExchange = 8
number_of R.NoHold = 9
number_of R.InsideClosure = 10
number_of R.OutsideClosure = 11
number_of R.Started = 12
number_of R.OutOfRange = 13
number_of R.Unsound = 19

-- the number that is told of a test: 0 where it passes
abbrev pub told : Result (Unit {0}) Refusal → ℕ
told (Ok passed) = 0
told (Err refusal) = number_of refusal

-- so the number determines the answer
abbrev pub ToldApart : Type 0
ToldApart = (x y : Result (Unit {0}) Refusal) → told x ≡ told y → x ≡ y
