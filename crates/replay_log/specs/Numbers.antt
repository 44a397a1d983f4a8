-- The numbers of the refusals of a log, by document 01. Assumes nothing.
use Rattle.std.specs.Prelude.{ℕ, ◌≡◌, Option, Some, None}
use Rattle.replay_log.specs.declared.Refusal.{Refusal}
use Rattle.replay_log.specs.declared.Refusal.TheVariants as R

abbrev pub number_of : Refusal → ℕ
number_of R.BadMark = 20
number_of R.ShortRecord = 21
number_of R.NoNumber = 22

-- the number that is told of a log: 0 where nothing is refused
abbrev pub number_told : Option Refusal → ℕ
number_told None = 0
number_told (Some refusal) = number_of refusal

-- so the number determines the answer
abbrev pub ToldApart : Type 0
ToldApart = (x y : Option Refusal) → number_told x ≡ number_told y → x ≡ y
