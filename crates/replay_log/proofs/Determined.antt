-- Every contract of this crate determines its result, and what it leaves in the buffers lent to it: any two that it allows are equal. Assumes nothing.
use Prim.Native.Nat.{ℕ, min}
use mathlib.Core.Path.{◌≡◌, refl, sym, ap, ◌∙◌}
use mathlib.Core.List.{List}
use lib.ListN.{length}
use Rattle.std.specs.Prelude.{Option, Some, None, cond, eqb}
use Rattle.words.specs.Determined.{Determined, determined}
use Rattle.tally.specs.declared.Tally.{Tally}
use Rattle.lines.specs.Lines.{lay_of}
use Rattle.replay_log.specs.declared.Ran.{Ran}
use Rattle.replay_log.specs.declared.Refusal.{Refusal}
use Rattle.replay_log.specs.declared.Refusal.TheVariants as R
use Rattle.replay_log.specs.Numbers.{number_of, number_told, ToldApart}
use Rattle.replay_log.specs.Run.{Run, Answers, finish_of, finished_line, finished_of, carried_of}

-- for `run`, `run_from` and `feed`: the answer and the lines
pub run-determined :
    (run : Run) (len : ℕ) (r s : Ran) (out one two : List ℕ) → Answers run len r out one → Answers run len s out two → (r ≡ s) × (one ≡ two)
run-determined run len r s out one two a b = (a.ran ∙ sym b.ran, a.wrote ∙ sym b.wrote)

-- .. and for `feed` the buffer that the records came in
pub carry-determined : (buf : List ℕ) (from end : ℕ) → Determined (carried_of buf from end)
carry-determined buf from end = determined (carried_of buf from end)

pub number-determined : (refusal : Refusal) → Determined (number_of refusal)
number-determined refusal = determined (number_of refusal)

-- a log's refusal is found from the number that is told of it
answer : ℕ → Option Refusal
answer n = cond (eqb n 0) None (cond (eqb n 20) (Some R.BadMark) (cond (eqb n 21) (Some R.ShortRecord) (Some R.NoNumber)))

answered : (x : Option Refusal) → answer (number_told x) ≡ x
unfolding answer
answered None = refl
answered (Some R.BadMark) = refl
answered (Some R.ShortRecord) = refl
answered (Some R.NoNumber) = refl

pub told-apart : ToldApart
told-apart x y e = sym (answered x) ∙ (ap answer e ∙ answered y)

-- for `finish`: the number told of it, and what is told of it determines it
pub finish-determined : (number left : ℕ) → Determined (finish_of number left)
finish-determined number left = determined (finish_of number left)

pub refusal-determined : (number left : ℕ) (x y : Option Refusal) → number_told x ≡ finish_of number left → number_told y ≡ finish_of number left → x ≡ y
refusal-determined number left x y p q = told-apart x y (p ∙ sym q)

pub put-finish-determined :
    (out : List ℕ) (t : Tally) (number left : ℕ) →
    Determined (finished_of (length out) t number (finish_of number left)) × Determined (lay_of out 0 (finished_line number (finish_of number left)))
put-finish-determined out t number left =
    (determined (finished_of (length out) t number (finish_of number left)), determined (lay_of out 0 (finished_line number (finish_of number left))))

pub within-determined : (end : ℕ) (buf : List ℕ) → Determined (min end (length buf))
within-determined end buf = determined (min end (length buf))
