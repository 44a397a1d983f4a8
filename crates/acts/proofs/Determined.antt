-- Every contract of this crate determines its result: any two results that it allows are equal. Assumes nothing.
use Rattle.std.specs.Prelude.{◌≡◌, Result, Ok, Err, cond, eqb}
use Rattle.std.proofs.Common.{refl, sym, ap, ◌∙◌}
use Rattle.words.specs.Determined.{Determined, determined}
use Prim.Native.Nat.{ℕ}
use Rattle.calls.specs.declared.Thread.{Thread}
use Rattle.acts.specs.declared.Fields.{Fields}
use Rattle.world.specs.declared.World.{World}
use Rattle.acts.specs.declared.Refusal.{Refusal}
use Rattle.acts.specs.declared.Refusal.TheVariants as R
use Rattle.acts.specs.Numbers.{number_of, told, ToldApart}
use Rattle.acts.specs.Refusals.{fields_refusal, start_of, step_refusal, world_refusal}
use Rattle.acts.specs.Acts.{ending_of, accepted_of, acted_of, act_of}

pub fields-refusal-determined : (a : Fields) → Determined (fields_refusal a)
fields-refusal-determined a = determined (fields_refusal a)

pub start-determined : (a : Fields) → Determined (start_of a)
start-determined a = determined (start_of a)

pub world-refusal-determined : (w : World) (a : Fields) → Determined (world_refusal w a)
world-refusal-determined w a = determined (world_refusal w a)

pub ending-determined : (choice : ℕ) → Determined (ending_of choice)
ending-determined choice = determined (ending_of choice)

pub accepted-determined : (w : World) (a : Fields) → Determined (accepted_of w a)
accepted-determined w a = determined (accepted_of w a)

pub acted-determined : (w : World) (a : Fields) → Determined (acted_of w a)
acted-determined w a = determined (acted_of w a)

pub act-determined : (w : World) (a : Fields) → Determined (act_of w a)
act-determined w a = determined (act_of w a)

pub step-refusal-determined : (th : Thread) (choice : ℕ) → Determined (step_refusal th choice)
step-refusal-determined th choice = determined (step_refusal th choice)

pub fails-determined : (choice : ℕ) → Determined (eqb choice 1)
fails-determined choice = determined (eqb choice 1)

pub number-determined : (refusal : Refusal) → Determined (number_of refusal)
number-determined refusal = determined (number_of refusal)

-- a test's answer is found from the number that is told of it
answer : ℕ → Result (Unit {0}) Refusal
answer n =
    cond (eqb n 0) (Ok tt)
    (cond (eqb n 1) (Err R.Unknown)
    (cond (eqb n 2) (Err R.NoSuchThread)
    (cond (eqb n 3) (Err R.NoSuchObject)
    (cond (eqb n 4) (Err R.InsideCall)
    (cond (eqb n 5) (Err R.Idle)
    (cond (eqb n 6) (Err R.Asleep)
    (cond (eqb n 7) (Err R.Awake)
    (cond (eqb n 8) (Err R.NoWeakExchange)
    (cond (eqb n 9) (Err R.NoHold)
    (cond (eqb n 10) (Err R.InsideClosure)
    (cond (eqb n 11) (Err R.OutsideClosure)
    (cond (eqb n 12) (Err R.Started)
    (cond (eqb n 13) (Err R.OutOfRange)
    (Err R.Unsound))))))))))))))

answered : (x : Result (Unit {0}) Refusal) → answer (told x) ≡ x
unfolding answer
answered (Ok passed) = refl
answered (Err R.Unknown) = refl
answered (Err R.NoSuchThread) = refl
answered (Err R.NoSuchObject) = refl
answered (Err R.InsideCall) = refl
answered (Err R.Idle) = refl
answered (Err R.Asleep) = refl
answered (Err R.Awake) = refl
answered (Err R.NoWeakExchange) = refl
answered (Err R.NoHold) = refl
answered (Err R.InsideClosure) = refl
answered (Err R.OutsideClosure) = refl
answered (Err R.Started) = refl
answered (Err R.OutOfRange) = refl
answered (Err R.Unsound) = refl

pub told-apart : ToldApart
told-apart x y e = sym (answered x) ∙ (ap answer e ∙ answered y)

-- so `told result ≡ d` determines it too
pub told-determined : (d : ℕ) (x y : Result (Unit {0}) Refusal) → told x ≡ d → told y ≡ d → x ≡ y
told-determined d x y p q = told-apart x y (p ∙ sym q)
