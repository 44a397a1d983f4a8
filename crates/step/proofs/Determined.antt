-- Every contract of this crate determines its result: any two results that it allows are equal. Assumes nothing.
use Prim.Native.Nat.{ℕ}
use mathlib.Core.Bool.{Bool}
use mathlib.Core.List.{List}
use Rattle.words.specs.Determined.{Determined, determined}
use Rattle.words.specs.declared.Hold.{Hold}
use Rattle.queue.specs.declared.Row.{Row}
use Rattle.calls.specs.declared.At.{At}
use Rattle.calls.specs.declared.Plan.{Plan}
use Rattle.once.specs.declared.Ending.{Ending}
use Rattle.world.specs.declared.World.{World}
use lib.ListN.{set}
use Rattle.step.specs.Step.{locked_after, written_after, reads_after, slept_row, own_plan, step_of}
use Rattle.step.specs.Acts.{begin_of, wake_of, close_of}

pub put-word-determined : (words : List ℕ) (k : ℕ) (word : ℕ) → Determined (set words k word)
put-word-determined words k word = determined (set words k word)

-- for `store` the world that the reference holds at its end
pub store-determined : (w : World) (t k : ℕ) (p : Plan) → Determined (own_plan w t k p)
store-determined w t k p = determined (own_plan w t k p)

pub step-determined : (w : World) (t : ℕ) (fails : Bool) → Determined (step_of w t fails)
step-determined w t fails = determined (step_of w t fails)

pub begin-determined : (w : World) (t : ℕ) (at : At) → Determined (begin_of w t at)
begin-determined w t at = determined (begin_of w t at)

pub wake-determined : (w : World) (t : ℕ) → Determined (wake_of w t)
wake-determined w t = determined (wake_of w t)

pub close-determined : (w : World) (t : ℕ) (ending : Ending) → Determined (close_of w t ending)
close-determined w t ending = determined (close_of w t ending)

pub locked-after-determined : (hold : Hold) (b : Bool) → Determined (locked_after hold b)
locked-after-determined hold b = determined (locked_after hold b)

pub written-after-determined : (hold : Hold) (b : Bool) → Determined (written_after hold b)
written-after-determined hold b = determined (written_after hold b)

pub reads-after-determined : (hold : Hold) (n : ℕ) → Determined (reads_after hold n)
reads-after-determined hold n = determined (reads_after hold n)

pub slept-row-determined : (sleeps : Bool) (row : Row) (t : ℕ) → Determined (slept_row sleeps row t)
slept-row-determined sleeps row t = determined (slept_row sleeps row t)
