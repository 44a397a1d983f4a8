-- Every contract of this crate determines its result, and what it leaves in the buffer lent to it: any two that it allows are equal. Assumes nothing.
use Prim.Native.Nat.{ℕ}
use mathlib.Core.List.{List}
use lib.ListN.{length}
use Rattle.words.specs.Determined.{Determined, determined}
use Rattle.calls.specs.declared.Event.{Event}
use Rattle.tally.specs.declared.Tally.{Tally}
use Rattle.lines.specs.Lines.{name_of, line_of, tally_line, lay_of, end_of}

pub name-determined : (event : Event) → Determined (name_of event)
name-determined event = determined (name_of event)

pub line-length-determined : (number : ℕ) (event : Event) → Determined (length (line_of number event))
line-length-determined number event = determined (length (line_of number event))

pub put-line-determined : (out : List ℕ) (at number : ℕ) (event : Event) → Determined (end_of (length out) at (line_of number event)) × Determined (lay_of out at (line_of number event))
put-line-determined out at number event = (determined (end_of (length out) at (line_of number event)), determined (lay_of out at (line_of number event)))

pub put-tally-determined : (out : List ℕ) (at : ℕ) (tally : Tally) → Determined (end_of (length out) at (tally_line tally)) × Determined (lay_of out at (tally_line tally))
put-tally-determined out at tally = (determined (end_of (length out) at (tally_line tally)), determined (lay_of out at (tally_line tally)))
