-- Every contract of this crate determines its result, and what a lent tally is afterwards: any two that it allows are equal. Assumes nothing.
use mathlib.Core.Bool.{Bool}
use Rattle.words.specs.Determined.{Determined, determined}
use Rattle.calls.specs.declared.At.{At}
use Rattle.calls.specs.declared.Event.{Event}
use Rattle.tally.specs.declared.Tally.{Tally}
use Rattle.tally.specs.Tally.{no_tally, grants_of, add_event}

pub nothing-determined : Determined no_tally
nothing-determined = determined no_tally

pub grants-determined : (at : At) → Determined (grants_of at)
grants-determined at = determined (grants_of at)

-- for `add` the tally that the reference holds at its end, for `noted` the result
pub added-determined : (t : Tally) (e : Event) (grant : Bool) → Determined (add_event t e grant)
added-determined t e grant = determined (add_event t e grant)
