-- What the promises name beside the definitions of the crates below. Assumes nothing.
use Rattle.std.specs.Prelude.{ℕ, List, [], ◌∷◌}
use Rattle.parts.specs.Parts.{Part}

-- a log that comes in one part, with so much room for its lines
abbrev pub one_part : List ℕ → ℕ → List Part
one_part log room = record { bytes = log; room = room } ∷ []
