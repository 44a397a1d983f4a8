-- The tables of holds after a step of a thread. Assumes nothing.
use Rattle.std.specs.Prelude.{Bool, false, List, ℕ, get_or, set}
use Rattle.words.specs.declared.Hold.{Hold}
use Rattle.world.specs.Holds.{mutex_slot, lock_slot}
use Rattle.step.specs.Step.{locked_after, written_after, reads_after}

abbrev pub locked_new : List Bool → ℕ → ℕ → Hold → List Bool
locked_new locked t object hold = set locked (mutex_slot t object) (locked_after hold (get_or locked (mutex_slot t object) false))

abbrev pub written_new : List Bool → ℕ → ℕ → Hold → List Bool
written_new ws t object hold = set ws (lock_slot t object) (written_after hold (get_or ws (lock_slot t object) false))

abbrev pub reads_new : List ℕ → ℕ → ℕ → Hold → List ℕ
reads_new rs t object hold = set rs (lock_slot t object) (reads_after hold (get_or rs (lock_slot t object) 0))
