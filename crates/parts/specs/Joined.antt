-- A log run in parts is the log run in one piece: the same lines, the same tally, the same world, however the reads fall and whatever room
-- each part has for its lines. Assumes nothing.
use Rattle.std.specs.Prelude.{ℕ, ◌≡◌, false, List, drop}
use Rattle.replay_log.specs.declared.State.{State}
use Rattle.parts.specs.Parts.{has_ended, whole_run, Reached}

-- Part after part: what was reached is the run over all bytes read, and the bytes left are those that it leaves.
pub record AsOne (a : Reached) (s : State) (log : List ℕ) : Type 0 where
  pub run : a.run ≡ whole_run log s
  pub left : has_ended a.run.stop ≡ false → a.left ≡ drop a.run.used log
