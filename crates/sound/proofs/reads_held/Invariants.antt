use Rattle.std.proofs.Common.{◌≡◌, ◌+◌, ◌*◌, ◌^◌, ◌<◌}
use Rattle.std.specs.Prelude.{get_or}
use Rattle.world.specs.Holds.{reads_of}
use Rattle.sound.specs.Ranges.{sum_from}
use Rattle.sound.proofs.reads_held.Given as goal

-- the reads forgotten and those of the threads below t, each less than 2 ^ 32
abbrev pub invariant-loop-t : goal.invariant-loop-t
invariant-loop-t l =
    (l.held ≡ get_or l.w.forgotten l.lock 0 + sum_from (reads_of l.w.reads l.lock) l.t 0) × (l.held < (l.t + 1) * 2 ^ 32)
