-- The sizes that a world has though its type here does not say so: its lists are the code's arrays, its words the code's 32-bit words.
-- Assumes nothing.
use Rattle.std.specs.Prelude.{◌≡◌, ℕ, ◌^◌, ◌<◌, length}
use Rattle.queue.specs.Row.{THREADS}
use Rattle.calls.specs.Objects.{RWLOCKS, WORDS}
use Rattle.world.specs.declared.World.{World}
use Rattle.world.specs.World.{word_at}
use Rattle.world.specs.Holds.{MUTEXHOLDS, LOCKHOLDS}

-- every list as long as the machine has it, every word of 32 bits
pub record Shaped (w : World) : Type 0 where
  pub words : length w.words ≡ WORDS
  pub locked : length w.locked ≡ MUTEXHOLDS
  pub written : length w.written ≡ LOCKHOLDS
  pub reads : length w.reads ≡ LOCKHOLDS
  pub forgotten : length w.forgotten ≡ RWLOCKS
  pub threads : length w.threads ≡ THREADS
  pub places : length w.sleepers.places ≡ THREADS
  pub wide : (k : ℕ) → word_at w k < 2 ^ 32
