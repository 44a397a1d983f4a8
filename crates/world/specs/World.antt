-- A world: its words, holds, thread records and sleepers, and the fresh one. Assumes nothing.
use Rattle.std.specs.Prelude.{ℕ, Bool, true, false, ◌&&◌, List, ◌++◌, eqb, get_or, replicate}
use Rattle.words.specs.Once.{INCOMPLETE}
use Rattle.words.specs.declared.Kind.TheVariants as K
use Rattle.queue.specs.declared.Row.{Row}
use Rattle.queue.specs.Row.{THREADS, empty_row}
use Rattle.calls.specs.declared.Thread.{Thread}
use Rattle.calls.specs.Objects.{RWLOCKS, ONCES, base_of}
use Rattle.calls.specs.Plans.{idle}
use Rattle.calls.specs.Positions.{operand_of}
use Rattle.world.specs.declared.World.{World}
use Rattle.world.specs.Holds.{MUTEXHOLDS, LOCKHOLDS}

-- every thread idle, every queue empty, nothing held, every Once word INCOMPLETE and every other word 0
unfoldable pub fresh_world : World
fresh_world = record {
  words = replicate (base_of K.Once) 0 ++ (replicate ONCES INCOMPLETE ++ replicate THREADS 0);
  locked = replicate MUTEXHOLDS false;
  written = replicate LOCKHOLDS false;
  reads = replicate LOCKHOLDS 0;
  forgotten = replicate RWLOCKS 0;
  threads = replicate THREADS idle;
  sleepers = empty_row;
  started = false;
}

-- what stands at a number: idle and 0 past the end
abbrev pub thread_at : World → ℕ → Thread
thread_at w t = get_or w.threads t idle

abbrev pub word_at : World → ℕ → ℕ
word_at w k = get_or w.words k 0

-- thread t, with this record, sleeps on word k
unfoldable pub sleeps_on : ℕ → ℕ → Thread → Bool
sleeps_on k t th = th.asleep && eqb (operand_of t th.at) k

-- .. as a test on thread numbers
abbrev pub on_word : List Thread → ℕ → ℕ → Bool
on_word ths k t = sleeps_on k t (get_or ths t idle)

-- the world with other records and another row of sleepers; with another record of one thread; with other words
abbrev pub with_sleepers : World → List Thread → Row → World
with_sleepers w ths row = record {
  words = w.words;
  locked = w.locked;
  written = w.written;
  reads = w.reads;
  forgotten = w.forgotten;
  threads = ths;
  sleepers = row;
  started = w.started;
}

-- the world after an act other than set
abbrev pub in_motion : World → World
in_motion w = record {
  words = w.words;
  locked = w.locked;
  written = w.written;
  reads = w.reads;
  forgotten = w.forgotten;
  threads = w.threads;
  sleepers = w.sleepers;
  started = true;
}
