-- The list of acts that gives as many writer notifications as there are sequences, and the worlds on its way. Assumes nothing.
use Rattle.std.specs.Prelude.{ℕ, zero, suc, true, List, [], ◌∷◌, ◌++◌, set, replicate}
use Rattle.words.specs.declared.Kind.TheVariants as K
use Rattle.queue.specs.Row.{THREADS, empty_row}
use Rattle.rwlock.specs.declared.WriteAt.TheVariants as Wr
use Rattle.rwlock.specs.declared.RwLockAt.TheVariants as X
use Rattle.calls.specs.declared.At.TheVariants as A
use Rattle.calls.specs.Plans.{awake, asleep}
use Rattle.calls.specs.Objects.{word_of}
use Rattle.world.specs.declared.World.{World}
use Rattle.world.specs.World.{fresh_world}
use Rattle.acts.specs.declared.Fields.{Fields}

-- a thread begins a call; a thread makes a step; an RwLock gets its forgotten reads
abbrev pub begin : ℕ → ℕ → ℕ → ℕ → Fields
begin call thread object value = record { act = 1; choice = call; thread = thread; object = object; value = value }

abbrev pub step : ℕ → Fields
step thread = record { act = 2; choice = 0; thread = thread; object = 0; value = 0 }

abbrev pub forget : ℕ → ℕ → Fields
forget lock value = record { act = 0; choice = 0; thread = 0; object = lock; value = value }

-- a thread begins write, and write_unlock, on RwLock 0
abbrev pub write : ℕ → Fields
write thread = begin 6 thread 0 0

abbrev pub write-unlock : ℕ → Fields
write-unlock thread = begin 8 thread 0 0

-- thread 0 is before its futex_wait with this sequence, and writer_notify is n; nobody holds anything, and all others are idle
unfoldable pub standing : ℕ → ℕ → World
standing sequence n = record {
  words = set fresh_world.words (word_of K.WriterNotify 0) n;
  locked = fresh_world.locked;
  written = fresh_world.written;
  reads = fresh_world.reads;
  forgotten = fresh_world.forgotten;
  threads = set fresh_world.threads 0 (awake (A.RwLock 0 (X.Write (Wr.Wait sequence))));
  sleepers = empty_row;
  started = true;
}

-- .. it sleeps there, and writer_notify is the sequence again
unfoldable pub sleeping : World
sleeping = record {
  words = fresh_world.words;
  locked = fresh_world.locked;
  written = fresh_world.written;
  reads = fresh_world.reads;
  forgotten = fresh_world.forgotten;
  threads = set fresh_world.threads 0 (asleep (A.RwLock 0 (X.Write (Wr.Wait 0))));
  sleepers = record { places = replicate THREADS 0; count = 1 };
  started = true;
}

-- Threads 1 and 2 give one notification while nobody sleeps. Thread 1 takes the lock, thread 2 fails to, thread 1 frees it. Thread 2 sees it
-- free, thread 1 takes it again, thread 2 sets the waiting bit and loads the sequence. Thread 1 frees it, and thread 2 takes it, with the bit,
-- before thread 1's wake. Thread 2 frees it, notifies and wakes nobody.
unfoldable pub round : List Fields
round =
    write 1 ∷ step 1 ∷ write 2 ∷ step 2 ∷ write-unlock 1 ∷ step 1
    ∷ step 2 ∷ write 1 ∷ step 1 ∷ step 2 ∷ step 2 ∷ step 2
    ∷ write-unlock 1 ∷ step 1 ∷ step 2 ∷ step 2 ∷ step 1
    ∷ write-unlock 2 ∷ step 2 ∷ step 2 ∷ step 2 ∷ step 2 ∷ []

-- so many, one behind another
unfoldable pub rounds : ℕ → List Fields
rounds zero = []
rounds (suc k) = round ++ rounds k

-- Thread 1 takes the lock, thread 0 fails to, thread 1 frees it. Thread 0 sees it free, thread 1 takes it again, thread 0 sets the waiting bit,
-- loads the sequence and goes to its futex_wait. Thread 1 frees it, notifies and wakes nobody.
unfoldable pub setup : List Fields
setup =
    write 1 ∷ step 1 ∷ write 0 ∷ step 0 ∷ write-unlock 1 ∷ step 1
    ∷ step 0 ∷ write 1 ∷ step 1 ∷ step 0 ∷ step 0 ∷ step 0 ∷ step 0
    ∷ write-unlock 1 ∷ step 1 ∷ step 1 ∷ step 1 ∷ step 1 ∷ []

-- the setup, k rounds, and thread 0's step at its futex_wait
unfoldable pub overrun : ℕ → List Fields
overrun k = setup ++ (rounds k ++ (step 0 ∷ []))
