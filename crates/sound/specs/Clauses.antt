-- What makes a world sound, as document 01 says it, thread by thread and word by word. The headline is `SoundExactly`: `sound_world w` is true
-- exactly if these hold; `sound-exactly` in proofs/Readings.antt proves it. Assumes nothing.
use Rattle.std.specs.Prelude.{◌≡◌, true, false, cond, ℕ, ◌+◌, ◌≤◌, ◌<◌, get_or}
use Rattle.words.specs.Mutex.{UNLOCKED, CONTENDED}
use Rattle.words.specs.Once.{INCOMPLETE, COMPLETE, QUEUED}
use Rattle.words.specs.Parker.{EMPTY}
use Rattle.words.specs.RwLock.{MASK, MAX_READERS, count}
use Rattle.words.specs.declared.Kind.TheVariants as K
use Rattle.queue.specs.Row.{THREADS, sleepers, occ, is_tidy}
use Rattle.calls.specs.Objects.{MUTEXES, RWLOCKS, ONCES}
use Rattle.calls.specs.Positions.{exists, passed_of, waits_of, is_idle, need_of}
use Rattle.world.specs.declared.World.{World}
use Rattle.world.specs.Holds.{has_hold}
use Rattle.world.specs.World.{thread_at}
use Rattle.sound.specs.Sound.{word_for, asleep_count, mutex_holders, writers, reads_held, sound_world}

-- Each sleeper stands once in the queue of the word its call waits on, and nobody else stands in any queue. The queue is that of the word
-- its position waits on; behind its sleepers the row is empty, and there are as many as threads asleep.
pub record Sleepers (w : World) : Type 0 where
  pub tidy : is_tidy w.sleepers ≡ true
  pub stands : (t : ℕ) → t < THREADS → occ t (sleepers w.sleepers) ≡ cond (thread_at w t).asleep 1 0
  pub waits : (t : ℕ) → t < THREADS → (thread_at w t).asleep ≡ true → waits_of (thread_at w t).at ≡ true
  pub counted : w.sleepers.count ≡ asleep_count w.threads

-- Mutex words are 0 to 2, Once words 0 to 7.
pub record InRange (w : World) : Type 0 where
  pub mutex : (m : ℕ) → m < MUTEXES → word_for w.words K.Mutex m ≤ CONTENDED
  pub once : (o : ℕ) → o < ONCES → word_for w.words K.Once o ≤ INCOMPLETE + QUEUED

-- Each lock's word agrees with the holds kept. A mutex word is 0 and nobody holds it, or it is not 0 and one thread does.
pub data Agrees (word holders : ℕ) : Type 0 where
  free : word ≡ UNLOCKED → holders ≡ 0 → Agrees word holders
  taken : (word ≡ UNLOCKED → ⊥) → holders ≡ 1 → Agrees word holders

-- The low 30 bits of an RwLock's state are the reads held and forgotten, and nobody writes; or they are MASK, and one thread does.
pub data Counts (low writing held : ℕ) : Type 0 where
  reading : writing ≡ 0 → low ≡ held → held ≤ MAX_READERS → Counts low writing held
  written : writing ≡ 1 → low ≡ MASK → held ≡ 0 → Counts low writing held

-- What set acts make from a fresh world: an RwLock has forgotten reads and no other hold, and its state is their number; a Once is INCOMPLETE
-- or COMPLETE; writer_notify and condvar words are free; all else is as in a fresh world.
pub record LockSet (state forgotten writing held : ℕ) : Type 0 where
  pub nobody-writes : writing ≡ 0
  pub only-forgotten : held ≡ forgotten
  pub state-is : state ≡ forgotten
  pub within : forgotten ≤ MAX_READERS

pub data OnceSet (word : ℕ) : Type 0 where
  fresh : word ≡ INCOMPLETE → OnceSet word
  complete : word ≡ COMPLETE → OnceSet word

pub record BySets (w : World) : Type 0 where
  pub awake : (t : ℕ) → t < THREADS → (thread_at w t).asleep ≡ false
  pub idle : (t : ℕ) → t < THREADS → is_idle (thread_at w t).at ≡ true
  pub nobody-sleeps : w.sleepers.count ≡ 0
  pub mutexes : (m : ℕ) → m < MUTEXES → (word_for w.words K.Mutex m ≡ UNLOCKED) × (mutex_holders w.locked m ≡ 0)
  pub locks :
      (l : ℕ) → l < RWLOCKS →
      LockSet (word_for w.words K.RwLock l) (get_or w.forgotten l 0) (writers w.written l) (reads_held w.forgotten w.reads l)
  pub onces : (o : ℕ) → o < ONCES → OnceSet (word_for w.words K.Once o)
  pub parkers : (t : ℕ) → t < THREADS → word_for w.words K.Parker t ≡ EMPTY

-- A sound world. Every index in it exists; the values at a position have passed the source's tests that lead there, so that spins are at
-- most 100 and carried Once values 0 to 7; a thread still before the operation that frees or downgrades has that hold; and while no act
-- other than set was accepted, set acts make the world from a fresh one.
pub record IsSound (w : World) : Type 0 where
  pub names : (t : ℕ) → t < THREADS → exists (thread_at w t).at ≡ true
  pub values : (t : ℕ) → t < THREADS → passed_of (thread_at w t).at ≡ true
  pub sleepers-stand : Sleepers w
  pub in-range : InRange w
  pub mutexes : (m : ℕ) → m < MUTEXES → Agrees (word_for w.words K.Mutex m) (mutex_holders w.locked m)
  pub locks :
      (l : ℕ) → l < RWLOCKS →
      Counts (count (word_for w.words K.RwLock l)) (writers w.written l) (reads_held w.forgotten w.reads l)
  pub needs : (t : ℕ) → t < THREADS → has_hold w.locked w.written w.reads t (need_of (thread_at w t).at) ≡ true
  pub by-sets : w.started ≡ false → BySets w

abbrev pub SoundExactly : Type 0
SoundExactly = (w : World) → (sound_world w ≡ true → IsSound w) × (IsSound w → sound_world w ≡ true)
