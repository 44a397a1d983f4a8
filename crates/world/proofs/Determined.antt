-- Every contract of this crate determines its result: any two results that it allows are equal. Assumes nothing.
use Prim.Native.Nat.{ℕ}
use mathlib.Core.Bool.{Bool}
use mathlib.Core.List.{List}
use Rattle.words.specs.Determined.{Determined, determined}
use Rattle.calls.specs.declared.Need.{Need}
use Rattle.calls.specs.declared.Thread.{Thread}
use lib.ListN.{get_or}
use Rattle.calls.specs.Plans.{idle}
use Rattle.world.specs.World.{fresh_world, sleeps_on}
use Rattle.world.specs.Holds.{mutex_slot, lock_slot, holds_mutex, holds_write, reads_of, has_hold}

pub fresh-determined : Determined fresh_world
fresh-determined = determined fresh_world

pub thread-at-determined : (threads : List Thread) (t : ℕ) → Determined (get_or threads t idle)
thread-at-determined threads t = determined (get_or threads t idle)

pub sleeps-on-determined : (k : ℕ) (t : ℕ) (th : Thread) → Determined (sleeps_on k t th)
sleeps-on-determined k t th = determined (sleeps_on k t th)

pub mutex-slot-determined : (t object : ℕ) → Determined (mutex_slot t object)
mutex-slot-determined t object = determined (mutex_slot t object)

pub lock-slot-determined : (t object : ℕ) → Determined (lock_slot t object)
lock-slot-determined t object = determined (lock_slot t object)

pub holds-mutex-determined : (locked : List Bool) (mutex t : ℕ) → Determined (holds_mutex locked mutex t)
holds-mutex-determined locked mutex t = determined (holds_mutex locked mutex t)

pub holds-write-determined : (written : List Bool) (lock t : ℕ) → Determined (holds_write written lock t)
holds-write-determined written lock t = determined (holds_write written lock t)

pub reads-of-determined : (reads : List ℕ) (lock t : ℕ) → Determined (reads_of reads lock t)
reads-of-determined reads lock t = determined (reads_of reads lock t)

pub has-hold-determined : (locked : List Bool) (written : List Bool) (reads : List ℕ) (t : ℕ) (need : Need) → Determined (has_hold locked written reads t need)
has-hold-determined locked written reads t need = determined (has_hold locked written reads t need)

pub word-determined : (words : List ℕ) (k : ℕ) → Determined (get_or words k 0)
word-determined words k = determined (get_or words k 0)

pub forgotten-reads-determined : (forgotten : List ℕ) (lock : ℕ) → Determined (get_or forgotten lock 0)
forgotten-reads-determined forgotten lock = determined (get_or forgotten lock 0)
