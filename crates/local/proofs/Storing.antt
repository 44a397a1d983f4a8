-- The own part of a step, second of its two stages: what it does to each queue and to each hold. Assumes nothing.
use mathlib.Core.Path.{◌≡◌, sym, ap, ◌∙◌}
use mathlib.Core.Logic.{◌⊎◌, inl, inr, ◌≢◌}
use mathlib.Core.Bool.{Bool, false, cond}
use mathlib.Core.List.{List, [], ◌∷◌, ◌++◌, append-nil}
use Prim.Native.Nat.{ℕ, ◌≤◌, ◌<◌}
use native.Mathlib.Omega.{arith}
use lib.ListN.{length, get_or, set}
use lib.Seq.{get_or-set_same, get_or-set_other}
use Rattle.words.specs.declared.Hold.{Hold}
use Rattle.words.specs.declared.Hold.TheVariants as H
use Rattle.words.specs.declared.Kind.{Kind}
use Rattle.words.specs.declared.Kind.TheVariants as K
use Rattle.queue.specs.declared.Row.{Row}
use Rattle.queue.specs.Row.{Pushed, THREADS, sleepers, queue_of, push_of, occ}
use Rattle.queue.proofs.Laws.{push-accepted, push-queue, push-room, queue-agree}
use Rattle.queue.proofs.Tidy.{tidy-count}
use Rattle.calls.specs.declared.Thread.{Thread}
use Rattle.calls.specs.declared.Plan.{Plan}
use Rattle.calls.specs.Objects.{MUTEXES, RWLOCKS, WORDS, word_of}
use Rattle.calls.specs.Plans.{idle}
use Rattle.world.specs.declared.World.{World}
use Rattle.world.specs.World.{thread_at, sleeps_on, on_word}
use Rattle.world.specs.Holds.{MUTEXHOLDS, LOCKHOLDS, mutex_slot, lock_slot, holds_mutex, holds_write, reads_of}
use Rattle.step.specs.Step.{locked_after, written_after, reads_after, own_plan}
use Rattle.sound.proofs.Ranges.{bit_le}
use Rattle.sound.proofs.Holds.{mutex-other, write-other, reads_other}
use Rattle.kept.specs.Shape.{Shaped}
use Rattle.kept.proofs.Tests.{decided}
use Rattle.kept.specs.Laws.{held_kind}
use Rattle.keeps_records.proofs.Names.{object-within}
use Rattle.keeps_records.proofs.Rows.{bit, Stand, below}
use Rattle.keeps_counts.proofs.Mutexes.{locked-same}
use Rattle.keeps_counts.specs.Tables.{locked_new, written_new, reads_new}
use Rattle.keeps_counts.proofs.Locks.{written_same, reads_same}
use Rattle.keeps_counts.proofs.Steps.{is-mutex-kind, is-lock-kind}
use Rattle.local.specs.Part.{queue_at}

-- the queues: a thread that falls asleep comes last into that of the word its record names, and else nothing changes
module _
    (v : World) (s : Shaped v) (d : Stand v.threads v.sleepers) (t : ℕ) (is-thread : t < THREADS)
    (awake : (thread_at v t).asleep ≡ false) where
  absent : occ t (sleepers v.sleepers) ≡ 0
  absent = d.stands t ∙ ap (λ (c : Bool). cond c 1 0) awake

  few : v.sleepers.count ≤ THREADS
  few = tidy-count v.sleepers d.tidy

  room : v.sleepers.count < THREADS
  room =
      push-room v.sleepers t (rw s.places few) is-thread absent
      (λ u p. let z : 0 < bit (thread_at v u) = rw (d.stands u) at p in
      let y : u < length v.threads = below v.threads u z in
      let l : length v.threads ≡ THREADS = s.threads in omega arith)
      (λ u. rw (d.stands u) (bit_le (thread_at v u).asleep))

  -- whoever else stands in the row has the record that it had
  others : (th : Thread) (j : ℕ) → queue_of (on_word (set v.threads t th) j) v.sleepers ≡ queue_at v j
  others th j =
      queue-agree (on_word (set v.threads t th) j) (on_word v.threads j) v.sleepers
      (λ u h. ap (sleeps_on j u)
      (get_or-set_other v.threads t u th idle (λ e. let z : occ u (sleepers v.sleepers) ≡ 0 = rw e absent in omega arith)))

  own : (th : Thread) → get_or (set v.threads t th) t idle ≡ th
  own th = get_or-set_same v.threads t th idle (rw s.threads is-thread)

  falls-asleep :
      (th : Thread) (j : ℕ) →
      queue_of (on_word (set v.threads t th) j) (push_of v.sleepers t).row ≡ queue_at v j ++ cond (sleeps_on j t th) (t ∷ []) []
  falls-asleep th j =
      ap (λ (x : Pushed). queue_of (on_word (set v.threads t th) j) x.row) (push-accepted v.sleepers t room) ∙
      (push-queue v.sleepers t (on_word (set v.threads t th) j) (rw s.places room) ∙
      rw (others th j, own th))

  stays-awake : (th : Thread) (j : ℕ) → th.asleep ≡ false → queue_at v j ≡ queue_at v j ++ cond (sleeps_on j t th) (t ∷ []) []
  unfolding sleeps_on
  stays-awake th j e = rw (e, append-nil)

  pub own-queue : (k : ℕ) (p : Plan) (j : ℕ) → queue_at (own_plan v t k p) j ≡ queue_at v j ++ cond (sleeps_on j t p.next) (t ∷ []) []
  unfolding own_plan
  own-queue k p j =
      decided (λ (row : Row). queue_of (on_word (set v.threads t p.next) j) row ≡ queue_at v j ++ cond (sleeps_on j t p.next) (t ∷ []) [])
      p.next.asleep (push_of v.sleepers t).row v.sleepers
      (λ _. falls-asleep p.next j)
      (λ e. others p.next j ∙ stays-awake p.next j e)

-- the holds: the one that changes is thread t's of the object whose word is k
module _
    (t k object : ℕ) (hold : Hold) (is-thread : t < THREADS) (within : k < WORDS)
    (about : (hold ≡ H.Same) ⊎ (k ≡ word_of (held_kind hold) object)) where
  named : (kind : Kind) → kind ≢ K.Nothing → held_kind hold ≡ kind → k ≡ word_of kind object
  unfolding held_kind
  named kind n e = by about
    where
      by : (hold ≡ H.Same) ⊎ (k ≡ word_of (held_kind hold) object) → k ≡ word_of kind object
      by (inl q) = absurd (n (sym e ∙ ap held_kind q))
      by (inr q) = q ∙ ap (λ (x : Kind). word_of x object) e

  mutex-named : held_kind hold ≡ K.Mutex → k ≡ word_of K.Mutex object
  mutex-named = named K.Mutex (λ z. let x : ◌≡◌ {A = ℕ} 0 1 = cc in absurd (omega arith))

  lock-named : held_kind hold ≡ K.RwLock → k ≡ word_of K.RwLock object
  lock-named = named K.RwLock (λ z. let x : ◌≡◌ {A = ℕ} 0 1 = cc in absurd (omega arith))

  -- that object exists
  pub mutex-exists : held_kind hold ≡ K.Mutex → object < MUTEXES
  mutex-exists e = let q : k ≡ word_of K.Mutex object = mutex-named e in object-within K.Mutex object (rw q at within)

  pub lock-exists : held_kind hold ≡ K.RwLock → object < RWLOCKS
  lock-exists e = let q : k ≡ word_of K.RwLock object = lock-named e in object-within K.RwLock object (rw q at within)

  apart :
      (kind : Kind) (u o : ℕ) → k ≡ word_of kind object → (u ≢ t) ⊎ (word_of kind o ≢ k) → u ≡ t → o ≡ object → ⊥
  apart kind u o e (inl n) p q = n p
  apart kind u o e (inr n) p q = n (ap (word_of kind) q ∙ sym e)

  pub mutexes-elsewhere :
      (locked : List Bool) → length locked ≡ MUTEXHOLDS → (u m : ℕ) → u < THREADS → m < MUTEXES → (u ≢ t) ⊎ (word_of K.Mutex m ≢ k) →
      holds_mutex (locked_new locked t object hold) m u ≡ holds_mutex locked m u
  mutexes-elsewhere locked long u m a b n = by (is-mutex-kind (held_kind hold))
    where
      by : (held_kind hold ≡ K.Mutex) ⊎ (held_kind hold ≢ K.Mutex) → holds_mutex (locked_new locked t object hold) m u ≡ holds_mutex locked m u
      by (inl e) =
          mutex-other locked t object (locked_after hold (get_or locked (mutex_slot t object) false)) long is-thread (mutex-exists e) u m a b
          (apart K.Mutex u m (mutex-named e) n)
      by (inr e) = ap (λ (l : List Bool). holds_mutex l m u) (locked-same locked t object hold e)

  pub writes-elsewhere :
      (ws : List Bool) → length ws ≡ LOCKHOLDS → (u l : ℕ) → u < THREADS → l < RWLOCKS → (u ≢ t) ⊎ (word_of K.RwLock l ≢ k) →
      holds_write (written_new ws t object hold) l u ≡ holds_write ws l u
  writes-elsewhere ws long u l a b n = by (is-lock-kind (held_kind hold))
    where
      by : (held_kind hold ≡ K.RwLock) ⊎ (held_kind hold ≢ K.RwLock) → holds_write (written_new ws t object hold) l u ≡ holds_write ws l u
      by (inl e) =
          write-other ws t object (written_after hold (get_or ws (lock_slot t object) false)) long is-thread (lock-exists e) u l a b
          (apart K.RwLock u l (lock-named e) n)
      by (inr e) = ap (λ (x : List Bool). holds_write x l u) (written_same ws t object hold e)

  pub reads-elsewhere :
      (rs : List ℕ) → length rs ≡ LOCKHOLDS → (u l : ℕ) → u < THREADS → l < RWLOCKS → (u ≢ t) ⊎ (word_of K.RwLock l ≢ k) →
      reads_of (reads_new rs t object hold) l u ≡ reads_of rs l u
  reads-elsewhere rs long u l a b n = by (is-lock-kind (held_kind hold))
    where
      by : (held_kind hold ≡ K.RwLock) ⊎ (held_kind hold ≢ K.RwLock) → reads_of (reads_new rs t object hold) l u ≡ reads_of rs l u
      by (inl e) =
          reads_other rs t object (reads_after hold (get_or rs (lock_slot t object) 0)) long is-thread (lock-exists e) u l a b
          (apart K.RwLock u l (lock-named e) n)
      by (inr e) = ap (λ (x : List ℕ). reads_of x l u) (reads_same rs t object hold e)
