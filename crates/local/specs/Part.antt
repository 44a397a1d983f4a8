-- The part of a world that a step of a thread reads and changes: the thread's record and holds, the word that its next operation is about,
-- and the sleepers on that word. Two worlds that agree on it, and a world after a step that is as before outside of it. Assumes nothing.
use Rattle.std.specs.Prelude.{◌≡◌, ◌⊎◌, ◌≢◌, Bool, true, cond, List, [], ◌∷◌, ◌++◌, ℕ, min, ◌<◌, ltb, length, take, drop}
use Rattle.words.specs.declared.Kind.TheVariants as K
use Rattle.words.specs.declared.Wake.{Wake}
use Rattle.words.specs.declared.Wake.TheVariants as W
use Rattle.queue.specs.Row.{THREADS, queue_of, occ}
use Rattle.calls.specs.declared.Plan.{Plan}
use Rattle.calls.specs.Events.{woken_of, tell_of}
use Rattle.calls.specs.Objects.{MUTEXES, RWLOCKS, word_of}
use Rattle.calls.specs.Plans.{decide_of}
use Rattle.calls.specs.Positions.{operand_of}
use Rattle.world.specs.declared.World.{World}
use Rattle.world.specs.World.{thread_at, word_at, sleeps_on, on_word}
use Rattle.world.specs.Holds.{holds_mutex, holds_write, reads_of}
use Rattle.step.specs.declared.Acted.{Acted}
use Rattle.step.specs.Step.{roused}
use Rattle.keeps_counts.specs.Tables.{locked_new, written_new, reads_new}

-- the number of the word that the next operation of thread t is about; past the row where there is none
abbrev pub word_next : World → ℕ → ℕ
word_next w t = operand_of t (thread_at w t).at

-- whether thread u sleeps on word k
abbrev pub sleeps_at : World → ℕ → ℕ → Bool
sleeps_at w k u = sleeps_on k u (thread_at w u)

-- the queue of word k: who sleeps on it, the longest asleep first
abbrev pub queue_at : World → ℕ → List ℕ
queue_at w k = queue_of (on_word w.threads k) w.sleepers

-- two worlds agree on the part of thread t and word k
pub record Agree (w v : World) (t k : ℕ) : Type 0 where
  pub same-record : thread_at w t ≡ thread_at v t
  pub same_word : word_at w k ≡ word_at v k
  pub same-mutexes : (mutex : ℕ) → mutex < MUTEXES → holds_mutex w.locked mutex t ≡ holds_mutex v.locked mutex t
  pub same_writes : (lock : ℕ) → lock < RWLOCKS → holds_write w.written lock t ≡ holds_write v.written lock t
  pub same_reads : (lock : ℕ) → lock < RWLOCKS → reads_of w.reads lock t ≡ reads_of v.reads lock t
  pub same_queue : queue_at w k ≡ queue_at v k
  pub same-sleepers : (u : ℕ) → sleeps_at w k u ≡ true → thread_at w u ≡ thread_at v u

-- two answers, from worlds w and v: equal events, and worlds that agree on that part again, the records of all who slept on word k too,
-- woken or not
pub record Alike (w v : World) (t k : ℕ) (r s : Acted) : Type 0 where
  pub same-event : r.event ≡ s.event
  pub agree : Agree r.world s.world t k
  pub same-slept : (u : ℕ) → sleeps_at w k u ≡ true → thread_at r.world u ≡ thread_at s.world u

-- how many of a queue a wake reaches
unfoldable pub number_woken : Wake → List ℕ → ℕ
number_woken W.None queue = 0
number_woken W.One queue = min 1 (length queue)
number_woken W.All queue = length queue

-- what thread t is to do, read from its part alone
unfoldable pub plan_at : World → ℕ → Bool → Plan
plan_at w t fails =
    decide_of (thread_at w t).at fails (word_at w (word_next w t)) (ltb 0 (length (queue_at w (word_next w t))))

-- how many it wakes
abbrev pub woken_at : World → ℕ → Bool → ℕ
woken_at w t fails = number_woken (plan_at w t fails).wake (queue_at w (word_next w t))

-- the frame: v is w after a step of thread t over word k that wakes the n longest asleep on it. Every other word, hold and queue is as it
-- was; of other threads' records only those of the woken change, and they stand after their futex_wait.
pub record Framed (w : World) (t k n : ℕ) (v : World) : Type 0 where
  pub other-words : (j : ℕ) → j ≢ k → word_at v j ≡ word_at w j
  pub other-mutexes :
      (u mutex : ℕ) → u < THREADS → mutex < MUTEXES → (u ≢ t) ⊎ (word_of K.Mutex mutex ≢ k) →
      holds_mutex v.locked mutex u ≡ holds_mutex w.locked mutex u
  pub other-writes :
      (u lock : ℕ) → u < THREADS → lock < RWLOCKS → (u ≢ t) ⊎ (word_of K.RwLock lock ≢ k) →
      holds_write v.written lock u ≡ holds_write w.written lock u
  pub other-reads :
      (u lock : ℕ) → u < THREADS → lock < RWLOCKS → (u ≢ t) ⊎ (word_of K.RwLock lock ≢ k) →
      reads_of v.reads lock u ≡ reads_of w.reads lock u
  pub same-forgotten : v.forgotten ≡ w.forgotten
  pub other-queues : (j : ℕ) → j ≢ k → queue_at v j ≡ queue_at w j
  pub other-records : (u : ℕ) → u ≢ t → occ u (take n (queue_at w k)) ≡ 0 → thread_at v u ≡ thread_at w u
  pub woken-records : (u : ℕ) → 0 < occ u (take n (queue_at w k)) → (sleeps_at w k u ≡ true) × (thread_at v u ≡ roused (thread_at w u))

-- a step of thread t over word k, whole: plan p carried out, the n longest asleep on k woken, and the frame around it
pub record Stepped (w : World) (t k n : ℕ) (p : Plan) (r : Acted) : Type 0 where
  pub event : r.event ≡ tell_of p.event n
  pub told : woken_of r.event ≡ n
  pub word : word_at r.world k ≡ p.word
  pub own : thread_at r.world t ≡ p.next
  pub locked : r.world.locked ≡ locked_new w.locked t p.object p.hold
  pub written : r.world.written ≡ written_new w.written t p.object p.hold
  pub reads : r.world.reads ≡ reads_new w.reads t p.object p.hold
  pub queue : queue_at r.world k ≡ drop n (queue_at w k) ++ cond p.next.asleep (t ∷ []) []
  pub started : r.world.started ≡ true
  pub frame : Framed w t k n r.world
