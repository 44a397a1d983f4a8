-- A step keeps the counts of each RwLock's holders against its state. Assumes nothing.
use mathlib.Core.Path.{◌≡◌, refl, sym, subst}
use mathlib.Core.Logic.{◌≢◌}
use mathlib.Core.Bool.{Bool, true, false, cond}
use mathlib.Core.List.{List}
use Prim.Native.Nat.{ℕ, ◌+◌, ◌≤◌, ◌<◌}
use native.Mathlib.Omega.{arith}
use lib.ListN.{length, get_or}
use lib.Seq.{set-get_or}
use Rattle.words.specs.Atomic.{wrapping_add, wrapping_sub}
use Rattle.words.specs.RwLock.{MASK, MAX_READERS, count}
use Rattle.words.specs.declared.Hold.{Hold}
use Rattle.words.specs.declared.Hold.TheVariants as H
use Rattle.words.specs.declared.Kind.TheVariants as K
use Rattle.queue.specs.Row.{THREADS}
use Rattle.calls.specs.Objects.{RWLOCKS}
use Rattle.world.specs.Holds.{LOCKHOLDS, lock_slot, holds_write, reads_of}
use Rattle.step.specs.Step.{written_after, reads_after}
use Rattle.sound.specs.Sound.{writers, reads_held}
use Rattle.sound.proofs.Ranges.{count_at}
use Rattle.sound.specs.Clauses as Rd
use Rattle.sound.proofs.Holds.{writers-own, writers-other, reads-held-own, reads-held-other, reads-part}
use Rattle.sound.specs.Clauses.{Counts}
use Rattle.kept.specs.Laws.{RwLockDid, lock-same, read_taken, write-taken, read_freed, write-freed, write-downgraded, held_kind}
use Rattle.keeps_counts.specs.Tables.{written_new, reads_new}

-- a change of other holds leaves them as they were
pub written_same : (ws : List Bool) (t object : ℕ) (hold : Hold) → held_kind hold ≢ K.RwLock → written_new ws t object hold ≡ ws
unfolding held_kind
written_same ws t object H.Same n = set-get_or ws (lock_slot t object) false
written_same ws t object H.TakeMutex n = set-get_or ws (lock_slot t object) false
written_same ws t object H.FreeMutex n = set-get_or ws (lock_slot t object) false
written_same ws t object H.TakeRead n = absurd (n refl)
written_same ws t object H.FreeRead n = absurd (n refl)
written_same ws t object H.TakeWrite n = absurd (n refl)
written_same ws t object H.FreeWrite n = absurd (n refl)
written_same ws t object H.Downgrade n = absurd (n refl)

pub reads_same : (rs : List ℕ) (t object : ℕ) (hold : Hold) → held_kind hold ≢ K.RwLock → reads_new rs t object hold ≡ rs
unfolding held_kind
reads_same rs t object H.Same n = set-get_or rs (lock_slot t object) 0
reads_same rs t object H.TakeMutex n = set-get_or rs (lock_slot t object) 0
reads_same rs t object H.FreeMutex n = set-get_or rs (lock_slot t object) 0
reads_same rs t object H.TakeRead n = absurd (n refl)
reads_same rs t object H.FreeRead n = absurd (n refl)
reads_same rs t object H.TakeWrite n = absurd (n refl)
reads_same rs t object H.FreeWrite n = absurd (n refl)
reads_same rs t object H.Downgrade n = absurd (n refl)

-- a thread that holds a lock for writing is one of its writers
pub write-part : (ws : List Bool) (l t : ℕ) → t < THREADS → cond (holds_write ws l t) 1 0 ≤ writers ws l
unfolding writers
write-part ws l t h = count_at (holds_write ws l) THREADS t h

-- one count more or less does not wrap
add-one : (n : ℕ) → n ≤ MAX_READERS → wrapping_add n 1 ≡ n + 1
unfolding wrapping_add
add-one n h = omega arith

sub-one : (n : ℕ) → 0 < n → n ≤ MAX_READERS → wrapping_sub n 1 + 1 ≡ n
unfolding wrapping_sub
sub-one n a h = omega arith

-- what each change does to the counts, over numbers: the state's low bits, the writers, the reads held, and the thread's own part of them
on_read :
    (low new writing held own after : ℕ) → Counts low writing held → own ≤ held → low < MAX_READERS → new ≡ low + 1 →
    after + own ≡ held + wrapping_add own 1 → Counts new writing after
on_read low new writing held own after (Rd.reading z e l) p s n q =
    let w : wrapping_add own 1 ≡ own + 1 = add-one own (omega arith) in
    Rd.reading z (omega arith) (omega arith)
on_read low new writing held own after (Rd.written z e l) p s n q = absurd (omega arith)

off-read :
    (low new writing held own after : ℕ) → Counts low writing held → own ≤ held → 0 < own → (0 < low → low ≡ new + 1) →
    after + own ≡ held + wrapping_sub own 1 → Counts new writing after
off-read low new writing held own after (Rd.reading z e l) p s n q =
    let w : wrapping_sub own 1 + 1 ≡ own = sub-one own s (omega arith) in
    let m : low ≡ new + 1 = n (omega arith) in
    Rd.reading z (omega arith) (omega arith)
off-read low new writing held own after (Rd.written z e l) p s n q = absurd (omega arith)

on-write :
    (low new writing held after : ℕ) (own : Bool) → Counts low writing held → cond own 1 0 ≤ writing → low ≡ 0 → new ≡ MASK →
    after + cond own 1 0 ≡ writing + 1 → Counts new after held
on-write low new writing held after true (Rd.reading z e l) p s n q = absurd (omega arith)
on-write low new writing held after false (Rd.reading z e l) p s n q = Rd.written (omega arith) n (omega arith)
on-write low new writing held after own (Rd.written z e l) p s n q = absurd (omega arith)

off-write :
    (low new writing held after : ℕ) (own : Bool) → Counts low writing held → cond own 1 0 ≤ writing → own ≡ true → (low ≡ MASK → new ≡ 0) →
    after + cond own 1 0 ≡ writing + 0 → Counts new after held
off-write low new writing held after own (Rd.reading z e l) p s n q =
    let o : ◌≡◌ {A = ℕ} (cond own 1 0) 1 = rw s in
    absurd (omega arith)
off-write low new writing held after own (Rd.written z e l) p s n q =
    let o : ◌≡◌ {A = ℕ} (cond own 1 0) 1 = rw s in
    let m : new ≡ 0 = n e in
    Rd.reading (omega arith) (omega arith) (omega arith)

down :
    (low new writing held after own held' : ℕ) (b : Bool) → Counts low writing held → cond b 1 0 ≤ writing → own ≤ held → b ≡ true →
    (low ≡ MASK → new ≡ 1) → after + cond b 1 0 ≡ writing + 0 → held' + own ≡ held + wrapping_add own 1 → Counts new after held'
down low new writing held after own held' b (Rd.reading z e l) p r s n q k =
    let o : ◌≡◌ {A = ℕ} (cond b 1 0) 1 = rw s in
    absurd (omega arith)
down low new writing held after own held' b (Rd.written z e l) p r s n q k =
    let o : ◌≡◌ {A = ℕ} (cond b 1 0) 1 = rw s in
    let m : new ≡ 1 = n e in
    let w : wrapping_add own 1 ≡ own + 1 = add-one own (omega arith) in
    Rd.reading (omega arith) (omega arith) (omega arith)

module _
    (ws : List Bool) (rs forgotten : List ℕ) (t l : ℕ) (ws-long : length ws ≡ LOCKHOLDS) (rs-long : length rs ≡ LOCKHOLDS) (is-thread : t < THREADS)
    (is-lock : l < RWLOCKS)
  where
    Agree : ℕ → List Bool → List ℕ → Type 0
    Agree state b n = Counts (count state) (writers b l) (reads_held forgotten n l)

    same-written : written_new ws t l H.Same ≡ ws
    same-written = set-get_or ws (lock_slot t l) false

    same_reads : reads_new rs t l H.Same ≡ rs
    same_reads = set-get_or rs (lock_slot t l) 0

    own_read : reads_of rs l t ≤ reads_held forgotten rs l
    own_read = reads-part forgotten rs l t is-thread

    own-write : cond (holds_write ws l t) 1 0 ≤ writers ws l
    own-write = write-part ws l t is-thread

    -- the lock that the step is about
    pub lock-stepped :
        (hold : Hold) (word new : ℕ) → RwLockDid word hold new → (hold ≡ H.FreeRead → 0 < reads_of rs l t) →
        (hold ≡ H.FreeWrite → holds_write ws l t ≡ true) → (hold ≡ H.Downgrade → holds_write ws l t ≡ true) →
        Counts (count word) (writers ws l) (reads_held forgotten rs l) →
        Counts (count new) (writers (written_new ws t l hold) l) (reads_held forgotten (reads_new rs t l hold) l)
    unfolding reads_of Agree
    lock-stepped hold word new (lock-same e) fr fw dg c =
        rw (same-written, same_reads, e) c
    lock-stepped hold word new (read_taken s e) fr fw dg c =
        subst (λ (b : List Bool). Agree new b (reads_new rs t l H.TakeRead)) (sym same-written)
        (on_read (count word) (count new) (writers ws l) (reads_held forgotten rs l) (reads_of rs l t)
        (reads_held forgotten (reads_new rs t l H.TakeRead) l) c own_read s e
        (reads-held-own rs t l (wrapping_add (reads_of rs l t) 1) rs-long is-thread is-lock forgotten))
    lock-stepped hold word new (write-taken s e) fr fw dg c =
        subst (λ (n : List ℕ). Agree new (written_new ws t l H.TakeWrite) n) (sym same_reads)
        (on-write (count word) (count new) (writers ws l) (reads_held forgotten rs l) (writers (written_new ws t l H.TakeWrite) l) (holds_write ws l t)
        c own-write s e (writers-own ws t l true ws-long is-thread is-lock))
    lock-stepped hold word new (read_freed e) fr fw dg c =
        subst (λ (b : List Bool). Agree new b (reads_new rs t l H.FreeRead)) (sym same-written)
        (off-read (count word) (count new) (writers ws l) (reads_held forgotten rs l) (reads_of rs l t)
        (reads_held forgotten (reads_new rs t l H.FreeRead) l) c own_read (fr refl) e
        (reads-held-own rs t l (wrapping_sub (reads_of rs l t) 1) rs-long is-thread is-lock forgotten))
    lock-stepped hold word new (write-freed e) fr fw dg c =
        subst (λ (n : List ℕ). Agree new (written_new ws t l H.FreeWrite) n) (sym same_reads)
        (off-write (count word) (count new) (writers ws l) (reads_held forgotten rs l) (writers (written_new ws t l H.FreeWrite) l) (holds_write ws l t)
        c own-write (fw refl) e (writers-own ws t l false ws-long is-thread is-lock))
    lock-stepped hold word new (write-downgraded e) fr fw dg c =
        down (count word) (count new) (writers ws l) (reads_held forgotten rs l) (writers (written_new ws t l H.Downgrade) l) (reads_of rs l t)
        (reads_held forgotten (reads_new rs t l H.Downgrade) l) (holds_write ws l t) c own-write own_read (dg refl) e
        (writers-own ws t l false ws-long is-thread is-lock)
        (reads-held-own rs t l (wrapping_add (reads_of rs l t) 1) rs-long is-thread is-lock forgotten)

    -- another lock
    pub writers-elsewhere : (hold : Hold) (k : ℕ) → k < RWLOCKS → (k ≡ l → ⊥) → writers (written_new ws t l hold) k ≡ writers ws k
    writers-elsewhere hold k d n =
        writers-other ws t l (written_after hold (get_or ws (lock_slot t l) false)) ws-long is-thread is-lock k d n

    pub reads-elsewhere :
        (hold : Hold) (k : ℕ) → k < RWLOCKS → (k ≡ l → ⊥) → reads_held forgotten (reads_new rs t l hold) k ≡ reads_held forgotten rs k
    reads-elsewhere hold k d n =
        reads-held-other rs t l (reads_after hold (get_or rs (lock_slot t l) 0)) rs-long is-thread is-lock forgotten k d n
