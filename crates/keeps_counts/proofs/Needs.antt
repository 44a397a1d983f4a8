-- The stepping thread's own part of a step leaves every thread the hold that its position asks for. Assumes nothing.
use mathlib.Core.Path.{◌≡◌, refl, sym, ap, ◌∙◌, subst}
use mathlib.Core.Logic.{◌⊎◌, inl, inr, ◌≢◌}
use mathlib.Core.Bool.{Bool, true, false}
use mathlib.Core.List.{List}
use Prim.Native.Nat.{ℕ, ◌<◌}
use native.Mathlib.Omega.{arith}
use lib.Dec.{eqb, ltb}
use lib.ListN.{length, get_or, set}
use lib.Seq.{get_or-set_same, get_or-set_other}
use borrow.Author.Tests.{eqb-true, eqb-false, ltb-true}
use Rattle.words.specs.declared.Hold.{Hold}
use Rattle.words.specs.declared.Hold.TheVariants as H
use Rattle.words.specs.declared.Kind.{Kind}
use Rattle.words.specs.declared.Kind.TheVariants as K
use Rattle.words.specs.declared.Needs.{Needs}
use Rattle.words.specs.declared.Needs.TheVariants as N
use Rattle.queue.specs.Row.{THREADS}
use Rattle.mutex.specs.declared.UnlockAt.TheVariants as U
use Rattle.mutex.specs.declared.MutexAt.{MutexAt}
use Rattle.mutex.specs.declared.MutexAt.TheVariants as M
use Rattle.mutex.specs.Mutex as Mx
use Rattle.rwlock.specs.declared.DowngradeAt.TheVariants as D
use Rattle.rwlock.specs.declared.RwLockAt.{RwLockAt}
use Rattle.rwlock.specs.declared.RwLockAt.TheVariants as X
use Rattle.rwlock.specs.Positions as RwP
use Rattle.condvar.specs.declared.WaitAt.TheVariants as Wt
use Rattle.condvar.specs.declared.CondvarAt.{CondvarAt}
use Rattle.condvar.specs.declared.CondvarAt.TheVariants as C
use Rattle.condvar.specs.Condvar as Cv
use Rattle.once.specs.Once as On
use Rattle.thread_parking.specs.ThreadParking as Pk
use Rattle.calls.specs.declared.At.{At}
use Rattle.calls.specs.declared.At.TheVariants as A
use Rattle.calls.specs.declared.Need.{Need}
use Rattle.calls.specs.declared.Plan.{Plan}
use Rattle.calls.specs.Objects.{MUTEXES, RWLOCKS, CONDVARS, WORDS, size_of}
use Rattle.calls.specs.Plans.{decide_of, idle}
use Rattle.calls.specs.Positions.{exists, condvar_exists, operand_of, need_of}
use Rattle.world.specs.declared.World.{World}
use Rattle.world.specs.World.{thread_at, word_at}
use Rattle.world.specs.Holds.{MUTEXHOLDS, LOCKHOLDS, holds_mutex, holds_write, reads_of, is_held, has_hold}
use Rattle.sound.specs.Sound.{names_exist, needs_held}
use Rattle.sound.proofs.Readings.{name-exists, need-held, needs-held-of}
use Rattle.sound.proofs.Holds.{mutex-other, write-other, reads_other}
use Rattle.step.specs.Step.{own_plan}
use Rattle.kept.proofs.Tests.{no_way, and_right}
use Rattle.kept.specs.Laws.{held_kind, kind_of, object_of}
use Rattle.kept.proofs.Calls.{hold-about, needs-kept}
use Rattle.keeps_counts.proofs.Words.{operand-object}
use Rattle.keeps_counts.proofs.Mutexes.{locked-same}
use Rattle.keeps_counts.specs.Tables.{locked_new, written_new, reads_new}
use Rattle.keeps_counts.proofs.Locks.{written_same, reads_same}
use Rattle.keeps_counts.proofs.Steps.{is-mutex-kind, is-lock-kind}

-- whether a need is of a mutex, or of an RwLock
unfoldable pub of_mutex : Needs → Bool
of_mutex N.Nothing = false
of_mutex N.Mutex = true
of_mutex N.Read = false
of_mutex N.Write = false

unfoldable pub of_lock : Needs → Bool
of_lock N.Nothing = false
of_lock N.Mutex = false
of_lock N.Read = true
of_lock N.Write = true

rwlock-no-mutex : (p : RwLockAt) → of_mutex (RwP.needs_of p) ≡ false
unfolding of_mutex RwP.needs_of RwP.downgrade_needs
rwlock-no-mutex (X.Read p) = refl
rwlock-no-mutex (X.TryRead p) = refl
rwlock-no-mutex X.ReadUnlock = refl
rwlock-no-mutex (X.Write p) = refl
rwlock-no-mutex (X.TryWrite p) = refl
rwlock-no-mutex X.WriteUnlock = refl
rwlock-no-mutex (X.Wake writer p) = refl
rwlock-no-mutex (X.Downgrade D.Add) = refl
rwlock-no-mutex (X.Downgrade D.Subtract) = refl
rwlock-no-mutex (X.Downgrade D.WakeReaders) = refl

mutex-no-lock : (p : MutexAt) → of_lock (Mx.needs_of p) ≡ false
unfolding of_lock Mx.needs_of Mx.unlock_needs
mutex-no-lock (M.Lock p) = refl
mutex-no-lock M.TryLock = refl
mutex-no-lock (M.Unlock U.Swap) = refl
mutex-no-lock (M.Unlock U.Wake) = refl

condvar-no-lock : (p : CondvarAt) → of_lock (Cv.needs_of p) ≡ false
unfolding of_lock Cv.needs_of Cv.wait_needs Mx.unlock_needs
condvar-no-lock (C.Wait m Wt.Load) = refl
condvar-no-lock (C.Wait m (Wt.Unlock sequence U.Swap)) = refl
condvar-no-lock (C.Wait m (Wt.Unlock sequence U.Wake)) = refl
condvar-no-lock (C.Wait m (Wt.Wait sequence)) = refl
condvar-no-lock (C.Wait m (Wt.Relock p)) = refl
condvar-no-lock (C.Notify all p) = refl

-- the object of a need exists
pub mutex-needed : (at : At) → exists at ≡ true → of_mutex (need_of at).hold ≡ true → (need_of at).object < MUTEXES
unfolding exists condvar_exists need_of of_mutex Cv.mutex_of On.needs_of Pk.needs_of
mutex-needed A.Idle e n = omega arith
mutex-needed (A.Mutex m p) e n = ltb-true m MUTEXES e
mutex-needed (A.RwLock l p) e n = no_way (sym (rwlock-no-mutex p) ∙ n)
mutex-needed (A.Condvar c (C.Wait m p)) e n = ltb-true m MUTEXES (and_right (ltb c CONDVARS) _ e)
mutex-needed (A.Condvar c (C.Notify all p)) e n = omega arith
mutex-needed (A.Once o p) e n = no_way n
mutex-needed (A.Parker p) e n = omega arith

pub lock-needed : (at : At) → exists at ≡ true → of_lock (need_of at).hold ≡ true → (need_of at).object < RWLOCKS
unfolding exists need_of of_lock On.needs_of Pk.needs_of
lock-needed A.Idle e n = omega arith
lock-needed (A.Mutex m p) e n = no_way (sym (mutex-no-lock p) ∙ n)
lock-needed (A.RwLock l p) e n = ltb-true l RWLOCKS e
lock-needed (A.Condvar c p) e n = no_way (sym (condvar-no-lock p) ∙ n)
lock-needed (A.Once o p) e n = no_way n
lock-needed (A.Parker p) e n = omega arith

-- another thread's holds stay, where the change is of an object that exists
module _
    (locked ws : List Bool) (rs : List ℕ) (t object : ℕ) (hold : Hold) (locked-long : length locked ≡ MUTEXHOLDS) (ws-long : length ws ≡ LOCKHOLDS)
    (rs-long : length rs ≡ LOCKHOLDS) (is-thread : t < THREADS) (of-mutex : held_kind hold ≡ K.Mutex → object < MUTEXES)
    (of-lock : held_kind hold ≡ K.RwLock → object < RWLOCKS) (u : ℕ) (is-other : u < THREADS) (other : u ≡ t → ⊥)
  where
    mutex-stays :
        (m : ℕ) → m < MUTEXES → (held_kind hold ≡ K.Mutex) ⊎ (held_kind hold ≢ K.Mutex) → holds_mutex (locked_new locked t object hold) m u ≡ holds_mutex locked m u
    mutex-stays m h (inl k) = mutex-other locked t object _ locked-long is-thread (of-mutex k) u m is-other h (λ e i. other e)
    mutex-stays m h (inr n) = ap (λ (l : List Bool). holds_mutex l m u) (locked-same locked t object hold n)

    write-stays :
        (l : ℕ) → l < RWLOCKS → (held_kind hold ≡ K.RwLock) ⊎ (held_kind hold ≢ K.RwLock) → holds_write (written_new ws t object hold) l u ≡ holds_write ws l u
    write-stays l h (inl k) = write-other ws t object _ ws-long is-thread (of-lock k) u l is-other h (λ e i. other e)
    write-stays l h (inr n) = ap (λ (b : List Bool). holds_write b l u) (written_same ws t object hold n)

    reads-stay :
        (l : ℕ) → l < RWLOCKS → (held_kind hold ≡ K.RwLock) ⊎ (held_kind hold ≢ K.RwLock) → reads_of (reads_new rs t object hold) l u ≡ reads_of rs l u
    reads-stay l h (inl k) = reads_other rs t object _ rs-long is-thread (of-lock k) u l is-other h (λ e i. other e)
    reads-stay l h (inr n) = ap (λ (b : List ℕ). reads_of b l u) (reads_same rs t object hold n)

    -- so a need of it is met as before
    pub need-stays :
        (need : Needs) (number : ℕ) → (of_mutex need ≡ true → number < MUTEXES) → (of_lock need ≡ true → number < RWLOCKS) →
        has_hold locked ws rs u (record { hold = need; object = number }) ≡ true →
        has_hold (locked_new locked t object hold) (written_new ws t object hold) (reads_new rs t object hold) u (record { hold = need; object = number }) ≡ true
    unfolding has_hold is_held of_mutex of_lock
    need-stays N.Nothing number a b e = refl
    need-stays N.Mutex number a b e = mutex-stays number (a refl) (is-mutex-kind (held_kind hold)) ∙ e
    need-stays N.Read number a b e = ap (λ (n : ℕ). ltb 0 n) (reads-stay number (b refl) (is-lock-kind (held_kind hold))) ∙ e
    need-stays N.Write number a b e = write-stays number (b refl) (is-lock-kind (held_kind hold)) ∙ e

-- a thread's own need after its step: none, or the one that it had, its holds left alone
need-none : (locked ws : List Bool) (rs : List ℕ) (t : ℕ) (need : Need) → need.hold ≡ N.Nothing → has_hold locked ws rs t need ≡ true
unfolding has_hold is_held
need-none locked ws rs t need e = rw e

need-same :
    (locked ws : List Bool) (rs : List ℕ) (t object : ℕ) (hold : Hold) (need next : Need) → next ≡ need → hold ≡ H.Same →
    has_hold locked ws rs t need ≡ true → has_hold (locked_new locked t object hold) (written_new ws t object hold) (reads_new rs t object hold) t next ≡ true
unfolding held_kind
need-same locked ws rs t object hold need next e s h =
    let a : locked_new locked t object hold ≡ locked = locked-same locked t object hold (λ q. nothing-mutex (sym (ap held_kind s) ∙ q)) in
    let b : written_new ws t object hold ≡ ws = written_same ws t object hold (λ q. nothing-lock (sym (ap held_kind s) ∙ q)) in
    let c : reads_new rs t object hold ≡ rs = reads_same rs t object hold (λ q. nothing-lock (sym (ap held_kind s) ∙ q)) in
    rw (a, b, c, e) h
  where
    nothing-mutex : K.Nothing ≢ K.Mutex
    nothing-mutex e = let z : ◌≡◌ {A = ℕ} 0 1 = cc in absurd (omega arith)

    nothing-lock : K.Nothing ≢ K.RwLock
    nothing-lock e = let z : ◌≡◌ {A = ℕ} 0 1 = cc in absurd (omega arith)

-- a step's own part
module _
    (v : World) (t : ℕ) (at : At) (f a : Bool) (is-thread : t < THREADS) (in_row : operand_of t at < WORDS)
    (held : has_hold v.locked v.written v.reads t (need_of at) ≡ true)
  where
    abbrev word : ℕ
    word = word_at v (operand_of t at)

    abbrev own : Plan
    own = decide_of at f (word_at v (operand_of t at)) a

    held-there : (kind : Kind) → K.Nothing ≢ kind → held_kind own.hold ≡ kind → own.object < size_of kind
    unfolding held_kind
    held-there kind n e = by (hold-about at f word a)
      where
        by : (own.hold ≡ H.Same) ⊎ ((kind_of at ≡ held_kind own.hold) × ((u : ℕ) → own.object ≡ object_of u at)) → own.object < size_of kind
        by (inl s) = absurd (n (sym (ap held_kind s) ∙ e))
        by (inr k) =
            subst (λ (o : ℕ). o < size_of kind) (sym (k.1 t)) (subst (λ (x : Kind). object_of t at < size_of x) (k.0 ∙ e) (operand-object t at in_row))

    -- clause 7
    pub own-needs :
        length v.threads ≡ THREADS → length v.locked ≡ MUTEXHOLDS → length v.written ≡ LOCKHOLDS → length v.reads ≡ LOCKHOLDS →
        names_exist v ≡ true → needs_held v ≡ true →
        needs_held (own_plan v t (operand_of t at) (decide_of at f (word_at v (operand_of t at)) a)) ≡ true
    unfolding own_plan
    own-needs long locked-long ws-long rs-long names g =
        needs-held-of (own_plan v t (operand_of t at) (decide_of at f (word_at v (operand_of t at)) a))
        (λ u h. by u h (eqb u t) refl)
      where
        mine :
            ((need_of own.next.at).hold ≡ N.Nothing) ⊎ ((need_of own.next.at ≡ need_of at) × (own.hold ≡ H.Same)) →
            has_hold (locked_new v.locked t own.object own.hold) (written_new v.written t own.object own.hold)
            (reads_new v.reads t own.object own.hold) t (need_of own.next.at) ≡ true
        mine (inl e) = need-none _ _ _ t (need_of own.next.at) e
        mine (inr e) =
            need-same v.locked v.written v.reads t own.object own.hold (need_of at) (need_of own.next.at) e.0 e.1
            held

        by :
            (u : ℕ) → u < THREADS → (c : Bool) → eqb u t ≡ c →
            has_hold (locked_new v.locked t own.object own.hold) (written_new v.written t own.object own.hold)
            (reads_new v.reads t own.object own.hold) u (need_of (get_or (set v.threads t own.next) u idle).at) ≡ true
        by u h true q =
            let e : u ≡ t = eqb-true u t q in
            rw (e, get_or-set_same v.threads t own.next idle (omega (arith, long, is-thread))) (mine (needs-kept at f word a))
        by u h false q =
            let n : u ≡ t → ⊥ = eqb-false u t q in
            rw (get_or-set_other v.threads t u own.next idle n)
            (need-stays v.locked v.written v.reads t own.object own.hold locked-long ws-long rs-long is-thread
            (held-there K.Mutex (λ e. let z : ◌≡◌ {A = ℕ} 0 1 = cc in absurd (omega arith)))
            (held-there K.RwLock (λ e. let z : ◌≡◌ {A = ℕ} 0 1 = cc in absurd (omega arith))) u h n (need_of (thread_at v u).at).hold
            (need_of (thread_at v u).at).object (mutex-needed (thread_at v u).at (name-exists v u names h))
            (lock-needed (thread_at v u).at (name-exists v u names h)) (need-held v u g h))
