-- Every act keeps the invariant of an RwLock: a step elsewhere, a begin, a spurious wake, the end of a closure and a set. Assumes nothing.
use mathlib.Core.Path.{◌≡◌, refl, sym, ap, ◌∙◌, subst}
use mathlib.Core.Logic.{◌⊎◌, inl, inr, ◌≢◌}
use mathlib.Core.Bool.{Bool, true, false}
use Prim.Native.Nat.{ℕ, ◌+◌, ◌*◌, ◌-◌, ◌%◌, ◌^◌, ◌≤◌, ◌<◌}
use native.Mathlib.Omega.{arith}
use lib.Dec.{eqb}
use lib.ListN.{get_or, set}
use lib.Seq.{get_or-set_same, get_or-set_other}
use borrow.Author.Tests.{eqb-true, eqb-false, le-ltb}
use Rattle.words.specs.RwLock.{MAX_READERS, count, readers_waiting, writers_waiting}
use Rattle.words.proofs.Readings.{Reads as Has, re_read}
use Rattle.words.specs.declared.Kind.TheVariants as K
use Rattle.rwlock.specs.declared.ReadAt.TheVariants as R
use Rattle.rwlock.specs.declared.TryAt.TheVariants as T
use Rattle.rwlock.specs.declared.WriteAt.TheVariants as Wr
use Rattle.rwlock.specs.declared.DowngradeAt.TheVariants as D
use Rattle.rwlock.specs.declared.RwLockAt.{RwLockAt}
use Rattle.rwlock.specs.declared.RwLockAt.TheVariants as Rw
use Rattle.rwlock.specs.RwLock as RwS
use Rattle.once.specs.declared.Ending.{Ending}
use Rattle.queue.specs.declared.Row.{Row}
use Rattle.queue.specs.Row.{THREADS}
use Rattle.calls.specs.declared.At.{At}
use Rattle.calls.specs.declared.At.TheVariants as A
use Rattle.calls.specs.declared.Event.{Event}
use Rattle.calls.specs.declared.Thread.{Thread}
use Rattle.calls.specs.Objects.{RWLOCKS, WORDS, word_of}
use Rattle.calls.specs.Plans.{awake, idle}
use Rattle.calls.specs.Positions.{in_closure, entry_of, is_idle}
use Rattle.world.specs.declared.World.{World}
use Rattle.world.specs.World.{thread_at}
use Rattle.world.specs.Holds.{reads_of}
use Rattle.step.specs.declared.Acted.{Acted}
use Rattle.step.specs.Step.{roused}
use Rattle.step.specs.Acts.{recorded, begin_of, wake_of, closed_at, close_of}
use Rattle.sound.specs.Sound.{word_for, set_alone, sound_world}
use Rattle.sound.proofs.Readings.{sound-clauses, set-read}
use Rattle.kept.specs.Shape.{Shaped}
use Rattle.kept.proofs.Tests.{decided, no_way}
use Rattle.kept.proofs.Calls.{goes}
use Rattle.keeps_records.proofs.Rows.{set_cases}
use Rattle.keeps_records.proofs.Sleeping.{each-waits}
use Rattle.keeps_counts.proofs.Sets.{alone-read, LockUnheld, lock-unheld}
use Rattle.local.specs.Part.{word_next, plan_at, Stepped}
use Rattle.local.proofs.Happened.{rests}
use Rattle.claims_rwlock.proofs.Codes.{outside}
use Rattle.claims_rwlock.proofs.Moves.{up, stands, reader_sleeps, writer_sleeps, poised, in_time, in-time, early-up, Enters, enters-outside, enters-write, enters-read-unlock, enters-write-unlock, enters-downgrade, enters}
use Rattle.claims_rwlock.proofs.Rouse.{Woke, unchanged}
use Rattle.claims_rwlock.proofs.Rouse as Ro
use Rattle.claims_rwlock.proofs.Did.{code_of}
use Rattle.claims_rwlock.proofs.View.{here, place_at, place_of, state_at, notify_at, view_of, away, near_up, roused-of, goes-away, of_lock, far-word}
use Rattle.claims_rwlock.proofs.Carried.{LockCarries, Carries, carries-away, carries-near, carries-after, Downs, lock_downer, downs-here, roused-level, same-position}
use Rattle.claims_rwlock.proofs.Near.{Holds, other-woke, other-carried, other-downer}

-- nothing of the lock moves but sleepers that are woken
pub frame-keeps :
    {Few : Type 0} (l : ℕ) (w v : World) (n : ℕ) → state_at v l ≡ state_at w l → notify_at v l ≡ notify_at w l →
    ((u s : ℕ) → Woke (place_of l (thread_at w u) s) (place_of l (thread_at v u) s)) →
    ((u start s : ℕ) → Carries l start s (thread_at w u).at → Carries l start s (thread_at v u).at) →
    (((u : ℕ) → Downs l (thread_at w u).at → 0 < reads_of w.reads l u) → (u : ℕ) → Downs l (thread_at v u).at → 0 < reads_of v.reads l u) →
    Holds Few l w n → Holds Few l v n
frame-keeps l w v n a b each carry down B = record {
  start = B.start;
  since = B.since;
  inv =
      Ro.roused (view_of l w n B.since) (view_of l v n B.since)
      (record { count-is = ap count a; readers-are = ap readers_waiting a; writers-are = ap writers_waiting a; adds-is = refl })
      (λ u. each u (B.since u)) B.inv;
  notify = b ∙ B.notify;
  carried = λ u. carry u B.start (B.since u) (B.carried u);
  downers = down B.downers;
}

-- a step of a thread that is not in a call on the lock
pub far-keeps :
    {Few : Type 0} (l : ℕ) → l < RWLOCKS → (w : World) → sound_world w ≡ true → Shaped w → (n t m : ℕ) (f : Bool) (r : Acted) →
    here l (thread_at w t).at ≡ false → word_next w t < WORDS →
    Stepped w t (word_next w t) m (plan_at w t f) r → Holds Few l w n → Holds Few l r.world n
unfolding plan_at of_lock
far-keeps l is-lock w snd shp n t m f r off within G B =
    frame-keeps l w r.world n
    (G.frame.other-words (word_of K.RwLock l) (far-word l t (thread_at w t).at K.RwLock refl is-lock within off))
    (G.frame.other-words (word_of K.WriterNotify l) (far-word l t (thread_at w t).at K.WriterNotify refl is-lock within off))
    woke carry down B
  where
    off' : here l (thread_at r.world t).at ≡ false
    off' = subst (λ (th : Thread). here l th.at ≡ false) (sym G.own) (goes-away l (goes (thread_at w t).at f _ _) off)

    woke : (u s : ℕ) → Woke (place_of l (thread_at w u) s) (place_of l (thread_at r.world u) s)
    woke u s = go (eqb u t) refl
      where
        go : (b : Bool) → eqb u t ≡ b → Woke (place_of l (thread_at w u) s) (place_of l (thread_at r.world u) s)
        go true e =
            rw (eqb-true u t e)
            (unchanged (away l (thread_at r.world t).at (thread_at r.world t).asleep s off'
            ∙ sym (away l (thread_at w t).at (thread_at w t).asleep s off)))
        go false e = other-woke l w r.world t (word_next w t) m snd shp G.frame s u (eqb-false u t e)

    carry : (u start s : ℕ) → Carries l start s (thread_at w u).at → Carries l start s (thread_at r.world u).at
    carry u start s h = go (eqb u t) refl
      where
        go : (b : Bool) → eqb u t ≡ b → Carries l start s (thread_at r.world u).at
        go true e =
            subst (λ (i : ℕ). Carries l start s (thread_at r.world i).at) (sym (eqb-true u t e))
            (carries-away l start s (thread_at r.world t).at off')
        go false e = other-carried l w r.world t (word_next w t) m snd shp G.frame start s u (eqb-false u t e) h

    down :
        ((u : ℕ) → Downs l (thread_at w u).at → 0 < reads_of w.reads l u) → (u : ℕ) → Downs l (thread_at r.world u).at →
        0 < reads_of r.world.reads l u
    down h u d = go (eqb u t) refl
      where
        go : (b : Bool) → eqb u t ≡ b → 0 < reads_of r.world.reads l u
        go true e =
            no_way (sym off' ∙ downs-here l (thread_at r.world t).at (subst (λ (i : ℕ). Downs l (thread_at r.world i).at) (eqb-true u t e) d))
        go false e = other-downer l w r.world t (word_next w t) m snd shp G.frame is-lock h u (eqb-false u t e) d

-- one record is another: a spurious wake, the end of a closure
pub recorded-keeps :
    {Few : Type 0} (l : ℕ) (w : World) (n t : ℕ) (th : Thread) (row : Row) (event : Event) →
    ((s : ℕ) → Woke (place_of l (thread_at w t) s) (place_of l th s)) →
    ((start s : ℕ) → Carries l start s (thread_at w t).at → Carries l start s th.at) → (Downs l th.at → ⊥) → Holds Few l w n →
    Holds Few l (recorded w t th row event).world n
unfolding recorded
recorded-keeps l w n t th row event woke carry level B =
    frame-keeps l w (recorded w t th row event).world n refl refl each carries downers B
  where
    each : (u s : ℕ) → Woke (place_of l (thread_at w u) s) (place_of l (get_or (set w.threads t th) u idle) s)
    each u s = go (set_cases w.threads t th idle u)
      where
        go :
            ((u ≡ t) × (get_or (set w.threads t th) u idle ≡ th)) ⊎ (get_or (set w.threads t th) u idle ≡ get_or w.threads u idle) →
            Woke (place_of l (thread_at w u) s) (place_of l (get_or (set w.threads t th) u idle) s)
        go (inl (e, q)) =
            subst (λ (x : Thread). Woke (place_of l (thread_at w u) s) (place_of l x s)) (sym q)
            (subst (λ (i : ℕ). Woke (place_of l (thread_at w i) s) (place_of l th s)) (sym e) (woke s))
        go (inr q) = unchanged (ap (λ (x : Thread). place_of l x s) q)

    carries : (u start s : ℕ) → Carries l start s (thread_at w u).at → Carries l start s (get_or (set w.threads t th) u idle).at
    carries u start s h = go (set_cases w.threads t th idle u)
      where
        go :
            ((u ≡ t) × (get_or (set w.threads t th) u idle ≡ th)) ⊎ (get_or (set w.threads t th) u idle ≡ get_or w.threads u idle) →
            Carries l start s (get_or (set w.threads t th) u idle).at
        go (inl (e, q)) =
            subst (λ (x : Thread). Carries l start s x.at) (sym q) (carry start s (subst (λ (i : ℕ). Carries l start s (thread_at w i).at) e h))
        go (inr q) = subst (λ (x : Thread). Carries l start s x.at) (sym q) h

    downers :
        ((u : ℕ) → Downs l (thread_at w u).at → 0 < reads_of w.reads l u) → (u : ℕ) → Downs l (get_or (set w.threads t th) u idle).at →
        0 < reads_of w.reads l u
    downers h u d = go (set_cases w.threads t th idle u)
      where
        go :
            ((u ≡ t) × (get_or (set w.threads t th) u idle ≡ th)) ⊎ (get_or (set w.threads t th) u idle ≡ get_or w.threads u idle) →
            0 < reads_of w.reads l u
        go (inl (e, q)) = absurd (level (subst (λ (x : Thread). Downs l x.at) q d))
        go (inr q) = h u (subst (λ (x : Thread). Downs l x.at) q d)

pub wake-keeps :
    {Few : Type 0} (l : ℕ) (w : World) (n t : ℕ) → sound_world w ≡ true → Shaped w → (thread_at w t).asleep ≡ true → Holds Few l w n →
    Holds Few l (wake_of w t).world n
unfolding wake_of
wake-keeps l w n t snd shp e =
    recorded-keeps l w n t (roused (thread_at w t)) _ _ (λ s. roused-of l s (thread_at w t) e (each-waits w snd shp t e))
    (λ start s h. carries-after l start s (thread_at w t).at h) (roused-level l (thread_at w t).at (each-waits w snd shp t e))

-- who is in a closure is in no call on the lock, nor after it
closure-off : (l : ℕ) (ending : Ending) (at : At) → in_closure at ≡ true → (here l at ≡ false) × (here l (closed_at ending at) ≡ false)
unfolding in_closure here
closure-off l ending A.Idle e = (refl, refl)
closure-off l ending (A.Mutex m p) e = (refl, refl)
closure-off l ending (A.RwLock j p) e = no_way e
closure-off l ending (A.Condvar c p) e = (refl, refl)
closure-off l ending (A.Once o p) e = (refl, refl)
closure-off l ending (A.Parker p) e = (refl, refl)

pub close-keeps :
    {Few : Type 0} (l : ℕ) (w : World) (n t : ℕ) (ending : Ending) → in_closure (thread_at w t).at ≡ true → Holds Few l w n →
    Holds Few l (close_of w t ending).world n
unfolding close_of
close-keeps l w n t ending e =
    let q = closure-off l ending (thread_at w t).at e in
    recorded-keeps l w n t (awake (closed_at ending (thread_at w t).at)) _ _
    (λ s. unchanged (away l (closed_at ending (thread_at w t).at) false s q.1 ∙ sym (away l (thread_at w t).at (thread_at w t).asleep s q.0)))
    (λ start s h. carries-away l start s (closed_at ending (thread_at w t).at) q.1)
    (λ d. no_way (sym q.1 ∙ downs-here l (closed_at ending (thread_at w t).at) d))

-- ---- begin

-- where a call starts, as the lock sees it
record Entry (l : ℕ) (at : At) : Type 0 where
  code : ℕ
  starts : Enters code
  seen : (s : ℕ) → place_at l at false s ≡ up code s
  carries : (start s : ℕ) → Carries l start s at
  level : Downs l at → ⊥

entry-off : (l : ℕ) (at : At) → here l at ≡ false → Entry l at
entry-off l at e = record {
  code = outside;
  starts = enters-outside;
  seen = λ s. away l at false s e;
  carries = λ start s. carries-away l start s at e;
  level = λ d. no_way (sym e ∙ downs-here l at d);
}

entry-on : (l j : ℕ) (p : RwLockAt) → Enters (code_of p) → ((start s : ℕ) → LockCarries start s p) → lock_downer p ≡ false → Entry l (A.RwLock j p)
unfolding here
entry-on l j p n c d = go (eqb j l) refl
  where
    go : (b : Bool) → eqb j l ≡ b → Entry l (A.RwLock j p)
    go true e = subst (λ (x : ℕ). Entry l (A.RwLock x p)) (sym (eqb-true j l e)) (record {
      code = code_of p;
      starts = n;
      seen = near_up l p;
      carries = λ start s. carries-near l start s p (c start s);
      level = λ q. no_way (sym d ∙ (ap lock_downer (same-position l p q.0 q.1.0) ∙ q.1.1));
    })
    go false e = entry-off l (A.RwLock j p) e

entry-is : (l call object mutex : ℕ) → Entry l (entry_of call object mutex)
unfolding entry_of RwS.entry_of here
entry-is l call object mutex =
    decided E (eqb call 0) _ _ (λ _. entry-off l _ refl)
    (λ _. decided E (eqb call 1) _ _ (λ _. entry-off l _ refl)
    (λ _. decided E (eqb call 2) _ _ (λ _. entry-off l _ refl)
    (λ _. decided E (eqb call 3) _ _ (λ _. entry-on l object (Rw.Read R.Load) enters-outside (λ _ _. tt) refl)
    (λ _. decided E (eqb call 4) _ _ (λ _. entry-on l object (Rw.TryRead T.Load) enters-outside (λ _ _. tt) refl)
    (λ _. decided E (eqb call 5) _ _ (λ _. entry-on l object Rw.ReadUnlock enters-read-unlock (λ _ _. tt) refl)
    (λ _. decided E (eqb call 6) _ _ (λ _. entry-on l object (Rw.Write Wr.Exchange) enters-write (λ _ _. tt) refl)
    (λ _. decided E (eqb call 7) _ _ (λ _. entry-on l object (Rw.TryWrite T.Load) enters-outside (λ _ _. tt) refl)
    (λ _. decided E (eqb call 8) _ _ (λ _. entry-on l object Rw.WriteUnlock enters-write-unlock (λ _ _. tt) refl)
    (λ _. decided E (eqb call 9) _ _ (λ _. entry-on l object (Rw.Downgrade D.Add) enters-downgrade (λ _ _. tt) refl)
    (λ _. decided E (eqb call 10) _ _ (λ _. entry-off l _ refl)
    (λ _. decided E (eqb call 11) _ _ (λ _. entry-off l _ refl)
    (λ _. decided E (eqb call 12) _ _ (λ _. entry-off l _ refl)
    (λ _. decided E (eqb call 13) _ _ (λ _. entry-off l _ refl)
    (λ _. decided E (eqb call 14) _ _ (λ _. entry-off l _ refl)
    (λ _. decided E (eqb call 15) _ _ (λ _. entry-off l _ refl)
    (λ _. decided E (eqb call 16) _ _ (λ _. entry-off l _ refl)
    (λ _. decided E (eqb call 17) _ _ (λ _. entry-off l _ refl)
    (λ _. decided E (eqb call 18) _ _ (λ _. entry-off l _ refl)
    (λ _. decided E (eqb call 19) _ _ (λ _. entry-off l _ refl) (λ _. entry-off l _ refl))))))))))))))))))))
  where
    E : At → Type 0
    E = Entry l

idle-off : (l : ℕ) (at : At) → is_idle at ≡ true → here l at ≡ false
unfolding is_idle here
idle-off l A.Idle e = refl
idle-off l (A.Mutex m p) e = refl
idle-off l (A.RwLock j p) e = no_way e
idle-off l (A.Condvar c p) e = refl
idle-off l (A.Once o p) e = refl
idle-off l (A.Parker p) e = refl

pub begin-keeps :
    {Few : Type 0} (l : ℕ) (w : World) (n t call object mutex : ℕ) → Shaped w → t < THREADS → is_idle (thread_at w t).at ≡ true → Holds Few l w n →
    Holds Few l (begin_of w t (entry_of call object mutex)).world n
unfolding begin_of recorded place_at
begin-keeps l w n t call object mutex shp is-thread e B = record {
  start = B.start;
  since = B.since;
  inv =
      enters E.starts
      (record {
        was = away l (thread_at w t).at (thread_at w t).asleep (B.since t) (idle-off l (thread_at w t).at e);
        update =
            record {
              same = ap (λ (th : Thread). place_of l th (B.since t)) mine ∙ E.seen (B.since t);
              other = λ u d. ap (λ (th : Thread). place_of l th (B.since u)) (others u d);
            };
        early = early-up n (B.since t) E.code (in-time n ((view_of l w n B.since).of t) (B.inv.times t));
      })
      (record { count-is = refl; readers-are = refl; writers-are = refl; adds-is = refl }) B.inv;
  notify = B.notify;
  carried = λ u. go-carried u (eqb u t) refl;
  downers = λ u. go-downers u (eqb u t) refl;
}
  where
    at : At
    at = entry_of call object mutex

    E : Entry l (entry_of call object mutex)
    E = entry-is l call object mutex

    mine : get_or (set w.threads t (awake (entry_of call object mutex))) t idle ≡ awake (entry_of call object mutex)
    mine = get_or-set_same w.threads t (awake (entry_of call object mutex)) idle (rw shp.threads is-thread)

    others : (u : ℕ) → u ≢ t → get_or (set w.threads t (awake (entry_of call object mutex))) u idle ≡ thread_at w u
    others u d = get_or-set_other w.threads t u (awake (entry_of call object mutex)) idle d

    go-carried :
        (u : ℕ) (b : Bool) → eqb u t ≡ b →
        Carries l B.start (B.since u) (get_or (set w.threads t (awake (entry_of call object mutex))) u idle).at
    go-carried u true q = rw (eqb-true u t q, mine) (E.carries B.start (B.since t))
    go-carried u false q = rw (others u (eqb-false u t q)) (B.carried u)

    go-downers :
        (u : ℕ) (b : Bool) → eqb u t ≡ b → Downs l (get_or (set w.threads t (awake (entry_of call object mutex))) u idle).at →
        0 < reads_of w.reads l u
    go-downers u true q d =
        absurd (E.level
        (subst (λ (th : Thread). Downs l th.at) mine
        (subst (λ (i : ℕ). Downs l (get_or (set w.threads t (awake (entry_of call object mutex))) i idle).at) (eqb-true u t q) d)))
    go-downers u false q d = B.downers u (subst (λ (th : Thread). Downs l th.at) (others u (eqb-false u t q)) d)

-- ---- a world that has not started: nobody is inside a call

small-reads : (state : ℕ) → state ≤ MAX_READERS → Has state state 0 0
small-reads state h = re_read state state 0 0 (omega arith) (omega arith) (omega arith) (omega arith)

rests-state : (w : World) (l : ℕ) → l < RWLOCKS → set_alone w ≡ true → state_at w l ≤ MAX_READERS
unfolding LockUnheld word_for
rests-state w l h e = let u = lock-unheld w l (alone-read w e) h in omega (arith, u.is_state, u.bounded)

pub rests-holds : {Few : Type 0} (l : ℕ) → l < RWLOCKS → (w : World) → sound_world w ≡ true → Shaped w → w.started ≡ false → (n : ℕ) → Holds Few l w n
unfolding stands poised reader_sleeps writer_sleeps in_time
rests-holds l is-lock w snd shp e n = record {
  start = notify_at w l + n * (2 ^ 32 - 1);
  since = λ _. 0;
  inv = record {
    r0 = λ u h. no_way (rw (at u) at h);
    r1 = λ u h. no_way (rw (at u) at h);
    r2 = λ _ _ q. absurd (omega (arith, J.readers-are));
    r3w = λ _ _ q. absurd (omega (arith, J.writers-are));
    r3b = λ _ _ q. absurd (omega (arith, J.writers-are));
    r3r = λ _ _ q _. absurd (omega (arith, J.readers-are));
    r4 = λ _ u h. no_way (rw (at u) at h);
    r5 = λ _ u h. no_way (rw (at u) at h);
    times = λ u. rw (at u, le-ltb n 0 (omega arith)) refl;
  };
  notify = turns (notify_at w l) n (shp.wide (word_of K.WriterNotify l));
  carried = λ u. carries-away l (notify_at w l + n * (2 ^ 32 - 1)) 0 (thread_at w u).at (off u);
  downers = λ u d. no_way (sym (off u) ∙ downs-here l (thread_at w u).at d);
}
  where
    off : (u : ℕ) → here l (thread_at w u).at ≡ false
    off u = idle-off l (thread_at w u).at (rests w snd shp e u).1

    at : (u : ℕ) → place_of l (thread_at w u) 0 ≡ up outside 0
    at u = away l (thread_at w u).at (thread_at w u).asleep 0 (off u)

    J : Has (state_at w l) (state_at w l) 0 0
    J = small-reads (state_at w l) (rests-state w l is-lock (set-read w e (sound-clauses w snd).begun))

    turns : (a n : ℕ) → a < 2 ^ 32 → a ≡ (a + n * (2 ^ 32 - 1) + n) % 2 ^ 32
    turns a n h = omega arith
