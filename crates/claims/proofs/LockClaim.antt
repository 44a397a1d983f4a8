-- No sleeper on an RwLock is forgotten: where a thread sleeps on one that nobody holds by the history, another is awake inside write or in an
-- unlock on it, with fewer than 2 ^ 32 writer notifications of that lock. Assumes nothing.
use mathlib.Core.Path.{◌≡◌, refl, sym, ap, ◌∙◌, subst}
use mathlib.Core.Logic.{◌⊎◌, inl, inr}
use mathlib.Core.Bool.{Bool, true, false, cond}
use mathlib.Core.List.{List, [], ◌∷◌}
use Prim.Native.Nat.{ℕ, ◌+◌, ◌^◌, ◌<◌}
use native.Mathlib.Omega.{arith}
use lib.Dec.{eqb, ltb}
use lib.ListN.{length}
use borrow.Author.Tests.{eq-eqb}
use Rattle.words.specs.RwLock.{readers_waiting, writers_waiting}
use Rattle.words.specs.declared.Kind.TheVariants as K
use Rattle.rwlock.specs.declared.ReadAt.TheVariants as R
use Rattle.rwlock.specs.declared.WriteAt.TheVariants as Wr
use Rattle.rwlock.specs.declared.WakeAt.TheVariants as Wk
use Rattle.rwlock.specs.declared.DowngradeAt.TheVariants as D
use Rattle.rwlock.specs.declared.RwLockAt.{RwLockAt}
use Rattle.rwlock.specs.declared.RwLockAt.TheVariants as X
use Rattle.rwlock.specs.Positions as RwP
use Rattle.queue.specs.Row.{THREADS}
use Rattle.calls.specs.declared.At.{At}
use Rattle.calls.specs.declared.At.TheVariants as A
use Rattle.calls.specs.Objects.{RWLOCKS}
use Rattle.world.specs.declared.World.{World}
use Rattle.world.specs.World.{fresh_world, thread_at, word_at}
use Rattle.step.specs.declared.Acted.{Acted}
use Rattle.step.specs.Acts.{recorded, begin_of, wake_of, close_of}
use Rattle.sound.specs.Sound.{sound_world}
use Rattle.sound.proofs.Ranges.{sum-at}
use Rattle.sound.proofs.Examples.{fresh-sound}
use Rattle.acts.specs.declared.Fields.{Fields}
use Rattle.acts.specs.Acts.{set_of, act_of, acts_of, Sized, no-act, one-act}
use Rattle.kept.specs.Shape.{Shaped}
use Rattle.kept.proofs.Shape.{fresh-shaped}
use Rattle.keeps_records.proofs.Sleeping.{each-waits}
use Rattle.keeps.proofs.Keeps.{act-sound, act-shaped, acts-sound}
use Rattle.local.specs.Part.{word_next, queue_at, plan_at, woken_at}
use Rattle.local.proofs.Happened.{Happened, was-refused, has-set, has-begun, has-stepped, has-woken, has-closed, happened}
use Rattle.claims_rwlock.proofs.Did.{code_of, kinds-differ}
use Rattle.claims_rwlock.proofs.Own.{adds_of}
use Rattle.claims_rwlock.proofs.View.{here, code_at, here-is, of_lock, state_at}
use Rattle.claims_rwlock.proofs.Where.{Waits, w-read, w-write, on-lock}
use Rattle.claims_rwlock.proofs.Near.{Holds, here-thread}
use Rattle.claims_rwlock.proofs.Acts.{rests-holds}
use Rattle.claims_rwlock.proofs.Kept.{code_off, code-on, adds_by, happened-holds}
use Rattle.claims_rwlock.proofs.Claim as Cl
use Rattle.claims_rwlock.proofs.Flags.{flags-at}
use Rattle.claims.specs.Claims.{reached, SleepsOn, Another, SleepsOnLock, in-read, in-write, LockSleepers, TendsLock, writing, waking, LockWakes, wake_notifies, lock_notifies, notifies_next, notifies, notifications_from, notifications, all_notifications}
use Rattle.claims.proofs.Marks.{plan-notifies}
use Rattle.claims.proofs.Counting.{lock-counted}

-- ---- Notifications, by the position's code

notify-code : (p : RwLockAt) → adds_of (code_of p) ≡ cond (lock_notifies p) 1 0
unfolding lock_notifies wake_notifies
notify-code (X.Read R.Load) = refl
notify-code (X.Read (R.Exchange seen)) = refl
notify-code (X.Read (R.Spin slept left)) = refl
notify-code (X.Read (R.ExchangeContended slept seen)) = refl
notify-code (X.Read (R.SetWaiting slept seen)) = refl
notify-code (X.Read (R.Wait seen)) = refl
notify-code (X.TryRead p) = refl
notify-code X.ReadUnlock = refl
notify-code (X.Write Wr.Exchange) = refl
notify-code (X.Write (Wr.Spin true left)) = refl
notify-code (X.Write (Wr.Spin false left)) = refl
notify-code (X.Write (Wr.ExchangeContended true seen)) = refl
notify-code (X.Write (Wr.ExchangeContended false seen)) = refl
notify-code (X.Write (Wr.SetWaiting true seen)) = refl
notify-code (X.Write (Wr.SetWaiting false seen)) = refl
notify-code (X.Write Wr.LoadSequence) = refl
notify-code (X.Write (Wr.LoadState sequence)) = refl
notify-code (X.Write (Wr.Wait sequence)) = refl
notify-code (X.TryWrite p) = refl
notify-code X.WriteUnlock = refl
notify-code (X.Wake b Wk.ExchangeWriters) = refl
notify-code (X.Wake b Wk.ExchangeBoth) = refl
notify-code (X.Wake b (Wk.Notify true)) = refl
notify-code (X.Wake b (Wk.Notify false)) = refl
notify-code (X.Wake b (Wk.WakeWriter true)) = refl
notify-code (X.Wake b (Wk.WakeWriter false)) = refl
notify-code (X.Wake b Wk.ExchangeReaders) = refl
notify-code (X.Wake b Wk.WakeReaders) = refl
notify-code (X.Downgrade D.Add) = refl
notify-code (X.Downgrade D.Subtract) = refl
notify-code (X.Downgrade D.WakeReaders) = refl

next-off : (l : ℕ) (at : At) → here l at ≡ false → notifies_next l at ≡ false
unfolding here notifies_next
next-off l A.Idle e = refl
next-off l (A.Mutex m p) e = refl
next-off l (A.RwLock j p) e = rw e refl
next-off l (A.Condvar c p) e = refl
next-off l (A.Once o p) e = refl
next-off l (A.Parker p) e = refl

next-on : (l : ℕ) (p : RwLockAt) → notifies_next l (A.RwLock l p) ≡ lock_notifies p
unfolding notifies_next
next-on l p = rw (eq-eqb l l refl) refl

-- a step adds as many as its position's code says
next-adds : (l : ℕ) (at : At) → cond (notifies_next l at) 1 0 ≡ adds_of (code_at l at)
next-adds l at = by (here l at) refl
  where
    by : (c : Bool) → here l at ≡ c → cond (notifies_next l at) 1 0 ≡ adds_of (code_at l at)
    by true e =
        let (p, q) = here-is l at e in
        ap (λ (x : At). cond (notifies_next l x) 1 0) q
        ∙ (ap (λ (b : Bool). cond b 1 0) (next-on l p) ∙ (sym (notify-code p) ∙ (ap adds_of (sym (code-on l p)) ∙ ap (λ (x : At). adds_of (code_at l x)) (sym q))))
    by false e = ap (λ (b : Bool). cond b 1 0) (next-off l at e) ∙ ap adds_of (sym (code_off l at e))

notified : (l : ℕ) (w : World) (a : Fields) (r : Acted) (H : Happened w a r) → notifies l w a r.event ≡ adds_by l w a r H
unfolding notifies adds_by set_of begin_of wake_of close_of recorded plan_at
notified l w a r (was-refused number) = refl
notified l w a r (has-set n c) = refl
notified l w a r (has-begun i q) = refl
notified l w a r (has-stepped i awake within S) =
    ap (notifies l w a) S.event
    ∙ (plan-notifies l w a (eqb a.choice 1) (word_at w (word_next w a.thread)) (ltb 0 (length (queue_at w (word_next w a.thread))))
    (woken_at w a.thread (eqb a.choice 1))
    ∙ next-adds l (thread_at w a.thread).at)
notified l w a r (has-woken i asleep) = refl
notified l w a r (has-closed i awake inside) = refl

-- ---- R0 to R5 after any list of acts

acts-hold :
    {Few : Type 0} (l : ℕ) → l < RWLOCKS → (w : World) (acts : List Fields) → sound_world w ≡ true → Shaped w → Sized acts → (n : ℕ) → Holds Few l w n →
    (Few → n + notifications_from w acts l < 2 ^ 32) → Holds Few l (acts_of w acts) (n + notifications_from w acts l)
unfolding acts_of notifications_from
acts-hold {Few} l is-lock w [] e s no-act n B h = let z : n ≡ n + 0 = omega arith in subst (Holds Few l w) z B
acts-hold {Few} l is-lock w (a ∷ acts) e s (one-act k r) n B h =
    let f : sound_world (act_of w a).world ≡ true = act-sound w a e s k in
    let v : Shaped (act_of w a).world = act-shaped w a s k in
    let H : Happened w a (act_of w a) = happened w a e s in
    let c : adds_by l w a (act_of w a) H ≡ notifies l w a (act_of w a).event = sym (notified l w a (act_of w a) H) in
    let one : Holds Few l (act_of w a).world (n + notifies l w a (act_of w a).event) =
    subst (λ (k : ℕ). Holds Few l (act_of w a).world (n + k)) c
    (happened-holds l is-lock w e s n B (λ few. omega (arith, h few)) a (act_of w a) f v H) in
    let z : n + notifies l w a (act_of w a).event + notifications_from (act_of w a).world acts l
    ≡ n + (notifies l w a (act_of w a).event + notifications_from (act_of w a).world acts l) = omega arith in
    subst (Holds Few l (acts_of (act_of w a).world acts)) z
    (acts-hold l is-lock (act_of w a).world acts f v r (n + notifies l w a (act_of w a).event) one (λ few. omega (arith, h few)))

-- of every RwLock in every world reached; R3r, R4 and R5 with fewer than 2 ^ 32 notifications
pub reached-holds :
    (acts : List Fields) → Sized acts → (l : ℕ) → l < RWLOCKS → Holds (notifications acts l < 2 ^ 32) l (reached acts) (notifications acts l)
unfolding fresh_world
reached-holds acts sized l is-lock =
    let z : 0 + notifications acts l ≡ notifications acts l = omega arith in
    subst (Holds (notifications acts l < 2 ^ 32) l (reached acts)) z
    (acts-hold l is-lock fresh_world acts fresh-sound fresh-shaped sized 0 (rests-holds l is-lock fresh_world fresh-sound fresh-shaped refl 0) (λ h. omega (arith, h)))

-- ---- The claim

module _ (acts : List Fields) (sized : Sized acts) (l : ℕ) (is-lock : l < RWLOCKS) where
  sound : sound_world (reached acts) ≡ true
  sound = (acts-sound acts sized).0

  shaped : Shaped (reached acts)
  shaped = (acts-sound acts sized).1

  -- whoever sleeps on its state is in read, on writer_notify in write
  pub lock-sleepers : LockSleepers (reached acts) l
  unfolding of_lock RwP.operand_of RwP.write_operand
  lock-sleepers t (inl e) = by (on-lock l t K.RwLock (thread_at (reached acts) t) refl is-lock (each-waits (reached acts) sound shaped t) e)
    where
      by :
          (p : RwLockAt) × (((thread_at (reached acts) t).at ≡ A.RwLock l p) × (Waits p × (RwP.operand_of p ≡ K.RwLock))) →
          SleepsOnLock (reached acts) l t
      by (p, (q, (w-read seen, k))) = in-read e q
      by (p, (q, (w-write sequence, k))) = kinds-differ (sym k)
  lock-sleepers t (inr e) = by (on-lock l t K.WriterNotify (thread_at (reached acts) t) refl is-lock (each-waits (reached acts) sound shaped t) e)
    where
      by :
          (p : RwLockAt) × (((thread_at (reached acts) t).at ≡ A.RwLock l p) × (Waits p × (RwP.operand_of p ≡ K.WriterNotify))) →
          SleepsOnLock (reached acts) l t
      by (p, (q, (w-read seen, k))) = kinds-differ k
      by (p, (q, (w-write sequence, k))) = in-write e q

  -- 5. no sleeper on an RwLock is forgotten
  pub lock-wakes : notifications acts l < 2 ^ 32 → LockWakes acts l
  unfolding here
  lock-wakes few t on free =
      another (Cl.holds-tended (reached acts) l (notifications acts l) t sound shaped is-lock (reached-holds acts sized l is-lock) few (asleep on)
      ((lock-counted acts sized l is-lock).free.1 free))
    where
      asleep : SleepsOnLock (reached acts) l t → SleepsOn (reached acts) K.RwLock l t ⊎ SleepsOn (reached acts) K.WriterNotify l t
      asleep (in-read e q) = inl e
      asleep (in-write e q) = inr e

      tends : (p : RwLockAt) → Cl.Tends p → TendsLock l (A.RwLock l p)
      tends p (Cl.writing q) = writing
      tends p (Cl.waking b q) = waking

      another : Cl.Tended (reached acts) l t → Another (reached acts) t (TendsLock l)
      another T = record {
        who = T.who;
        is-thread = here-thread l (reached acts) shaped T.who (ap (here l) T.stands ∙ eq-eqb l l refl);
        another = T.another;
        awake = T.awake;
        there = subst (TendsLock l) (sym T.stands) (tends T.position T.tends);
      }

  -- R2 at a thread about to free a read hold
  pub read-unlock-flags :
      (t : ℕ) → t < THREADS → (thread_at (reached acts) t).at ≡ A.RwLock l X.ReadUnlock → readers_waiting (state_at (reached acts) l) ≡ 1 →
      writers_waiting (state_at (reached acts) l) ≡ 1
  read-unlock-flags t is-thread at-is =
      flags-at l is-lock (reached acts) sound shaped (notifications acts l) (reached-holds acts sized l is-lock) t is-thread at-is

-- with fewer notifications of all locks together
pub locks-wake : (acts : List Fields) → Sized acts → all_notifications acts < 2 ^ 32 → (l : ℕ) → l < RWLOCKS → LockWakes acts l
locks-wake acts sized few l is-lock =
    lock-wakes acts sized l is-lock (omega (arith, sum-at (notifications acts) RWLOCKS l is-lock))
