-- The invariant of one RwLock in a world, and that a step of a thread that is in a call on it keeps it. Assumes nothing.
use mathlib.Core.Path.{◌≡◌, refl, sym, ap, ◌∙◌, subst}
use mathlib.Core.Logic.{◌⊎◌, inl, inr, ◌≢◌}
use mathlib.Core.Bool.{Bool, true, false, not, ◌&&◌, cond}
use mathlib.Core.List.{List, [], ◌∷◌}
use Prim.Native.Nat.{ℕ, min, ◌+◌, ◌%◌, ◌^◌, ◌≤◌, ◌<◌}
use native.Mathlib.Omega.{arith}
use lib.Dec.{eqb, ltb}
use lib.ListN.{length, take, get_or, get_or-eq_default}
use lib.Seq.{get_or-set_same, take-length}
use borrow.Author.Tests.{eqb-true, eqb-false, eq-eqb, ne_eqb, ltb-true, ltb-false}
use Rattle.words.specs.Atomic.{wrapping_add}
use Rattle.words.specs.RwLock.{count, readers_waiting, writers_waiting}
use Rattle.words.specs.declared.Hold.{Hold}
use Rattle.words.specs.declared.Hold.TheVariants as H
use Rattle.words.specs.declared.Wake.{Wake}
use Rattle.words.specs.declared.Wake.TheVariants as W
use Rattle.words.specs.declared.Kind.{Kind}
use Rattle.words.specs.declared.Kind.TheVariants as K
use Rattle.words.specs.declared.Next.{Next}
use Rattle.words.specs.declared.Next.TheVariants as Nx
use Rattle.words.specs.Steps as St
use Rattle.rwlock.specs.declared.WriteAt.TheVariants as Wr
use Rattle.rwlock.specs.declared.WakeAt.TheVariants as Wk
use Rattle.rwlock.specs.declared.DowngradeAt.TheVariants as D
use Rattle.rwlock.specs.declared.RwLockAt.{RwLockAt}
use Rattle.rwlock.specs.declared.RwLockAt.TheVariants as Rw
use Rattle.rwlock.specs.Positions as RwP
use Rattle.rwlock.specs.RwLock as RwS
use Rattle.queue.specs.Row.{THREADS, occ}
use Rattle.calls.specs.declared.At.{At}
use Rattle.calls.specs.declared.At.TheVariants as A
use Rattle.calls.specs.declared.Thread.{Thread}
use Rattle.calls.specs.Objects.{RWLOCKS, word_of}
use Rattle.calls.specs.Plans.{idle, decide_of}
use Rattle.calls.specs.Positions.{after_wait, waits_of, passed_of}
use Rattle.world.specs.declared.World.{World}
use Rattle.world.specs.World.{thread_at, word_at}
use Rattle.world.specs.Holds.{LOCKHOLDS, lock_slot, reads_of}
use Rattle.step.specs.declared.Acted.{Acted}
use Rattle.step.specs.Step.{roused, reads_after}
use Rattle.sound.specs.Sound.{reads_held, sound_world}
use Rattle.sound.proofs.Holds.{lock-slot-below, reads-part}
use Rattle.kept.specs.Shape.{Shaped}
use Rattle.kept.proofs.Tests.{no_way}
use Rattle.kept.specs.Laws.{held_kind}
use Rattle.keeps_records.proofs.Names.{each-passed}
use Rattle.keeps_records.proofs.Rows.{Stand}
use Rattle.keeps_records.proofs.Sleeping.{each-waits}
use Rattle.keeps_counts.proofs.Words.{words-apart}
use Rattle.keeps_counts.specs.Tables.{reads_new}
use Rattle.keeps_counts.proofs.Locks.{reads_same}
use Rattle.local.specs.Part.{sleeps_at, queue_at, number_woken, Framed, Stepped}
use Rattle.local.proofs.Waking.{sleeps-queue, sleeps-asleep}
use Rattle.local.proofs.Frame.{sound-stand, only-woken}
use Rattle.claims_rwlock.proofs.Codes.{in_write_beside_others, at_subtract}
use Rattle.claims_rwlock.proofs.Points.{Update}
use Rattle.claims_rwlock.proofs.Moves.{LockView, Place, Invariant, up, stands, answers_readers, answers_writers, reader_sleeps, writer_sleeps, in-time, Other}
use Rattle.claims_rwlock.proofs.Rouse.{Woke, unchanged, reader, writer, back}
use Rattle.claims_rwlock.proofs.Rouse as Ro
use Rattle.claims_rwlock.proofs.Did.{code_of, stays_awake, Did, did-state, did-notify, kinds-differ}
use Rattle.claims_rwlock.proofs.Own.{Counted, Woken, place_after, adds_of, did-notifies, own-step}
use Rattle.claims_rwlock.proofs.View.{here, place_at, place_of, state_at, notify_at, view_of, near_up, of_lock, roused-of, near_next, two-words}
use Rattle.claims_rwlock.proofs.Carried.{Carries, carries-after, since_of, since-le, step-carries, lock_downer, Downs, downs-here, roused-level, down_step, plan-object, plan-word, plan-wake, same-position}
use Rattle.claims_rwlock.proofs.Where.{Waits, w-read, w-write, reader-on, writer-on, on-lock, is-subtract, one_reader, two-readers, one_writer, read_held, write-held, down-held}

-- R0 to R5 and RH of lock l in world w after n notifications, with what they lean on: writer_notify and each sequence carried count the
-- notifications from some start
pub record Holds (Few : Type 0) (l : ℕ) (w : World) (n : ℕ) : Type 0 where
  -- what writer_notify counts from, and how many notifications there had been when a thread last read it
  pub start : ℕ
  pub since : ℕ → ℕ
  -- R0 to R5
  pub inv : Invariant Few (view_of l w n since)
  pub notify : notify_at w l ≡ (start + n) % 2 ^ 32
  pub carried : (u : ℕ) → Carries l start (since u) (thread_at w u).at
  -- RH: a thread at downgrade's fetch_sub or futex_wake_all has a read hold
  pub downers : (u : ℕ) → Downs l (thread_at w u).at → 0 < reads_of w.reads l u

-- who is in a call on the lock is a thread that there is; so is who is in the middle of a downgrade
pub here-thread : (l : ℕ) (w : World) → Shaped w → (u : ℕ) → here l (thread_at w u).at ≡ true → u < THREADS
unfolding here
here-thread l w s u d = by (ltb u THREADS) refl
  where
    by : (c : Bool) → ltb u THREADS ≡ c → u < THREADS
    by true e = ltb-true u THREADS e
    by false e =
        let k : THREADS ≤ u = ltb-false u THREADS e in
        let z : length w.threads ≡ THREADS = s.threads in
        let m : length w.threads ≤ u = omega arith in
        no_way (sym (ap (λ (th : Thread). here l th.at) (get_or-eq_default w.threads idle m)) ∙ d)

pub down-thread : (l : ℕ) (w : World) → Shaped w → (u : ℕ) → Downs l (thread_at w u).at → u < THREADS
down-thread l w s u d = here-thread l w s u (downs-here l (thread_at w u).at d)

-- a wake of one writer
one-wake : (b both f : Bool) (word : ℕ) (a : Bool) → (RwS.decide_of (Rw.Wake b (Wk.WakeWriter both)) f word a).wake ≡ W.One
unfolding RwS.decide_of RwS.wake_of
one-wake b both f word a = go (both && not a)
  where
    go : (c : Bool) → (cond c (St.moves_with word (Rw.Wake b Wk.ExchangeReaders) H.Same W.One) (St.ends word 1 H.Same W.One)).wake ≡ W.One
    go true = refl
    go false = refl

-- a step that sleeps has read no sequence
asleep-since : (n s : ℕ) (p : RwLockAt) (f : Bool) (word : ℕ) (a : Bool) → (RwS.decide_of p f word a).next ≡ Nx.Asleep → since_of n s p ≡ s
unfolding RwS.decide_of RwS.write_of
asleep-since n s (Rw.Read p) f word a e = refl
asleep-since n s (Rw.TryRead p) f word a e = refl
asleep-since n s Rw.ReadUnlock f word a e = refl
asleep-since n s (Rw.Write Wr.Exchange) f word a e = refl
asleep-since n s (Rw.Write (Wr.Spin others left)) f word a e = refl
asleep-since n s (Rw.Write (Wr.ExchangeContended others seen)) f word a e = refl
asleep-since n s (Rw.Write (Wr.SetWaiting others seen)) f word a e = refl
asleep-since n s (Rw.Write Wr.LoadSequence) f word a e = no_way (sym (ap stays_awake e))
asleep-since n s (Rw.Write (Wr.LoadState sequence)) f word a e = refl
asleep-since n s (Rw.Write (Wr.Wait sequence)) f word a e = refl
asleep-since n s (Rw.TryWrite p) f word a e = refl
asleep-since n s Rw.WriteUnlock f word a e = refl
asleep-since n s (Rw.Wake b p) f word a e = refl
asleep-since n s (Rw.Downgrade p) f word a e = refl

-- the word of a writer that loads the sequence
load_word : (l : ℕ) → word_of (RwP.operand_of (Rw.Write Wr.LoadSequence)) l ≡ word_of K.WriterNotify l
unfolding RwP.operand_of RwP.write_operand
load_word l = refl

same_kind : held_kind H.Same ≢ K.RwLock
unfolding held_kind
same_kind e = absurd (let z : ◌≡◌ {A = ℕ} 0 1 = cc in omega arith)

-- a read hold after a downgrade
one_more : (rs : List ℕ) (l t : ℕ) → length rs ≡ LOCKHOLDS → reads_of rs l t ≡ 0 → reads_of (reads_new rs t l H.Downgrade) l t ≡ 1
unfolding reads_of wrapping_add
one_more rs l t h e =
    get_or-set_same rs (lock_slot t l) (reads_after H.Downgrade (get_or rs (lock_slot t l) 0)) 0 (rw h (lock-slot-below t l)) ∙ rw e refl

adds-up : (a n k : ℕ) → ((a + n) % 2 ^ 32 + k) % 2 ^ 32 ≡ (a + (n + k)) % 2 ^ 32
adds-up a n k = omega arith

-- the others, after a step of thread t
module _ (l : ℕ) (w v : World) (t k m : ℕ) (snd : sound_world w ≡ true) (shp : Shaped w) (F : Framed w t k m v) where
  pub other-woke : (s u : ℕ) → u ≢ t → Woke (place_of l (thread_at w u) s) (place_of l (thread_at v u) s)
  other-woke s u d = go (only-woken w v t k m F u d)
    where
      go :
          (thread_at v u ≡ thread_at w u) ⊎ ((sleeps_at w k u ≡ true) × (thread_at v u ≡ roused (thread_at w u))) →
          Woke (place_of l (thread_at w u) s) (place_of l (thread_at v u) s)
      go (inl e) = unchanged (ap (λ (th : Thread). place_of l th s) e)
      go (inr (q, e)) =
          let b : (thread_at w u).asleep ≡ true = sleeps-asleep k u (thread_at w u) q in
          subst (λ (th : Thread). Woke (place_of l (thread_at w u) s) (place_of l th s)) (sym e)
          (roused-of l s (thread_at w u) b (each-waits w snd shp u b))

  pub other-carried : (start s u : ℕ) → u ≢ t → Carries l start s (thread_at w u).at → Carries l start s (thread_at v u).at
  other-carried start s u d h = go (only-woken w v t k m F u d)
    where
      go : (thread_at v u ≡ thread_at w u) ⊎ ((sleeps_at w k u ≡ true) × (thread_at v u ≡ roused (thread_at w u))) → Carries l start s (thread_at v u).at
      go (inl e) = subst (λ (th : Thread). Carries l start s th.at) (sym e) h
      go (inr (q, e)) = subst (λ (th : Thread). Carries l start s th.at) (sym e) (carries-after l start s (thread_at w u).at h)

  pub other-downer :
      l < RWLOCKS → ((u : ℕ) → Downs l (thread_at w u).at → 0 < reads_of w.reads l u) → (u : ℕ) → u ≢ t → Downs l (thread_at v u).at →
      0 < reads_of v.reads l u
  other-downer is-lock h u d x = go (only-woken w v t k m F u d)
    where
      go : (thread_at v u ≡ thread_at w u) ⊎ ((sleeps_at w k u ≡ true) × (thread_at v u ≡ roused (thread_at w u))) → 0 < reads_of v.reads l u
      go (inl e) =
          let y : Downs l (thread_at w u).at = subst (λ (th : Thread). Downs l th.at) e x in
          let z : reads_of v.reads l u ≡ reads_of w.reads l u = F.other-reads u l (down-thread l w shp u y) is-lock (inl d) in
          rw z (h u y)
      go (inr (q, e)) =
          let b : (thread_at w u).asleep ≡ true = sleeps-asleep k u (thread_at w u) q in
          absurd (roused-level l (thread_at w u).at (each-waits w snd shp u b) (subst (λ (th : Thread). Downs l th.at) e x))

-- ---- a step of thread t, at p on lock l, over word k; `found` whether somebody sleeps there, m how many wake

module _
    {Few : Type 0} (l : ℕ) (is-lock : l < RWLOCKS) (w : World) (snd : sound_world w ≡ true) (shp : Shaped w) (n : ℕ)
    (small : Few → n < 2 ^ 32) (B : Holds Few l w n) (t : ℕ) (is-thread : t < THREADS) (p : RwLockAt) (at-is : (thread_at w t).at ≡ A.RwLock l p)
    (awake : (thread_at w t).asleep ≡ false) (f : Bool)
    (k : ℕ) (k-is : k ≡ word_of (RwP.operand_of p) l) (found : Bool) (found-is : found ≡ ltb 0 (length (queue_at w k))) (m : ℕ)
    (m-is : m ≡ number_woken (decide_of (A.RwLock l p) f (word_at w k) found).wake (queue_at w k)) (r : Acted)
    (G : Stepped w t k m (decide_of (A.RwLock l p) f (word_at w k) found) r) where
  abbrev s : ℕ
  s = B.since t

  abbrev s' : ℕ
  s' = since_of n (B.since t) p

  abbrev since' : ℕ → ℕ
  since' u = cond (eqb u t) s' (B.since u)

  abbrev n' : ℕ
  n' = n + adds_of (code_of p)

  abbrev x : Next RwLockAt
  x = (RwS.decide_of p f (word_at w k) found).next

  abbrev X : LockView
  X = view_of l w n B.since

  abbrev X' : LockView
  X' = view_of l r.world n' since'

  -- the view with the wakes done and thread t where it was
  abbrev X₁ : LockView
  X₁ = record {
    count = count (state_at w l);
    readers = readers_waiting (state_at w l);
    writers = writers_waiting (state_at w l);
    adds = n;
    of = λ u. cond (eqb u t) (place_of l (thread_at w t) (B.since t)) (place_of l (thread_at r.world u) (B.since u));
  }

  each : (u : ℕ) → Woke (X.of u) (X₁.of u)
  each u = go (eqb u t) refl
    where
      go :
          (b : Bool) → eqb u t ≡ b →
          Woke (place_of l (thread_at w u) (B.since u))
          (cond b (place_of l (thread_at w t) (B.since t)) (place_of l (thread_at r.world u) (B.since u)))
      go true e = unchanged (ap (λ (y : ℕ). place_of l (thread_at w y) (B.since y)) (sym (eqb-true u t e)))
      go false e = other-woke l w r.world t k m snd shp G.frame (B.since u) u (eqb-false u t e)

  I₁ : Invariant Few X₁
  I₁ = Ro.roused X X₁ (record { count-is = refl; readers-are = refl; writers-are = refl; adds-is = refl }) each B.inv

  old : X₁.of t ≡ up (code_of p) s
  old = rw (eq-eqb t t refl, at-is, awake) (near_up l p (B.since t))

  other-of : (u : ℕ) → u ≢ t → X₁.of u ≡ place_of l (thread_at r.world u) (B.since u)
  other-of u d = rw (ne_eqb u t d) refl

  U : Update X₁.of X'.of t (place_after p x s')
  unfolding decide_of
  U = record {
    same = rw (eq-eqb t t refl, G.own) (near_next l p (RwS.decide_of p f (word_at w k) found) (since_of n (B.since t) p));
    other = λ u d. rw (ne_eqb u t d) refl;
  }

  -- the two words after it
  apart : word_of K.RwLock l ≢ word_of K.WriterNotify l
  apart e = kinds-differ (words-apart K.RwLock K.WriterNotify l l is-lock is-lock e).0

  did : Did (state_at w l) (notify_at w l) found p (state_at r.world l) (notify_at r.world l) (RwS.decide_of p f (word_at w k) found).next
  unfolding passed_of
  did = go (two-words p)
    where
      passed : RwP.passed_of p ≡ true
      passed = subst (λ (y : At). passed_of y ≡ true) at-is (each-passed w snd shp t)

      go :
          (RwP.operand_of p ≡ K.RwLock) ⊎ (RwP.operand_of p ≡ K.WriterNotify) →
          Did (state_at w l) (notify_at w l) found p (state_at r.world l) (notify_at r.world l) (RwS.decide_of p f (word_at w k) found).next
      go (inl e) =
          let q : k ≡ word_of K.RwLock l = k-is ∙ ap (λ (y : Kind). word_of y l) e in
          let a : state_at r.world l ≡ (RwS.decide_of p f (word_at w k) found).word =
          subst (λ (y : ℕ). word_at r.world y ≡ (RwS.decide_of p f (word_at w k) found).word) q (G.word ∙ plan-word l p f (word_at w k) found) in
          let b : notify_at r.world l ≡ notify_at w l = G.frame.other-words (word_of K.WriterNotify l) (λ y. apart (sym (y ∙ q))) in
          let c : word_at w k ≡ state_at w l = ap (word_at w) q in
          rw (a, b, c) (did-state (state_at w l) (notify_at w l) found (shp.wide (word_of K.RwLock l)) p f passed e)
      go (inr e) =
          let q : k ≡ word_of K.WriterNotify l = k-is ∙ ap (λ (y : Kind). word_of y l) e in
          let a : notify_at r.world l ≡ (RwS.decide_of p f (word_at w k) found).word =
          subst (λ (y : ℕ). word_at r.world y ≡ (RwS.decide_of p f (word_at w k) found).word) q (G.word ∙ plan-word l p f (word_at w k) found) in
          let b : state_at r.world l ≡ state_at w l = G.frame.other-words (word_of K.RwLock l) (λ y. apart (y ∙ q)) in
          let c : word_at w k ≡ notify_at w l = ap (word_at w) q in
          rw (a, b, c) (did-notify (state_at w l) (notify_at w l) found (shp.wide (word_of K.RwLock l)) p f e)

  -- a sequence carried that is still what writer_notify is was read since the last notification
  fresh : Few → p ≡ Rw.Write (Wr.Wait (notify_at w l)) → s ≡ n
  unfolding place_at
  fresh few e =
      let h : notify_at w l ≡ (B.start + B.since t) % 2 ^ 32 = B.carried t (Rw.Write (Wr.Wait (notify_at w l))) (at-is ∙ ap (A.RwLock l) e) in
      no_wrap B.start n (B.since t) (in-time n (place_of l (thread_at w t) (B.since t)) (B.inv.times t)) (small few) (sym h ∙ B.notify)
    where
      no_wrap : (n₀ adds since : ℕ) → since ≤ adds → adds < 2 ^ 32 → (n₀ + since) % 2 ^ 32 ≡ (n₀ + adds) % 2 ^ 32 → since ≡ adds
      no_wrap n₀ adds since a b e = omega arith

  -- ---- what counting says

  was-subtract : (u : ℕ) → stands at_subtract (X₁.of u) ≡ true → (stands at_subtract (X.of u) ≡ true) × Downs l (thread_at w u).at
  unfolding stands
  was-subtract u h =
      let y : stands at_subtract (X.of u) ≡ true = back (stands at_subtract) (λ _. refl) (λ _. refl) (X.of u) (X₁.of u) (each u) h in
      (y, is-subtract l (B.since u) (thread_at w u) y)

  lone : 0 < reads_of w.reads l t → (u : ℕ) → u ≢ t → stands at_subtract (X₁.of u) ≡ true → ⊥
  lone a u d h =
      let y = was-subtract u h in
      let b : 2 ≤ count (state_at w l) = two-readers w l snd is-lock t u is-thread (down-thread l w shp u y.1) d a (B.downers u y.1) in
      omega (arith, (B.inv.r0 u y.0).1)

  counted : Counted X₁ (state_at w l) t p
  counted = record {
    reader = λ e. let a = read_held w l snd is-lock t is-thread (at-is ∙ ap (A.RwLock l) e) in
        let b = one_reader w l snd is-lock t is-thread a in (b.0, b.1, λ u h. lone a u (not-me e u h) h);
    writer = λ e. (one_writer w l snd is-lock t is-thread (write-held w l snd is-lock t is-thread (at-is ∙ ap (A.RwLock l) e))).0;
    downer = λ e. (one_writer w l snd is-lock t is-thread (down-held w l snd is-lock t is-thread (at-is ∙ ap (A.RwLock l) e))).0;
    alone-subtract = λ e. lone (B.downers t (p, (at-is, ap lock_downer e)));
  }
    where
      not-me : p ≡ Rw.ReadUnlock → (u : ℕ) → stands at_subtract (X₁.of u) ≡ true → u ≢ t
      not-me e u h q =
          let y = (was-subtract u h).1 in
          let z : A.RwLock l p ≡ A.RwLock l y.0 = sym at-is ∙ (ap (λ (i : ℕ). (thread_at w i).at) (sym q) ∙ y.1.0) in
          no_way (ap lock_downer (sym e ∙ same-position l p y.0 z) ∙ y.1.1)

  -- ---- what the wakes leave

  stand : Stand w.threads w.sleepers
  stand = sound-stand w snd shp

  waits : (u : ℕ) → (thread_at w u).asleep ≡ true → waits_of (thread_at w u).at ≡ true
  waits = each-waits w snd shp

  not_t : (u : ℕ) → sleeps_at w k u ≡ true → u ≢ t
  not_t u h e = no_way (sym awake ∙ sleeps-asleep k t (thread_at w t) (subst (λ (y : ℕ). sleeps_at w k y ≡ true) e h))

  -- a writer that was woken is awake at the top of its loop, with other_writers_waiting
  woken-writer : k ≡ word_of K.WriterNotify l → (u : ℕ) → 0 < occ u (take m (queue_at w k)) → (u ≢ t) × (X₁.of u ≡ up in_write_beside_others (B.since u))
  unfolding of_lock after_wait RwP.after_wait RwS.write_after_wait RwP.operand_of
  woken-writer q u h =
      let y = G.frame.woken-records u h in
      let d : u ≢ t = not_t u y.0 in
      let on = on-lock l u K.WriterNotify (thread_at w u) refl is-lock (waits u) (subst (λ (i : ℕ). sleeps_at w i u ≡ true) q y.0) in
      (d, other-of u d ∙ (ap (λ (th : Thread). place_of l th (B.since u)) y.1 ∙ go on))
    where
      go :
          (i : RwLockAt) × (((thread_at w u).at ≡ A.RwLock l i) × (Waits i × (RwP.operand_of i ≡ K.WriterNotify))) →
          place_of l (roused (thread_at w u)) (B.since u) ≡ up in_write_beside_others (B.since u)
      go (i, (e, (w-read seen, o))) = kinds-differ o
      go (i, (e, (w-write sequence, o))) = rw e (near_up l (Rw.Write (Wr.Spin true 100)) (B.since u))

  own-occ : (u : ℕ) (tl : List ℕ) → occ u (take 1 (u ∷ tl)) ≡ 1
  unfolding occ
  own-occ u tl = rw (eq-eqb u u refl) refl

  -- a wake of one over a queue that is not empty wakes its first
  first-writer :
      k ≡ word_of K.WriterNotify l → m ≡ min 1 (length (queue_at w k)) → (u : ℕ) (tl : List ℕ) → queue_at w k ≡ u ∷ tl →
      (u ≢ t) × (X₁.of u ≡ up in_write_beside_others (B.since u))
  first-writer q c u tl e =
      let one : m ≡ 1 = c ∙ (ap (λ (y : List ℕ). min 1 (length y)) e ∙ omega arith) in
      let z : occ u (take m (queue_at w k)) ≡ 1 = rw (one, e) (own-occ u tl) in
      woken-writer q u (omega arith)

  wake-one : (b both : Bool) → p ≡ Rw.Wake b (Wk.WakeWriter both) → (k ≡ word_of K.WriterNotify l) × (m ≡ min 1 (length (queue_at w k)))
  unfolding RwP.operand_of RwP.wake_operand number_woken
  wake-one b both e = (
    k-is ∙ ap (λ (y : RwLockAt). word_of (RwP.operand_of y) l) e,
    m-is ∙ ap (λ (y : Wake). number_woken y (queue_at w k))
        (plan-wake l p f (word_at w k) found
        ∙ (ap (λ (y : RwLockAt). (RwS.decide_of y f (word_at w k) found).wake) e ∙ one-wake b both f (word_at w k) found)),
  )

  wake-all : ((b : Bool) × (p ≡ Rw.Wake b Wk.WakeReaders)) ⊎ (p ≡ Rw.Downgrade D.WakeReaders) → (k ≡ word_of K.RwLock l) × (m ≡ length (queue_at w k))
  unfolding RwP.operand_of RwP.wake_operand number_woken RwS.decide_of RwS.wake_of RwS.downgrade_of
  wake-all (inl (b, e)) = (
    k-is ∙ ap (λ (y : RwLockAt). word_of (RwP.operand_of y) l) e,
    m-is ∙ ap (λ (y : Wake). number_woken y (queue_at w k))
        (plan-wake l p f (word_at w k) found ∙ ap (λ (y : RwLockAt). (RwS.decide_of y f (word_at w k) found).wake) e),
  )
  wake-all (inr e) = (
    k-is ∙ ap (λ (y : RwLockAt). word_of (RwP.operand_of y) l) e,
    m-is ∙ ap (λ (y : Wake). number_woken y (queue_at w k))
        (plan-wake l p f (word_at w k) found ∙ ap (λ (y : RwLockAt). (RwS.decide_of y f (word_at w k) found).wake) e),
  )

  -- somebody stands in a queue that is not empty
  answer :
      (P : Place → Bool) → ((s : ℕ) → P (up in_write_beside_others s) ≡ true) → k ≡ word_of K.WriterNotify l → m ≡ min 1 (length (queue_at w k)) →
      0 < length (queue_at w k) → Other P X₁ t
  answer P h q c pos = go (queue_at w k) refl
    where
      go : (y : List ℕ) → queue_at w k ≡ y → Other P X₁ t
      go [] e = absurd (let z : length (queue_at w k) ≡ 0 = ap length e in omega arith)
      go (u ∷ tl) e = let z = first-writer q c u tl e in (u, z.0, ap P z.1 ∙ h (B.since u))

  stands-some : (u : ℕ) (y : List ℕ) → occ u y ≡ 1 → 0 < length y
  unfolding occ
  stands-some u [] e = absurd (omega arith)
  stands-some u (z ∷ zs) e = omega arith

  woken : Woken X₁ t found p
  unfolding answers_writers answers_readers reader_sleeps writer_sleeps place_at
  woken = record {
    writers-paid = λ b both e u h. let c = wake-one b both e in
        let y : writer_sleeps (X.of u) ≡ true = back writer_sleeps (λ _. refl) (λ _. refl) (X.of u) (X₁.of u) (each u) h in
        let z : sleeps_at w k u ≡ true =
        subst (λ (i : ℕ). sleeps_at w i u ≡ true) (sym c.0) (writer-on l (B.since u) u (thread_at w u) (waits u) y) in
        answer answers_writers (λ _. refl) c.0 c.1 (stands-some u (queue_at w k) (sleeps-queue w stand k u z));
    readers-paid = λ b both e h. let c = wake-one b both e in
        answer (answers_readers n) (λ _. refl) c.0 c.1 (ltb-true 0 (length (queue_at w k)) (sym found-is ∙ h));
    all_paid = λ e u h. let c = wake-all e in
        let y : reader_sleeps (X.of u) ≡ true = back reader_sleeps (λ _. refl) (λ _. refl) (X.of u) (X₁.of u) (each u) h in
        let z : sleeps_at w k u ≡ true =
        subst (λ (i : ℕ). sleeps_at w i u ≡ true) (sym c.0) (reader-on l (B.since u) u (thread_at w u) (waits u) y) in
        let o : occ u (queue_at w k) ≡ 1 = sleeps-queue w stand k u z in
        let a : occ u (take m (queue_at w k)) ≡ 1 = rw (c.1, take-length (queue_at w k)) o in
        let d = G.frame.woken-records u (omega arith) in
        no_way (subst (λ (i : Place). reader_sleeps i ≡ true) (other-of u (not_t u z) ∙ ap (λ (th : Thread). place_of l th (B.since u)) d.1) h);
  }

  -- ---- together

  no-sleep : x ≡ Nx.Asleep → s' ≡ s
  no-sleep e = asleep-since n (B.since t) p f (word_at w k) found e

  kept-inv : Invariant Few X'
  unfolding place_at
  kept-inv =
      own-step X₁ X' (state_at w l) (notify_at w l) t s s' found p (shp.wide (word_of K.RwLock l))
      (record { count-seen = refl; readers-seen = refl; writers-seen = refl }) old
      (since-le n (B.since t) p (in-time n (X.of t) (B.inv.times t))) counted woken fresh I₁ (state_at r.world l) (notify_at r.world l) x did
      (record { count-seen = refl; readers-seen = refl; writers-seen = refl }) refl no-sleep U

  kept-carried : (u : ℕ) → Carries l B.start (since' u) (thread_at r.world u).at
  kept-carried u = go (eqb u t) refl
    where
      two : p ≡ Rw.Write Wr.LoadSequence → word_at w k ≡ (B.start + n) % 2 ^ 32
      two e = sequence-word p l k e k-is (B.start + n) B.notify
        where
          sequence-word :
              (p : RwLockAt) (l k : ℕ) → p ≡ Rw.Write Wr.LoadSequence → k ≡ word_of (RwP.operand_of p) l → (c : ℕ) → notify_at w l ≡ c % 2 ^ 32 →
              word_at w k ≡ c % 2 ^ 32
          sequence-word p l k e q c h = ap (word_at w) (q ∙ ap (λ (y : RwLockAt). word_of (RwP.operand_of y) l) e ∙ load_word l) ∙ h

      go : (b : Bool) → eqb u t ≡ b → Carries l B.start (cond b (since_of n (B.since t) p) (B.since u)) (thread_at r.world u).at
      go true e =
          subst (λ (y : At). Carries l B.start (since_of n (B.since t) p) y)
          (sym (ap (λ (i : ℕ). (thread_at r.world i).at) (eqb-true u t e) ∙ ap (λ (th : Thread). th.at) G.own))
          (step-carries l B.start (B.since t) n p f (word_at w k) found (B.carried t p at-is) two)
      go false e = other-carried l w r.world t k m snd shp G.frame B.start (B.since u) u (eqb-false u t e) (B.carried u)

  reads-after : (hold : Hold) → (decide_of (A.RwLock l p) f (word_at w k) found).hold ≡ hold → r.world.reads ≡ reads_new w.reads t l hold
  reads-after hold e =
      G.reads
      ∙ (ap (λ (o : ℕ). reads_new w.reads t o (decide_of (A.RwLock l p) f (word_at w k) found).hold) (plan-object l p f (word_at w k) found)
      ∙ ap (reads_new w.reads t l) e)

  kept-downers : (u : ℕ) → Downs l (thread_at r.world u).at → 0 < reads_of r.world.reads l u
  kept-downers u d = go (eqb u t) refl
    where
      mine : Downs l (thread_at r.world t).at → 0 < reads_of r.world.reads l t
      mine d = by (down_step l p f (word_at w k) found (subst (λ (th : Thread). Downs l th.at) G.own d))
        where
          by :
              ((p ≡ Rw.Downgrade D.Add) × ((decide_of (A.RwLock l p) f (word_at w k) found).hold ≡ H.Downgrade)) ⊎
              ((p ≡ Rw.Downgrade D.Subtract) × ((decide_of (A.RwLock l p) f (word_at w k) found).hold ≡ H.Same)) → 0 < reads_of r.world.reads l t
          by (inl (e, h)) =
              let held = down-held w l snd is-lock t is-thread (at-is ∙ ap (A.RwLock l) e) in
              let z : reads_held w.forgotten w.reads l ≡ 0 = (one_writer w l snd is-lock t is-thread held).1 in
              let y : reads_of w.reads l t ≤ reads_held w.forgotten w.reads l = reads-part w.forgotten w.reads l t is-thread in
              let q : reads_of w.reads l t ≡ 0 = omega arith in
              rw (reads-after H.Downgrade h, one_more w.reads l t shp.reads q) (omega arith)
          by (inr (e, h)) =
              rw (reads-after H.Same h, reads_same w.reads t l H.Same same_kind) (B.downers t (p, (at-is, ap lock_downer e)))

      go : (b : Bool) → eqb u t ≡ b → 0 < reads_of r.world.reads l u
      go true e =
          let q : u ≡ t = eqb-true u t e in
          subst (λ (i : ℕ). 0 < reads_of r.world.reads l i) (sym q) (mine (subst (λ (i : ℕ). Downs l (thread_at r.world i).at) q d))
      go false e = other-downer l w r.world t k m snd shp G.frame is-lock B.downers u (eqb-false u t e) d

  pub near-keeps : Holds Few l r.world (n + adds_of (code_of p))
  near-keeps = record {
    start = B.start;
    since = since';
    inv = kept-inv;
    notify =
        did-notifies (state_at w l) (notify_at w l) found p (state_at r.world l) (notify_at r.world l) x (shp.wide (word_of K.WriterNotify l)) did ∙
        (ap (λ (y : ℕ). (y + adds_of (code_of p)) % 2 ^ 32) B.notify ∙ adds-up B.start n (adds_of (code_of p)));
    carried = kept-carried;
    downers = kept-downers;
  }
