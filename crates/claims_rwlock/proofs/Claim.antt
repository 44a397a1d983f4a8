-- Where R0 to R5 hold of an RwLock, a thread sleeps on it and the low 30 bits of its state are 0, another is awake inside write or behind the
-- operation of an unlock that freed it. Assumes nothing.
use mathlib.Core.Path.{◌≡◌, refl, sym, ap, ◌∙◌, subst}
use mathlib.Core.Logic.{◌⊎◌, inl, inr, ◌≢◌}
use mathlib.Core.Bool.{Bool, true, false}
use Prim.Native.Nat.{ℕ, ◌<◌}
use native.Mathlib.Omega.{arith}
use Rattle.words.specs.RwLock.{count}
use Rattle.words.proofs.Readings.{readers-le, writers-le}
use Rattle.words.specs.declared.Kind.TheVariants as K
use Rattle.rwlock.specs.declared.ReadAt.TheVariants as R
use Rattle.rwlock.specs.declared.WriteAt.{WriteAt}
use Rattle.rwlock.specs.declared.WriteAt.TheVariants as Wr
use Rattle.rwlock.specs.declared.WakeAt.{WakeAt}
use Rattle.rwlock.specs.declared.DowngradeAt.TheVariants as D
use Rattle.rwlock.specs.declared.RwLockAt.{RwLockAt}
use Rattle.rwlock.specs.declared.RwLockAt.TheVariants as Rw
use Rattle.calls.specs.declared.At.{At}
use Rattle.calls.specs.declared.At.TheVariants as A
use Rattle.calls.specs.declared.Thread.{Thread}
use Rattle.calls.specs.Objects.{RWLOCKS, word_of}
use Rattle.calls.specs.Positions.{waits_of}
use Rattle.world.specs.declared.World.{World}
use Rattle.world.specs.World.{thread_at, sleeps_on}
use Rattle.sound.specs.Sound.{sound_world}
use Rattle.kept.specs.Shape.{Shaped}
use Rattle.kept.proofs.Tests.{no_way}
use Rattle.keeps_records.proofs.Sleeping.{each-waits}
use Rattle.local.proofs.Waking.{sleeps-asleep}
use Rattle.claims_rwlock.proofs.Points.{Some}
use Rattle.claims_rwlock.proofs.Moves.{Place, reader_sleeps, writer_sleeps, tending, busy, nobody-lost}
use Rattle.claims_rwlock.proofs.Did.{code_of}
use Rattle.claims_rwlock.proofs.View.{here, code_at, place_at, place_of, state_at, view_of, away, near_up, near_down, here-is, of_lock}
use Rattle.claims_rwlock.proofs.Carried.{lock_downer, Downs}
use Rattle.claims_rwlock.proofs.Where.{Waits, w-read, w-write, on-lock, one_reader}
use Rattle.claims_rwlock.proofs.Near.{Holds, down-thread}

-- inside write, or behind the operation of an unlock that freed the lock
pub data Tends : RwLockAt → Type 0 where
  writing : (p : WriteAt) → Tends (Rw.Write p)
  waking : (writer : Bool) (p : WakeAt) → Tends (Rw.Wake writer p)

-- a place that tends the lock is one of these, or the last step of a downgrade
busy-where :
    (p : RwLockAt) → tending (code_of p) ≡ true →
    Tends p ⊎ (p ≡ Rw.Downgrade D.WakeReaders)
busy-where (Rw.Read R.Load) e = no_way e
busy-where (Rw.Read (R.Exchange seen)) e = no_way e
busy-where (Rw.Read (R.Spin slept left)) e = no_way e
busy-where (Rw.Read (R.ExchangeContended slept seen)) e = no_way e
busy-where (Rw.Read (R.SetWaiting slept seen)) e = no_way e
busy-where (Rw.Read (R.Wait seen)) e = no_way e
busy-where (Rw.TryRead p) e = no_way e
busy-where Rw.ReadUnlock e = no_way e
busy-where (Rw.Write p) e = inl (writing p)
busy-where (Rw.TryWrite p) e = no_way e
busy-where Rw.WriteUnlock e = no_way e
busy-where (Rw.Wake writer p) e = inl (waking writer p)
busy-where (Rw.Downgrade D.Add) e = no_way e
busy-where (Rw.Downgrade D.Subtract) e = no_way e
busy-where (Rw.Downgrade D.WakeReaders) e = inr refl

-- a sleeper on a word of the lock, as the view shows it
sleeper-seen :
    (l t s : ℕ) (th : Thread) → l < RWLOCKS → th.asleep ≡ true → (th.asleep ≡ true → waits_of th.at ≡ true) →
    (sleeps_on (word_of K.RwLock l) t th ≡ true) ⊎ (sleeps_on (word_of K.WriterNotify l) t th ≡ true) →
    (reader_sleeps (place_of l th s) ≡ true) ⊎ (writer_sleeps (place_of l th s) ≡ true)
unfolding reader_sleeps writer_sleeps of_lock
sleeper-seen l t s th h b w o = go (pos o)
  where
    pos :
        (sleeps_on (word_of K.RwLock l) t th ≡ true) ⊎ (sleeps_on (word_of K.WriterNotify l) t th ≡ true) →
        (p : RwLockAt) × ((th.at ≡ A.RwLock l p) × Waits p)
    pos (inl e) = let q = on-lock l t K.RwLock th refl h w e in (q.0, (q.1.0, q.1.1.0))
    pos (inr e) = let q = on-lock l t K.WriterNotify th refl h w e in (q.0, (q.1.0, q.1.1.0))

    go : (p : RwLockAt) × ((th.at ≡ A.RwLock l p) × Waits p) → (reader_sleeps (place_of l th s) ≡ true) ⊎ (writer_sleeps (place_of l th s) ≡ true)
    go (p, (e, w-read seen)) = inl (rw (e, b, near_down l (Rw.Read (R.Wait seen)) s) refl)
    go (p, (e, w-write sequence)) = inr (rw (e, b, near_down l (Rw.Write (Wr.Wait sequence)) s) refl)

-- another thread than t, awake there
pub record Tended (w : World) (l t : ℕ) : Type 0 where
  pub who : ℕ
  pub another : who ≢ t
  pub awake : (thread_at w who).asleep ≡ false
  pub position : RwLockAt
  pub stands : (thread_at w who).at ≡ A.RwLock l position
  pub tends : Tends position

pub holds-tended :
    {Few : Type 0} (w : World) (l n t : ℕ) → sound_world w ≡ true → Shaped w → l < RWLOCKS → Holds Few l w n → Few →
    (sleeps_on (word_of K.RwLock l) t (thread_at w t) ≡ true) ⊎ (sleeps_on (word_of K.WriterNotify l) t (thread_at w t) ≡ true) →
    count (state_at w l) ≡ 0 → Tended w l t
unfolding busy place_at code_at here
holds-tended w l n t snd shp is-lock B few o zero-count =
    by (nobody-lost (view_of l w n B.since) B.inv few zero-count (readers-le (state_at w l)) (writers-le (state_at w l)) t
    (sleeper-seen l t (B.since t) (thread_at w t) is-lock (asleep o) (each-waits w snd shp t) o))
  where
    asleep :
        (sleeps_on (word_of K.RwLock l) t (thread_at w t) ≡ true) ⊎ (sleeps_on (word_of K.WriterNotify l) t (thread_at w t) ≡ true) →
        (thread_at w t).asleep ≡ true
    asleep (inl e) = sleeps-asleep (word_of K.RwLock l) t (thread_at w t) e
    asleep (inr e) = sleeps-asleep (word_of K.WriterNotify l) t (thread_at w t) e

    by : Some busy (view_of l w n B.since).of → Tended w l t
    by (u, e) = tended (here l (thread_at w u).at) refl
      where
        tended : (c : Bool) → here l (thread_at w u).at ≡ c → Tended w l t
        tended false q =
            no_way (subst (λ (x : Place). busy x ≡ true) (away l (thread_at w u).at (thread_at w u).asleep (B.since u) q) e)
        tended true q = at-lock (here-is l (thread_at w u).at q) (thread_at w u).asleep refl
          where
            located :
                (p : RwLockAt) (b : Bool) → (thread_at w u).at ≡ A.RwLock l p → (thread_at w u).asleep ≡ b →
                (view_of l w n B.since).of u ≡ place_at l (A.RwLock l p) b (B.since u)
            located p b at c =
                ap (λ (x : At). place_at l x (thread_at w u).asleep (B.since u)) at ∙ ap (λ (x : Bool). place_at l (A.RwLock l p) x (B.since u)) c

            at-lock : (p : RwLockAt) × ((thread_at w u).at ≡ A.RwLock l p) → (b : Bool) → (thread_at w u).asleep ≡ b → Tended w l t
            at-lock (p, at) true b =
                no_way (subst (λ (x : Place). busy x ≡ true) (located p true at b ∙ near_down l p (B.since u)) e)
            at-lock (p, at) false b =
                record {
                  who = u;
                  another = λ q. no_way (sym b ∙ (ap (λ (i : ℕ). (thread_at w i).asleep) q ∙ asleep o));
                  awake = b;
                  position = p;
                  stands = at;
                  tends = stands-there (busy-where p (subst (λ (x : Place). busy x ≡ true) (located p false at b ∙ near_up l p (B.since u)) e));
                }
              where
                -- who is in the middle of a downgrade has a read hold, so that the count is not 0
                stands-there : Tends p ⊎ (p ≡ Rw.Downgrade D.WakeReaders) → Tends p
                stands-there (inl c) = c
                stands-there (inr c) =
                    let d : Downs l (thread_at w u).at = (p, (at, ap lock_downer c)) in
                    let m = one_reader w l snd is-lock u (down-thread l w shp u d) (B.downers u d) in
                    absurd (omega (arith, m.0))
