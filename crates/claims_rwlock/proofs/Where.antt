-- From a place back to the position, from a sleeper's word to where it stands, and what counting says of holders. Assumes nothing.
use mathlib.Core.Path.{◌≡◌, refl, sym, ap, ◌∙◌, subst}
use mathlib.Core.Logic.{◌≢◌}
use mathlib.Core.Bool.{Bool, true, false, not, ◌&&◌, cond}
use Prim.Native.Nat.{ℕ, ◌≤◌, ◌<◌}
use native.Mathlib.Omega.{arith}
use lib.Dec.{eqb}
use borrow.Author.Tests.{eqb-true, eq-eqb, ltb-true}
use Rattle.words.specs.RwLock.{MASK, count}
use Rattle.words.specs.declared.Kind.{Kind}
use Rattle.words.specs.declared.Kind.TheVariants as K
use Rattle.rwlock.specs.declared.ReadAt.TheVariants as R
use Rattle.rwlock.specs.declared.WriteAt.TheVariants as Wr
use Rattle.rwlock.specs.declared.WakeAt.TheVariants as Wk
use Rattle.rwlock.specs.declared.DowngradeAt.TheVariants as D
use Rattle.rwlock.specs.declared.RwLockAt.{RwLockAt}
use Rattle.rwlock.specs.declared.RwLockAt.TheVariants as Rw
use Rattle.rwlock.specs.Positions as RwP
use Rattle.queue.specs.Row.{THREADS}
use Rattle.calls.specs.declared.At.{At}
use Rattle.calls.specs.declared.At.TheVariants as A
use Rattle.calls.specs.declared.Thread.{Thread}
use Rattle.calls.specs.Objects.{RWLOCKS, WORDS, size_of, word_of}
use Rattle.calls.specs.Positions.{operand_of, waits_of, need_of}
use Rattle.calls.proofs.Objects.{word-there}
use Rattle.world.specs.declared.World.{World}
use Rattle.world.specs.World.{thread_at, sleeps_on}
use Rattle.world.specs.Holds.{holds_write, reads_of, has_hold, is_held}
use Rattle.sound.specs.Sound.{word_for, writers, reads_held, sound_world}
use Rattle.sound.proofs.Ranges.{sum-two}
use Rattle.sound.proofs.Readings.{sound-clauses, lock-agrees, need-held}
use Rattle.sound.specs.Clauses as Rd
use Rattle.sound.proofs.Holds.{reads-part}
use Rattle.sound.specs.Clauses.{Counts}
use Rattle.kept.proofs.Tests.{no_way, and_left, and_right}
use Rattle.kept.specs.Laws.{kind_of, object_of}
use Rattle.kept.proofs.Places.{operand-is}
use Rattle.keeps_counts.proofs.Words.{words-apart, operand-object}
use Rattle.keeps_counts.proofs.Locks.{write-part}
use Rattle.claims_rwlock.proofs.Codes.{outside, at_write_wait, at_subtract, at_read_wait}
use Rattle.claims_rwlock.proofs.Moves.{stands, reader_sleeps, writer_sleeps}
use Rattle.claims_rwlock.proofs.Did.{code_of}
use Rattle.claims_rwlock.proofs.View.{here, code_at, place_at, place_of, here-is, of_lock, kind-here, state_at}
use Rattle.claims_rwlock.proofs.Carried.{lock_downer, Downs}

-- ---- waits

pub data Waits : RwLockAt → Type 0 where
  w-read : (seen : ℕ) → Waits (Rw.Read (R.Wait seen))
  w-write : (sequence : ℕ) → Waits (Rw.Write (Wr.Wait sequence))

pub waits-where : (p : RwLockAt) → RwP.waits_of p ≡ true → Waits p
unfolding RwP.waits_of RwP.read_wait_next RwP.write_wait_next
waits-where (Rw.Read R.Load) e = no_way e
waits-where (Rw.Read (R.Exchange seen)) e = no_way e
waits-where (Rw.Read (R.Spin slept left)) e = no_way e
waits-where (Rw.Read (R.ExchangeContended slept seen)) e = no_way e
waits-where (Rw.Read (R.SetWaiting slept seen)) e = no_way e
waits-where (Rw.Read (R.Wait seen)) e = w-read seen
waits-where (Rw.TryRead p) e = no_way e
waits-where Rw.ReadUnlock e = no_way e
waits-where (Rw.Write Wr.Exchange) e = no_way e
waits-where (Rw.Write (Wr.Spin others left)) e = no_way e
waits-where (Rw.Write (Wr.ExchangeContended others seen)) e = no_way e
waits-where (Rw.Write (Wr.SetWaiting others seen)) e = no_way e
waits-where (Rw.Write Wr.LoadSequence) e = no_way e
waits-where (Rw.Write (Wr.LoadState sequence)) e = no_way e
waits-where (Rw.Write (Wr.Wait sequence)) e = w-write sequence
waits-where (Rw.TryWrite p) e = no_way e
waits-where Rw.WriteUnlock e = no_way e
waits-where (Rw.Wake b p) e = no_way e
waits-where (Rw.Downgrade p) e = no_way e

-- a thread that the view shows asleep stands at one of the two waits of the lock
pub asleep-where : (l s : ℕ) (th : Thread) → (th.asleep ≡ true → waits_of th.at ≡ true) → (place_of l th s).asleep ≡ true →
    (th.asleep ≡ true) × ((p : RwLockAt) × ((th.at ≡ A.RwLock l p) × Waits p))
unfolding place_at waits_of
asleep-where l s th h e =
    let b : th.asleep ≡ true = and_left th.asleep (here l th.at) e in
    let q = here-is l th.at (and_right th.asleep (here l th.at) e) in
    (b, (q.0, (q.1, waits-where q.0 (subst (λ (x : At). waits_of x ≡ true) q.1 (h b)))))

pub reader-on :
    (l s u : ℕ) (th : Thread) → (th.asleep ≡ true → waits_of th.at ≡ true) → reader_sleeps (place_of l th s) ≡ true →
    sleeps_on (word_of K.RwLock l) u th ≡ true
unfolding reader_sleeps sleeps_on place_at code_at operand_of RwP.operand_of
reader-on l s u th h e = go (asleep-where l s th h (and_left (place_of l th s).asleep _ e)) (and_right (place_of l th s).asleep _ e)
  where
    go :
        (th.asleep ≡ true) × ((p : RwLockAt) × ((th.at ≡ A.RwLock l p) × Waits p)) → eqb (code_at l th.at) at_read_wait ≡ true →
        (th.asleep && eqb (operand_of u th.at) (word_of K.RwLock l)) ≡ true
    go (b, (p, (q, w-read seen))) c = rw (b, q) (eq-eqb (word_of K.RwLock l) (word_of K.RwLock l) refl)
    go (b, (p, (q, w-write sequence))) c = no_way (rw (q, eq-eqb l l refl) at c)

pub writer-on :
    (l s u : ℕ) (th : Thread) → (th.asleep ≡ true → waits_of th.at ≡ true) → writer_sleeps (place_of l th s) ≡ true →
    sleeps_on (word_of K.WriterNotify l) u th ≡ true
unfolding writer_sleeps sleeps_on place_at code_at operand_of RwP.operand_of RwP.write_operand
writer-on l s u th h e = go (asleep-where l s th h (and_left (place_of l th s).asleep _ e)) (and_right (place_of l th s).asleep _ e)
  where
    go :
        (th.asleep ≡ true) × ((p : RwLockAt) × ((th.at ≡ A.RwLock l p) × Waits p)) → eqb (code_at l th.at) at_write_wait ≡ true →
        (th.asleep && eqb (operand_of u th.at) (word_of K.WriterNotify l)) ≡ true
    go (b, (p, (q, w-read seen))) c = no_way (rw (q, eq-eqb l l refl) at c)
    go (b, (p, (q, w-write sequence))) c = rw (b, q) (eq-eqb (word_of K.WriterNotify l) (word_of K.WriterNotify l) refl)

-- a sleeper on a word of the lock is at one of its waits
pub on-lock :
    (l u : ℕ) (kind : Kind) (th : Thread) → of_lock kind ≡ true → l < size_of kind → (th.asleep ≡ true → waits_of th.at ≡ true) →
    sleeps_on (word_of kind l) u th ≡ true →
    (p : RwLockAt) × ((th.at ≡ A.RwLock l p) × (Waits p × (RwP.operand_of p ≡ kind)))
unfolding sleeps_on waits_of kind_of
on-lock l u kind th k h waits e =
    let b : th.asleep ≡ true = and_left th.asleep _ e in
    let o : operand_of u th.at ≡ word_of kind l = eqb-true (operand_of u th.at) (word_of kind l) (and_right th.asleep _ e) in
    let within : operand_of u th.at < WORDS = rw o (word-there kind l h) in
    let p = words-apart kind (kind_of th.at) l (object_of u th.at) h (operand-object u th.at within) (sym o ∙ operand-is u th.at) in
    let q = here-is l th.at (kind-here l u th.at (subst (λ (x : Kind). of_lock x ≡ true) p.0 k) (sym p.1)) in
    (q.0, (q.1, (waits-where q.0 (subst (λ (x : At). waits_of x ≡ true) q.1 (waits b)), sym (p.0 ∙ ap kind_of q.1))))

-- ---- from a place back to the position

code-subtract : (p : RwLockAt) → eqb (code_of p) at_subtract ≡ true → lock_downer p ≡ true
code-subtract (Rw.Read R.Load) e = e
code-subtract (Rw.Read (R.Exchange seen)) e = e
code-subtract (Rw.Read (R.Spin slept left)) e = e
code-subtract (Rw.Read (R.ExchangeContended slept seen)) e = e
code-subtract (Rw.Read (R.SetWaiting slept seen)) e = e
code-subtract (Rw.Read (R.Wait seen)) e = e
code-subtract (Rw.TryRead p) e = e
code-subtract Rw.ReadUnlock e = e
code-subtract (Rw.Write Wr.Exchange) e = e
code-subtract (Rw.Write (Wr.Spin true left)) e = e
code-subtract (Rw.Write (Wr.Spin false left)) e = e
code-subtract (Rw.Write (Wr.ExchangeContended true seen)) e = e
code-subtract (Rw.Write (Wr.ExchangeContended false seen)) e = e
code-subtract (Rw.Write (Wr.SetWaiting true seen)) e = e
code-subtract (Rw.Write (Wr.SetWaiting false seen)) e = e
code-subtract (Rw.Write Wr.LoadSequence) e = e
code-subtract (Rw.Write (Wr.LoadState sequence)) e = e
code-subtract (Rw.Write (Wr.Wait sequence)) e = e
code-subtract (Rw.TryWrite p) e = e
code-subtract Rw.WriteUnlock e = e
code-subtract (Rw.Wake b Wk.ExchangeWriters) e = e
code-subtract (Rw.Wake b Wk.ExchangeBoth) e = e
code-subtract (Rw.Wake b (Wk.Notify true)) e = e
code-subtract (Rw.Wake b (Wk.Notify false)) e = e
code-subtract (Rw.Wake b (Wk.WakeWriter true)) e = e
code-subtract (Rw.Wake b (Wk.WakeWriter false)) e = e
code-subtract (Rw.Wake b Wk.ExchangeReaders) e = e
code-subtract (Rw.Wake b Wk.WakeReaders) e = e
code-subtract (Rw.Downgrade D.Add) e = no_way e
code-subtract (Rw.Downgrade D.Subtract) e = refl
code-subtract (Rw.Downgrade D.WakeReaders) e = no_way e

-- a thread that the view shows at another place than outside is in a call on the lock
pub code_here :
    (l : ℕ) (at : At) (k : ℕ) → outside < k → eqb (code_at l at) k ≡ true → (p : RwLockAt) × ((at ≡ A.RwLock l p) × (eqb (code_of p) k ≡ true))
unfolding code_at
code_here l A.Idle k pos e = absurd (omega (arith, eqb-true outside k e))
code_here l (A.Mutex m p) k pos e = absurd (omega (arith, eqb-true outside k e))
code_here l (A.RwLock j p) k pos e = go (eqb j l) refl e
  where
    go :
        (b : Bool) → eqb j l ≡ b → eqb (cond b (code_of p) outside) k ≡ true →
        (q : RwLockAt) × ((A.RwLock j p ≡ A.RwLock l q) × (eqb (code_of q) k ≡ true))
    go true b c = (p, (ap (λ (x : ℕ). A.RwLock x p) (eqb-true j l b), c))
    go false b c = absurd (omega (arith, eqb-true outside k c))
code_here l (A.Condvar c p) k pos e = absurd (omega (arith, eqb-true outside k e))
code_here l (A.Once o p) k pos e = absurd (omega (arith, eqb-true outside k e))
code_here l (A.Parker p) k pos e = absurd (omega (arith, eqb-true outside k e))

-- who stands at downgrade's fetch_sub is in the middle of a downgrade
pub is-subtract : (l s : ℕ) (th : Thread) → stands at_subtract (place_of l th s) ≡ true → Downs l th.at
unfolding stands place_at
is-subtract l s th e =
    let c = code_here l th.at at_subtract (omega arith) (and_right (not (place_of l th s).asleep) _ e) in
    (c.0, (c.1.0, code-subtract c.0 c.1.1))

-- ---- counting

module _ (w : World) (l : ℕ) (snd : sound_world w ≡ true) (is-lock : l < RWLOCKS) where
  agrees : Counts (count (state_at w l)) (writers w.written l) (reads_held w.forgotten w.reads l)
  unfolding word_for
  agrees = lock-agrees w l (sound-clauses w snd).locks is-lock

  pub one_reader : (t : ℕ) → t < THREADS → 0 < reads_of w.reads l t → (0 < count (state_at w l)) × (count (state_at w l) < MASK)
  one_reader t h k = go agrees
    where
      go :
          Counts (count (state_at w l)) (writers w.written l) (reads_held w.forgotten w.reads l) →
          (0 < count (state_at w l)) × (count (state_at w l) < MASK)
      go (Rd.reading a b c) = (omega (arith, reads-part w.forgotten w.reads l t h), omega arith)
      go (Rd.written a b c) = absurd (omega (arith, reads-part w.forgotten w.reads l t h))

  pub two-readers : (t u : ℕ) → t < THREADS → u < THREADS → u ≢ t → 0 < reads_of w.reads l t → 0 < reads_of w.reads l u → 2 ≤ count (state_at w l)
  unfolding reads_held
  two-readers t u h k d a b = go agrees
    where
      go : Counts (count (state_at w l)) (writers w.written l) (reads_held w.forgotten w.reads l) → 2 ≤ count (state_at w l)
      go (Rd.reading x y z) = omega (arith, sum-two (reads_of w.reads l) THREADS t u h k d)
      go (Rd.written x y z) = absurd (omega (arith, sum-two (reads_of w.reads l) THREADS t u h k d))

  pub one_writer :
      (t : ℕ) → t < THREADS → holds_write w.written l t ≡ true → (count (state_at w l) ≡ MASK) × (reads_held w.forgotten w.reads l ≡ 0)
  one_writer t h k = go agrees
    where
      one : 1 ≤ writers w.written l
      one = let q : cond (holds_write w.written l t) 1 0 ≤ writers w.written l = write-part w.written l t h in rw k at q

      go :
          Counts (count (state_at w l)) (writers w.written l) (reads_held w.forgotten w.reads l) →
          (count (state_at w l) ≡ MASK) × (reads_held w.forgotten w.reads l ≡ 0)
      go (Rd.reading x y z) = absurd (omega (arith, one))
      go (Rd.written x y z) = (y, z)

  -- the holds that the positions before a freeing operation have
  module _ (t : ℕ) (is-thread : t < THREADS) where
    held : (p : RwLockAt) → (thread_at w t).at ≡ A.RwLock l p → has_hold w.locked w.written w.reads t (need_of (A.RwLock l p)) ≡ true
    held p e =
        subst (λ (x : At). has_hold w.locked w.written w.reads t (need_of x) ≡ true) e (need-held w t (sound-clauses w snd).needs is-thread)

    pub read_held : (thread_at w t).at ≡ A.RwLock l Rw.ReadUnlock → 0 < reads_of w.reads l t
    unfolding has_hold is_held need_of RwP.needs_of
    read_held e = ltb-true 0 (reads_of w.reads l t) (held Rw.ReadUnlock e)

    pub write-held : (thread_at w t).at ≡ A.RwLock l Rw.WriteUnlock → holds_write w.written l t ≡ true
    unfolding has_hold is_held need_of RwP.needs_of
    write-held e = held Rw.WriteUnlock e

    pub down-held : (thread_at w t).at ≡ A.RwLock l (Rw.Downgrade D.Add) → holds_write w.written l t ≡ true
    unfolding has_hold is_held need_of RwP.needs_of RwP.downgrade_needs
    down-held e = held (Rw.Downgrade D.Add) e
