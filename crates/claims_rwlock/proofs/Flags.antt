-- Where R0 to R5 hold of an RwLock, a state with READERS_WAITING under a thread that is about to free a read hold has WRITERS_WAITING too:
-- what read_unlock's debug_assert asks. It needs no premise. Assumes nothing.
use mathlib.Core.Path.{◌≡◌, sym, ap, ◌∙◌}
use mathlib.Core.Logic.{◌⊎◌, inl, inr, ◌≢◌}
use mathlib.Core.Bool.{true}
use Prim.Native.Nat.{ℕ, ◌≤◌, ◌<◌}
use native.Mathlib.Omega.{arith}
use Rattle.words.specs.RwLock.{count, readers_waiting, writers_waiting}
use Rattle.rwlock.specs.declared.RwLockAt.TheVariants as Rw
use Rattle.queue.specs.Row.{THREADS}
use Rattle.calls.specs.declared.At.TheVariants as A
use Rattle.calls.specs.Objects.{RWLOCKS}
use Rattle.world.specs.declared.World.{World}
use Rattle.world.specs.World.{thread_at}
use Rattle.world.specs.Holds.{reads_of}
use Rattle.sound.specs.Sound.{sound_world}
use Rattle.kept.specs.Shape.{Shaped}
use Rattle.kept.proofs.Tests.{no_way}
use Rattle.claims_rwlock.proofs.Codes.{at_subtract}
use Rattle.claims_rwlock.proofs.Points.{Some}
use Rattle.claims_rwlock.proofs.Moves.{stands}
use Rattle.claims_rwlock.proofs.View.{state_at, view_of}
use Rattle.claims_rwlock.proofs.Carried.{lock_downer, Downs, same-position}
use Rattle.claims_rwlock.proofs.Where.{is-subtract, one_reader, two-readers, read_held}
use Rattle.claims_rwlock.proofs.Near.{Holds, down-thread}

pub flags-at :
    {Few : Type 0} (l : ℕ) → l < RWLOCKS → (w : World) → sound_world w ≡ true → Shaped w → (n : ℕ) → Holds Few l w n → (t : ℕ) → t < THREADS →
    (thread_at w t).at ≡ A.RwLock l Rw.ReadUnlock → readers_waiting (state_at w l) ≡ 1 → writers_waiting (state_at w l) ≡ 1
flags-at l is-lock w snd shp n B t is-thread at-is one =
    let a : 0 < reads_of w.reads l t = read_held w l snd is-lock t is-thread at-is in
    let c = one_reader w l snd is-lock t is-thread a in
    go a (B.inv.r2 c.0 c.1 one)
  where
    go :
        0 < reads_of w.reads l t →
        (writers_waiting (state_at w l) ≡ 1) ⊎ ((count (state_at w l) ≡ 1) × Some (stands at_subtract) (view_of l w n B.since).of) →
        writers_waiting (state_at w l) ≡ 1
    go a (inl e) = e
    go a (inr (e, (u, h))) =
        let d : Downs l (thread_at w u).at = is-subtract l (B.since u) (thread_at w u) h in
        let m : 2 ≤ count (state_at w l) = two-readers w l snd is-lock t u is-thread (down-thread l w shp u d) (other u d) a (B.downers u d) in
        absurd (omega arith)
      where
        other : (u : ℕ) → Downs l (thread_at w u).at → u ≢ t
        other u d q =
            let z : A.RwLock l Rw.ReadUnlock ≡ A.RwLock l d.0 = sym at-is ∙ (ap (λ (i : ℕ). (thread_at w i).at) (sym q) ∙ d.1.0) in
            no_way (ap lock_downer (same-position l Rw.ReadUnlock d.0 z) ∙ d.1.1)
