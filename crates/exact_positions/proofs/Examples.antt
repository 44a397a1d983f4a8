-- Tests with a condition left out are not exact: positions that such a test lets pass, each of which `passed_of` does not. Assumes nothing.
use mathlib.Core.Path.{◌≡◌, refl, sym, ◌∙◌}
use mathlib.Core.Bool.{Bool, true, false}
use Prim.Native.Nat.{◌+◌, ◌^◌, ◌<◌}
use native.Mathlib.Omega.{arith}
use Rattle.words.specs.RwLock.{MAX_READERS, READ_LOCKED, READERS_WAITING, WRITERS_WAITING, count, readers_waiting, writers_waiting, is_unlocked, has_readers_waiting, has_writers_waiting, is_read_lockable, has_reached_max_readers}
use Rattle.rwlock.specs.declared.ReadAt.TheVariants as R
use Rattle.rwlock.specs.declared.WriteAt.TheVariants as Wr
use Rattle.rwlock.specs.declared.RwLockAt.TheVariants as X
use Rattle.rwlock.specs.RwLock as Rw
use Rattle.rwlock.specs.Positions as RwP
use Rattle.calls.specs.declared.At.{At}
use Rattle.calls.specs.declared.At.TheVariants as A
use Rattle.calls.specs.Positions.{passed_of}
use Rattle.kept.proofs.Tests.{no_way}
use Rattle.exact_positions.specs.Exact.{Exact, Least, carries, rwlock_carries, read_carries, write_carries}
use Rattle.exact_positions.proofs.Proved.{only}

-- no test that lets the position pass is exact
abbrev pub Inexact : At → Type 1
Inexact at = (test : At → Bool) → test at ≡ true → Exact test → Least test → ⊥

inexact : (at : At) → carries at < 2 ^ 32 → passed_of at ≡ false → Inexact at
inexact at h n test e is-exact is-least = no_way (sym n ∙ sym (only test is-exact is-least at h) ∙ e)

-- a reader that sets the flag at the most readers, which `must_wait` rules out
pub most-readers-set-no-flag : Inexact (A.RwLock 0 (X.Read (R.SetWaiting false MAX_READERS)))
unfolding carries rwlock_carries read_carries passed_of RwP.passed_of RwP.read_passed RwP.must_wait Rw.may_read is_read_lockable has_reached_max_readers has_readers_waiting has_writers_waiting count readers_waiting writers_waiting
most-readers-set-no-flag = inexact (A.RwLock 0 (X.Read (R.SetWaiting false MAX_READERS))) (omega arith) refl

-- a reader that waits there, which `read_waits` rules out
pub most-readers-wait-not : Inexact (A.RwLock 0 (X.Read (R.Wait (MAX_READERS + READERS_WAITING))))
unfolding carries rwlock_carries read_carries passed_of RwP.passed_of RwP.read_passed RwP.read_waits has_reached_max_readers has_readers_waiting count readers_waiting
most-readers-wait-not = inexact (A.RwLock 0 (X.Read (R.Wait (MAX_READERS + READERS_WAITING)))) (omega arith) refl

-- a writer that sets a flag which it has seen set, which `write_waits` rules out
pub flag-set-once : Inexact (A.RwLock 0 (X.Write (Wr.SetWaiting false (READ_LOCKED + WRITERS_WAITING))))
unfolding carries rwlock_carries write_carries passed_of RwP.passed_of RwP.write_passed RwP.write_waits is_unlocked has_writers_waiting count writers_waiting
flag-set-once = inexact (A.RwLock 0 (X.Write (Wr.SetWaiting false (READ_LOCKED + WRITERS_WAITING)))) (omega arith) refl

-- a spin more than there are
pub spins-are-bounded : Inexact (A.RwLock 0 (X.Write (Wr.Spin false 101)))
unfolding carries rwlock_carries write_carries passed_of RwP.passed_of RwP.write_passed
spins-are-bounded = inexact (A.RwLock 0 (X.Write (Wr.Spin false 101))) (omega arith) refl
