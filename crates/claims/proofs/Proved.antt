-- Demand 3 holds: each sentence of specs/Claims.antt. The premise of the RwLock's sentence is needed: crates/claims_examples. Assumes nothing.
use Rattle.keeps.proofs.Keeps.{acts-sound}
use Rattle.claims.specs.Claims.{reached, EveryList, EveryReplay, EverySetWorld}
use Rattle.claims.proofs.Told.{tables-told}
use Rattle.claims.proofs.Counting.{mutex-counted, lock-counted}
use Rattle.claims.proofs.MutexClaim.{mutex-wakes}
use Rattle.claims.proofs.LockClaim.{lock-sleepers, lock-wakes, locks-wake, read-unlock-flags}
use Rattle.claims.proofs.Narrow.{reached-narrow}
use Rattle.claims.proofs.Asserts.{no-assert-fails}
use Rattle.claims.proofs.Quiet.{quiet-mutexes, quiet-locks}
use Rattle.claims.proofs.Replay as Rp
use Rattle.claims.proofs.Sets as St

-- 2. to 5., 8. and 10., of every list of acts
pub demand-three : EveryList
demand-three acts sized =
    let s = acts-sound acts sized in
    record {
      tables = tables-told acts sized;
      mutexes = mutex-counted acts sized;
      locks = lock-counted acts sized;
      mutex-wakes = mutex-wakes acts sized;
      lock-sleepers = lock-sleepers acts sized;
      lock-wakes = lock-wakes acts sized;
      locks-wake = locks-wake acts sized;
      asserts =
          no-assert-fails (reached acts) s.0 s.1 (λ lock t is-lock is-thread. read-unlock-flags acts sized lock is-lock t is-thread)
          (reached-narrow acts sized);
      quiet-mutexes = quiet-mutexes acts sized;
      quiet-locks = quiet-locks acts sized;
    }

-- 7. of every replay, with no premise
pub every-replay : EveryReplay
every-replay = Rp.every-replay demand-three

-- 9. of every world that set acts alone made
pub every-set-world : EverySetWorld
every-set-world = St.every-set-world
