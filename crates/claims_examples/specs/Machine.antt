-- One name for every definition that an act passes through and those of the history and the notifications, so that a proof by computation
-- opens them all by it. Assumes nothing.
use Rattle.std.specs.Prelude.{ℕ}
use Rattle.acts.proofs.Machine as Acts
use Rattle.claims.specs.Claims as Claims

unfoldable pub machine : ℕ
unfolding Acts.machine Claims.unlock_marks Claims.mutex_marks Claims.wait_marks Claims.downgrade_marks Claims.rwlock_marks Claims.step_marks Claims.answer_marks Claims.history_from Claims.begun Claims.ended Claims.held Claims.forgotten_from Claims.wake_notifies Claims.lock_notifies Claims.notifies_next Claims.notifies Claims.notifications_from
machine = 0
