-- No step on a condvar looks at the choice or at the sleepers, and only the wakes of a notify and of a wait's unlock wake anybody.
-- Assumes nothing.
use mathlib.Core.Path.{◌≡◌, refl}
use mathlib.Core.Bool.{Bool, false}
use Prim.Native.Nat.{ℕ}
use lib.Dec.{eqb}
use Rattle.words.proofs.Cond.{either}
use Rattle.words.specs.declared.Wake.TheVariants as W
use Rattle.words.specs.declared.Step.{Step}
use Rattle.mutex.proofs.Laws.{lock-calm, unlock-calm}
use Rattle.condvar.specs.declared.WaitAt.{WaitAt}
use Rattle.condvar.specs.declared.WaitAt.TheVariants as Wt
use Rattle.condvar.specs.declared.NotifyAt.{NotifyAt}
use Rattle.condvar.specs.declared.NotifyAt.TheVariants as Nf
use Rattle.condvar.specs.declared.CondvarAt.{CondvarAt}
use Rattle.condvar.specs.declared.CondvarAt.TheVariants as A
use Rattle.condvar.specs.Condvar.{unlock_step, relock_step, wait_of, notify_of, decide_of, may_wake, wait_may_wake, notify_may_wake}

-- the choice and the sleepers decide nothing
pub plain : (at : CondvarAt) (f g : Bool) (word : ℕ) (a b : Bool) → decide_of at f word a ≡ decide_of at g word b
unfolding decide_of
plain (A.Wait mutex p) f g word a b = refl
plain (A.Notify all p) f g word a b = refl

wait-calm : (mutex : ℕ) (at : WaitAt) (word : ℕ) → wait_may_wake at ≡ false → (wait_of mutex at word).wake ≡ W.None
unfolding wait_of wait_may_wake unlock_step relock_step
wait-calm mutex Wt.Load word e = refl
wait-calm mutex (Wt.Unlock sequence p) word e = unlock-calm p word e
wait-calm mutex (Wt.Wait sequence) word e = either (λ (s : Step CondvarAt). s.wake ≡ W.None) (eqb word sequence) _ _ refl refl
wait-calm mutex (Wt.Relock p) word e = lock-calm p word

notify-calm : (all : Bool) (at : NotifyAt) (word : ℕ) → notify_may_wake at ≡ false → (notify_of all at word).wake ≡ W.None
unfolding notify_of notify_may_wake
notify-calm all Nf.Add word e = refl
notify-calm all Nf.Wake word e = cc

-- where `may_wake` says no, a step wakes nobody
pub calm : (at : CondvarAt) (f : Bool) (word : ℕ) (a : Bool) → may_wake at ≡ false → (decide_of at f word a).wake ≡ W.None
unfolding decide_of may_wake
calm (A.Wait mutex p) f word a e = wait-calm mutex p word e
calm (A.Notify all p) f word a e = notify-calm all p word e
