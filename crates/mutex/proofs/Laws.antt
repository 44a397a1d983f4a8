-- No step of a mutex looks at the choice or at the sleepers, and only `unlock`'s wake wakes anybody. Assumes nothing.
use mathlib.Core.Path.{◌≡◌, refl}
use mathlib.Core.Bool.{Bool, false, not, ◌&&◌}
use Prim.Native.Nat.{ℕ}
use lib.Dec.{eqb}
use Rattle.words.proofs.Cond.{either}
use Rattle.words.specs.Mutex.{is_unlocked, is_locked, is_contended}
use Rattle.words.specs.declared.Wake.TheVariants as W
use Rattle.words.specs.declared.Step.{Step}
use Rattle.words.specs.Steps.{moves}
use Rattle.mutex.specs.declared.LockAt.{LockAt}
use Rattle.mutex.specs.declared.LockAt.TheVariants as L
use Rattle.mutex.specs.declared.UnlockAt.{UnlockAt}
use Rattle.mutex.specs.declared.UnlockAt.TheVariants as U
use Rattle.mutex.specs.declared.MutexAt.{MutexAt}
use Rattle.mutex.specs.declared.MutexAt.TheVariants as M
use Rattle.mutex.specs.Mutex.{takes, contended, spun, lock_of, try_lock_of, unlock_of, decide_of, may_wake, unlock_may_wake}

-- the choice and the sleepers decide nothing
pub plain : (at : MutexAt) (f g : Bool) (word : ℕ) (a b : Bool) → decide_of at f word a ≡ decide_of at g word b
unfolding decide_of
plain (M.Lock p) f g word a b = refl
plain M.TryLock f g word a b = refl
plain (M.Unlock p) f g word a b = refl

Calm : Step LockAt → Type 0
Calm s = s.wake ≡ W.None

moves-calm : (word : ℕ) (at : LockAt) → Calm (moves word at)
unfolding Calm
moves-calm word at = refl

contended-calm : (state : ℕ) → Calm (contended state)
unfolding contended
contended-calm state = either Calm (is_contended state) _ _ (moves-calm state L.Wait) (moves-calm state L.Swap)

spun-calm : (state : ℕ) → Calm (spun state)
unfolding spun
spun-calm state = either Calm (is_unlocked state) _ _ (moves-calm state L.ExchangeAgain) (contended-calm state)

-- no step of `lock` wakes anybody
pub lock-calm : (at : LockAt) (word : ℕ) → (lock_of at word).wake ≡ W.None
unfolding lock_of takes Calm
lock-calm L.Exchange word = either Calm (is_unlocked word) _ _ refl refl
lock-calm (L.Spin left) word = either Calm (is_locked word && not (eqb left 0)) _ _ refl (spun-calm word)
lock-calm L.ExchangeAgain word = either Calm (is_unlocked word) _ _ refl (contended-calm word)
lock-calm L.Swap word = either Calm (is_unlocked word) _ _ refl refl
lock-calm L.Wait word = either Calm (is_contended word) _ _ refl refl
lock-calm (L.SpinAgain left) word = either Calm (is_locked word && not (eqb left 0)) _ _ refl (contended-calm word)

-- where `may_wake` says no, a step wakes nobody
pub unlock-calm : (at : UnlockAt) (word : ℕ) → unlock_may_wake at ≡ false → (unlock_of at word).wake ≡ W.None
unfolding unlock_of unlock_may_wake
unlock-calm U.Swap word e = either (λ (s : Step UnlockAt). s.wake ≡ W.None) (is_contended word) _ _ refl refl
unlock-calm U.Wake word e = cc

pub calm : (at : MutexAt) (f : Bool) (word : ℕ) (a : Bool) → may_wake at ≡ false → (decide_of at f word a).wake ≡ W.None
unfolding decide_of may_wake try_lock_of
calm (M.Lock p) f word a e = lock-calm p word
calm M.TryLock f word a e = either (λ (s : Step MutexAt). s.wake ≡ W.None) (is_unlocked word) _ _ refl refl
calm (M.Unlock p) f word a e = unlock-calm p word e
