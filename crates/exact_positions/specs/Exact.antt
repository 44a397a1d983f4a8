-- The second clause of soundness is exact: a position passes if acts lead there, and only then. Here are the definitions that the sentences
-- use and the sentences, each a type; that they hold is proofs/Proved.antt. Assumes nothing.
use Rattle.std.specs.Prelude.{◌≡◌, Bool, true, ℕ, ◌^◌, ◌≤◌, ◌<◌, eqb}
use Rattle.mutex.specs.declared.MutexAt.{MutexAt}
use Rattle.rwlock.specs.declared.ReadAt.{ReadAt}
use Rattle.rwlock.specs.declared.ReadAt.TheVariants as R
use Rattle.rwlock.specs.declared.TryAt.{TryAt}
use Rattle.rwlock.specs.declared.TryAt.TheVariants as T
use Rattle.rwlock.specs.declared.WriteAt.{WriteAt}
use Rattle.rwlock.specs.declared.WriteAt.TheVariants as Wr
use Rattle.rwlock.specs.declared.RwLockAt.{RwLockAt}
use Rattle.rwlock.specs.declared.RwLockAt.TheVariants as X
use Rattle.condvar.specs.declared.WaitAt as CondvarWait
use Rattle.condvar.specs.declared.WaitAt.TheVariants as Cw
use Rattle.condvar.specs.declared.CondvarAt.{CondvarAt}
use Rattle.condvar.specs.declared.CondvarAt.TheVariants as C
use Rattle.once.specs.declared.CallAt.{CallAt}
use Rattle.once.specs.declared.CallAt.TheVariants as Oc
use Rattle.once.specs.declared.WaitAt as OnceWait
use Rattle.once.specs.declared.WaitAt.TheVariants as Ow
use Rattle.once.specs.declared.Ending.{Ending}
use Rattle.once.specs.declared.OnceAt.{OnceAt}
use Rattle.once.specs.declared.OnceAt.TheVariants as O
use Rattle.thread_parking.specs.declared.ParkerAt.{ParkerAt}
use Rattle.mutex.specs.Mutex as Mx
use Rattle.rwlock.specs.Positions as RwP
use Rattle.condvar.specs.Condvar as Cv
use Rattle.once.specs.Once as On
use Rattle.thread_parking.specs.ThreadParking as Pk
use Rattle.calls.specs.declared.At.{At}
use Rattle.calls.specs.declared.At.TheVariants as A
use Rattle.calls.specs.Plans.{awake, asleep, decide_of}
use Rattle.calls.specs.Positions.{entry_of, after_wait, waits_of, passed_of}
use Rattle.step.specs.Acts.{closed_at}
use Rattle.acts.specs.Refusals.{BEGIN, choices_of, step_refusal, wake_refusal, close_refusal}
use Rattle.kept.specs.Laws.{kind_of, largest}

-- the word that a position carries, a state or a sequence seen; 0 where it carries none
unfoldable pub read_carries : ReadAt → ℕ
read_carries R.Load = 0
read_carries (R.Exchange seen) = seen
read_carries (R.Spin slept left) = 0
read_carries (R.ExchangeContended slept seen) = seen
read_carries (R.SetWaiting slept seen) = seen
read_carries (R.Wait seen) = seen

unfoldable pub try_carries : TryAt → ℕ
try_carries T.Load = 0
try_carries (T.Exchange seen) = seen

unfoldable pub write_carries : WriteAt → ℕ
write_carries Wr.Exchange = 0
write_carries (Wr.Spin others left) = 0
write_carries (Wr.ExchangeContended others seen) = seen
write_carries (Wr.SetWaiting others seen) = seen
write_carries Wr.LoadSequence = 0
write_carries (Wr.LoadState sequence) = sequence
write_carries (Wr.Wait sequence) = sequence

unfoldable pub rwlock_carries : RwLockAt → ℕ
rwlock_carries (X.Read p) = read_carries p
rwlock_carries (X.TryRead p) = try_carries p
rwlock_carries X.ReadUnlock = 0
rwlock_carries (X.Write p) = write_carries p
rwlock_carries (X.TryWrite p) = try_carries p
rwlock_carries X.WriteUnlock = 0
rwlock_carries (X.Wake writer p) = 0
rwlock_carries (X.Downgrade p) = 0

unfoldable pub wait_carries : CondvarWait.WaitAt → ℕ
wait_carries Cw.Load = 0
wait_carries (Cw.Unlock sequence p) = sequence
wait_carries (Cw.Wait sequence) = sequence
wait_carries (Cw.Relock p) = 0

unfoldable pub condvar_carries : CondvarAt → ℕ
condvar_carries (C.Wait mutex p) = wait_carries p
condvar_carries (C.Notify all p) = 0

unfoldable pub call_carries : CallAt → ℕ
call_carries Oc.Load = 0
call_carries (Oc.ExchangeRunning seen) = seen
call_carries Oc.Closure = 0
call_carries (Oc.Swap ending) = 0
call_carries (Oc.WakeAll panicking) = 0
call_carries (Oc.ExchangeQueued seen) = seen
call_carries (Oc.Wait seen) = seen

unfoldable pub once_wait_carries : OnceWait.WaitAt → ℕ
once_wait_carries Ow.Load = 0
once_wait_carries (Ow.ExchangeQueued seen) = seen
once_wait_carries (Ow.Wait seen) = seen

unfoldable pub once_carries : OnceAt → ℕ
once_carries (O.Call ignores p) = call_carries p
once_carries (O.Wait ignores p) = once_wait_carries p
once_carries O.IsCompleted = 0

unfoldable pub carries : At → ℕ
carries A.Idle = 0
carries (A.Mutex mutex p) = 0
carries (A.RwLock lock p) = rwlock_carries p
carries (A.Condvar condvar p) = condvar_carries p
carries (A.Once once p) = once_carries p
carries (A.Parker p) = 0

-- a position passes a test, with a word of 32 bits, as every word that the code carries is; clause 2's test is `passed_of`
pub record PassesBy (test : At → Bool) (at : At) : Type 0 where
  pub passed : test at ≡ true
  pub wide : carries at < 2 ^ 32

abbrev pub Passes : At → Type 0
Passes = PassesBy passed_of

-- where one act leads: a begin to a call's start, and from a position of which P holds a step, a wake or a close that is not refused. A step
-- is at some word that such a word may be in a sound world, with or without somebody asleep on it; a sleeper stands at a futex_wait.
pub data Led (P : At → Type 0) : At → Type 0 where
  begun : (call object mutex : ℕ) → call < choices_of BEGIN → Led P (entry_of call object mutex)
  stepped :
      (at : At) (choice word : ℕ) (anyone : Bool) → P at → step_refusal (awake at) choice ≡ 0 → word ≤ largest (kind_of at) →
      Led P (decide_of at (eqb choice 1) word anyone).next.at
  woken : (at : At) → P at → waits_of at ≡ true → wake_refusal (asleep at) ≡ 0 → Led P (after_wait at)
  closed : (ending : Ending) (at : At) → P at → close_refusal (awake at) ≡ 0 → Led P (closed_at ending at)

-- 1. A position passes exactly if an act leads there, from a position that passes if from any.
abbrev pub Exact : (At → Bool) → Type 0
Exact test = (at : At) → (PassesBy test at → Led (PassesBy test) at) × (Led (PassesBy test) at → PassesBy test at)

-- 2. And what passes is led to from the start of a call: what holds wherever acts lead from where it holds, holds of it. Without this no bound
-- on spins would be needed, since each number of spins left is led to from one more.
abbrev pub Least : (At → Bool) → Type 1
Least test = (P : At → Type 0) → ((at : At) → Led P at → P at) → (at : At) → PassesBy test at → P at

-- 3. Of no other test do both hold: one with a condition left out, or one too many, is not exact.
abbrev pub Only : Type 1
Only = (test : At → Bool) → Exact test → Least test → (at : At) → carries at < 2 ^ 32 → test at ≡ passed_of at

-- 4. The first for the test of each module; where a test fixes the words that its positions carry, or none is carried, no width is asked for.
pub record ExactModules : Type 0 where
  pub mutex : (m : ℕ) (p : MutexAt) → (Mx.passed_of p ≡ true → Led Passes (A.Mutex m p)) × (Led Passes (A.Mutex m p) → Mx.passed_of p ≡ true)
  pub rwlock :
      (l : ℕ) (p : RwLockAt) → rwlock_carries p < 2 ^ 32 →
      (RwP.passed_of p ≡ true → Led Passes (A.RwLock l p)) × (Led Passes (A.RwLock l p) → RwP.passed_of p ≡ true)
  pub condvar :
      (c : ℕ) (p : CondvarAt) → condvar_carries p < 2 ^ 32 →
      (Cv.passed_of p ≡ true → Led Passes (A.Condvar c p)) × (Led Passes (A.Condvar c p) → Cv.passed_of p ≡ true)
  pub once : (o : ℕ) (p : OnceAt) → (On.passed_of p ≡ true → Led Passes (A.Once o p)) × (Led Passes (A.Once o p) → On.passed_of p ≡ true)
  pub parker : (p : ParkerAt) → (Pk.passed_of p ≡ true → Led Passes (A.Parker p)) × (Led Passes (A.Parker p) → Pk.passed_of p ≡ true)
