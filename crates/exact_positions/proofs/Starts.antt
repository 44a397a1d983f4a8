-- Where acts lead to begin with: the start of each call, and the idle thread that an ended call leaves. Assumes nothing.
use mathlib.Core.Path.{refl}
use mathlib.Core.Bool.{false}
use Prim.Native.Nat.{ℕ, ◌<◌}
use native.Mathlib.Omega.{arith}
use Rattle.mutex.specs.declared.MutexAt.TheVariants as M
use Rattle.mutex.specs.Mutex as Mx
use Rattle.calls.specs.declared.At.{At}
use Rattle.calls.specs.declared.At.TheVariants as A
use Rattle.calls.specs.Plans.{done, decide_of, plan_of}
use Rattle.calls.specs.Positions.{entry_of, in_closure, is_idle}
use Rattle.acts.specs.Refusals.{choices_of, step_refusal}
use Rattle.kept.specs.Laws.{kind_of, largest}
use Rattle.exact_positions.specs.Exact.{Led, begun, stepped}

module _ (P : At → Type 0) (led : (at : At) → Led P at → P at) where
  pub begins : (call object mutex : ℕ) → call < 20 → P (entry_of call object mutex)
  unfolding choices_of
  begins call object mutex h = led (entry_of call object mutex) (begun call object mutex h)

  pub idle-led : P A.Idle
  unfolding entry_of decide_of plan_of done Mx.entry_of Mx.decide_of Mx.try_lock_of step_refusal is_idle in_closure kind_of Mx.operand_of largest
  idle-led = led A.Idle (stepped (A.Mutex 0 M.TryLock) 0 0 false (begins 1 0 0 (omega arith)) refl (omega arith))
