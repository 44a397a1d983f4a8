-- A list of acts gives no more writer notifications of a lock than it has acts. Assumes nothing.
use Prim.Native.Nat.{ℕ, ◌≤◌}
use native.Mathlib.Omega.{arith}
use mathlib.Core.List.{List, [], ◌∷◌}
use lib.ListN.{length}
use Rattle.words.proofs.Cond.{either}
use Rattle.calls.specs.declared.Event.{Event}
use Rattle.calls.specs.declared.Event.TheVariants as E
use Rattle.world.specs.declared.World.{World}
use Rattle.world.specs.World.{thread_at}
use Rattle.acts.specs.declared.Fields.{Fields}
use Rattle.acts.specs.Acts.{act_of}
use Rattle.claims.specs.Claims.{notifies_next, notifies, notifications_from}

-- an act notifies once at the most
notifies-once : (lock : ℕ) (w : World) (a : Fields) (event : Event) → notifies lock w a event ≤ 1
unfolding notifies
notifies-once lock w a E.Set = omega arith
notifies-once lock w a E.Begun = omega arith
notifies-once lock w a (E.Moved woken) =
    either (λ (n : ℕ). n ≤ 1) (notifies_next lock (thread_at w a.thread).at) 1 0 (omega arith) (omega arith)
notifies-once lock w a (E.Done value woken) = omega arith
notifies-once lock w a E.Slept = omega arith
notifies-once lock w a (E.Panic number woken) = omega arith
notifies-once lock w a E.Closure = omega arith
notifies-once lock w a E.Woken = omega arith
notifies-once lock w a E.Closed = omega arith
notifies-once lock w a (E.Refused number) = omega arith

pub notifications-few : (w : World) (acts : List Fields) (lock : ℕ) → notifications_from w acts lock ≤ length acts
unfolding notifications_from
notifications-few w [] lock = omega arith
notifications-few w (a ∷ acts) lock =
    omega (arith, notifies-once lock w a (act_of w a).event, notifications-few (act_of w a).world acts lock)
