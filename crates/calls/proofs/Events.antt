-- The count of the woken does not change the kind of an event. Assumes nothing.
use mathlib.Core.Path.{◌≡◌, refl}
use Prim.Native.Nat.{ℕ}
use Rattle.calls.specs.declared.Event.{Event}
use Rattle.calls.specs.declared.Event.TheVariants as E
use Rattle.calls.specs.Events.{tell_of, event_kind}

pub tell-kind : (e : Event) (n : ℕ) → event_kind (tell_of e n) ≡ event_kind e
unfolding tell_of
tell-kind E.Set n = refl
tell-kind E.Begun n = refl
tell-kind (E.Moved woken) n = refl
tell-kind (E.Done value woken) n = refl
tell-kind E.Slept n = refl
tell-kind (E.Panic number woken) n = refl
tell-kind E.Closure n = refl
tell-kind E.Woken n = refl
tell-kind E.Closed n = refl
tell-kind (E.Refused number) n = refl
