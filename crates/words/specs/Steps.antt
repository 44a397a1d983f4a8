-- What a step of a module does, over the module's positions. Assumes nothing.
use Rattle.std.specs.Prelude.{ℕ, ◌≡◌}
use Rattle.words.specs.declared.Hold.{Hold}
use Rattle.words.specs.declared.Hold.TheVariants as H
use Rattle.words.specs.declared.Wake.{Wake}
use Rattle.words.specs.declared.Wake.TheVariants as W
use Rattle.words.specs.declared.Panic.{Panic}
use Rattle.words.specs.declared.Next.{Next}
use Rattle.words.specs.declared.Next.TheVariants as N
use Rattle.words.specs.declared.Step.{Step}

-- a step leads on, sleeps, ends the call with a value, panics, or enters a closure
abbrev pub moves_with : {A : Type 0} → ℕ → A → Hold → Wake → Step A
moves_with word at hold wake = record { word = word; next = N.Moved at; hold = hold; wake = wake }

abbrev pub moves : {A : Type 0} → ℕ → A → Step A
moves word at = moves_with word at H.Same W.None

abbrev pub sleeps : {A : Type 0} → ℕ → Step A
sleeps word = record { word = word; next = N.Asleep; hold = H.Same; wake = W.None }

abbrev pub ends : {A : Type 0} → ℕ → ℕ → Hold → Wake → Step A
ends word value hold wake = record { word = word; next = N.Ended value; hold = hold; wake = wake }

abbrev pub panics : {A : Type 0} → ℕ → Panic → Wake → Step A
panics word panic wake = record { word = word; next = N.Panics panic; hold = H.Same; wake = wake }

abbrev pub enters : {A : Type 0} → ℕ → A → Step A
enters word at = record { word = word; next = N.Closure at; hold = H.Same; wake = W.None }

-- the same step, with its position where a function has it
abbrev pub map_next : {A B : Type 0} → (A → B) → Next A → Next B
map_next f (N.Moved at) = N.Moved (f at)
map_next f N.Asleep = N.Asleep
map_next f (N.Ended value) = N.Ended value
map_next f (N.Panics panic) = N.Panics panic
map_next f (N.Closure at) = N.Closure (f at)

abbrev pub map_step : {A B : Type 0} → (A → B) → Step A → Step B
map_step f s = record { word = s.word; next = map_next f s.next; hold = s.hold; wake = s.wake }

-- .. that goes on at `after` where this one ends
abbrev pub then_next : {A B : Type 0} → (A → B) → B → Next A → Next B
then_next f after (N.Moved at) = N.Moved (f at)
then_next f after N.Asleep = N.Asleep
then_next f after (N.Ended value) = N.Moved after
then_next f after (N.Panics panic) = N.Panics panic
then_next f after (N.Closure at) = N.Closure (f at)

abbrev pub then_step : {A B : Type 0} → (A → B) → B → Step A → Step B
then_step f after s = record { word = s.word; next = then_next f after s.next; hold = s.hold; wake = s.wake }
