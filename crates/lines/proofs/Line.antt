-- A line's fields one by one, and how long it is. Assumes nothing.
use Prim.Native.Nat.{ℕ, ◌+◌, ◌^◌, ◌≤◌, ◌<◌}
use mathlib.Core.Path.{◌≡◌}
use mathlib.Core.List.{[], ◌++◌, append_assoc}
use native.Mathlib.Omega.{arith}
use lib.ListN.{length, length-append}
use Rattle.calls.specs.declared.Event.{Event}
use Rattle.calls.specs.declared.Event.TheVariants as E
use Rattle.calls.specs.Events.{value_of, woken_of}
use Rattle.lines.specs.Lines.{decimal_of, name_of, space, newline, line_of, LINE}
use Rattle.lines.proofs.Digits.{decimal_three, decimal_ten}

module _ (number : ℕ) (event : Event) where
  -- the order in which the code puts them, from the last
  pub line_joined : line_of number event ≡ decimal_of number ++ (space ++ (name_of event ++ (space ++ (decimal_of (value_of event) ++ (space ++ (decimal_of (woken_of event) ++ (newline ++ [])))))))
  unfolding line_of
  line_joined = simp append_assoc

  -- the digits, the name and four bytes between and behind them
  pub line-sum : length (line_of number event) ≡ length (decimal_of number) + length (name_of event) + length (decimal_of (value_of event)) + length (decimal_of (woken_of event)) + 4
  unfolding line_of
  line-sum = simp length-append (omega arith)

-- a name has at most seven bytes
pub name-length : (event : Event) → length (name_of event) ≤ 7
unfolding name_of
name-length E.Set = omega arith
name-length E.Begun = omega arith
name-length (E.Moved woken) = omega arith
name-length (E.Done value woken) = omega arith
name-length E.Slept = omega arith
name-length (E.Panic number woken) = omega arith
name-length E.Closure = omega arith
name-length E.Woken = omega arith
name-length E.Closed = omega arith
name-length (E.Refused number) = omega arith

-- a line has at least one byte
pub line-some : (number : ℕ) (event : Event) → 1 ≤ length (line_of number event)
line-some number event = omega (arith, line-sum number event)

-- and at most LINE, where the numbers are of the code's widths
pub line-bounds : (number : ℕ) (event : Event) → number < 2 ^ 32 → value_of event < 256 → woken_of event < 256 → (1 ≤ length (line_of number event)) × (length (line_of number event) ≤ LINE)
line-bounds number event n v w =
    (line-some number event, omega (arith, line-sum number event, name-length event, decimal_ten number n, decimal_three (value_of event) v, decimal_three (woken_of event) w))
