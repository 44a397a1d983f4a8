-- The tally's counts one by one, and how long its line is. Assumes nothing.
use Prim.Native.Nat.{◌+◌, ◌^◌, ◌≤◌, ◌<◌}
use mathlib.Core.Path.{◌≡◌}
use mathlib.Core.List.{[], ◌++◌, append_assoc}
use native.Mathlib.Omega.{arith}
use lib.ListN.{length, length-append}
use Rattle.tally.specs.declared.Tally.{Tally}
use Rattle.lines.specs.Lines.{decimal_of, space, newline, grants_name, sleeps_name, wakes_name, panics_name, refused_name, tally_line, TALLY_LINE}
use Rattle.lines.proofs.Digits.{decimal_twenty}

module _ (t : Tally) where
  -- the order in which the code puts them, from the last
  pub tally_joined : tally_line t ≡
      (grants_name ++ space) ++ (decimal_of t.grants ++ ((space ++ sleeps_name ++ space) ++ (decimal_of t.sleeps ++ ((space ++ wakes_name ++ space) ++ (decimal_of t.wakes
      ++ ((space ++ panics_name ++ space) ++ (decimal_of t.panics ++ ((space ++ refused_name ++ space) ++ (decimal_of t.refused ++ (newline ++ []))))))))))
  unfolding tally_line
  tally_joined = simp append_assoc

  -- the digits, and forty bytes of names, spaces and the newline
  pub tally-sum : length (tally_line t) ≡ length (decimal_of t.grants) + length (decimal_of t.sleeps) + length (decimal_of t.wakes) + length (decimal_of t.panics) + length (decimal_of t.refused) + 40
  unfolding tally_line
  tally-sum = simp length-append (omega arith)

  -- the line of a tally whose counts have 64 bits has at most TALLY_LINE bytes
  pub tally-bounds : t.grants < 2 ^ 64 → t.sleeps < 2 ^ 64 → t.wakes < 2 ^ 64 → t.panics < 2 ^ 64 → t.refused < 2 ^ 64 → (1 ≤ length (tally_line t)) × (length (tally_line t) ≤ TALLY_LINE)
  tally-bounds g s w p r = (
    omega (arith, tally-sum),
    omega (arith, tally-sum, decimal_twenty t.grants g, decimal_twenty t.sleeps s, decimal_twenty t.wakes w, decimal_twenty t.panics p, decimal_twenty t.refused r),
  )
