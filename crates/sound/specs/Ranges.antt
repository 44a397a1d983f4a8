-- A test, a sum and a count over a range of numbers. Assumes nothing.
use Rattle.std.specs.Prelude.{ℕ, Bool}
use Rattle.std.specs.List.{range_with_len, list_all, sum_by, count_by}

-- each of the n numbers from i on passes a test
unfoldable pub all_from : (ℕ → Bool) → ℕ → ℕ → Bool
all_from f n i = list_all f (range_with_len i n)

-- what a function gives at the n numbers from i on, added up
unfoldable pub sum_from : (ℕ → ℕ) → ℕ → ℕ → ℕ
sum_from f n i = sum_by f (range_with_len i n)

-- how many of the n numbers from i on pass a test
unfoldable pub count_from : (ℕ → Bool) → ℕ → ℕ → ℕ
count_from f n i = count_by f (range_with_len i n)
