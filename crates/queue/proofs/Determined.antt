-- Every contract of this crate determines its result: any two results that it allows are equal. Assumes nothing.
use Prim.Native.Nat.{ℕ}
use mathlib.Core.Bool.{Bool}
use mathlib.Core.List.{List}
use Rattle.words.specs.Determined.{Determined, determined}
use Rattle.queue.specs.declared.Row.{Row}
use Rattle.words.specs.Found.{found}
use Rattle.queue.specs.Row.{THREADS, sleepers, empty_row, push_of, answer_of, take_out_of, thread_of, is_wanted, place_of, without_of, occ, is_tidy}

pub empty-determined : Determined empty_row
empty-determined = determined empty_row

pub new-determined : Determined empty_row
new-determined = empty-determined

-- the row after a push or a taking out, and the answer
pub push-determined : (row : Row) (thread : ℕ) → Determined (push_of row thread).row × Determined (answer_of (push_of row thread))
push-determined row thread = (determined (push_of row thread).row, determined (answer_of (push_of row thread)))

pub take-out-determined : (row : Row) (place : ℕ) → Determined (take_out_of row place).row × Determined (thread_of (take_out_of row place))
take-out-determined row place = (determined (take_out_of row place).row, determined (thread_of (take_out_of row place)))

-- a table of flags as a test
pub passes-determined : (wanted : List Bool) (thread : ℕ) → Determined (is_wanted wanted thread)
passes-determined wanted thread = determined (is_wanted wanted thread)

-- f is the caller's test, `T.passes wanted`; for a table of flags it is `is_wanted` of it
pub place-of-determined : (f : ℕ → Bool) (row : Row) → Determined (found THREADS (place_of f row))
place-of-determined f row = determined (found THREADS (place_of f row))

pub without-determined : (f : ℕ → Bool) (row : Row) → Determined (without_of f row)
without-determined f row = determined (without_of f row)

pub occurrences-determined : (row : Row) (thread : ℕ) → Determined (occ thread (sleepers row))
occurrences-determined row thread = determined (occ thread (sleepers row))

pub is-tidy-determined : (row : Row) → Determined (is_tidy row)
is-tidy-determined row = determined (is_tidy row)
