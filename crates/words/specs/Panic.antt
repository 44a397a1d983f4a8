-- The panics that a call can end with, and the numbers that they are told with. Assumes nothing.
use Rattle.std.specs.Prelude.{ℕ}
use Rattle.words.specs.declared.Panic.{Panic}
use Rattle.words.specs.declared.Panic.TheVariants as P

-- a reader that may not lock and sees the most readers; a Once found POISONED and not ignored; a closure that panicked
abbrev pub number_of : Panic → ℕ
number_of P.TooManyReaders = 1
number_of P.OncePoisoned = 2
number_of P.InClosure = 3
