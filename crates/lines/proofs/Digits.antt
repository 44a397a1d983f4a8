-- A number's decimal digits are those that std writes, and how many there are. Assumes nothing.
use Prim.Native.Nat.{ℕ, zero, suc, ◌+◌, ◌/◌, ◌%◌, ◌^◌, ◌≤◌, ◌<◌}
use mathlib.Core.Bool.{Bool, true, false}
use mathlib.Core.Path.{◌≡◌, refl, ap, ◌∙◌}
use mathlib.Core.List.{[], ◌∷◌, ◌++◌}
use native.Mathlib.Nat.{pow-suc, div-lt_iff_lt-mul, lt_trans}
use native.Mathlib.Omega.{arith}
use lib.Dec.{ltb, lit<}
use lib.ListN.{length, length-append}
use borrow.Author.Tests.{lt-ltb, le-ltb, ltb-true, ltb-false}
use Rattle.std.specs.Fmt.{decimal}
use Rattle.std.proofs.lemmas.Fmt.{AppendsLastDigit, decimal_from_appends, length-decimal-le}
use Rattle.lines.specs.Lines.{digit, text_from, decimal_of}

one-digit : (more n : ℕ) → n < 10 → text_from (suc more) n ≡ digit n ∷ []
unfolding text_from
one-digit more n h = simp (lt-ltb n 10 h)

last-digit : (more n : ℕ) → 10 ≤ n → text_from (suc more) n ≡ text_from more (n / 10) ++ (digit (n % 10) ∷ [])
unfolding text_from
last-digit more n h = simp (le-ltb n 10 h)

appends : AppendsLastDigit text_from
appends = record { one = one-digit; more = last-digit }

-- the same digits, for a number of 64 bits
pub as_decimal : (n : ℕ) → n < 2 ^ 64 → decimal_of n ≡ decimal n
unfolding decimal_of
as_decimal n h = decimal_from_appends text_from appends 20 n h (length-decimal-le 20 n (lit< tt) (lt_trans h (lit< tt)) h)

-- one digit is enough, or not
digits-by : (n : ℕ) (P : Type 0) → (n < 10 → P) → (10 ≤ n → P) → P
digits-by n P small large = go (ltb n 10) refl
  where
    go : (b : Bool) → ltb n 10 ≡ b → P
    go true e = small (ltb-true n 10 e)
    go false e = large (ltb-false n 10 e)

-- a tenth has one digit less
tenth : (n k : ℕ) → n < 10 ^ suc k → n / 10 < 10 ^ k
tenth n k h = (div-lt_iff_lt-mul {k = 10} {x = n} {y = 10 ^ k} (lit< tt)).1 (rw pow-suc at h)

text-most : (more k n : ℕ) → n < 10 ^ suc k → length (text_from more n) ≤ suc k
unfolding text_from
text-most zero k n h = omega arith
text-most (suc more) zero n h = let e : length (text_from (suc more) n) ≡ 1 = ap length (one-digit more n h) in omega arith
text-most (suc more) (suc k) n h =
    let shorter : length (text_from more (n / 10)) ≤ suc k = text-most more k (n / 10) (tenth n (suc k) h) in
    digits-by
    n
    (length (text_from (suc more) n) ≤ suc (suc k))
    (λ s. let e : length (text_from (suc more) n) ≡ 1 = ap length (one-digit more n s) in omega arith)
    (λ l. let e : length (text_from (suc more) n) ≡ length (text_from more (n / 10)) + 1 = ap length (last-digit more n l) ∙ length-append (text_from more (n / 10)) (digit (n % 10) ∷ []) in omega arith)

-- no more digits than a power of ten that is larger says
pub decimal-most : (k n : ℕ) → n < 10 ^ suc k → length (decimal_of n) ≤ suc k
unfolding decimal_of
decimal-most k n h = text-most 20 k n h

-- a number of 8 bits, of 32, of 64
pub decimal_three : (n : ℕ) → n < 2 ^ 8 → length (decimal_of n) ≤ 3
decimal_three n h = decimal-most 2 n (lt_trans h (lit< tt))

pub decimal_ten : (n : ℕ) → n < 2 ^ 32 → length (decimal_of n) ≤ 10
decimal_ten n h = decimal-most 9 n (lt_trans h (lit< tt))

pub decimal_twenty : (n : ℕ) → n < 2 ^ 64 → length (decimal_of n) ≤ 20
decimal_twenty n h = decimal-most 19 n (lt_trans h (lit< tt))
