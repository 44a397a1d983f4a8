-- A flag in a word, tested by `&` and set by `|`, in arithmetic: one law for each, over the flag's place. Assumes nothing.
use Rattle.std.proofs.Common.{◌≡◌, ℕ, zero, suc, ◌+◌, ◌-◌, ◌*◌, ◌/◌, ◌%◌, ◌^◌, ◌<◌, cond, not, eqb, sym, ap, ◌∙◌, arith, eq-eqb, ne_eqb}
use lib.Bits.{bit_and, bit_or, and_high, or_add_and}

-- the number that has only the bit at place k
abbrev pub flag_at : ℕ → ℕ
flag_at k = 2 ^ (1 + k) - 2 ^ k

-- the bit at place k, 0 or 1
abbrev pub bit_at : ℕ → ℕ → ℕ
bit_at n k = n / 2 ^ k % 2

and-flag : (n k : ℕ) → bit_and n (flag_at k) ≡ bit_at n k * 2 ^ k
and-flag n k = and_high n 1 k

bit-lt : (n k : ℕ) → bit_at n k < 2
bit-lt n k = omega arith

-- a bit times a number above 0 is not 0 exactly if the bit is 1
times-bit : (b p : ℕ) → b < 2 → 0 < p → not (eqb (b * p) 0) ≡ eqb b 1
times-bit zero p l h = rw (eq-eqb (0 * p) 0 (omega arith))
times-bit (suc zero) p l h = let n : (1 * p ≡ 0 → ⊥) = λ e. omega arith in rw (ne_eqb (1 * p) 0 n)
times-bit (suc (suc b)) p l h = absurd (omega arith)

pub test-flag : (n k : ℕ) → 0 < 2 ^ k → not (eqb (bit_and n (flag_at k)) 0) ≡ eqb (bit_at n k) 1
test-flag n k h = rw (and-flag n k) (times-bit (bit_at n k) (2 ^ k) (bit-lt n k) h)

add-bit : (b p n o : ℕ) → b < 2 → o + b * p ≡ n + p → o ≡ cond (eqb b 1) n (n + p)
add-bit zero p n o l e = omega arith
add-bit (suc zero) p n o l e = omega arith
add-bit (suc (suc b)) p n o l e = absurd (omega arith)

pub set-flag : (n k : ℕ) → flag_at k ≡ 2 ^ k → bit_or n (flag_at k) ≡ cond (eqb (bit_at n k) 1) n (n + 2 ^ k)
set-flag n k e =
    let q : bit_or n (flag_at k) + bit_at n k * 2 ^ k ≡ n + 2 ^ k =
    ap (λ (x : ℕ). bit_or n (flag_at k) + x) (sym (and-flag n k)) ∙ or_add_and n (flag_at k) ∙ ap (λ (x : ℕ). n + x) e in
    add-bit (bit_at n k) (2 ^ k) n (bit_or n (flag_at k)) (bit-lt n k) q
