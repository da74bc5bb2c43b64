-- A number as it is written (docs/SPEC.md, section 11).
use Rattle.std.specs.Prelude.{ℕ, zero, suc, ◌/◌, ◌%◌, cond, List, [], ◌∷◌, ◌++◌, ltb}
use Rattle.io.specs.Digits.{hex_digit_ascii}

-- the digits of n in a base, the most significant first and no zero in front of others; at most so many.
-- `hex_digit_ascii` is the byte of a digit: `0` to `9`, then `a` to `f`
abbrev pub digits_for : ℕ → ℕ → ℕ → List ℕ
digits_for zero base n = []
digits_for (suc most) base n = cond (ltb n base) (hex_digit_ascii n ∷ []) (digits_for most base (n / base) ++ hex_digit_ascii (n % base) ∷ [])

-- a number of 64 bits in hexadecimal: 16 digits suffice
unfoldable pub hex_of : ℕ → List ℕ
hex_of n = digits_for 16 16 n

-- a refusal's number in decimal: three digits suffice for 8 bits
unfoldable pub decimal_of : ℕ → List ℕ
decimal_of n = digits_for 3 10 n
