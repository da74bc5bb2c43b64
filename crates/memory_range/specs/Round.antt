-- Rounding to multiples (docs/SPEC.md, section 3). One rule serves pages (4,096 bytes), the share's
-- step (32,768 bytes), the pool's step (512 pages) and every alignment.
use Rattle.std.specs.Prelude.{ℕ, ◌+◌, ◌-◌, ◌*◌, ◌/◌, ◌^◌, cond, ◌&&◌, leb, ltb, Option, Some, None}

-- the largest multiple of m that is not above n
abbrev pub round_down : ℕ → ℕ → ℕ
round_down m n = n / m * m

-- the least multiple of m that is not below n, in whole numbers of any size; 0 where m is 0
abbrev pub round_up : ℕ → ℕ → ℕ
round_up m n = (n + (m - 1)) / m * m

-- the same as an answer of 64 bits: none where no multiple of m below 2^64 is at least n
unfoldable pub rounded_up : ℕ → ℕ → Option ℕ
rounded_up m n = cond (leb n (round_up m n) && ltb (round_up m n) (2 ^ 64)) (Some (round_up m n)) None
