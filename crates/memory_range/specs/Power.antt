-- Powers of two (docs/SPEC.md, section 3; document 01's good alignment).
use Rattle.std.specs.Prelude.{ℕ, suc, zero, ◌+◌, ◌/◌, ◌%◌, Bool, eqb}

-- how many of the lowest w bits of n are set
unfoldable pub bit_count : ℕ → ℕ → ℕ
bit_count zero n = 0
bit_count (suc w) n = n % 2 + bit_count w (n / 2)

-- whether exactly one of the 64 bits of n is set
abbrev pub is_power_of_two : ℕ → Bool
is_power_of_two n = eqb (bit_count 64 n) 1
