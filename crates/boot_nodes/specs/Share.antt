-- A node's share of the RAM size (docs/SPEC.md, section 19).
use Rattle.std.specs.Prelude.{ℕ, ◌/◌, Option}
use Rattle.memory_range.specs.Round.{round_up, rounded_up}

-- eight pages
abbrev pub share_step : ℕ
share_step = 32_768

-- the least multiple of 32,768 that is not below the whole quotient of size and nodes
abbrev pub share_of : ℕ → ℕ → ℕ
share_of size n = round_up share_step (size / n)

-- the same as an answer of 64 bits
abbrev pub share_per_node : ℕ → ℕ → Option ℕ
share_per_node size n = rounded_up share_step (size / n)
