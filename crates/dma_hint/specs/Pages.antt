-- From the two ratios to pages (docs/SPEC.md, section 17), whatever lookup gave them.
use Rattle.std.specs.Prelude.{ℕ, ◌+◌, ◌*◌, ◌/◌}
use Rattle.memory_range.specs.Round.{round_up}

-- half the sum of the smallest and the largest ratio, cut down
abbrev pub mean_ratio : ℕ → ℕ → ℕ
mean_ratio smallest largest = (smallest + largest) / 2

-- memory by the mean ratio, in pages (256 to a MiB; the ratio is in thousandths), cut down
abbrev pub quotient : ℕ → ℕ → ℕ → ℕ
quotient mib smallest largest = mib * 256_000 / mean_ratio smallest largest

-- raised to whole steps of 2 MiB, which are 512 pages
abbrev pub ratio_pages : ℕ → ℕ → ℕ → ℕ
ratio_pages mib smallest largest = round_up 512 (quotient mib smallest largest)
