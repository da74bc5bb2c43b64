-- The ratios of memory to hint that rows give (docs/SPEC.md, section 17).
use Rattle.std.specs.Prelude.{ℕ, ◌*◌, ◌/◌, min, max, List, [], ◌∷◌}
use Rattle.dma_hint.specs.Table.{Row, mib_of, hint_of}

-- a row's memory by its hint, in thousandths, cut down
abbrev pub ratio : Row → ℕ
ratio r = mib_of r * 1_000 / hint_of r

-- the smallest of 100,000 and the rows' ratios
abbrev pub smallest : List Row → ℕ
smallest [] = 100_000
smallest (r ∷ rs) = min (ratio r) (smallest rs)

-- the largest of 1,000 and the rows' ratios
abbrev pub largest : List Row → ℕ
largest [] = 1_000
largest (r ∷ rs) = max (ratio r) (largest rs)
