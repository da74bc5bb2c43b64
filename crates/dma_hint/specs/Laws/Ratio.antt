-- The smallest ratio is the least of 100,000 and the rows' ratios: no larger than any of them, and one of them. The
-- largest is the greatest of 1,000 and these.
use Rattle.std.specs.Prelude.{ℕ, zero, suc, ◌≤◌, ◌<◌, ◌≡◌, refl, ◌⊎◌, List, [], ◌∷◌, length, get_or}
use Rattle.std.proofs.Common.{inl, inr, arith}
use Rattle.std.proofs.Math.Decide.{dec_lt}
use Rattle.dma_hint.specs.Table.{Row}
use Rattle.dma_hint.specs.Ratio.{ratio, smallest, largest}

-- the ratio of the row at place k
abbrev pub ratio_at : List Row → ℕ → ℕ
ratio_at rows k = ratio (get_or rows k [])

-- a number is the bound that a search starts with, or the ratio of a row
abbrev pub BoundOrRatio : ℕ → List Row → ℕ → Type 0
BoundOrRatio bound rows n = (n ≡ bound) ⊎ ((k : ℕ) × (k < length rows) × (n ≡ ratio_at rows k))

-- with a row more in front, whose ratio the number may be
one_more : {bound n m : ℕ} (r : Row) (rs : List Row) → BoundOrRatio bound rs m → (n ≡ m) ⊎ (n ≡ ratio r)
    → BoundOrRatio bound (r ∷ rs) n
one_more r rs (inl e) (inl q) = inl (omega arith)
one_more r rs (inr w) (inl q) = inr (suc w.0, omega arith, omega arith)
one_more r rs w (inr q) = inr (0, omega arith, q)

pub smallest_most : (rows : List Row) → smallest rows ≤ 100_000
smallest_most [] = omega arith
smallest_most (r ∷ rs) = omega (arith, smallest_most rs)

pub smallest_each : (rows : List Row) (k : ℕ) → k < length rows → smallest rows ≤ ratio_at rows k
smallest_each [] k h = absurd (omega arith)
smallest_each (r ∷ rs) zero h = omega arith
smallest_each (r ∷ rs) (suc k) h = omega (arith, smallest_each rs k (omega arith))

pub smallest-one : (rows : List Row) → BoundOrRatio 100_000 rows (smallest rows)
smallest-one [] = inl refl
smallest-one (r ∷ rs) =
    elim (dec_lt (ratio r) (smallest rs)) [
      | yes h ↦ one_more r rs (smallest-one rs) (inr (omega arith))
      | no h ↦ one_more r rs (smallest-one rs) (inl (omega arith))
    ]

pub largest_least : (rows : List Row) → 1_000 ≤ largest rows
largest_least [] = omega arith
largest_least (r ∷ rs) = omega (arith, largest_least rs)

pub largest_each : (rows : List Row) (k : ℕ) → k < length rows → ratio_at rows k ≤ largest rows
largest_each [] k h = absurd (omega arith)
largest_each (r ∷ rs) zero h = omega arith
largest_each (r ∷ rs) (suc k) h = omega (arith, largest_each rs k (omega arith))

pub largest-one : (rows : List Row) → BoundOrRatio 1_000 rows (largest rows)
largest-one [] = inl refl
largest-one (r ∷ rs) =
    elim (dec_lt (largest rs) (ratio r)) [
      | yes h ↦ one_more r rs (largest-one rs) (inr (omega arith))
      | no h ↦ one_more r rs (largest-one rs) (inl (omega arith))
    ]
