-- Ratio sizing: the pages are the least multiple of 512 that is not below the quotient; they are less than one page
-- below the memory by the mean ratio, unrounded, and less than 512 above it; more memory never gives fewer. The mean
-- ratio, by which the quotient divides, is not 0, whatever rows give it.
use Rattle.std.specs.Prelude.{ℕ, ◌+◌, ◌*◌, ◌≤◌, ◌<◌, List}
use Rattle.std.proofs.Common.{arith, add-mul, div-add-mod', mod-lt, mul-le-mul_right}
use Rattle.std.specs.Float.Ieee.Nearest.{div_mono}
use Rattle.memory_range.specs.Laws.Round.{Multiple, up_multiple, up_above, up_near, up_least}
use Rattle.dma_hint.specs.Table.{Row}
use Rattle.dma_hint.specs.Ratio.{smallest, largest}
use Rattle.dma_hint.specs.Pages.{mean_ratio, quotient, ratio_pages}
use Rattle.dma_hint.specs.Laws.Ratio.{largest_least}

module _ (mib low high : ℕ) where
  pub pages_multiple : Multiple 512 (ratio_pages mib low high)
  pages_multiple = up_multiple 512 (quotient mib low high)

  pub pages_above : quotient mib low high ≤ ratio_pages mib low high
  pages_above = up_above 512 (quotient mib low high) (omega arith)

  pub pages_near : ratio_pages mib low high < quotient mib low high + 512
  pages_near = up_near 512 (quotient mib low high) (omega arith)

  pub pages_least : (k : ℕ) → Multiple 512 k → quotient mib low high ≤ k
      → ratio_pages mib low high ≤ k
  pages_least = up_least 512 (quotient mib low high) (omega arith)

  -- both sides times the mean ratio: memory in thousandths of a page
  module _ (positive : 0 < mean_ratio low high) where
    pub not_short : mib * 256_000 < (ratio_pages mib low high + 1) * mean_ratio low high
    not_short =
        let mean = mean_ratio low high in
        omega (
          arith,
          div-add-mod' (mib * 256_000) mean,
          mod-lt (mib * 256_000) positive,
          add-mul (ratio_pages mib low high) 1 mean,
          mul-le-mul_right mean pages_above,
        )

    pub not-over : ratio_pages mib low high * mean_ratio low high < mib * 256_000 + 512 * mean_ratio low high
    not-over =
        let mean = mean_ratio low high in
        let pages = ratio_pages mib low high in
        let next : pages + 1 ≤ quotient mib low high + 512 = omega (arith, pages_near) in
        omega (
          arith,
          div-add-mod' (mib * 256_000) mean,
          add-mul pages 1 mean,
          add-mul (quotient mib low high) 512 mean,
          mul-le-mul_right mean next,
        )

pub pages_grow : (low high : ℕ) {a b : ℕ} → 0 < mean_ratio low high → a ≤ b → ratio_pages a low high ≤ ratio_pages b low high
pages_grow low high {a} {b} positive h =
    let mean = mean_ratio low high in
    let more : a * 256_000 ≤ b * 256_000 = omega arith in
    let grown = div_mono (a * 256_000) mean (b * 256_000) mean positive positive (mul-le-mul_right mean more) in
    pages_least a low high (ratio_pages b low high) (pages_multiple b low high) (omega (arith, grown, pages_above b low high))

pub mean_positive : (low high : ℕ) → 1_000 ≤ high → 0 < mean_ratio low high
mean_positive low high h = omega arith

pub mean_of-rows : (rows : List Row) → 0 < mean_ratio (smallest rows) (largest rows)
mean_of-rows rows = mean_positive (smallest rows) (largest rows) (largest_least rows)
