-- `ratio::collect_ratios` meets its contract. The loop's invariant: the smallest ratio so far and the smallest of the rows
-- that remain give the smallest of all rows, and so for the largest; none is beyond what no rows give.
use Prim.Native.Nat.{ℕ, ◌+◌, ◌≤◌, ◌<◌, min, max}
use mathlib.Core.Path.{◌≡◌}
use mathlib.Core.List.{List, []}
use native.Mathlib.Numerals.{add-one}
use native.Mathlib.Omega.{arith}
use lib.Dec.{ltb→lt}
use lib.ListN.{length, get_or, drop, drop_of_length-le}
use lib.Seq.{drop-cons}
use Rattle.dma_hint.specs.Table.{Row, hint_of}
use Rattle.dma_hint.specs.Ratio.{ratio, smallest, largest}
use Rattle.dma_hint.specs.Laws.Table.{every-at}
use Rattle.dma_hint.specs.Laws.Ratio.{smallest_most, largest_least}
use Rattle.dma_hint.proofs.ratio.collect_ratios.Goals as goal

-- a ratio found so far and the rows that remain give the same after one more row
module _ (rows : List Row) (i : ℕ) (below : i < length rows) (so_far : ℕ) where
  smallest-next : min so_far (smallest (drop i rows))
      ≡ min (min so_far (ratio (get_or rows i []))) (smallest (drop (i + 1) rows))
  smallest-next = rw (add-one, drop-cons rows i []) (omega arith)

  largest-next : max so_far (largest (drop i rows))
      ≡ max (max so_far (ratio (get_or rows i []))) (largest (drop (i + 1) rows))
  largest-next = rw (add-one, drop-cons rows i []) (omega arith)

-- where no rows remain, the ratios found are those of all rows
module _ (rows : List Row) (i : ℕ) (none : length rows ≤ i) (so_far : ℕ) where
  smallest-all : so_far ≤ 100_000 → min so_far (smallest (drop i rows)) ≡ smallest rows → so_far ≡ smallest rows
  smallest-all h e = let q = rw (drop_of_length-le rows none) at e in omega arith

  largest-all : 1_000 ≤ so_far → max so_far (largest (drop i rows)) ≡ largest rows → so_far ≡ largest rows
  largest-all h e = let q = rw (drop_of_length-le rows none) at e in omega arith

pub loop-row-init : goal.loop-row-init
loop-row-init c =
    let rows = c.args.rows.now in
    let low = smallest_most rows in
    let high = largest_least rows in
    record { at_most = omega arith; smallest_of = omega arith; at_least = omega arith; largest_of = omega arith }

pub row_ratio-ratio-requires : goal.row_ratio-ratio-requires
row_ratio-ratio-requires c =
    let rows = c.args.rows.now in
    let i = c.loop-row.row-index in
    ltb→lt 0 (hint_of (get_or rows i [])) (every-at _ rows i c.requires (omega arith))

pub loop-row-preserved : goal.loop-row-preserved
loop-row-preserved c =
    let rows = c.args.rows.now in
    let l = c.loop-row in
    let small = smallest-next rows l.row-index (omega arith) l.min_ratio_1000th in
    let large = largest-next rows l.row-index (omega arith) l.max_ratio_1000th in
    record { at_most = omega arith; smallest_of = omega arith; at_least = omega arith; largest_of = omega arith }

pub returns : goal.returns
returns c =
    let rows = c.args.rows.now in
    let l = c.loop-row in
    record {
      smallest_ratio = smallest-all rows l.row-index (omega arith) l.min_ratio_1000th l.invariant.at_most l.invariant.smallest_of;
      largest_ratio = largest-all rows l.row-index (omega arith) l.max_ratio_1000th l.invariant.at_least l.invariant.largest_of;
    }
