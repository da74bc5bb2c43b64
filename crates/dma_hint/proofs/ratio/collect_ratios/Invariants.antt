-- The loop's invariant: the smallest ratio so far and the smallest of the rows that remain give the smallest of all rows, and so
-- for the largest; none is beyond what no rows give.
use Rattle.std.proofs.Common.{◌≡◌, ◌≤◌, min, max, drop}
use Rattle.dma_hint.specs.Ratio.{smallest, largest}
use Rattle.dma_hint.proofs.ratio.collect_ratios.Given as goal

abbrev pub invariant-loop-row : goal.invariant-loop-row
invariant-loop-row l = record {
  at_most : l.min_ratio_1000th ≤ 100_000;
  smallest_of : min l.min_ratio_1000th (smallest (drop l.row-index l.rows)) ≡ smallest l.rows;
  at_least : 1_000 ≤ l.max_ratio_1000th;
  largest_of : max l.max_ratio_1000th (largest (drop l.row-index l.rows)) ≡ largest l.rows;
}
