-- The check of the whole list is that of the ranges to come, after those before them.
use Rattle.std.proofs.Common.{◌≡◌, map, drop}
use Rattle.host_map.specs.Rows.{check_start, checked_all}
use Rattle.host_map.proofs.rows.check_ranges.Given as goal

abbrev pub invariant-loop-item : goal.invariant-loop-item
invariant-loop-item g l =
    checked_all l.check (map g.R.HasRange.range_in (drop l.item-index l.list)) ≡ checked_all check_start (map g.R.HasRange.range_in l.list)
