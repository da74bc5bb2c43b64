use Rattle.std.proofs.Common.{◌≡◌, map, drop}
use Rattle.memory_range.specs.Valid.{ascend, ascend_from}
use Rattle.memory_range.proofs.valid.ranges_ascend.Given as goal

-- the items before this one ascend
abbrev pub invariant-loop-item : goal.invariant-loop-item
invariant-loop-item g l = ascend_from l.above (map g.R.HasRange.range_in (drop l.item-index l.list)) ≡ ascend (map g.R.HasRange.range_in l.fn.list)
