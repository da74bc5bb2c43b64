-- The loop's invariant: the joined ranges are those stored so far, and behind them `current` put in front of the joined
-- ranges from `next` on.
use Prim.Native.Nat.{◌≤◌, ◌<◌}
use mathlib.Core.Path.{◌≡◌}
use mathlib.Core.List.{◌++◌}
use lib.ListN.{length, take, drop}
use Rattle.range_lists.specs.Merge.{merge_first}
use Rattle.address_space.specs.List.{numbered_range, numbered_ranges, vtl2_ranges}
use Rattle.address_space.proofs.table.AddressSpaceManager.all_vtl2_ranges.Given as goal

abbrev pub invariant-loop-next : goal.invariant-loop-next
invariant-loop-next l =
    (l.found < l.next)
    × (l.next ≤ length l.entries)
    × (length l.list.ranges ≡ 256)
    × (vtl2_ranges l.entries ≡ numbered_ranges (take l.found l.list.ranges) ++ merge_first (numbered_range l.current) (vtl2_ranges (drop l.next l.entries)))
