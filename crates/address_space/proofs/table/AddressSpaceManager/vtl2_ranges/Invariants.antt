-- The loop's invariant: joining the ranges from `at` on is to put the range made so far in front of the
-- joined ranges from `next` on.
use mathlib.Core.Path.{◌≡◌}
use lib.ListN.{drop}
use Rattle.range_lists.specs.Merge.{merge_first}
use Rattle.address_space.specs.List.{numbered_range, vtl2_ranges}
use Rattle.address_space.proofs.table.AddressSpaceManager.vtl2_ranges.Given as goal

abbrev pub invariant-loop-next : goal.invariant-loop-next
invariant-loop-next l = vtl2_ranges (drop l.at l.entries) ≡ merge_first (numbered_range l.current) (vtl2_ranges (drop l.next l.entries))
