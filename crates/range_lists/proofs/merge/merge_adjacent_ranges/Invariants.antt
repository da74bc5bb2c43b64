-- Joining the ranges from `at` on is to put the range made so far in front of the joined ranges from `next` on.
use Rattle.std.proofs.Common.{◌≡◌, drop}
use Rattle.range_lists.specs.Merge.{merge_first, merge_adjacent}
use Rattle.range_lists.proofs.merge.merge_adjacent_ranges.Given as goal

abbrev pub invariant-loop-next : goal.invariant-loop-next
invariant-loop-next l =
    merge_adjacent (drop l.fn.at l.ranges) ≡ merge_first l.joined (merge_adjacent (drop l.next l.ranges))
