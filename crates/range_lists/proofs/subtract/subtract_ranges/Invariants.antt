-- What is left at `at` is what was left at the cursor that was given: the walk's pieces that were passed are
-- held by the right list. Each turn yields one piece, so fewer are left.
use Rattle.std.proofs.Common.{◌≡◌, map, length}
use Rattle.range_lists.specs.Walk.{walk_from}
use Rattle.range_lists.specs.Subtract.{subtract_from}
use Rattle.range_lists.proofs.subtract.subtract_ranges.Given as goal

abbrev pub invariant-loop-piece : goal.invariant-loop-piece
invariant-loop-piece g l =
    let ls = map g.L.HasRange.range_in l.left in
    let rs = map g.R.HasRange.range_in l.right in
    subtract_from ls rs l.initial.at ≡ subtract_from ls rs l.at

abbrev pub decreases-loop-piece : goal.decreases-loop-piece
decreases-loop-piece g l = length (walk_from (map g.L.HasRange.range_in l.left) (map g.R.HasRange.range_in l.right) l.at)
