-- What is left of the walk at `at` is what was left at the cursor that was given. A turn passes one
-- boundary, so fewer are ahead; it yields the piece before that boundary, if there is one.
use Rattle.std.proofs.Common.{◌≡◌, map}
use Rattle.range_lists.specs.Walk.{walk_from}
use Rattle.range_lists.proofs.walk.Laws.{ahead}
use Rattle.range_lists.proofs.walk.walk_ranges.Given as goal

abbrev pub invariant-loop-next : goal.invariant-loop-next
invariant-loop-next g l =
    let ls = map g.L.HasRange.range_in l.left in
    let rs = map g.R.HasRange.range_in l.right in
    walk_from ls rs l.initial.at ≡ walk_from ls rs l.at

abbrev pub decreases-loop-next : goal.decreases-loop-next
decreases-loop-next g l = ahead (map g.L.HasRange.range_in l.left) (map g.R.HasRange.range_in l.right) l.at
