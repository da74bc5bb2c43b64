-- The loop's invariant: the pieces found so far are in the list, and with those left at `at` they are all. A turn takes
-- the walk's next piece, so fewer pieces are left.
use mathlib.Core.List.{[], ◌∷◌}
use lib.ListN.{length}
use Rattle.memory_range.specs.List.{ranges_in}
use Rattle.range_lists.specs.Walk.{walk_from}
use Rattle.memory.specs.Laws.Walked.{UsedSoFar}
use Rattle.memory.proofs.used.walk_used.Given as goal

abbrev pub invariant-loop-piece : goal.invariant-loop-piece
invariant-loop-piece l = UsedSoFar l.used l.reserved (walk_from (l.used ∷ []) (ranges_in l.reserved) l.at) l.list.items

abbrev pub decreases-loop-piece : goal.decreases-loop-piece
decreases-loop-piece l = length (walk_from (l.used ∷ []) (ranges_in l.reserved) l.at)
