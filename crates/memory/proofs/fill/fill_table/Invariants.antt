-- The loop's invariant: the entries found so far stand in the table, and with those left at `at` they are all. A turn
-- takes the walk's next piece, so fewer pieces are left.
use lib.ListN.{length}
use Rattle.memory_range.specs.List.{ranges_in}
use Rattle.range_lists.specs.Walk.{walk_from}
use Rattle.memory.specs.Laws.Walked.{FilledSoFar}
use Rattle.memory.proofs.fill.fill_table.Given as goal

abbrev pub invariant-loop-piece : goal.invariant-loop-piece
invariant-loop-piece l = FilledSoFar l.fn.manager l.ram l.used (walk_from (ranges_in l.ram) (ranges_in l.used) l.at) l.count l.table

abbrev pub decreases-loop-piece : goal.decreases-loop-piece
decreases-loop-piece l = length (walk_from (ranges_in l.ram) (ranges_in l.used) l.at)
