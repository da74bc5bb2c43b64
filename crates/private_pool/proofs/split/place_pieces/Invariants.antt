-- The loop's invariant: what the whole split comes to is what the pieces from `i` on come to on the current table, behind
-- the ranges of those before.
use Rattle.private_pool.proofs.split.Laws.{Placing}
use Rattle.private_pool.proofs.split.place_pieces.Given as goal

abbrev pub invariant-loop-i : goal.invariant-loop-i
invariant-loop-i l =
    Placing l.manager l.share l.remainder l.nodes l.initial.ranges l.ranges l.current l.i
