-- The loop's invariant is `Passed`: none of the rows so far matches, and the nearest of them are known.
use Rattle.dma_hint.proofs.lookup.Laws.{Passed}
use Rattle.dma_hint.proofs.lookup.find_rows.Given as goal

abbrev pub invariant-loop-i : goal.invariant-loop-i
invariant-loop-i l = Passed l.rows l.vp_count l.mem_size_mb l.nearest l.first l.i
