-- The loop's invariant: the nodes of the entries before this one stand in the array's first places, and are no more than
-- those. So there is room for the next one, and no turn finds the array full.
use Rattle.private_pool.proofs.nodes.Laws.{Nodes}
use Rattle.private_pool.proofs.nodes.table_nodes.Given as goal

abbrev pub invariant-loop-entry : goal.invariant-loop-entry
invariant-loop-entry l = Nodes l.entry-items l.initial.numa_nodes l.numa_nodes l.count l.entry-index
