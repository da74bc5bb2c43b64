-- The loop's invariant is `Taking`: the outcome for all nodes is that for the nodes from `node` on, and the file's pieces stand
-- where they stood, so that each node's need is told from them.
use Rattle.boot_take.proofs.take.Laws.{Taking}
use Rattle.boot_take.proofs.take.take_ram.Given as goal

abbrev pub invariant-loop-node : goal.invariant-loop-node
invariant-loop-node l = Taking l.share l.numa_node_count l.entries l.initial.chosen.items l.chosen.items l.node
