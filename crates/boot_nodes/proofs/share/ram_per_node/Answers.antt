-- No nodes have no share: a number divided by 0 is 0.
use Rattle.std.proofs.Common.{arith}
use Rattle.std.proofs.Math.Nat.{div-zero}
use Rattle.memory_range.specs.Laws.Round.{rounded_to}
use Rattle.boot_nodes.proofs.share.ram_per_node.Goals as goal

pub returns-then-numa_node_count-eq0 : goal.returns-then-numa_node_count-eq0
returns-then-numa_node_count-eq0 c =
    rw (c.if-numa_node_count-eq0.true, div-zero, rounded_to 32_768 0 (omega arith) (omega arith))
