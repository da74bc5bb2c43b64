-- The loop's invariant: the entries so far are linked, and the highest of each remainder among them is found.
use Rattle.std.proofs.Common.{◌≡◌, length}
use Rattle.boot_take.specs.Laws.Linked.{Linked, Highest}
use Rattle.boot_take.proofs.take.link_by_node.Given as goal

abbrev pub invariant-loop-i : goal.invariant-loop-i
invariant-loop-i l =
    (length l.lower ≡ length l.initial.lower) × (length l.highest ≡ 64) × Linked l.free l.lower l.i × Highest l.free l.highest l.i
