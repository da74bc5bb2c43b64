-- The loop's invariant: the outcome of the whole taking is that of what the node still needs, taken from the free entries below
-- `place` behind the pieces that are chosen. An entry of another node changes nothing; one of the node is the next verdict; and
-- none of the node's is passed over by the link to the next place.
use Rattle.std.proofs.Common.{◌≡◌, ◌≤◌, []}
use Rattle.boot_ram.specs.Laws.Verdict.{so_far}
use Rattle.boot_take.specs.Laws.Linked.{Begins}
use Rattle.boot_take.specs.Laws.TakeSteps.{take_below}
use Rattle.boot_take.proofs.take.take_on.Given as goal

abbrev pub invariant-loop-place : goal.invariant-loop-place
invariant-loop-place l =
    (l.place ≤ l.top)
    × Begins l.free l.node l.place
    × (so_far [] l.initial.chosen.items (take_below l.node l.required l.free l.top) ≡ so_far [] l.chosen.items (take_below l.node l.need l.free l.place))

abbrev pub decreases-loop-place : goal.decreases-loop-place
decreases-loop-place l = l.place
