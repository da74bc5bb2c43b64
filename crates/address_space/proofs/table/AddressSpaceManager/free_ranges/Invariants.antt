-- The loop's invariant: the free ranges from `at` on are those from `next` on.
use mathlib.Core.Path.{◌≡◌}
use lib.ListN.{drop}
use Rattle.address_space.specs.List.{free_ranges}
use Rattle.address_space.specs.Table.{entries_of}
use Rattle.address_space.proofs.table.AddressSpaceManager.free_ranges.Given as goal

abbrev pub invariant-loop-next : goal.invariant-loop-next
invariant-loop-next l = free_ranges l.vnode (drop l.at (entries_of l.self)) ≡ free_ranges l.vnode (drop l.next (entries_of l.self))
