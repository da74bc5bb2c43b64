-- The loop's invariant: the reserved ranges from `at` on are those from `next` on.
use mathlib.Core.Path.{◌≡◌}
use lib.ListN.{drop}
use Rattle.address_space.specs.List.{reserved_ranges}
use Rattle.address_space.specs.Table.{entries_of}
use Rattle.address_space.proofs.table.AddressSpaceManager.reserved_vtl2_ranges.Given as goal

abbrev pub invariant-loop-next : goal.invariant-loop-next
invariant-loop-next l = reserved_ranges (drop l.at (entries_of l.self)) ≡ reserved_ranges (drop l.next (entries_of l.self))
