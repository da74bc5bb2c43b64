-- The loop's invariant: what is listed, and the protectable entries behind it, are all, and what is listed has room.
use Rattle.std.proofs.Common.{◌≡◌, ◌≤◌, ◌++◌, length, drop}
use Rattle.host_map.specs.Map.{protectable_in}
use Rattle.vtl2_ram.proofs.host.list_protectable.Given as goal

abbrev pub invariant-loop-entry : goal.invariant-loop-entry
invariant-loop-entry l =
    (l.entries.items ++ protectable_in (drop l.entry-index l.map) ≡ protectable_in l.map) × (length l.entries.items ≤ 64)
