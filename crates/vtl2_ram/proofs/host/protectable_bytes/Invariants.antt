-- The loop's invariant: the bytes so far and those of the protectable entries behind them are all bytes, and the next entry starts at or
-- above the bytes so far, so that the sum stays at or below that entry's end.
use Rattle.std.proofs.Common.{◌≡◌, ◌+◌, drop}
use Rattle.memory_range.specs.Bytes.{Ordered}
use Rattle.host_map.specs.Map.{map_ranges, protectable_in}
use Rattle.boot_ram.specs.Held.{bytes_of}
use Rattle.vtl2_ram.proofs.host.protectable_bytes.Given as goal

abbrev pub invariant-loop-entry : goal.invariant-loop-entry
invariant-loop-entry l =
    let left = drop l.entry-index l.map in
    (l.bytes + bytes_of (protectable_in left) ≡ bytes_of (protectable_in l.map)) × Ordered l.bytes (map_ranges left)
