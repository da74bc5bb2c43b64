-- The loop's invariant: the bytes so far and those of the entries behind them are all bytes, and the next entry starts at or above the
-- bytes so far, so that the sum stays at or below that entry's end.
use Rattle.std.proofs.Common.{◌≡◌, ◌+◌, drop}
use Rattle.memory_range.specs.Bytes.{Ordered}
use Rattle.memory_range.specs.List.{ranges_in}
use Rattle.boot_ram.specs.Held.{bytes_of}
use Rattle.vtl2_ram.proofs.ram.total_bytes.Given as goal

abbrev pub invariant-loop-entry : goal.invariant-loop-entry
invariant-loop-entry l =
    let left = drop l.entry-index l.entries in
    (l.bytes + bytes_of left ≡ bytes_of l.entries) × Ordered l.bytes (ranges_in left)
