-- The loop's invariant: so many entries are put, and what the array holds, with the entries that are left stored after it, is the copy of
-- the whole map, and so is the check of the ranges.
use Rattle.std.proofs.Common.{◌≡◌, drop}
use Rattle.host_map.specs.Map.{map_ranges}
use Rattle.host_map.specs.Rows.{check_start, checked_all}
use Rattle.host_map.specs.Entries.{no_entries, stored_from}
use Rattle.host_map.proofs.entries.copy_entries.Given as goal

abbrev pub invariant-loop-entry : goal.invariant-loop-entry
invariant-loop-entry l = record {
  count : l.held.count ≡ l.entry-index;
  stored : stored_from l.entry-index l.held.entries (drop l.entry-index l.map) ≡ stored_from 0 no_entries l.map;
  checked : checked_all l.held.check (map_ranges (drop l.entry-index l.map)) ≡ checked_all check_start (map_ranges l.map);
}
