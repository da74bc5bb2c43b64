-- The loop's invariant: so many entries are put, and what the array holds, with the entries that are left stored after it, is the copy of
-- the whole map, and so is the check of the ranges.
use Rattle.std.proofs.Common.{◌≡◌, drop}
use Rattle.host_map.specs.Map.{map_of, map_ranges}
use Rattle.host_map.specs.Rows.{check_start, checked_all}
use Rattle.host_map.specs.Entries.{no_entries, stored_from}
use Rattle.host_map.proofs.entries.copy_lists.Given as goal

abbrev pub invariant-loop-i : goal.invariant-loop-i
invariant-loop-i l =
    let map = map_of l.starts l.ends l.nodes l.protectable in
    record {
      count : l.held.count ≡ l.i;
      stored : stored_from l.i l.held.entries (drop l.i map) ≡ stored_from 0 no_entries map;
      checked : checked_all l.held.check (map_ranges (drop l.i map)) ≡ checked_all check_start (map_ranges map);
    }
