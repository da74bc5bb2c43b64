-- A copy of the host's map (docs/SPEC.md, section 19).
use Rattle.std.specs.Prelude.{ℕ, ◌+◌, ◌%◌, List, [], ◌∷◌, length, replicate, set}
use Rattle.memory_range.specs.Range.{range}
use Rattle.host_params.specs.declared.MemoryEntry.{MemoryEntry}
use Rattle.host_params.specs.declared.MemoryMapEntryType.TheVariants.{Memory}
use Rattle.host_map.specs.declared.entries.Entries.{Entries}
use Rattle.host_map.specs.Map.{max_entries, map_ranges}
use Rattle.host_map.specs.Rows.{check_start, checked_all}

-- in the place of an entry that is not there
abbrev pub no_entry : MemoryEntry
no_entry = record { range = range 0 0; vnode = 0; mem_type = Memory }

unfoldable pub no_entries : List MemoryEntry
no_entries = replicate max_entries no_entry

-- entries stored after i others, each at the remainder of its index by 1,024: those of a map within its bound in the first
-- places. A longer map is refused, and what is left of it is not looked at
abbrev pub stored_from : ℕ → List MemoryEntry → List MemoryEntry → List MemoryEntry
stored_from i held [] = held
stored_from i held (e ∷ es) = stored_from (i + 1) (set held (i % max_entries) e) es

-- the copy of a map: its entries, how many there are, and rows 4 and 5 of them
abbrev pub entries_held : List MemoryEntry → Entries
entries_held map = record { entries = stored_from 0 no_entries map; count = length map; check = checked_all check_start (map_ranges map) }
