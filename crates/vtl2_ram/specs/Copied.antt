-- Selection from a copy of the map, as `entries_held` (host_map/Entries) says it: 1,024 places, with rows 4 and 5 looked at over all
-- entries on the way. A map that is lent as a list of entries is not copied; one in lists of its fields is.
use Rattle.std.specs.Prelude.{ℕ, ◌≤◌, ◌≡◌, List, take, Option}
use Rattle.refusal.specs.Rows.{unless}
use Rattle.memory_range.specs.declared.range.MemoryRange.{MemoryRange}
use Rattle.host_params.specs.declared.IsolationType.{IsolationType}
use Rattle.host_params.specs.declared.MemoryAllocationMode.{MemoryAllocationMode}
use Rattle.host_params.specs.declared.MemoryEntry.{MemoryEntry}
use Rattle.host_map.specs.declared.entries.Entries.{Entries}
use Rattle.host_map.specs.Map.{max_entries, map_ranges}
use Rattle.host_map.specs.Rows.{check_start, checked_all}
use Rattle.boot_nodes.specs.declared.node.NumaNodes.{NumaNodes}
use Rattle.boot_nodes.specs.Node.{nodes_in, nodes_held}
use Rattle.vtl2_ram.specs.Choice.{Choice, refused}
use Rattle.vtl2_ram.specs.Rows.{rows_known}
use Rattle.vtl2_ram.specs.Select.{choice_by}

-- the map that a copy holds, where it is within its bound
abbrev pub copied_map : Entries → List MemoryEntry
copied_map copy = take copy.count copy.entries

-- a copy and nodes that are those of one map: where it is within its bound, rows 4 and 5 were looked at over it, and the nodes
-- are its own
abbrev pub Copied : Entries → NumaNodes → Type 0
Copied copy nodes =
    copy.count ≤ max_entries
    → (copy.check ≡ checked_all check_start (map_ranges (copied_map copy))) × (nodes ≡ nodes_held (nodes_in (copied_map copy)))

-- the choice from a copy of a map: the rows by what was seen of it
unfoldable pub choice_copied : MemoryAllocationMode → IsolationType → Option ℕ → MemoryRange → Entries → List MemoryRange → Choice
choice_copied mode isolation size file copy imports =
    unless refused (rows_known mode file copy.check.valid copy.check.ascending copy.count imports)
    (choice_by mode isolation size file (copied_map copy) imports)
