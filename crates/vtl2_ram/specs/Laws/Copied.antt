-- A copy of the map comes to the same choice: rows 4 and 5 were looked at over the whole, and within the bound it holds the map.
use Rattle.std.specs.Prelude.{ℕ, ◌≡◌, refl, List, length, Option, Some, None}
use Rattle.std.proofs.Common.{sym, ap}
use Rattle.refusal.specs.declared.Refusal.{Refusal}
use Rattle.refusal.specs.Rows.{unless}
use Rattle.memory_range.specs.declared.range.MemoryRange.{MemoryRange}
use Rattle.host_params.specs.declared.IsolationType.{IsolationType}
use Rattle.host_params.specs.declared.MemoryAllocationMode.{MemoryAllocationMode}
use Rattle.host_params.specs.declared.MemoryEntry.{MemoryEntry}
use Rattle.host_map.specs.Entries.{entries_held}
use Rattle.host_map.specs.Map.{map_ranges}
use Rattle.host_map.specs.Rows.{check_start, checked_all}
use Rattle.host_map.specs.Laws.Entries.{stored-first}
use Rattle.host_map.specs.Laws.Rows.{checked-valid, checked-ascending}
use Rattle.boot_nodes.specs.Node.{nodes_in, nodes_held}
use Rattle.vtl2_ram.specs.Choice.{refused}
use Rattle.vtl2_ram.specs.Copied.{copied_map, Copied, choice_copied}
use Rattle.vtl2_ram.specs.Rows.{rows_refusal, rows_known}
use Rattle.vtl2_ram.specs.Select.{choice_by, choice}
use Rattle.vtl2_ram.specs.Laws.Map.{length-map-ranges}
use Rattle.vtl2_ram.specs.Laws.Rows.{count_within, rows-passed}

-- a map's copy and its nodes are those of one map
pub copied : (map : List MemoryEntry) → Copied (entries_held map) (nodes_held (nodes_in map))
copied map h = let e = sym (stored-first map h) in (ap (λ m. checked_all check_start (map_ranges m)) e, ap (λ m. nodes_held (nodes_in m)) e)

-- the rows by what was seen of a map are its rows
rows_copied : (mode : MemoryAllocationMode) (file : MemoryRange) (map : List MemoryEntry) (imports : List MemoryRange)
    → let check = checked_all check_start (map_ranges map) in
    rows_known mode file check.valid check.ascending (length map) imports ≡ rows_refusal mode file (map_ranges map) imports
rows_copied mode file map imports =
    let rs = map_ranges map in
    rw (checked-valid rs, checked-ascending rs, length-map-ranges map)

-- a map that is too long is refused either way, and any other is copied whole
pub choice-copied : (mode : MemoryAllocationMode) (isolation : IsolationType) (size : Option ℕ) (file : MemoryRange) (map : List MemoryEntry)
    (imports : List MemoryRange) → choice_copied mode isolation size file (entries_held map) imports ≡ choice mode isolation size file map imports
unfolding choice_copied choice
choice-copied mode isolation size file map imports = rw (rows_copied mode file map imports) (go (rows_refusal mode file (map_ranges map) imports) refl)
  where
    go : (row : Option Refusal) → rows_refusal mode file (map_ranges map) imports ≡ row
        → unless refused row (choice_by mode isolation size file (copied_map (entries_held map)) imports)
        ≡ unless refused row (choice_by mode isolation size file map imports)
    go (Some n) e = refl
    go None e =
        let counts = (rows-passed mode file (map_ranges map) imports e).5 in
        rw (stored-first map (rw (length-map-ranges map) at (count_within mode (length (map_ranges map)) (length imports) counts)))
