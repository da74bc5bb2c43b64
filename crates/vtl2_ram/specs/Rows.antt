-- Rows 4, 5 and 6 of the refusal chart, which hold in both modes (docs/SPEC.md, section 19).
use Rattle.std.specs.Prelude.{ℕ, Bool, true, false, ◌&&◌, not, List, [], ◌∷◌, leb, eqb, length, Option}
use Rattle.memory_range.specs.declared.range.MemoryRange.{MemoryRange}
use Rattle.memory_range.specs.Valid.{valid_range, all_valid_of, ascend}
use Rattle.host_map.specs.Map.{max_entries}
use Rattle.host_params.specs.declared.MemoryAllocationMode.{MemoryAllocationMode}
use Rattle.host_params.specs.declared.MemoryAllocationMode.TheVariants.{Host, Vtl2}
use Rattle.refusal.specs.declared.Refusal.{Refusal}
use Rattle.refusal.specs.Number.{range_invalid, ranges_not_ascending, map_count_of}
use Rattle.refusal.specs.Rows.{refused_if, downward}

abbrev pub is_boot : MemoryAllocationMode → Bool
is_boot Host = false
is_boot Vtl2 = true

-- at most so many imported ranges
abbrev pub max_imports : ℕ
max_imports = 256

-- row 6: a map of so many entries and so many imported ranges are within their bounds, and boot mode has a map
abbrev pub counts_good : MemoryAllocationMode → ℕ → ℕ → Bool
counts_good mode m i = leb m max_entries && (leb i max_imports && not (is_boot mode && eqb m 0))

-- row 4 over all ranges, then row 5 over both lists, then row 6, by what is known of the map: whether its ranges are valid,
-- whether they ascend, and how many there are
unfoldable pub rows_known : MemoryAllocationMode → MemoryRange → Bool → Bool → ℕ → List MemoryRange → Option Refusal
rows_known mode file valid ascending count imports =
    downward
    (refused_if (not (valid_range file && (valid && all_valid_of imports))) range_invalid
    ∷ refused_if (not (ascending && ascend imports)) ranges_not_ascending
    ∷ refused_if (not (counts_good mode count (length imports))) map_count_of
    ∷ [])

-- the rows of a map's ranges
abbrev pub rows_refusal : MemoryAllocationMode → MemoryRange → List MemoryRange → List MemoryRange → Option Refusal
rows_refusal mode file map imports = rows_known mode file (all_valid_of map) (ascend map) (length map) imports
