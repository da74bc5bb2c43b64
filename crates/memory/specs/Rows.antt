-- The rows of the refusal chart that a build looks at first: 4, 5, and 15 to 17 (docs/SPEC.md, section 24).
use Rattle.std.specs.Prelude.{ℕ, Bool, ◌&&◌, not, List, [], ◌∷◌, ltb, eqb, length, Option}
use Rattle.refusal.specs.declared.Refusal.{Refusal}
use Rattle.refusal.specs.Number.{range_invalid, ranges_not_ascending, ram_count_of, table_not_empty, reserved_count as reserved_count_number}
use Rattle.refusal.specs.Rows.{refused_if, downward}
use Rattle.memory_range.specs.declared.range.MemoryRange.{MemoryRange}
use Rattle.memory_range.specs.Valid.{all_valid_of, ascend}
use Rattle.memory.specs.declared.builder.AddressSpaceManagerBuilder.{AddressSpaceManagerBuilder}
use Rattle.memory.specs.Builder.{singles_valid, reserved_count}

-- the RAM list has at most so many entries
abbrev pub max_ram : ℕ
max_ram = 64

-- at most so many ranges are reserved
abbrev pub max_reserved : ℕ
max_reserved = 20

-- row 4 over all ranges
abbrev pub all_valid : AddressSpaceManagerBuilder → List MemoryRange → List MemoryRange → List MemoryRange → Bool
all_valid b ram configs pools = singles_valid b && (all_valid_of ram && (all_valid_of configs && all_valid_of pools))

-- row 4 over all ranges, then 5 over the RAM list, then 15, 16 for a table with so many entries, and 17
unfoldable pub rows_refusal : AddressSpaceManagerBuilder → ℕ → List MemoryRange → List MemoryRange → List MemoryRange → Option Refusal
rows_refusal b entries ram configs pools =
    downward
    (refused_if (not (all_valid b ram configs pools)) range_invalid
    ∷ refused_if (not (ascend ram)) ranges_not_ascending
    ∷ refused_if (ltb max_ram (length ram)) ram_count_of
    ∷ refused_if (not (eqb entries 0)) table_not_empty
    ∷ refused_if (ltb max_reserved (reserved_count b configs)) reserved_count_number
    ∷ [])
