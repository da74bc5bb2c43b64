-- The rows of the refusal chart that concern a build, each as a rule by itself, said of bytes and counts and not of the walks and
-- lists that the table is made of (docs/SPEC.md, section 25). An accepted build keeps every rule, and a refusal tells the number of the
-- first one that is broken.
use Rattle.std.specs.Prelude.{ℕ, ◌+◌, ◌≤◌, ◌<◌, ◌≡◌, true, List, ◌∷◌, length}
use Rattle.refusal.specs.Number.{range_invalid, ranges_not_ascending, ram_count_of, table_not_empty, reserved_count as reserved_count_number}
use Rattle.refusal.specs.Number.{reserved_overlap, reserved_outside_used, pool_ranges, used_outside_ram, number_of}
use Rattle.refusal.specs.Rule.{KeptBelow, BrokenAt}
use Rattle.memory_range.specs.declared.range.MemoryRange.{MemoryRange}
use Rattle.memory_range.specs.declared.range.TaggedRange.{TaggedRange}
use Rattle.memory_range.specs.Bytes.{holders, Ordered, All}
use Rattle.memory_range.specs.List.{ranges_in}
use Rattle.memory_range.specs.Range.{holds}
use Rattle.boot_ram.specs.Held.{PagedRange, Paged}
use Rattle.memory.specs.declared.builder.AddressSpaceManagerBuilder.{AddressSpaceManagerBuilder}
use Rattle.memory.specs.Builder.{options_of, reserved_of, reserved_count}
use Rattle.memory.specs.Rows.{max_ram, max_reserved}
use Rattle.memory.specs.Used.{max_pools, max_used, pieces_used}

-- the rows, and their numbers
pub data BuildRow : Type 0 where
  row4 row5 row15 row16 row17 row18 row19 row20 row21 : BuildRow

abbrev pub number : BuildRow → ℕ
number row4 = number_of range_invalid
number row5 = number_of ranges_not_ascending
number row15 = number_of ram_count_of
number row16 = number_of table_not_empty
number row17 = number_of reserved_count_number
number row18 = number_of reserved_overlap
number row19 = number_of reserved_outside_used
number row20 = number_of pool_ranges
number row21 = number_of used_outside_ram

-- for a table with so many entries
module _ (b : AddressSpaceManagerBuilder) (entries : ℕ) (ram : List TaggedRange) (configs pools : List MemoryRange) where
  abbrev pub BuildRule : BuildRow → Type 0
  -- each range has a byte, and starts and ends at a page
  BuildRule row4 =
      PagedRange b.bootshim_used × PagedRange b.persisted_state_region × Paged (options_of b)
      × Paged ram × All PagedRange configs × All PagedRange pools
  -- the RAM list ascends without overlap
  BuildRule row5 = Ordered 0 (ranges_in ram)
  BuildRule row15 = length ram ≤ max_ram
  BuildRule row16 = entries ≡ 0
  BuildRule row17 = reserved_count b configs ≤ max_reserved
  -- no byte lies in two reserved ranges
  BuildRule row18 = (a : ℕ) → holders (ranges_in (reserved_of b configs)) a ≤ 1
  -- every byte of a reserved range is one of the used range
  BuildRule row19 = (a : ℕ) → 0 < holders (ranges_in (reserved_of b configs)) a → holds b.bootshim_used a ≡ true
  -- the pool ranges are not too many, no byte lies in two of them or in one and the used range, and with the pieces of the used range
  -- they are not too many either
  BuildRule row20 =
      (length pools ≤ max_pools)
      × ((a : ℕ) → holders (b.bootshim_used ∷ pools) a ≤ 1)
      × (length (pieces_used b configs) + length pools ≤ max_used)
  -- every byte of the used range and of a pool range lies in the RAM
  BuildRule row21 = (a : ℕ) → 0 < holders (b.bootshim_used ∷ pools) a → 0 < holders (ranges_in ram) a

  -- the rules of the rows below a number are kept
  abbrev pub BuildKept : ℕ → Type 0
  BuildKept = KeptBelow number BuildRule

  -- a rule is broken, and those above it in the chart are kept
  abbrev pub BuildBroken : ℕ → Type 0
  BuildBroken = BrokenAt number BuildRule number
