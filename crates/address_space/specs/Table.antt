-- The table and what it means (docs/SPEC.md, section 21).
use Rattle.std.specs.Prelude.{ℕ, Bool, false, List, ◌++◌, map, length, take, drop, replicate}
use Rattle.memory_range.specs.Range.{range}
use Rattle.memory_range.specs.declared.range.MemoryRange.{MemoryRange}
use Rattle.address_space.specs.declared.table.AddressRange.{AddressRange}
use Rattle.address_space.specs.declared.table.AddressSpaceManager.{AddressSpaceManager}
use Rattle.address_space.specs.declared.usage.AddressUsage.{AddressUsage}
use Rattle.address_space.specs.declared.usage.AddressUsage.TheVariants.{Free}

-- a table has at most so many entries
abbrev pub max_address_ranges : ℕ
max_address_ranges = 256

-- an entry from its range, node and usage
abbrev pub entry : MemoryRange → ℕ → AddressUsage → AddressRange
entry r n u = record { range = r; vnode = n; usage = u }

-- the entry that an array's free places hold at first
abbrev pub no_entry : AddressRange
no_entry = entry (range 0 0) 0 Free

-- the table's entries: the first ones of the array, as many as are counted
abbrev pub entries_of : AddressSpaceManager → List AddressRange
entries_of m = take m.count m.address_space

-- whether the private pool has a range
abbrev pub pool_of : AddressSpaceManager → Bool
pool_of m = m.vtl2_pool

-- a table with these entries and this flag in the place of m: what lies behind them is as it was in m
abbrev pub table_with : AddressSpaceManager → List AddressRange → Bool → AddressSpaceManager
table_with m es flag = record { address_space = es ++ drop (length es) m.address_space; count = length es; vtl2_pool = flag }

-- a new table
abbrev pub empty_table : AddressSpaceManager
empty_table = record { address_space = replicate max_address_ranges no_entry; count = 0; vtl2_pool = false }

-- the ranges of entries
abbrev pub ranges_at : List AddressRange → List MemoryRange
ranges_at = map (λ e. e.range)
