-- The build (docs/SPEC.md, section 24; document 01, Port order 5, and rows 4, 5 and 15 to 21 of the chart).
use Rattle.std.specs.Prelude.{ℕ, Bool, true, false, ◌||◌, List, [], ◌∷◌, ◌++◌, get_or, Ok, Err}
use Rattle.refusal.specs.declared.Refusal.{Refusal}
use Rattle.refusal.specs.Number.{used_outside_ram}
use Rattle.refusal.specs.Rows.{refused_if, unless}
use Rattle.memory_range.specs.declared.range.MemoryRange.{MemoryRange}
use Rattle.memory_range.specs.declared.range.TaggedRange.{TaggedRange}
use Rattle.range_lists.specs.declared.walk.RangeWalkResult.{RangeWalkResult}
use Rattle.range_lists.specs.declared.walk.RangeWalkResult.TheVariants.{Left, Right, Both}
use Rattle.range_lists.specs.declared.walk.WalkPiece.{WalkPiece}
use Rattle.memory_range.specs.List.{ranges_in, tags_of}
use Rattle.range_lists.specs.Walk.{walk}
use Rattle.address_space.specs.declared.table.AddressRange.{AddressRange}
use Rattle.address_space.specs.declared.table.AddressSpaceManager.{AddressSpaceManager}
use Rattle.address_space.specs.declared.usage.AddressUsage.TheVariants.{Free}
use Rattle.address_space.specs.Table.{entry, pool_of, table_with}
use Rattle.address_space.specs.Usage.{usage_of}
use Rattle.memory.specs.declared.builder.AddressSpaceManagerBuilder.{AddressSpaceManagerBuilder}
use Rattle.memory.specs.declared.init.Init.{Init}
use Rattle.memory.specs.Rows.{rows_refusal}
use Rattle.memory.specs.Used.{any_outside, used_of, used_refusal}

-- what a build comes to: a refusal, or the table's entries
pub data Build : Type 0 where
  refused : Refusal → Build
  built : List AddressRange → Build

-- a piece of the RAM, with the node of the entry that holds it: free, or what the used range that holds it says
abbrev pub table_entry : List TaggedRange → List TaggedRange → MemoryRange → RangeWalkResult → List AddressRange
table_entry ram used r (Left i) = entry r (get_or (tags_of ram) i 0) Free ∷ []
table_entry ram used r (Right j) = []
table_entry ram used r (Both i j) = entry r (get_or (tags_of ram) i 0) (usage_of (get_or (tags_of used) j 0)) ∷ []

abbrev pub table_entries : List TaggedRange → List TaggedRange → List WalkPiece → List AddressRange
table_entries ram used [] = []
table_entries ram used (p ∷ ps) = table_entry ram used p.range p.result ++ table_entries ram used ps

-- the table: the pieces of the walk of the RAM with what is used
unfoldable pub table_of : List TaggedRange → List TaggedRange → List AddressRange
table_of ram used = table_entries ram used (walk (ranges_in ram) (ranges_in used))

-- row 21, and the table
unfoldable pub filled : List TaggedRange → List TaggedRange → Build
filled ram used = unless refused (refused_if (any_outside (ranges_in ram) (ranges_in used)) used_outside_ram) (built (table_of ram used))

-- all rows downward, for a table with so many entries
unfoldable pub build : AddressSpaceManagerBuilder → ℕ → List TaggedRange → List MemoryRange → List MemoryRange → Build
build b entries ram configs pools =
    unless refused (rows_refusal b entries (ranges_in ram) configs pools)
    (unless refused (used_refusal b configs pools) (filled ram (used_of b configs pools)))

-- whether there are pool ranges: they set the flag
abbrev pub has_pool : List MemoryRange → Bool
has_pool [] = false
has_pool (r ∷ rs) = true

-- the table with so many entries of its array, and its flag set where there are pool ranges
abbrev pub finished_with : AddressSpaceManager → ℕ → Bool → Init
finished_with m n pool = record { answer = Ok tt; manager = record { address_space = m.address_space; count = n; vtl2_pool = pool_of m || pool } }

-- the answer and the table: a refusal leaves the table and the flag as found
abbrev pub refused_with : AddressSpaceManager → Refusal → Init
refused_with m r = record { answer = Err r; manager = m }

abbrev pub init_as : AddressSpaceManager → Bool → Build → Init
init_as m pool (refused r) = refused_with m r
init_as m pool (built es) = record { answer = Ok tt; manager = table_with m es (pool_of m || pool) }
