-- The rows of the refusal chart that concern selection, each as a rule by itself, said of numbers and bytes and not of the
-- walks that look for it (docs/SPEC.md, section 20). An accepted selection keeps every rule, and a refusal tells the number of the
-- first one that is broken.
use Rattle.std.specs.Prelude.{ℕ, ◌+◌, ◌-◌, ◌^◌, ◌≤◌, ◌<◌, ◌≡◌, true, false, cond, List, [], ◌∷◌, ◌⊎◌, eqb, length, Option}
use Rattle.memory_range.specs.declared.range.MemoryRange.{MemoryRange}
use Rattle.memory_range.specs.declared.range.TaggedRange.{TaggedRange}
use Rattle.memory_range.specs.Bytes.{holders, Ordered, All}
use Rattle.memory_range.specs.List.{ranges_in}
use Rattle.memory_range.specs.Range.{length_of, holds}
use Rattle.memory_range.specs.Valid.{page_size}
use Rattle.range_lists.specs.Walk.{walk}
use Rattle.range_lists.specs.Laws.Node.{has}
use Rattle.host_params.specs.declared.IsolationType.{IsolationType}
use Rattle.host_params.specs.declared.MemoryAllocationMode.{MemoryAllocationMode}
use Rattle.host_params.specs.declared.MemoryAllocationMode.TheVariants.{Host, Vtl2}
use Rattle.host_params.specs.declared.MemoryEntry.{MemoryEntry}
use Rattle.host_map.specs.Map.{max_entries, map_ranges, entries_in, protectable_in}
use Rattle.boot_nodes.specs.Node.{nodes_in, max_nodes}
use Rattle.boot_ram.specs.File.{file_verdicts, file_walk}
use Rattle.boot_ram.specs.Held.{PagedRange, Fits, on_node, bytes_of, holders_on}
use Rattle.boot_ram.specs.Import.{MayBeImported, import_verdicts, import_walk}
use Rattle.boot_ram.specs.Verdict.{max_chosen}
use Rattle.boot_take.specs.Take.{take_all_of}
use Rattle.refusal.specs.Number.{number_of, range_invalid, ranges_not_ascending, map_count_of, node_numbers, ram_size_below_file, share_too_large}
use Rattle.refusal.specs.Number.{file_not_in_map, import_crosses_file, import_not_in_map, node_too_small, too_many_pieces}
use Rattle.refusal.specs.Rule.{KeptBelow, BrokenAt}
use Rattle.vtl2_ram.specs.Boot.{size_wanted}
use Rattle.vtl2_ram.specs.Claim.{share_in, file_bytes_on}
use Rattle.vtl2_ram.specs.Host.{is_hardware_isolated, isolated_end}
use Rattle.vtl2_ram.specs.Rows.{max_imports}

-- the rows, and their numbers
pub data Row : Type 0 where
  row4 row5 row6 row7 row8 row9 row10 row11 row12 row13 row14 : Row

abbrev pub number : Row → ℕ
number row4 = number_of range_invalid
number row5 = number_of ranges_not_ascending
number row6 = number_of map_count_of
number row7 = number_of node_numbers
number row8 = number_of ram_size_below_file
number row9 = number_of share_too_large
number row10 = number_of file_not_in_map
number row11 = number_of import_crosses_file
number row12 = number_of import_not_in_map
number row13 = number_of node_too_small
number row14 = number_of too_many_pieces

-- the rows with lower numbers than this are looked at before a row: those above it in the chart; but a piece too many can come up
-- in every part, so before 14 only rows 4 to 9 are
abbrev pub looked_at : Row → ℕ
looked_at row = cond (eqb (number row) (number_of too_many_pieces)) (number_of file_not_in_map) (number row)

-- what is asked of host mode, and what of boot mode
abbrev pub ByMode : MemoryAllocationMode → Type 0 → Type 0 → Type 0
ByMode Host P Q = P
ByMode Vtl2 P Q = Q

-- a rule of boot mode alone
abbrev pub InBoot : MemoryAllocationMode → Type 0 → Type 0
InBoot mode P = ByMode mode (Unit {0}) P

-- row 11: an imported range has no byte that is not the file's, or none that is
abbrev pub InsideOrOutside : MemoryRange → MemoryRange → Type 0
InsideOrOutside file r = ((a : ℕ) → holds r a ≡ true → holds file a ≡ true) ⊎ ((a : ℕ) → holds r a ≡ true → holds file a ≡ false)

-- row 13: entries that hold the free bytes of a node, those of its map entries that neither the file nor an imported range holds
abbrev pub FreeOn : MemoryRange → List TaggedRange → List MemoryRange → ℕ → List TaggedRange → Type 0
FreeOn file map imports n free = (a : ℕ) → holders_on n free a ≡ cond (eqb (holders imports a) 0) (cond (holds file a) 0 (holders_on n map a)) 0

-- row 14: the pieces of the file walk, of the import walk and of the taking can be held
abbrev pub PiecesFit : IsolationType → MemoryRange → List TaggedRange → List MemoryRange → ℕ → List ℕ → Type 0
PiecesFit isolation file map imports share nodes =
    let found = (file_walk file map).free in
    let pieces = (file_walk file map).chosen in
    let free = (import_walk isolation file imports found).free in
    Fits 0 0 (file_verdicts map (walk (file ∷ []) (ranges_in map)))
    × Fits 0 0 (import_verdicts isolation file imports found (walk imports (ranges_in found)))
    × Fits 0 (length pieces) (take_all_of share pieces free nodes)

module _ (mode : MemoryAllocationMode) (isolation : IsolationType) (size : (Option ℕ)) (file : MemoryRange) (map : List MemoryEntry)
    (imports : List MemoryRange) where
  abbrev pub Rule : Row → Type 0
  -- each range has a byte, and starts and ends at a page
  Rule row4 = PagedRange file × All PagedRange (map_ranges map) × All PagedRange imports
  -- the map ascends without overlap, and so do the imported ranges
  Rule row5 = Ordered 0 (map_ranges map) × Ordered 0 imports
  -- neither is too long, and boot mode has a map
  Rule row6 = (length map ≤ max_entries) × (length imports ≤ max_imports) × InBoot mode (0 < length map)
  -- there are at most 64 nodes, and each is below their count
  Rule row7 = InBoot mode ((length (nodes_in map) ≤ max_nodes) × ((n : ℕ) → has n (nodes_in map) ≡ true → n < length (nodes_in map)))
  -- the RAM size is not below the file's
  Rule row8 = InBoot mode (length_of file ≤ size_wanted size file)
  -- the share, or the end of an isolated guest's range, is not above the last page address
  Rule row9 =
      ByMode mode (is_hardware_isolated isolation ≡ true → isolated_end file (bytes_of (protectable_in map)) ≤ 2 ^ 64 - page_size)
      (share_in size file map ≤ 2 ^ 64 - page_size)
  -- every byte of the file lies in the map
  Rule row10 = InBoot mode ((a : ℕ) → holds file a ≡ true → 0 < holders (map_ranges map) a)
  Rule row11 = InBoot mode (All (InsideOrOutside file) imports)
  -- every imported byte lies in the file or in the map, or Tdx excuses it
  Rule row12 = InBoot mode ((a : ℕ) → 0 < holders imports a → MayBeImported isolation file (map_ranges map) a)
  -- on every node the file's bytes and the free ones are no fewer than the share
  Rule row13 =
      InBoot mode ((n : ℕ) → has n (nodes_in map) ≡ true → (free : List TaggedRange) → FreeOn file (entries_in map) imports n free
      → share_in size file map ≤ file_bytes_on file (entries_in map) n + bytes_of (on_node n free))
  -- no more than 64 pieces are chosen, and no walk has more than 1,024 free ones
  Rule row14 =
      ByMode mode (is_hardware_isolated isolation ≡ false → length (protectable_in map) ≤ max_chosen)
      (PiecesFit isolation file (entries_in map) imports (share_in size file map) (nodes_in map))

  -- the rules of the rows below a number are kept
  abbrev pub Kept : ℕ → Type 0
  Kept = KeptBelow number Rule

  -- a rule is broken, and those that are looked at before it are kept
  abbrev pub Broken : ℕ → Type 0
  Broken = BrokenAt number Rule looked_at
