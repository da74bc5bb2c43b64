-- The host's map (docs/SPEC.md, section 19).
use Rattle.std.specs.Prelude.{ℕ, ◌≡◌, Bool, true, false, cond, List, [], ◌∷◌, map, length}
use Rattle.memory_range.specs.declared.range.MemoryRange.{MemoryRange}
use Rattle.memory_range.specs.declared.range.TaggedRange.{TaggedRange}
use Rattle.memory_range.specs.List.{ranges_in}
use Rattle.memory_range.specs.Range.{range}
use Rattle.host_params.specs.declared.MemoryEntry.{MemoryEntry}
use Rattle.host_params.specs.declared.MemoryMapEntryType.{MemoryMapEntryType}
use Rattle.host_params.specs.declared.MemoryMapEntryType.TheVariants.{Vtl2Protectable, Memory}

-- at most so many entries
abbrev pub max_entries : ℕ
max_entries = 1024

-- the type of an entry that the host keeps for VTL2, and of any other
abbrev pub type_of : Bool → MemoryMapEntryType
type_of true = Vtl2Protectable
type_of false = Memory

-- the map of lists of starts, ends, nodes, and of whether each entry is protectable; the shortest tells how many
-- entries there are
abbrev pub map_of : List ℕ → List ℕ → List ℕ → List Bool → List MemoryEntry
map_of [] es ns ls = []
map_of (s ∷ ss) [] ns ls = []
map_of (s ∷ ss) (e ∷ es) [] ls = []
map_of (s ∷ ss) (e ∷ es) (n ∷ ns) [] = []
map_of (s ∷ ss) (e ∷ es) (n ∷ ns) (l ∷ ls) = record { range = range s e; vnode = n; mem_type = type_of l } ∷ map_of ss es ns ls

-- four lists of one length
abbrev pub SameLengths : List ℕ → List ℕ → List ℕ → List Bool → Type 0
SameLengths ss es ns ls = (length es ≡ length ss) × (length ns ≡ length ss) × (length ls ≡ length ss)

abbrev pub is_protectable : MemoryMapEntryType → Bool
is_protectable Vtl2Protectable = true
is_protectable Memory = false

-- each field of a map as a list
abbrev pub map_starts_of : List MemoryEntry → List ℕ
map_starts_of = map (λ e. e.range.start)

abbrev pub map_ends_of : List MemoryEntry → List ℕ
map_ends_of = map (λ e. e.range.end)

abbrev pub map_nodes_of : List MemoryEntry → List ℕ
map_nodes_of = map (λ e. e.vnode)

abbrev pub map_protectable_of : List MemoryEntry → List Bool
map_protectable_of = map (λ e. is_protectable e.mem_type)

-- an entry's range with its node
abbrev pub noded_range : MemoryEntry → TaggedRange
noded_range e = record { range = e.range; tag = e.vnode }

-- all entries: boot mode takes both types alike
abbrev pub entries_in : List MemoryEntry → List TaggedRange
entries_in = map noded_range

abbrev pub map_ranges : List MemoryEntry → List MemoryRange
map_ranges map = ranges_in (entries_in map)

-- the protectable entries, in their order
abbrev pub protectable_in : List MemoryEntry → List TaggedRange
protectable_in [] = []
protectable_in (e ∷ es) = cond (is_protectable e.mem_type) (noded_range e ∷ protectable_in es) (protectable_in es)
