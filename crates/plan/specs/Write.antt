-- The lists of a plan as lines (docs/SPEC.md, section 29).
use Rattle.std.specs.Prelude.{ℕ, List, [], ◌∷◌, map, get_or}
use Rattle.memory_range.specs.declared.range.TaggedRange.{TaggedRange}
use Rattle.host_params.specs.declared.MemoryVtlType.{MemoryVtlType}
use Rattle.host_params.specs.declared.MemoryVtlType.TheVariants as vtl
use Rattle.address_space.specs.declared.request.AllocatedRange.{AllocatedRange}
use Rattle.address_space.specs.declared.table.AddressRange.{AddressRange}
use Rattle.address_space.specs.List.{vtl2_ranges}
use Rattle.plan.specs.declared.line.OutputLine.{OutputLine}
use Rattle.plan.specs.declared.line.OutputLine.TheVariants.{Ram, Pool, Map}

-- the chosen RAM, by start
abbrev pub ram_lines : List TaggedRange → List OutputLine
ram_lines = map (λ x. Ram x.range x.tag)

-- the pool's ranges, by node
abbrev pub pool_lines : List AllocatedRange → List OutputLine
pool_lines = map (λ x. Pool x.range x.vnode)

-- the types by their numbers in a list of ranges
abbrev pub types : List MemoryVtlType
types =
    vtl.Ram ∷
    vtl.Config ∷
    vtl.Reserved ∷
    vtl.SidecarImage ∷
    vtl.SidecarNode ∷
    vtl.GpaPool ∷
    vtl.TdxPageTables ∷
    vtl.BootshimLogBuffer ∷
    vtl.PersistedStateHeader ∷
    vtl.PersistedStatePayload ∷ []

abbrev pub type_of : ℕ → MemoryVtlType
type_of number = get_or types number vtl.Ram

abbrev pub typed_lines : List TaggedRange → List OutputLine
typed_lines = map (λ x. Map x.range (type_of x.tag))

-- a table, by start: touching ranges of one type are joined
abbrev pub map_lines : List AddressRange → List OutputLine
map_lines es = typed_lines (vtl2_ranges es)
