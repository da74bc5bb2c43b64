-- What a single field stands for (docs/SPEC.md, section 12).
use Rattle.std.specs.Prelude.{ℕ, Bool, true, false, cond, List, [], ◌∷◌, leb, Option, Some, None}
use Prim.Native.String.{String}
use Rattle.host_params.specs.declared.MemoryAllocationMode.{MemoryAllocationMode}
use Rattle.host_params.specs.declared.MemoryAllocationMode.TheVariants.{Host, Vtl2}
use Rattle.host_params.specs.declared.IsolationType.{IsolationType}
use Rattle.host_params.specs.declared.IsolationType.TheVariants.{Vbs, Snp, Tdx, Cca}
use Rattle.host_params.specs.declared.IsolationType.TheVariants as isolation
use Rattle.host_params.specs.declared.MemoryMapEntryType.{MemoryMapEntryType}
use Rattle.host_params.specs.declared.MemoryMapEntryType.TheVariants.{Vtl2Protectable, Memory}
use Rattle.host_params.specs.declared.AllocationPolicy.{AllocationPolicy}
use Rattle.host_params.specs.declared.AllocationPolicy.TheVariants.{LowMemory, HighMemory}
use Rattle.host_params.specs.declared.AllocationType.{AllocationType}
use Rattle.host_params.specs.declared.AllocationType.TheVariants.{GpaPool, SidecarNode, TdxPageTables}
use Rattle.host_params.specs.declared.Vtl2GpaPoolConfig.{Vtl2GpaPoolConfig}
use Rattle.host_params.specs.declared.Vtl2GpaPoolConfig.TheVariants.{Heuristics, Off, Pages}
use Rattle.host_params.specs.declared.Vtl2GpaPoolLookupTable.TheVariants.{Release, Debug}
use Rattle.plan_fields.specs.Word.{ascii, same_bytes, after, lookup}
use Rattle.plan_fields.specs.Number.{number_of}

-- the modes
abbrev pub modes : List (String × MemoryAllocationMode)
modes = ("h", Host) ∷ ("b", Vtl2) ∷ []

abbrev pub mode_of : List ℕ → Option MemoryAllocationMode
mode_of = lookup modes

-- the isolations
abbrev pub isolations : List (String × IsolationType)
isolations = ("none", isolation.None) ∷ ("vbs", Vbs) ∷ ("snp", Snp) ∷ ("tdx", Tdx) ∷ ("cca", Cca) ∷ []

abbrev pub isolation_of : List ℕ → Option IsolationType
isolation_of = lookup isolations

-- the types of map entries
abbrev pub entry_types : List (String × MemoryMapEntryType)
entry_types = ("p", Vtl2Protectable) ∷ ("o", Memory) ∷ []

abbrev pub entry_type_of : List ℕ → Option MemoryMapEntryType
entry_type_of = lookup entry_types

-- the policies
abbrev pub policies : List (String × AllocationPolicy)
policies = ("l", LowMemory) ∷ ("h", HighMemory) ∷ []

abbrev pub policy_of : List ℕ → Option AllocationPolicy
policy_of = lookup policies

-- the kinds of requests
abbrev pub kinds : List (String × AllocationType)
kinds = ("p", GpaPool) ∷ ("s", SidecarNode) ∷ ("t", TdxPageTables) ∷ []

abbrev pub kind_of : List ℕ → Option AllocationType
kind_of = lookup kinds

-- whether a split is forced
abbrev pub splits : List (String × Bool)
splits = ("y", true) ∷ ("n", false) ∷ []

abbrev pub split_of : List ℕ → Option Bool
split_of = lookup splits

-- `-`, which stands for a value that is absent
abbrev pub absent : List ℕ
absent = ascii "-"

-- the same with a tab behind it
abbrev pub absent_first : List ℕ
absent_first = ascii "-\t"

-- a number, or absent
abbrev pub optional_of : List ℕ → Option (Option ℕ)
optional_of f = cond (same_bytes f absent) (Some None) (after (number_of f) (λ n. Some (Some n)))

-- a number as a node: at most ffffffff
abbrev pub node_from : ℕ → Option ℕ
node_from n = cond (leb n 0xffffffff) (Some n) None

-- a node
abbrev pub node_of : List ℕ → Option ℕ
node_of f = after (number_of f) node_from

-- a node, or absent
abbrev pub optional_node_of : List ℕ → Option (Option ℕ)
optional_node_of f = cond (same_bytes f absent) (Some None) (after (node_of f) (λ n. Some (Some n)))

-- the same of a number that may be absent
abbrev pub optional_node_from : Option ℕ → Option (Option ℕ)
optional_node_from None = Some None
optional_node_from (Some n) = after (node_from n) (λ node. Some (Some node))

-- the kinds of pool that have no pages
abbrev pub kinds_without_pages : List (String × Vtl2GpaPoolConfig)
kinds_without_pages = ("off", Off) ∷ ("release", Heuristics Release) ∷ ("debug", Heuristics Debug) ∷ []

abbrev pub kind_without_pages : List ℕ → Option Vtl2GpaPoolConfig
kind_without_pages = lookup kinds_without_pages

-- a kind of pool and its pages: a number where the kind is `pages`, else absent
abbrev pub config_of : List ℕ → List ℕ → Option Vtl2GpaPoolConfig
config_of kind pages =
    cond (same_bytes kind (ascii "pages"))
    (after (number_of pages) (λ n. Some (Pages n)))
    (cond (same_bytes pages absent) (kind_without_pages kind) None)
