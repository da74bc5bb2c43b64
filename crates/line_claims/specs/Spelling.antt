-- The line that spells a record (docs/SPEC.md, section 13): each value has one spelling, so each record has one line.
use Rattle.std.specs.Prelude.{ℕ, ◌^◌, ◌<◌, Bool, true, false, List, [], ◌∷◌, Option, Some, None}
use Prim.Native.String.{String}
use Rattle.memory_range.specs.declared.range.MemoryRange.{MemoryRange}
use Rattle.host_params.specs.declared.AllocationPolicy.{AllocationPolicy}
use Rattle.host_params.specs.declared.AllocationPolicy.TheVariants.{LowMemory, HighMemory}
use Rattle.host_params.specs.declared.AllocationType.{AllocationType}
use Rattle.host_params.specs.declared.AllocationType.TheVariants.{GpaPool, SidecarNode, TdxPageTables}
use Rattle.host_params.specs.declared.IsolationType.{IsolationType}
use Rattle.host_params.specs.declared.IsolationType.TheVariants.{Vbs, Snp, Tdx, Cca}
use Rattle.host_params.specs.declared.IsolationType.TheVariants as isolation
use Rattle.host_params.specs.declared.MemoryAllocationMode.{MemoryAllocationMode}
use Rattle.host_params.specs.declared.MemoryAllocationMode.TheVariants.{Host, Vtl2}
use Rattle.host_params.specs.declared.MemoryMapEntryType.{MemoryMapEntryType}
use Rattle.host_params.specs.declared.MemoryMapEntryType.TheVariants.{Vtl2Protectable, Memory}
use Rattle.host_params.specs.declared.Vtl2GpaPoolConfig.{Vtl2GpaPoolConfig}
use Rattle.host_params.specs.declared.Vtl2GpaPoolConfig.TheVariants.{Heuristics, Off, Pages}
use Rattle.host_params.specs.declared.Vtl2GpaPoolLookupTable.{Vtl2GpaPoolLookupTable}
use Rattle.host_params.specs.declared.Vtl2GpaPoolLookupTable.TheVariants.{Release, Debug}
use Rattle.plan_fields.specs.Cut.{tab, join_with}
use Rattle.plan_fields.specs.Word.{ascii}
use Rattle.plan_record.specs.declared.record.Record.{Record}
use Rattle.plan_record.specs.declared.record.Record.TheVariants.{Shape, File, Mem, Import, Used, State, Config, Keep, Side, Tables, Log, Gpool, Pool, Get}
use Rattle.plan_output.specs.Number.{hex_of}

abbrev pub mode_word : MemoryAllocationMode → List ℕ
mode_word Host = ascii "h"
mode_word Vtl2 = ascii "b"

abbrev pub isolation_word : IsolationType → List ℕ
isolation_word isolation.None = ascii "none"
isolation_word Vbs = ascii "vbs"
isolation_word Snp = ascii "snp"
isolation_word Tdx = ascii "tdx"
isolation_word Cca = ascii "cca"

abbrev pub entry_type_word : MemoryMapEntryType → List ℕ
entry_type_word Vtl2Protectable = ascii "p"
entry_type_word Memory = ascii "o"

abbrev pub policy_word : AllocationPolicy → List ℕ
policy_word LowMemory = ascii "l"
policy_word HighMemory = ascii "h"

abbrev pub kind_word : AllocationType → List ℕ
kind_word GpaPool = ascii "p"
kind_word SidecarNode = ascii "s"
kind_word TdxPageTables = ascii "t"

abbrev pub split_word : Bool → List ℕ
split_word true = ascii "y"
split_word false = ascii "n"

abbrev pub table_word : Vtl2GpaPoolLookupTable → List ℕ
table_word Release = ascii "release"
table_word Debug = ascii "debug"

abbrev pub config_word : Vtl2GpaPoolConfig → List ℕ
config_word (Heuristics table) = table_word table
config_word Off = ascii "off"
config_word (Pages n) = ascii "pages"

abbrev pub pages_for : Vtl2GpaPoolConfig → List ℕ
pages_for (Heuristics table) = ascii "-"
pages_for Off = ascii "-"
pages_for (Pages n) = hex_of n

abbrev pub optional_for : Option ℕ → List ℕ
optional_for (Some n) = hex_of n
optional_for None = ascii "-"

abbrev pub optional_node_for : Option ℕ → List ℕ
optional_node_for (Some n) = hex_of n
optional_node_for None = ascii "-"

abbrev pub range_fields : String → MemoryRange → List (List ℕ)
range_fields word r = ascii word ∷ hex_of r.start ∷ hex_of r.end ∷ []

-- the fields of a record's line
abbrev pub fields_for : Record → List (List ℕ)
fields_for (Shape s) = ascii "shape" ∷ mode_word s.mode ∷ isolation_word s.isolation ∷ optional_for s.memory_size ∷ []
fields_for (File r) = range_fields "file" r
fields_for (Mem e) = ascii "mem" ∷ hex_of e.range.start ∷ hex_of e.range.end ∷ hex_of e.vnode ∷ entry_type_word e.mem_type ∷ []
fields_for (Import r) = range_fields "import" r
fields_for (Used r) = range_fields "used" r
fields_for (State r) = range_fields "state" r
fields_for (Config r) = range_fields "config" r
fields_for (Keep r) = range_fields "keep" r
fields_for (Side r) = range_fields "side" r
fields_for (Tables r) = range_fields "tables" r
fields_for (Log r) = range_fields "log" r
fields_for (Gpool r) = range_fields "gpool" r
fields_for (Pool p) =
    ascii "pool" ∷ config_word p.config ∷ pages_for p.config ∷ optional_for p.host_pages ∷ hex_of p.processors ∷ split_word p.split ∷ []
fields_for (Get g) =
    ascii "get" ∷ optional_node_for g.required_vnode ∷ hex_of g.len ∷ policy_word g.allocation_policy ∷ kind_word g.allocation_type
    ∷ optional_for g.alignment ∷ []

abbrev pub line_for : Record → List ℕ
line_for r = join_with tab (fields_for r)

-- the numbers of a record have 64 bits, a node 32
abbrev pub SizedOption : Option ℕ → Type 0
SizedOption (Some n) = n < 2 ^ 64
SizedOption None = Unit {0}

abbrev pub SizedNode : Option ℕ → Type 0
SizedNode (Some n) = n < 2 ^ 32
SizedNode None = Unit {0}

abbrev pub SizedConfig : Vtl2GpaPoolConfig → Type 0
SizedConfig (Heuristics table) = Unit {0}
SizedConfig Off = Unit {0}
SizedConfig (Pages n) = n < 2 ^ 64

abbrev pub SizedRange : MemoryRange → Type 0
SizedRange r = (r.start < 2 ^ 64) × (r.end < 2 ^ 64)

abbrev pub Sized : Record → Type 0
Sized (Shape s) = SizedOption s.memory_size
Sized (File r) = SizedRange r
Sized (Mem e) = SizedRange e.range × (e.vnode < 2 ^ 32)
Sized (Import r) = SizedRange r
Sized (Used r) = SizedRange r
Sized (State r) = SizedRange r
Sized (Config r) = SizedRange r
Sized (Keep r) = SizedRange r
Sized (Side r) = SizedRange r
Sized (Tables r) = SizedRange r
Sized (Log r) = SizedRange r
Sized (Gpool r) = SizedRange r
Sized (Pool p) = SizedConfig p.config × SizedOption p.host_pages × (p.processors < 2 ^ 64)
Sized (Get g) = SizedNode g.required_vnode × (g.len < 2 ^ 64) × SizedOption g.alignment
