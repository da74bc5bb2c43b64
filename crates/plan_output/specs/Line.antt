-- The bytes of each output line (docs/SPEC.md, section 16).
use Rattle.std.specs.Prelude.{ℕ, List, [], ◌∷◌, ◌++◌, length, drop}
use Rattle.memory_range.specs.declared.range.MemoryRange.{MemoryRange}
use Rattle.plan_fields.specs.Cut.{tab, newline, join_with}
use Rattle.plan_fields.specs.Word.{ascii}
use Rattle.host_params.specs.declared.MemoryVtlType.{MemoryVtlType}
use Rattle.host_params.specs.declared.MemoryVtlType.TheVariants.{Ram, Config, SidecarImage, SidecarNode, Reserved, GpaPool, TdxPageTables, BootshimLogBuffer, PersistedStateHeader, PersistedStatePayload}
use Rattle.plan_output.specs.Number.{hex_of, decimal_of}

-- fields with a tab between each two, and a newline behind the last
abbrev pub line_of : List (List ℕ) → List ℕ
line_of fields = join_with tab fields ++ newline ∷ []

-- a word, start, end, and a last field
unfoldable pub range_line : List ℕ → MemoryRange → List ℕ → List ℕ
range_line word r last = line_of (word ∷ hex_of r.start ∷ hex_of r.end ∷ last ∷ [])

abbrev pub ram_line : MemoryRange → ℕ → List ℕ
ram_line r node = range_line (ascii "ram") r (hex_of node)

abbrev pub pool_line : MemoryRange → ℕ → List ℕ
pool_line r node = range_line (ascii "pool") r (hex_of node)

abbrev pub got_line : MemoryRange → ℕ → List ℕ
got_line r node = range_line (ascii "got") r (hex_of node)

-- the line of a refusal, whose number stands in decimal
unfoldable pub no_line : ℕ → List ℕ
no_line refusal = line_of (ascii "no" ∷ decimal_of refusal ∷ [])

-- the word of each type
abbrev pub type_word : MemoryVtlType → List ℕ
type_word Ram = ascii "ram"
type_word Config = ascii "config"
type_word SidecarImage = ascii "sidecar-image"
type_word SidecarNode = ascii "sidecar-node"
type_word Reserved = ascii "reserved"
type_word GpaPool = ascii "pool"
type_word TdxPageTables = ascii "tdx-tables"
type_word BootshimLogBuffer = ascii "log"
type_word PersistedStateHeader = ascii "state-header"
type_word PersistedStatePayload = ascii "state-payload"

abbrev pub map_line : MemoryRange → MemoryVtlType → List ℕ
map_line r t = range_line (ascii "map") r (type_word t)

-- the buffer with a line at its start: the bytes behind the line are as they were
abbrev pub written : List ℕ → List ℕ → List ℕ
written line buffer = line ++ drop (length line) buffer
