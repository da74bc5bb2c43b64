-- A line that has a record has at most 63 bytes.
use Rattle.std.specs.Prelude.{ℕ, ◌+◌, ◌^◌, ◌≤◌, ◌<◌, ◌≡◌, Bool, true, false, List, [], ◌∷◌, length, Option, Some, None}
use Rattle.std.proofs.Common.{arith, length-append}
use Rattle.memory_range.specs.declared.range.MemoryRange.{MemoryRange}
use Rattle.host_params.specs.declared.AllocationPolicy.{AllocationPolicy}
use Rattle.host_params.specs.declared.AllocationPolicy.TheVariants.{LowMemory, HighMemory}
use Rattle.host_params.specs.declared.AllocationType.{AllocationType}
use Rattle.host_params.specs.declared.AllocationType.TheVariants.{GpaPool, SidecarNode, TdxPageTables}
use Rattle.host_params.specs.declared.IsolationType.{IsolationType}
use Rattle.host_params.specs.declared.IsolationType.TheVariants.{Vbs, Snp, Tdx, Cca}
use Rattle.host_params.specs.declared.IsolationType.TheVariants as isolation
use Rattle.host_params.specs.declared.MemoryAllocationMode.{MemoryAllocationMode}
use Rattle.host_params.specs.declared.MemoryAllocationMode.TheVariants.{Host, Vtl2}
use Rattle.host_params.specs.declared.MemoryMapEntryType.{MemoryMapEntryType}
use Rattle.host_params.specs.declared.MemoryMapEntryType.TheVariants.{Vtl2Protectable, Memory}
use Rattle.host_params.specs.declared.Vtl2GpaPoolConfig.{Vtl2GpaPoolConfig}
use Rattle.host_params.specs.declared.Vtl2GpaPoolConfig.TheVariants.{Heuristics, Off, Pages}
use Rattle.host_params.specs.declared.Vtl2GpaPoolLookupTable.TheVariants.{Release, Debug}
use Rattle.plan_fields.specs.Cut.{tab, join_with}
use Rattle.plan_fields.specs.Word.{ascii}
use Rattle.plan_record.specs.declared.record.Record.{Record}
use Rattle.plan_record.specs.declared.record.Record.TheVariants.{Shape, File, Mem, Import, Used, State, Config, Keep, Side, Tables, Log, Gpool, Pool, Get}
use Rattle.plan_record.specs.Record.{line_of}
use Rattle.plan_output.specs.Number.{hex_of}
use Rattle.plan_output.specs.Laws.Number.{hex-length}
use Rattle.line_claims.proofs.Laws.Record.{line_spelled}
use Rattle.line_claims.specs.Spelling.{mode_word, isolation_word, entry_type_word, policy_word, kind_word, split_word, config_word, pages_for, optional_for, optional_node_for, line_for}
use Rattle.line_claims.specs.Spelling.{SizedOption, SizedNode, SizedConfig, SizedRange, Sized}

-- the bytes of the longest line: `pool`, `pages`, three numbers of 16 digits, `y` or `n`, and a tab between each two
abbrev pub longest_line : ℕ
longest_line = 63

hex-short : (n : ℕ) → n < 2 ^ 64 → length (hex_of n) ≤ 16
hex-short n h = hex-length n 16 (omega arith) (omega arith) h

node-short : (n : ℕ) → n < 2 ^ 32 → length (hex_of n) ≤ 8
node-short n h = hex-length n 8 (omega arith) (omega arith) h

mode-short : (v : MemoryAllocationMode) → length (mode_word v) ≤ 1
mode-short Host = omega arith
mode-short Vtl2 = omega arith

isolation-short : (v : IsolationType) → length (isolation_word v) ≤ 4
isolation-short isolation.None = omega arith
isolation-short Vbs = omega arith
isolation-short Snp = omega arith
isolation-short Tdx = omega arith
isolation-short Cca = omega arith

entry_type-short : (v : MemoryMapEntryType) → length (entry_type_word v) ≤ 1
entry_type-short Vtl2Protectable = omega arith
entry_type-short Memory = omega arith

policy-short : (v : AllocationPolicy) → length (policy_word v) ≤ 1
policy-short LowMemory = omega arith
policy-short HighMemory = omega arith

kind-short : (v : AllocationType) → length (kind_word v) ≤ 1
kind-short GpaPool = omega arith
kind-short SidecarNode = omega arith
kind-short TdxPageTables = omega arith

split-short : (v : Bool) → length (split_word v) ≤ 1
split-short true = omega arith
split-short false = omega arith

optional-short : (v : (Option ℕ)) → SizedOption v → length (optional_for v) ≤ 16
optional-short (Some n) h = hex-short n h
optional-short None h = omega arith

optional-node-short : (v : (Option ℕ)) → SizedNode v → length (optional_node_for v) ≤ 8
optional-node-short (Some n) h = node-short n h
optional-node-short None h = omega arith

-- only the kind `pages` has more than one byte behind it
config-short : (v : Vtl2GpaPoolConfig) → SizedConfig v → length (config_word v) + length (pages_for v) ≤ 21
config-short (Heuristics Release) h = omega arith
config-short (Heuristics Debug) h = omega arith
config-short Off h = omega arith
config-short (Pages n) h = omega (arith, hex-short n h)

-- the bytes of fields, each with a tab in front
abbrev behind : List (List ℕ) → ℕ
behind [] = 0
behind (f ∷ fs) = 1 + length f + behind fs

join-length : (w : List ℕ) (fs : List (List ℕ)) → length (join_with tab (w ∷ fs)) ≡ length w + behind fs
join-length w [] = omega arith
join-length w (f ∷ fs) = omega (arith, length-append w (tab ∷ join_with tab (f ∷ fs)), join-length f fs)

range-short : (w : List ℕ) (r : MemoryRange) → length w ≤ 6 → SizedRange r
    → length (join_with tab (w ∷ hex_of r.start ∷ hex_of r.end ∷ [])) ≤ longest_line
range-short w r l h =
    omega (arith, join-length w (hex_of r.start ∷ hex_of r.end ∷ []), hex-short r.start h.0, hex-short r.end h.1)

record-short : (r : Record) → Sized r → length (line_for r) ≤ longest_line
record-short (Shape s) h =
    rw join-length (omega (arith, mode-short s.mode, isolation-short s.isolation, optional-short s.memory_size h))
record-short (File r) h = range-short (ascii "file") r (omega arith) h
record-short (Mem e) h =
    rw join-length (omega (arith, hex-short e.range.start h.0.0, hex-short e.range.end h.0.1, node-short e.vnode h.1, entry_type-short e.mem_type))
record-short (Import r) h = range-short (ascii "import") r (omega arith) h
record-short (Used r) h = range-short (ascii "used") r (omega arith) h
record-short (State r) h = range-short (ascii "state") r (omega arith) h
record-short (Config r) h = range-short (ascii "config") r (omega arith) h
record-short (Keep r) h = range-short (ascii "keep") r (omega arith) h
record-short (Side r) h = range-short (ascii "side") r (omega arith) h
record-short (Tables r) h = range-short (ascii "tables") r (omega arith) h
record-short (Log r) h = range-short (ascii "log") r (omega arith) h
record-short (Gpool r) h = range-short (ascii "gpool") r (omega arith) h
record-short (Pool p) h =
    rw join-length (omega (arith, config-short p.config h.0, optional-short p.host_pages h.1, hex-short p.processors h.2, split-short p.split))
record-short (Get g) h =
    rw join-length (omega (arith, optional-node-short g.required_vnode h.0, hex-short g.len h.1, policy-short g.allocation_policy, kind-short g.allocation_type, optional-short g.alignment h.2))

pub line-short : (line : List ℕ) (r : Record) → line_of line ≡ Some r → length line ≤ longest_line
line-short line r e = let s = line_spelled line r e in rw s.0 (record-short r s.1)
