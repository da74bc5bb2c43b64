-- The record of a line (docs/SPEC.md, section 13).
use Rattle.std.specs.Prelude.{ℕ, ◌+◌, ◌≡◌, drop, cond, List, [], ◌∷◌, eqb, length, get_or, Option, Some, None}
use Rattle.std.proofs.Common.{Bor}
use Prim.Native.String.{String}
use Rattle.memory_range.specs.declared.range.MemoryRange.{MemoryRange}
use Rattle.plan_fields.specs.Cut.{tab, split_on}
use Rattle.plan_fields.specs.Word.{ascii, same_bytes, after}
use Rattle.plan_fields.specs.Number.{number_of}
use Rattle.plan_record.specs.Value.{mode_of, isolation_of, entry_type_of, policy_of, kind_of, split_of, optional_of, node_of, optional_node_of, config_of}
use Rattle.plan_record.specs.declared.record.Record.{Record}
use Rattle.plan_record.specs.declared.record.Record.TheVariants.{Shape, File, Mem, Import, Used, State, Config, Keep, Side, Tables, Log, Gpool, Pool, Get}

-- a value made of n fields; none where there are more or fewer
abbrev pub having : {A : Type 0} → ℕ → List (List ℕ) → Option A → Option A
having n fields value = cond (eqb (length fields) n) value None

-- field k, counted from 0 behind the word
abbrev pub field : ℕ → List (List ℕ) → List ℕ
field k fields = get_or fields k []

-- `shape`: mode, isolation, RAM size or absent
abbrev pub shape_of : List (List ℕ) → Option Record
shape_of fs = having 3 fs (
    after (mode_of (field 0 fs)) (λ mode.
    after (isolation_of (field 1 fs)) (λ isolation.
    after (optional_of (field 2 fs)) (λ size.
    Some (Shape (record { mode = mode; isolation = isolation; memory_size = size }))))))

-- `mem`: start, end, node, type
abbrev pub mem_of : List (List ℕ) → Option Record
mem_of fs = having 4 fs (
    after (number_of (field 0 fs)) (λ start.
    after (number_of (field 1 fs)) (λ end.
    after (node_of (field 2 fs)) (λ node.
    after (entry_type_of (field 3 fs)) (λ type.
    Some (Mem (record { range = record { start = start; end = end }; vnode = node; mem_type = type })))))))

-- `pool`: kind with its pages, host pages or absent, processors, split
abbrev pub pool_of : List (List ℕ) → Option Record
pool_of fs = having 5 fs (
    after (config_of (field 0 fs) (field 1 fs)) (λ config.
    after (optional_of (field 2 fs)) (λ host.
    after (number_of (field 3 fs)) (λ processors.
    after (split_of (field 4 fs)) (λ split.
    Some (Pool (record { config = config; host_pages = host; processors = processors; split = split })))))))

-- `get`: node or absent, length, policy, kind, alignment or absent
abbrev pub get_of : List (List ℕ) → Option Record
get_of fs = having 5 fs (
    after (optional_node_of (field 0 fs)) (λ node.
    after (number_of (field 1 fs)) (λ len.
    after (policy_of (field 2 fs)) (λ policy.
    after (kind_of (field 3 fs)) (λ kind.
    after (optional_of (field 4 fs)) (λ align.
    Some (Get (record { required_vnode = node; len = len; allocation_policy = policy; allocation_type = kind; alignment = align }))))))))

-- a start and an end
abbrev pub range_of : List (List ℕ) → Option MemoryRange
range_of fs = having 2 fs (
    after (number_of (field 0 fs)) (λ start.
    after (number_of (field 1 fs)) (λ end.
    Some (record { start = start; end = end }))))

-- how often a word may stand in a text: once; at most once (`?`); any number of times (`*`)
pub data Occurs : Type 0 where
  one : Occurs
  optional : Occurs
  many : Occurs

-- a word, how often it may stand, and what it makes of the fields behind it: of its own fields, or of a start and an end
pub data Form : Type 0 where
  own : String → Occurs → (List (List ℕ) → Option Record) → Form
  range : String → Occurs → (MemoryRange → Record) → Form

-- the fourteen words in their order (document 01, "The plan text")
abbrev pub forms : List Form
forms =
    own "shape" one shape_of
    ∷ range "file" one File
    ∷ own "mem" many mem_of
    ∷ range "import" many Import
    ∷ range "used" one Used
    ∷ range "state" one State
    ∷ range "config" many Config
    ∷ range "keep" optional Keep
    ∷ range "side" optional Side
    ∷ range "tables" optional Tables
    ∷ range "log" optional Log
    ∷ range "gpool" many Gpool
    ∷ own "pool" one pool_of
    ∷ own "get" many get_of
    ∷ []

abbrev pub word_in : Form → List ℕ
word_in (own word times make) = ascii word
word_in (range word times make) = ascii word

abbrev pub times_of : Form → Occurs
times_of (own word times make) = times
times_of (range word times make) = times

abbrev pub makes : Form → List (List ℕ) → Option Record
makes (own word times make) fields = make fields
makes (range word times make) fields = after (range_of fields) (λ r. Some (make r))

-- the record that a word makes of the fields behind it, by the form whose word it is
abbrev pub record_by : List Form → List ℕ → List (List ℕ) → Option Record
record_by [] w fields = None
record_by (form ∷ rest) w fields = cond (same_bytes w (word_in form)) (makes form fields) (record_by rest w fields)

abbrev pub record_for : List ℕ → List (List ℕ) → Option Record
record_for w fields = record_by forms w fields

-- the record that a word makes of a range, where its fields are a start and an end
abbrev pub range_by : List Form → List ℕ → MemoryRange → Option Record
range_by [] w r = None
range_by (own word times make ∷ rest) w r = range_by rest w r
range_by (range word times make ∷ rest) w r = cond (same_bytes w (ascii word)) (Some (make r)) (range_by rest w r)

-- the record of a line's fields: the first is its word
abbrev pub fields_record : List (List ℕ) → Option Record
fields_record [] = None
fields_record (w ∷ fields) = record_for w fields

-- the record of a line, without its newline; none where the line breaks its form
abbrev pub line_of : List ℕ → Option Record
line_of bs = fields_record (split_on tab bs)

-- a value that was read of the first of several fields, with the fields behind it, by what is to be read with that field's length
abbrev pub Taken : {A : Type 0} → Option (A × ℕ) → List ℕ → Option (A × Bor (List ℕ)) → Type 0
Taken None bs None = Unit {0}
Taken None bs (Some r) = ⊥
Taken (Some p) bs None = ⊥
Taken (Some p) bs (Some r) = (r.0 ≡ p.0) × (r.1.now ≡ drop (p.1 + 1) bs)
