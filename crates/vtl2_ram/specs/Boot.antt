-- Boot mode (docs/SPEC.md, section 19; document 01, Port order 4).
use Rattle.std.specs.Prelude.{ℕ, ◌-◌, ◌^◌, ◌≡◌, Bool, true, false, not, List, [], ◌∷◌, ◌++◌, ltb, length, Option, Some, None, Result, Ok, Err}
use Rattle.memory_range.specs.declared.range.MemoryRange.{MemoryRange}
use Rattle.memory_range.specs.declared.range.TaggedRange.{TaggedRange}
use Rattle.memory_range.specs.List.{ranges_in, tags_of}
use Rattle.memory_range.specs.Range.{length_of}
use Rattle.range_lists.specs.Sort.{sort_by_start}
use Rattle.memory_range.specs.Valid.{page_size, valid_range, all_valid_of, ascend}
use Rattle.host_params.specs.declared.IsolationType.{IsolationType}
use Rattle.boot_ram.specs.File.{file_walk}
use Rattle.boot_ram.specs.Import.{imports_clear, import_walk}
use Rattle.boot_nodes.specs.Node.{distinct, nodes_bad}
use Rattle.boot_nodes.specs.Share.{share_of}
use Rattle.boot_take.specs.Take.{taking}
use Rattle.boot_ram.specs.Verdict.{Judged, ends}
use Rattle.refusal.specs.Number.{node_numbers, ram_size_below_file, share_too_large, import_crosses_file}
use Rattle.refusal.specs.Rows.{refused_if, downward, unless}
use Rattle.vtl2_ram.specs.Choice.{Choice, refused, chosen}
use Rattle.refusal.specs.declared.Refusal.{Refusal}

-- the RAM size: the one given, or the file's
abbrev pub size_wanted : Option ℕ → MemoryRange → ℕ
size_wanted (Some size) file = size
size_wanted None file = length_of file

-- row 8: a size is given, and is below the file's
abbrev pub is_size_below : Option ℕ → MemoryRange → Bool
is_size_below (Some size) file = ltb size (length_of file)
is_size_below None file = false

-- row 9: a share is above the highest page multiple of 64 bits
abbrev pub share_too_large_for : ℕ → ℕ → Option Refusal
share_too_large_for size n = refused_if (ltb (2 ^ 64 - page_size) (share_of size n)) share_too_large

abbrev pub share_refusal : Option ℕ → MemoryRange → ℕ → Option Refusal
share_refusal size file n = downward (refused_if (is_size_below size file) ram_size_below_file ∷ share_too_large_for (size_wanted size file) n ∷ [])

abbrev pub share_as : Option Refusal → ℕ → Result ℕ Refusal
share_as None share = Ok share
share_as (Some n) share = Err n

-- a refusal, if there is one, and else what comes next
abbrev pub next_unless : Option Refusal → Judged → Judged
next_unless None next = next
next_unless (Some n) next = ends (Some n)

-- a part, and where it does not refuse the next one, which is given its free pieces
abbrev pub and_then : Judged → (List TaggedRange → Judged) → Judged
and_then j next = next_unless j.refusal (next j.free)

-- parts 3 and 4, from the free pieces and the chosen ones of the file walk
unfoldable pub after_imports : IsolationType → MemoryRange → List MemoryRange → List TaggedRange → ℕ → List TaggedRange → List ℕ → Judged
after_imports isolation file imports found share pieces nodes =
    and_then (import_walk isolation file imports found) (λ free. taking share pieces free nodes)

-- parts 2 to 4, from the free pieces and the chosen ones of the file walk: all imported ranges against the file, the import walk,
-- the taking; and then the whole list in order of start
unfoldable pub beside_file : IsolationType → MemoryRange → List MemoryRange → ℕ → List ℕ → List TaggedRange → List TaggedRange → Choice
beside_file isolation file imports share nodes found pieces =
    let taken = after_imports isolation file imports found share pieces nodes in
    unless refused (downward (refused_if (not (imports_clear file imports)) import_crosses_file ∷ taken.refusal ∷ []))
    (chosen (sort_by_start (pieces ++ taken.chosen)))

-- the four parts, the file walk first
unfoldable pub boot_parts : IsolationType → MemoryRange → List TaggedRange → List MemoryRange → ℕ → List ℕ → Choice
boot_parts isolation file map imports share nodes =
    let pieces = file_walk file map in
    unless refused pieces.refusal (beside_file isolation file imports share nodes pieces.free pieces.chosen)

-- rows 7, 8 and 9, then the parts
unfoldable pub boot_choice : IsolationType → Option ℕ → MemoryRange → List TaggedRange → List MemoryRange → Choice
boot_choice isolation size file map imports =
    let nodes = distinct (tags_of map) in
    unless refused (downward (refused_if (nodes_bad nodes) node_numbers ∷ share_refusal size file (length nodes) ∷ []))
    (boot_parts isolation file map imports (share_of (size_wanted size file) (length nodes)) nodes)

-- what rows 4 and 5 let through
abbrev pub RowsPassed : MemoryRange → List TaggedRange → List MemoryRange → Type 0
RowsPassed file map imports =
    (valid_range file ≡ true) × (all_valid_of (ranges_in map) ≡ true) × (ascend (ranges_in map) ≡ true) × (all_valid_of imports ≡ true) × (ascend imports ≡ true)
