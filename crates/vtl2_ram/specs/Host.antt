-- Host mode (docs/SPEC.md, section 19; document 01, Port order 4).
use Rattle.std.specs.Prelude.{ℕ, ◌+◌, ◌-◌, ◌^◌, max, Bool, true, false, cond, List, [], ◌∷◌, ltb, length, Option}
use Rattle.memory_range.specs.declared.range.MemoryRange.{MemoryRange}
use Rattle.memory_range.specs.declared.range.TaggedRange.{TaggedRange}
use Rattle.memory_range.specs.List.{tagged}
use Rattle.memory_range.specs.Range.{length_of}
use Rattle.memory_range.specs.Valid.{page_size}
use Rattle.host_params.specs.declared.IsolationType.{IsolationType}
use Rattle.host_params.specs.declared.IsolationType.TheVariants.{None, Vbs, Snp, Tdx, Cca}
use Rattle.host_params.specs.declared.MemoryEntry.{MemoryEntry}
use Rattle.boot_ram.specs.Held.{bytes_of}
use Rattle.boot_ram.specs.Verdict.{max_chosen}
use Rattle.refusal.specs.Number.{share_too_large, too_many_pieces}
use Rattle.refusal.specs.Rows.{refused_if, unless}
use Rattle.vtl2_ram.specs.Choice.{Choice, refused, chosen}
use Rattle.host_map.specs.Map.{protectable_in}
use Rattle.refusal.specs.declared.Refusal.{Refusal}

abbrev pub is_hardware_isolated : IsolationType → Bool
is_hardware_isolated None = false
is_hardware_isolated Vbs = false
is_hardware_isolated Snp = true
is_hardware_isolated Tdx = true
is_hardware_isolated Cca = true

-- where the range of an isolated guest ends, by the bytes of the protectable entries: its length is the greater of these
-- and the file's
abbrev pub isolated_end : MemoryRange → ℕ → ℕ
isolated_end file bytes = file.start + max bytes (length_of file)

-- an isolated guest: one range from the file's start, on node 0
abbrev pub isolated_choice : MemoryRange → ℕ → Choice
isolated_choice file bytes =
    unless refused (refused_if (ltb (2 ^ 64 - page_size) (isolated_end file bytes)) share_too_large)
    (chosen (tagged file.start (isolated_end file bytes) 0 ∷ []))

-- that the protectable entries are too many, if they are
abbrev pub protectable_refusal : List TaggedRange → Option Refusal
protectable_refusal xs = refused_if (ltb max_chosen (length xs)) too_many_pieces

-- any other guest keeps the protectable entries; without one it gets the file, on node 0
abbrev pub protectable_choice : MemoryRange → List TaggedRange → Choice
protectable_choice file [] = chosen (tagged file.start file.end 0 ∷ [])
protectable_choice file (x ∷ xs) = unless refused (protectable_refusal (x ∷ xs)) (chosen (x ∷ xs))

unfoldable pub host_choice : IsolationType → MemoryRange → List MemoryEntry → Choice
host_choice isolation file map =
    cond (is_hardware_isolated isolation) (isolated_choice file (bytes_of (protectable_in map))) (protectable_choice file (protectable_in map))
