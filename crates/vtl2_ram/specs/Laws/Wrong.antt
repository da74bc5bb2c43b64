-- Wrong answers of selection, each refuted (docs/PROVED.md).
use Rattle.std.specs.Prelude.{Bool, true, false, List, [], ◌∷◌, ◌≢◌, eqb, get_or, Option, Some, None}
use Rattle.std.proofs.Common.{ap, true≢false}
use Rattle.memory_range.specs.List.{tagged, starts_of}
use Rattle.memory_range.specs.Range.{range}
use Rattle.range_lists.specs.Walk.{walk_from}
use Rattle.host_params.specs.declared.IsolationType.TheVariants as isolation
use Rattle.host_params.specs.declared.MemoryAllocationMode.{MemoryAllocationMode}
use Rattle.host_params.specs.declared.MemoryAllocationMode.TheVariants.{Host, Vtl2}
use Rattle.host_params.specs.declared.MemoryEntry.{MemoryEntry}
use Rattle.host_params.specs.declared.MemoryMapEntryType.TheVariants.{Vtl2Protectable, Memory}
use Rattle.boot_ram.specs.File.{file_walk}
use Rattle.boot_ram.specs.Import.{import_walk}
use Rattle.boot_take.specs.Take.{taking}
use Rattle.refusal.specs.declared.Refusal.{Refusal}
use Rattle.refusal.specs.Number.{ram_size_below_file}
use Rattle.vtl2_ram.specs.Boot.{share_refusal, after_imports, beside_file, boot_parts, boot_choice}
use Rattle.vtl2_ram.specs.Choice.{Choice, chosen, entries_of}
use Rattle.vtl2_ram.specs.Rows.{counts_good, rows_known}
use Rattle.vtl2_ram.specs.Select.{choice}

-- what the answers are told apart by
abbrev passes : Option Refusal → Bool
passes None = true
passes (Some n) = false

-- a map of node 0: memory that the host keeps for VTL2, and above it other memory
abbrev pub both_types : List MemoryEntry
both_types =
    record { range = range 0 0x10000; vnode = 0; mem_type = Vtl2Protectable } ∷
    record { range = range 0x10000 0x20000; vnode = 0; mem_type = Memory } ∷ []

-- protectable entries alone in boot mode: what the file lacks is taken from the lower entry
pub protectable_alone :
    choice Vtl2 isolation.None (Some 0x10000) (range 0 0x8000) both_types [] ≢ chosen (tagged 0 0x8000 0 ∷ tagged 0x8000 0x10000 0 ∷ [])
unfolding choice rows_known boot_choice boot_parts beside_file file_walk after_imports import_walk taking walk_from
protectable_alone e = true≢false (ap (λ (c : Choice). eqb (get_or (starts_of (entries_of c)) 1 0) 0x18000) e)

-- 1,024 entries refused
pub full-map_refused : (mode : MemoryAllocationMode) → counts_good mode 1024 0 ≢ false
full-map_refused Host e = true≢false e
full-map_refused Vtl2 e = true≢false e

-- a RAM size that is the file's refused
pub size_of-file_refused : share_refusal (Some 0x1000) (range 0x1000 0x2000) 1 ≢ Some ram_size_below_file
size_of-file_refused e = true≢false (ap passes e)
