-- Selection: which RAM the guest's VTL2 gets (docs/SPEC.md, section 19).
use Rattle.std.specs.Prelude.{ℕ, List, Option}
use Rattle.refusal.specs.Rows.{unless}
use Rattle.memory_range.specs.declared.range.MemoryRange.{MemoryRange}
use Rattle.host_params.specs.declared.IsolationType.{IsolationType}
use Rattle.host_params.specs.declared.MemoryAllocationMode.{MemoryAllocationMode}
use Rattle.host_params.specs.declared.MemoryAllocationMode.TheVariants.{Host, Vtl2}
use Rattle.host_params.specs.declared.MemoryEntry.{MemoryEntry}
use Rattle.vtl2_ram.specs.Boot.{boot_choice}
use Rattle.vtl2_ram.specs.Choice.{Choice, refused}
use Rattle.vtl2_ram.specs.Host.{host_choice}
use Rattle.host_map.specs.Map.{map_ranges, entries_in}
use Rattle.vtl2_ram.specs.Rows.{rows_refusal}

-- by who chooses
abbrev pub choice_by : MemoryAllocationMode → IsolationType → Option ℕ → MemoryRange → List MemoryEntry → List MemoryRange → Choice
choice_by Host isolation size file map imports = host_choice isolation file map
choice_by Vtl2 isolation size file map imports = boot_choice isolation size file (entries_in map) imports

-- rows 4 to 6, and then the mode's own
unfoldable pub choice : MemoryAllocationMode → IsolationType → Option ℕ → MemoryRange → List MemoryEntry → List MemoryRange → Choice
choice mode isolation size file map imports =
    unless refused (rows_refusal mode file (map_ranges map) imports) (choice_by mode isolation size file map imports)
