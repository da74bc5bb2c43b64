-- A part of boot selection holds no more pieces than there is room for.
use Rattle.std.specs.Prelude.{ℕ, ◌≤◌, List, [], ◌∷◌, length}
use Rattle.std.proofs.Common.{arith}
use Rattle.memory_range.specs.List.{ranges_in}
use Rattle.memory_range.specs.declared.range.MemoryRange.{MemoryRange}
use Rattle.memory_range.specs.declared.range.TaggedRange.{TaggedRange}
use Rattle.range_lists.specs.Walk.{walk}
use Rattle.host_params.specs.declared.IsolationType.{IsolationType}
use Rattle.boot_ram.specs.File.{file_verdicts, file_walk}
use Rattle.boot_ram.specs.Import.{import_verdicts, import_walk}
use Rattle.boot_take.specs.Take.{take_all_of, taking}
use Rattle.boot_ram.specs.Verdict.{max_chosen}
use Rattle.boot_ram.specs.Laws.Judged.{WithinBounds, judged_bounds}

-- the file walk, the import walk and the taking
pub file_bounds : (file : MemoryRange) (m : List TaggedRange) → WithinBounds 0 0 (file_walk file m)
unfolding file_walk
file_bounds file m = judged_bounds 0 0 (file_verdicts m (walk (file ∷ []) (ranges_in m))) (omega arith) (omega arith)

pub import_bounds : (i : IsolationType) (file : MemoryRange) (imports : List MemoryRange) (m : List TaggedRange) → WithinBounds 0 0 (import_walk i file imports m)
unfolding import_walk
import_bounds i file imports m = judged_bounds 0 0 (import_verdicts i file imports m (walk imports (ranges_in m))) (omega arith) (omega arith)

pub taking_bounds : (share : ℕ) (pieces found : List TaggedRange) (nodes : List ℕ) → length pieces ≤ max_chosen
    → WithinBounds 0 (length pieces) (taking share pieces found nodes)
unfolding taking
taking_bounds share pieces found nodes h = judged_bounds 0 (length pieces) (take_all_of share pieces found nodes) (omega arith) h
