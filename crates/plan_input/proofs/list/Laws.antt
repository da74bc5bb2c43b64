-- Rows 4 and 5 of a list of items are those of their ranges.
use mathlib.Core.Path.{◌≡◌, refl, ap, ◌∙◌}
use mathlib.Core.List.{List, [], ◌∷◌, map}
use Rattle.std.proofs.lemmas.List.{map-id}
use Rattle.memory_range.specs.declared.range.MemoryRange.{MemoryRange}
use Rattle.host_params.specs.declared.MemoryEntry.{MemoryEntry}
use Rattle.host_map.specs.declared.rows.RangeCheck.{RangeCheck}
use Rattle.host_map.specs.Map.{map_ranges}
use Rattle.host_map.specs.Rows.{check_start, checked_all}

entry_ranges : (m : List MemoryEntry) → map (λ e. e.range) m ≡ map_ranges m
entry_ranges [] = refl
entry_ranges (e ∷ m) = ap (λ l. e.range ∷ l) (entry_ranges m)

pub check_entries : (m : List MemoryEntry) {k : RangeCheck} → k ≡ checked_all check_start (map (λ e. e.range) m)
    → k ≡ checked_all check_start (map_ranges m)
check_entries m h = h ∙ ap (checked_all check_start) (entry_ranges m)

pub check_alone : (rs : List MemoryRange) {k : RangeCheck} → k ≡ checked_all check_start (map (λ r. r) rs)
    → k ≡ checked_all check_start rs
check_alone rs h = h ∙ ap (checked_all check_start) (map-id rs)
