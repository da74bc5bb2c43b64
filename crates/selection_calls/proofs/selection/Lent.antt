-- Laws of what selection is lent: as much of the map and of the imported ranges as arrays have room for.
use Rattle.std.specs.Prelude.{ℕ, ◌*◌, ◌/◌, ◌≤◌, min, ◌≡◌, List, length, take, replicate}
use Rattle.std.proofs.Common.{sym, ap, ◌∙◌}
use Rattle.std.proofs.Math.Nat.{div-mul-le_self}
use Rattle.std.proofs.lemmas.List.{length-replicate, length-map}
use Rattle.std.proofs.lemmas.List.Edits.{sets}
use Rattle.memory_range.specs.declared.range.MemoryRange.{MemoryRange}
use Rattle.host_params.specs.declared.MemoryEntry.{MemoryEntry}
use Rattle.plan_input.specs.Room.{map_room, import_room}
use Rattle.plan_input.specs.Laws.Room.{stored-list}
use Rattle.table_words.specs.List.{range_rows, range_in, ranges_in}
use Rattle.table_words.specs.Laws.Rows.{length-rows}
use Rattle.selection_calls.specs.Selection.{word_entries}
use Rattle.selection_calls.proofs.selection.Laws.{entries-length}

-- a list stored in an array of one value: the first places hold as much of it as there is room for
lent : {A : Type 0} (room : ℕ) (x : A) (xs : List A) (count : ℕ) → count ≡ length xs → take (min count room) (sets (replicate room x) 0 xs) ≡ take room xs
lent room x xs count e = stored-list room xs (replicate room x) (min count room) (length-replicate room x) (ap (λ (n : ℕ). min n room) e)

pub map-lent : (ws : List ℕ) (x : MemoryEntry) → take (min (length ws / 4) map_room) (sets (replicate map_room x) 0 (word_entries ws)) ≡ take map_room (word_entries ws)
map-lent ws x = lent map_room x (word_entries ws) (length ws / 4) (entries-length ws)

length-ranges : (ws : List ℕ) → length (ranges_in ws) ≡ length ws / 2
length-ranges ws = length-map (range_rows ws) range_in ∙ length-rows 2 (length ws / 2) ws

-- there are no more ranges than words for them
pub imports_few : (ws : List ℕ) → length (ranges_in ws) * 2 ≤ length ws
imports_few ws = rw (length-ranges ws) (div-mul-le_self (length ws) 2)

pub imports-lent : (ws : List ℕ) (x : MemoryRange) → take (min (length ws / 2) import_room) (sets (replicate import_room x) 0 (ranges_in ws)) ≡ take import_room (ranges_in ws)
imports-lent ws x = lent import_room x (ranges_in ws) (length ws / 2) (sym (length-ranges ws))
