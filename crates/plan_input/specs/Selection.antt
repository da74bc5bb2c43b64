-- What selection is given by the records of a text, from the first on (docs/SPEC.md, section 28).
use Rattle.std.specs.Prelude.{ℕ, ◌≡◌, ◌&&◌, List, length}
use Rattle.memory_range.specs.declared.range.MemoryRange.{MemoryRange}
use Rattle.memory_range.specs.Valid.{valid_range, all_valid_of, ascend}
use Rattle.host_params.specs.declared.MemoryEntry.{MemoryEntry}
use Rattle.host_map.specs.Map.{map_ranges}
use Rattle.plan_record.specs.declared.record.Record.{Record}
use Rattle.plan_record.specs.declared.record.Shape.{Shape}
use Rattle.plan_input.specs.declared.selection.SelectionRead.{SelectionRead}
use Rattle.plan_input.specs.Record.{records_at, behind_one, SameCheck}
use Rattle.plan_input.specs.Word.{behind_word, behind_words}
use Rattle.plan_input.specs.Range.{range_first, ranges_first, or_empty}
use Rattle.plan_input.specs.Entry.{entries_first}
use Rattle.plan_input.specs.Once.{shape_first}

-- a shape, the file's range, the map, the imported ranges, and the records behind them
pub record SelectionIn : Type 0 where
  pub shape : Shape
  pub file : MemoryRange
  pub map : List MemoryEntry
  pub imports : List MemoryRange
  pub rest : List Record

unfoldable pub selection_in : List Record → SelectionIn
selection_in rs =
    let a = behind_one rs in
    let b = behind_word 1 a in
    let c = behind_words 2 b in
    record {
      shape = shape_first rs;
      file = or_empty (range_first 1 a);
      map = entries_first b;
      imports = ranges_first 3 c;
      rest = behind_words 3 c;
    }

-- an answer that holds them: counts for the lists, and rows 4 and 5 of the ranges; the text's check answers the same on the
-- records behind them
pub record SelectionHeld (text : List ℕ) (s : SelectionIn) (r : SelectionRead) : Type 0 where
  pub shape : r.shape ≡ s.shape
  pub file : r.file ≡ s.file
  pub map-count : r.map_count ≡ length s.map
  pub import-count : r.import_count ≡ length s.imports
  pub valid : r.valid ≡ (valid_range s.file && (all_valid_of (map_ranges s.map) && all_valid_of s.imports))
  pub ascending : r.ascending ≡ (ascend (map_ranges s.map) && ascend s.imports)
  pub next : records_at text r.next ≡ s.rest
  pub order : SameCheck text 0 0 r.order r.next
