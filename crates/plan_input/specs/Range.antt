-- Records that hold a range alone, from the first of a list of records on (docs/SPEC.md, section 28).
use Rattle.std.specs.Prelude.{ℕ, List, [], ◌∷◌, map, Option, Some, None}
use Rattle.memory_range.specs.declared.range.MemoryRange.{MemoryRange}
use Rattle.memory_range.specs.Range.{range}
use Rattle.plan_record.specs.declared.record.Record.{Record}
use Rattle.plan_text.specs.Plan.{held_by, range_held}
use Rattle.plan_input.specs.Once.{first_or}
use Rattle.plan_input.specs.Word.{word_first, words_first}

-- the first of a list, if there is one
abbrev pub range_option : List MemoryRange → Option MemoryRange
range_option [] = None
range_option (r ∷ rs) = Some r

-- the range that a record holds, from 0 to 0 where it holds none; and of a record that need not be there
abbrev pub range_in : Record → MemoryRange
range_in r = first_or (range 0 0) (range_held (held_by r))

abbrev pub range_of : Option Record → Option MemoryRange
range_of (Some r) = Some (range_in r)
range_of None = None

-- a range that is to be there; from 0 to 0 where there is none
abbrev pub or_empty : Option MemoryRange → MemoryRange
or_empty (Some r) = r
or_empty None = range 0 0

-- the range of the first record, if its word is at place k; and those of the first records, as long as their word is
abbrev pub range_first : ℕ → List Record → Option MemoryRange
range_first k rs = range_of (word_first k rs)

abbrev pub ranges_first : ℕ → List Record → List MemoryRange
ranges_first k rs = map range_in (words_first k rs)

-- the starts and the ends of ranges, as lists of numbers beside each other
abbrev pub starts_in : List MemoryRange → List ℕ
starts_in = map (λ r. r.start)

abbrev pub ends_in : List MemoryRange → List ℕ
ends_in = map (λ r. r.end)
