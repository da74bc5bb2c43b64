-- The ranges of a table of words with their types (docs/SPEC.md, section 31).
use Rattle.std.specs.Prelude.{ℕ, cond, List, ltb, length, Option, Some, None, Ok, Err}
use Rattle.std.proofs.lemmas.List.Edits.{sets}
use Rattle.memory_range.specs.declared.range.TaggedRange.{TaggedRange}
use Rattle.address_space.specs.List.{vtl2_ranges}
use Rattle.table_words.specs.declared.code.CallError.TheVariants.{NoRoom, BadTable}
use Rattle.table_words.specs.Code.{Call, lent_after}
use Rattle.table_words.specs.Table.{Table, table_of}
use Rattle.table_calls.specs.Ranges.{ranges_room, ranges_words}

abbrev pub ranges_on : Option Table → Call (List TaggedRange)
ranges_on None = Err BadTable
ranges_on (Some t) = Ok (vtl2_ranges t.entries)

-- the room, then the table
unfoldable pub ranges_call : List ℕ → ℕ → Call (List TaggedRange)
ranges_call words room = cond (ltb room ranges_room) (Err NoRoom) (ranges_on (table_of words))

-- the ranges and their count afterwards
abbrev pub ranges_after : List ℕ → Call (List TaggedRange) → List ℕ
ranges_after found = lent_after found (λ xs. sets found 0 (ranges_words xs))

abbrev pub ranges_count : ℕ → Call (List TaggedRange) → ℕ
ranges_count found = lent_after found length
