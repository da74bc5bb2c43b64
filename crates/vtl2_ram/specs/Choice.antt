-- What a selection comes to (docs/SPEC.md, section 19).
use Rattle.std.specs.Prelude.{List, []}
use Rattle.refusal.specs.declared.Refusal.{Refusal}
use Rattle.memory_range.specs.declared.range.TaggedRange.{TaggedRange}

-- a refusal, or the chosen entries with their nodes, ascending by start
pub data Choice : Type 0 where
  refused : Refusal → Choice
  chosen : List TaggedRange → Choice

-- the chosen entries, none where refused
abbrev pub entries_of : Choice → List TaggedRange
entries_of (refused n) = []
entries_of (chosen xs) = xs
