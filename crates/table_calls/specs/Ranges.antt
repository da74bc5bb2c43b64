-- A table's ranges with their types, as words (docs/SPEC.md, section 31; the ranges are those of section 23).
use Rattle.std.specs.Prelude.{ℕ, ◌*◌, List, [], ◌∷◌, ◌++◌}
use Rattle.memory_range.specs.declared.range.TaggedRange.{TaggedRange}
use Rattle.address_space.specs.Table.{max_address_ranges}

-- the room that is asked for, in words: three for each range
abbrev pub ranges_room : ℕ
ranges_room = 3 * max_address_ranges

-- the words of ranges: start, end, and the number of the type
abbrev pub range_words : TaggedRange → List ℕ
range_words x = x.range.start ∷ x.range.end ∷ x.tag ∷ []

abbrev pub ranges_words : List TaggedRange → List ℕ
ranges_words [] = []
ranges_words (x ∷ xs) = range_words x ++ ranges_words xs
