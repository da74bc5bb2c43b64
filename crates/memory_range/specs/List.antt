-- Lists of ranges, as they are lent: a list for each field. Where the lists differ in length, the
-- shortest one tells how many items there are (docs/SPEC.md, section 2).
use Rattle.std.specs.Prelude.{ℕ, List, [], ◌∷◌, map, take}
use Rattle.memory_range.specs.declared.range.MemoryRange.{MemoryRange}
use Rattle.memory_range.specs.declared.range.TaggedRange.{TaggedRange}
use Rattle.memory_range.specs.Range.{range}

-- the ranges of a list of starts and a list of ends
abbrev pub ranges_of : List ℕ → List ℕ → List MemoryRange
ranges_of [] es = []
ranges_of (s ∷ ss) [] = []
ranges_of (s ∷ ss) (e ∷ es) = range s e ∷ ranges_of ss es

-- a range with a number that goes with it: a node, or a type
abbrev pub tagged : ℕ → ℕ → ℕ → TaggedRange
tagged s e t = record { range = range s e; tag = t }

-- the tagged ranges of a list of starts, a list of ends and a list of tags
abbrev pub tagged_of : List ℕ → List ℕ → List ℕ → List TaggedRange
tagged_of [] es ts = []
tagged_of (s ∷ ss) [] ts = []
tagged_of (s ∷ ss) (e ∷ es) [] = []
tagged_of (s ∷ ss) (e ∷ es) (t ∷ ts) = tagged s e t ∷ tagged_of ss es ts

-- the first k of them
abbrev pub first_tagged : ℕ → List ℕ → List ℕ → List ℕ → List TaggedRange
first_tagged k ss es ts = tagged_of (take k ss) (take k es) (take k ts)

-- each field of tagged ranges as a list
abbrev pub starts_of : List TaggedRange → List ℕ
starts_of = map (λ x. x.range.start)

abbrev pub ends_of : List TaggedRange → List ℕ
ends_of = map (λ x. x.range.end)

abbrev pub tags_of : List TaggedRange → List ℕ
tags_of = map (λ x. x.tag)

-- the ranges of tagged ranges
abbrev pub ranges_in : List TaggedRange → List MemoryRange
ranges_in = map (λ x. x.range)
