-- Touching ranges of one type joined (docs/SPEC.md, section 7).
use Rattle.std.specs.Prelude.{ℕ, Bool, false, cond, ◌&&◌, List, [], ◌∷◌, eqb, drop, Option, Some, None}
use Rattle.memory_range.specs.declared.range.TaggedRange.{TaggedRange}
use Rattle.memory_range.specs.List.{tagged}

-- whether y goes on where x ends, with the same tag
abbrev pub continues : TaggedRange → TaggedRange → Bool
continues x y = eqb x.range.end y.range.start && eqb x.tag y.tag

-- whether the first of a list, where it has one, continues x
abbrev pub continued_by : TaggedRange → List TaggedRange → Bool
continued_by x [] = false
continued_by x (y ∷ ys) = continues x y

-- x in front of a joined list: one range with the first of them where that continues it
abbrev pub merge_first : TaggedRange → List TaggedRange → List TaggedRange
merge_first x [] = x ∷ []
merge_first x (y ∷ ys) = cond (continues x y) (tagged x.range.start y.range.end x.tag ∷ ys) (x ∷ y ∷ ys)

-- the list with each run of touching ranges of one tag as one range
abbrev pub merge_adjacent : List TaggedRange → List TaggedRange
merge_adjacent [] = []
merge_adjacent (x ∷ xs) = merge_first x (merge_adjacent xs)

-- the joined ranges that a step's answer stands for: the one it yields and those from its index on
abbrev pub merge_stepped : List TaggedRange → Option (TaggedRange × ℕ) → List TaggedRange
merge_stepped xs (Some (r, next)) = r ∷ merge_adjacent (drop next xs)
merge_stepped xs None = []
