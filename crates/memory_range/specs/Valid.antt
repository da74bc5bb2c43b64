-- The checks of rows 4 and 5 of the refusal chart (docs/SPEC.md, section 4).
use Rattle.std.specs.Prelude.{ℕ, ◌%◌, Bool, true, ◌&&◌, List, [], ◌∷◌, leb, ltb, eqb}
use Rattle.memory_range.specs.declared.range.MemoryRange.{MemoryRange}

-- the size of a page in bytes
abbrev pub page_size : ℕ
page_size = 4096

-- row 4: the start is below the end, and both are page multiples
abbrev pub valid_range : MemoryRange → Bool
valid_range r = ltb r.start r.end && (eqb (r.start % page_size) 0 && eqb (r.end % page_size) 0)

-- row 4 of a list: of each of its ranges
abbrev pub all_valid_of : List MemoryRange → Bool
all_valid_of [] = true
all_valid_of (r ∷ rs) = valid_range r && all_valid_of rs

-- row 5: each range starts at or above the end of the one before it, the first at or above a
abbrev pub ascend_from : ℕ → List MemoryRange → Bool
ascend_from a [] = true
ascend_from a (r ∷ rs) = leb a r.start && ascend_from r.end rs

-- row 5 of a list
abbrev pub ascend : List MemoryRange → Bool
ascend rs = ascend_from 0 rs
