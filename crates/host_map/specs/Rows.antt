-- Rows 4 and 5 of the refusal chart, kept while ranges are looked at one by one (docs/SPEC.md, section 19).
use Rattle.std.specs.Prelude.{true, ◌&&◌, List, [], ◌∷◌, leb}
use Rattle.memory_range.specs.declared.range.MemoryRange.{MemoryRange}
use Rattle.memory_range.specs.Valid.{valid_range}
use Rattle.host_map.specs.declared.rows.RangeCheck.{RangeCheck}

-- before the first range, after one more, and after all of a list
abbrev pub check_start : RangeCheck
check_start = record { valid = true; ascending = true; above = 0 }

abbrev pub checked_with : RangeCheck → MemoryRange → RangeCheck
checked_with c r = record { valid = c.valid && valid_range r; ascending = c.ascending && leb c.above r.start; above = r.end }

abbrev pub checked_all : RangeCheck → List MemoryRange → RangeCheck
checked_all c [] = c
checked_all c (r ∷ rs) = checked_all (checked_with c r) rs
