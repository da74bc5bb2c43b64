-- Laws of rows 4 and 5 as they are kept while ranges are looked at one by one: after all of a list they are the rows of that list.
use Rattle.std.specs.Prelude.{◌≡◌, Bool, ◌&&◌, List, [], ◌∷◌, leb}
use Rattle.std.proofs.Common.{sym, ap, ◌∙◌}
use Rattle.std.proofs.Math.Bool.{and-true, and_assoc}
use Rattle.memory_range.specs.declared.range.MemoryRange.{MemoryRange}
use Rattle.memory_range.specs.Valid.{valid_range, all_valid_of, ascend_from, ascend}
use Rattle.host_map.specs.declared.rows.RangeCheck.{RangeCheck}
use Rattle.host_map.specs.Rows.{check_start, checked_with, checked_all}

valid_from : (k : RangeCheck) (rs : List MemoryRange) → (checked_all k rs).valid ≡ (k.valid && all_valid_of rs)
valid_from k [] = sym (and-true k.valid)
valid_from k (r ∷ rs) = valid_from (checked_with k r) rs ∙ and_assoc k.valid (valid_range r) (all_valid_of rs)

ascending_from : (k : RangeCheck) (rs : List MemoryRange) → (checked_all k rs).ascending ≡ (k.ascending && ascend_from k.above rs)
ascending_from k [] = sym (and-true k.ascending)
ascending_from k (r ∷ rs) = ascending_from (checked_with k r) rs ∙ and_assoc k.ascending (leb k.above r.start) (ascend_from r.end rs)

pub checked-valid : (rs : List MemoryRange) → (checked_all check_start rs).valid ≡ all_valid_of rs
checked-valid rs = valid_from check_start rs

pub checked-ascending : (rs : List MemoryRange) → (checked_all check_start rs).ascending ≡ ascend rs
checked-ascending rs = ascending_from check_start rs

-- of an answer that is the check of a list
module _ (rs : List MemoryRange) {k : RangeCheck} (e : k ≡ checked_all check_start rs) where
  pub valid_by : k.valid ≡ all_valid_of rs
  valid_by = ap (λ (c : RangeCheck). c.valid) e ∙ checked-valid rs

  pub ascending_by : k.ascending ≡ ascend rs
  ascending_by = ap (λ (c : RangeCheck). c.ascending) e ∙ checked-ascending rs

-- row 4 of a range or ranges and of two lists
pub valid-three : {a a' b b' c c' : Bool} → a ≡ a' → b ≡ b' → c ≡ c' → (a && b && c) ≡ (a' && (b' && c'))
valid-three {a' = a'} {b' = b'} {c' = c'} e f g = rw (e, f, g) (and_assoc a' b' c')
