-- Wrong answers about ranges: on a small input the definition gives another one.
use Rattle.std.specs.Prelude.{ℕ, ◌-◌, min, ◌≢◌, Bool, true, false, [], ◌∷◌, length, get_or, set, Option, Some, None}
use Rattle.std.proofs.Common.{ap, true≢false, arith}
use Rattle.std.proofs.lemmas.Bool.{false≢true}
use Rattle.memory_range.specs.declared.range.MemoryRange.{MemoryRange}
use Rattle.memory_range.specs.declared.range.SplitRange.{SplitRange}
use Rattle.memory_range.specs.Range.{range, length_of, contains_range, overlap_ranges, split_range_at}
use Rattle.memory_range.specs.List.{ranges_of, tagged_of}
use Rattle.memory_range.specs.Valid.{valid_range, all_valid_of, ascend}
use Rattle.memory_range.specs.Round.{round_up, rounded_up}
use Rattle.memory_range.specs.Align.{aligned_part}
use Rattle.memory_range.specs.Power.{bit_count, is_power_of_two}

-- a length for a reversed range
pub len_of_reversed : length_of (range 0x2000 0x1000) ≢ 1
len_of_reversed = omega arith

-- a byte too few
pub byte_too_few : length_of (range 0x1000 0x2000) ≢ 0xfff
byte_too_few = omega arith

-- not the same end
pub contains-end_strict : contains_range (range 0x1000 0x3000) (range 0x2000 0x3000) ≢ false
unfolding contains_range
contains-end_strict = true≢false

-- touching ranges
pub overlaps_touching : overlap_ranges (range 0x1000 0x2000) (range 0x2000 0x3000) ≢ true
unfolding overlap_ranges
overlaps_touching = false≢true

-- a range without bytes inside another
pub overlaps_empty : overlap_ranges (range 0x1000 0x3000) (range 0x2000 0x2000) ≢ true
unfolding overlap_ranges
overlaps_empty = false≢true

-- parts with a gap
pub split_gap : split_range_at (range 0x1000 0x3000) 0x1000 ≢ record { left = range 0x1000 0x2000; right = range 0x3000 0x3000 }
split_gap e = omega (arith, ap (λ (s : SplitRange). s.right.start) e)

-- parts that share a byte
pub split_shares_byte : split_range_at (range 0x1000 0x3000) 0x1000 ≢ record { left = range 0x1000 0x2001; right = range 0x2000 0x3000 }
split_shares_byte e = omega (arith, ap (λ (s : SplitRange). s.left.end) e)

-- a range without bytes passes
pub valid_empty : valid_range (range 0x1000 0x1000) ≢ true
valid_empty = false≢true

-- an odd end passes
pub odd-end-passes : valid_range (range 0x1000 0x2001) ≢ true
odd-end-passes = false≢true

-- the last range not looked at
pub last-not_looked-at : all_valid_of (range 0x1000 0x2000 ∷ range 0x3000 0x3000 ∷ []) ≢ true
last-not_looked-at = false≢true

-- only starts compared
pub only_starts_compared : ascend (range 0x1000 0x3000 ∷ range 0x2000 0x4000 ∷ []) ≢ true
only_starts_compared = false≢true

-- a whole step for a multiple
pub padding_of_multiple : round_up 0x1000 0x2000 - 0x2000 ≢ 0x1000
padding_of_multiple = omega arith

-- the remainder itself
pub remainder_as_padding : round_up 0x1000 0x2001 - 0x2001 ≢ 1
remainder_as_padding = omega arith

abbrev is_too_large : Option ℕ → Bool
is_too_large (Some n) = false
is_too_large None = true

-- the largest multiple refused
pub round_up_last : rounded_up 3 0xfffffffffffffffe ≢ None
unfolding rounded_up
round_up_last e = false≢true (ap is_too_large e)

-- a wrapped length
pub wrapped-length : rounded_up 0x1000 0xffffffffffffffff ≢ Some 0
unfolding rounded_up
wrapped-length e = true≢false (ap is_too_large e)

-- the end rounded up
pub aligned-end_rounded_up : aligned_part 0x4000 (range 0x205000 0x20e000) ≢ range 0x208000 0x210000
unfolding aligned_part
aligned-end_rounded_up e = omega (arith, ap (λ (r : MemoryRange). r.end) e)

-- another empty range
pub aligned_other_empty : aligned_part 0x4000 (range 0x205000 0x20a000) ≢ range 0x208000 0x208000
unfolding aligned_part
aligned_other_empty e = omega (arith, ap (λ (r : MemoryRange). r.start) e)

-- a start that wrapped
pub aligned-start_wrapped : aligned_part 0x4000 (range 0xffffffffffffd000 0xfffffffffffff000) ≢ range 0 0xffffffffffffc000
unfolding aligned_part
aligned-start_wrapped e = omega (arith, ap (λ (r : MemoryRange). r.end) e)

-- 3 passes
pub three-passes : is_power_of_two 3 ≢ true
unfolding bit_count
three-passes = false≢true

-- the longer list counted
pub count_of_longer : length (tagged_of (0x1000 ∷ []) (0x2000 ∷ 0x3000 ∷ []) (0 ∷ 0 ∷ [])) ≢ 2
count_of_longer = omega arith

-- one too many
pub one_too_many : length (ranges_of (0x1000 ∷ []) (0x2000 ∷ [])) ≢ 2
one_too_many = omega arith

-- one too many, where there is room for 64
pub one_above_room : min 65 64 ≢ 65
one_above_room = omega arith

-- the start stored as the end
pub range-end_as-start : set (0 ∷ []) 0 (range 0x1000 0x2000).end ≢ 0x1000 ∷ []
range-end_as-start e = omega (arith, ap (λ l. get_or l 0 0) e)
