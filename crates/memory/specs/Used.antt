-- The used range cut up by the reserved ranges, with the pool ranges: what of the RAM is not free
-- (docs/SPEC.md, section 24).
use Rattle.std.specs.Prelude.{ℕ, ◌+◌, ◌<◌, ◌≡◌, Bool, true, false, cond, ◌||◌, List, [], ◌∷◌, ◌++◌, ltb, length, get_or, Option, None, Result}
use Rattle.refusal.specs.Answer.{rows_as}
use Rattle.refusal.specs.Number.{reserved_overlap, reserved_outside_used, pool_ranges}
use Rattle.refusal.specs.Rows.{refused_if, downward}
use Rattle.memory_range.specs.declared.range.MemoryRange.{MemoryRange}
use Rattle.memory_range.specs.declared.range.TaggedRange.{TaggedRange}
use Rattle.range_lists.specs.declared.walk.RangeWalkResult.{RangeWalkResult}
use Rattle.range_lists.specs.declared.walk.RangeWalkResult.TheVariants.{Left, Right, Both}
use Rattle.range_lists.specs.declared.walk.WalkPiece.{WalkPiece}
use Rattle.memory_range.specs.List.{ranges_in, tags_of}
use Rattle.memory_range.specs.Bytes.{All, holders}
use Rattle.memory_range.specs.Range.{overlap_ranges, holds}
use Rattle.range_lists.specs.Sort.{sort_by_start}
use Rattle.range_lists.specs.Walk.{walk}
use Rattle.address_space.specs.declared.usage.ReservedMemoryType.TheVariants.{Vtl2GpaPool}
use Rattle.address_space.specs.Usage.{used_number}
use Rattle.memory.specs.declared.builder.AddressSpaceManagerBuilder.{AddressSpaceManagerBuilder}
use Rattle.memory.specs.Builder.{all_as, reserved_of}
use Rattle.refusal.specs.declared.Refusal.{Refusal}

-- at most so many pool ranges, and so many used pieces with them
abbrev pub max_pools : ℕ
max_pools = 64

abbrev pub max_used : ℕ
max_used = 84

-- whether one of the ranges overlaps r
abbrev pub overlaps_one : MemoryRange → List MemoryRange → Bool
overlaps_one r [] = false
overlaps_one r (s ∷ ss) = overlap_ranges r s || overlaps_one r ss

-- whether two of the ranges overlap
abbrev pub any_overlap : List MemoryRange → Bool
any_overlap [] = false
any_overlap (r ∷ rs) = overlaps_one r rs || any_overlap rs

-- whether a piece is held by the right list alone
abbrev pub is_right : RangeWalkResult → Bool
is_right (Left i) = false
is_right (Right j) = true
is_right (Both i j) = false

abbrev pub any_right : List WalkPiece → Bool
any_right [] = false
any_right (p ∷ ps) = is_right p.result || any_right ps

-- whether some byte of the second list lies in no item of the first
abbrev pub any_outside : List MemoryRange → List MemoryRange → Bool
any_outside ls rs = any_right (walk ls rs)

-- a piece of the used range: reserved as the reserved range that holds it, and else used
abbrev pub used_piece : List TaggedRange → MemoryRange → RangeWalkResult → List TaggedRange
used_piece reserved r (Left i) = record { range = r; tag = used_number } ∷ []
used_piece reserved r (Right j) = []
used_piece reserved r (Both i j) = record { range = r; tag = get_or (tags_of reserved) j 0 } ∷ []

abbrev pub used_pieces : List TaggedRange → List WalkPiece → List TaggedRange
used_pieces reserved [] = []
used_pieces reserved (p ∷ ps) = used_piece reserved p.range p.result ++ used_pieces reserved ps

-- the pieces of the walk of the used range with the reserved ranges, which are in order of start
abbrev pub pieces_of : MemoryRange → List TaggedRange → List TaggedRange
pieces_of used reserved = used_pieces reserved (walk (used ∷ []) (ranges_in reserved))

-- the used pieces of a build, and with the pool ranges all that is not free, in order of start
abbrev pub pieces_used : AddressSpaceManagerBuilder → List MemoryRange → List TaggedRange
pieces_used b configs = pieces_of b.bootshim_used (sort_by_start (reserved_of b configs))

unfoldable pub used_of : AddressSpaceManagerBuilder → List MemoryRange → List MemoryRange → List TaggedRange
used_of b configs pools = sort_by_start (pieces_used b configs ++ all_as Vtl2GpaPool pools)

-- row 20: too many pool ranges, one that overlaps another or the used range, or too many used pieces with them
abbrev pub pools_bad : MemoryRange → ℕ → List MemoryRange → Bool
pools_bad used pieces pools = ltb max_pools (length pools) || (any_overlap (used ∷ pools) || ltb max_used (pieces + length pools))

-- rows 18, 19 and 20
unfoldable pub used_refusal : AddressSpaceManagerBuilder → List MemoryRange → List MemoryRange → Option Refusal
used_refusal b configs pools =
    downward
    (refused_if (any_overlap (ranges_in (reserved_of b configs))) reserved_overlap
    ∷ refused_if (any_outside (b.bootshim_used ∷ []) (ranges_in (sort_by_start (reserved_of b configs)))) reserved_outside_used
    ∷ refused_if (pools_bad b.bootshim_used (length (pieces_used b configs)) pools) pool_ranges
    ∷ [])

-- of a function that lists ranges: it answers a refusal, or that there is none, and then the list is these ranges
pub record ListedIn (refusal : Option Refusal) (xs : List TaggedRange) (answer : Result (Unit {0}) Refusal) (list : List TaggedRange) : Type 0 where
  pub answered : answer ≡ rows_as refusal
  pub found : refusal ≡ None → list ≡ xs

-- ranges that are a range cut up: each has a byte, and they hold each byte of it once, and no other
abbrev pub CutUp : MemoryRange → List TaggedRange → Type 0
CutUp r xs = All (λ x. x.range.start < x.range.end) xs × ((a : ℕ) → holders (ranges_in xs) a ≡ cond (holds r a) 1 0)
