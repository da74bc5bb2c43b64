-- Wrong answers about lists of ranges: on small lists the definition gives another one.
use Rattle.std.specs.Prelude.{ℕ, ◌≢◌, List, [], ◌∷◌, length, get_or}
use Rattle.std.proofs.Common.{ap, arith}
use Rattle.memory_range.specs.List.{tagged}
use Rattle.memory_range.specs.Range.{range}
use Rattle.range_lists.specs.declared.subtract.Remainder.{Remainder}
use Rattle.range_lists.specs.declared.walk.RangeWalkResult.{RangeWalkResult}
use Rattle.range_lists.specs.declared.walk.RangeWalkResult.TheVariants.{Left, Right, Both}
use Rattle.range_lists.specs.declared.walk.WalkCursor.{WalkCursor}
use Rattle.range_lists.specs.declared.walk.WalkPiece.{WalkPiece}
use Rattle.range_lists.specs.Walk.{walk_start, walk_from, walk}
use Rattle.range_lists.specs.Subtract.{subtract}
use Rattle.range_lists.specs.Merge.{merge_adjacent}
use Rattle.range_lists.specs.Sort.{tags_sorted}
use Rattle.range_lists.specs.Node.{nodes_after}

-- a start behind address 0
pub cursor-behind-zero : walk_start ≢ record { at = 1; left = 0; right = 0 }
cursor-behind-zero e = omega (arith, ap (λ (c : WalkCursor). c.at) e)

-- a start behind a boundary
pub cursor-behind_boundary : walk_start ≢ record { at = 0; left = 1; right = 0 }
cursor-behind_boundary e = omega (arith, ap (λ (c : WalkCursor). c.left) e)

abbrev piece : ℕ → ℕ → RangeWalkResult → WalkPiece
piece start end result = record { range = range start end; result = result }

abbrev item_named : RangeWalkResult → ℕ
item_named (Left i) = i
item_named (Right j) = j
item_named (Both i j) = i

-- a piece that names the other list's item
pub walk_item_of_other-list :
    walk (range 0x1000 0x2000 ∷ []) (range 0x3000 0x4000 ∷ []) ≢ piece 0x1000 0x2000 (Left 0) ∷ piece 0x3000 0x4000 (Right 1) ∷ []
unfolding walk_from
walk_item_of_other-list e = omega (arith, ap (λ (ps : List WalkPiece). item_named (get_or ps 1 (piece 0 0 (Left 0))).result) e)

abbrev part : ℕ → ℕ → ℕ → Remainder
part start end item = record { range = range start end; item = item }

-- parts that both hold
pub parts_of_both : subtract (range 0x1000 0x3000 ∷ []) (range 0x2000 0x4000 ∷ []) ≢ part 0x1000 0x2000 0 ∷ part 0x2000 0x3000 0 ∷ []
unfolding walk_from
parts_of_both e = omega (arith, ap length e)

-- a run cut short
pub run-cut-short :
    merge_adjacent (tagged 0x1000 0x2000 0 ∷ tagged 0x2000 0x3000 0 ∷ tagged 0x3000 0x4000 0 ∷ [])
    ≢ tagged 0x1000 0x3000 0 ∷ tagged 0x3000 0x4000 0 ∷ []
run-cut-short e = omega (arith, ap length e)

-- ranges with one start that change places
pub sort_swaps_equal : tags_sorted (0x1000 ∷ 0x1000 ∷ []) (0x2000 ∷ 0x3000 ∷ []) (0 ∷ 1 ∷ []) ≢ 1 ∷ 0 ∷ []
unfolding tags_sorted
sort_swaps_equal e = omega (arith, ap (λ l. get_or l 0 0) e)

-- a number twice
pub node_repeated : nodes_after 3 (3 ∷ 0 ∷ []) 1 ≢ 3 ∷ 3 ∷ []
unfolding nodes_after
node_repeated e = omega (arith, ap (λ l. get_or l 1 0) e)
