-- The walk of two lists of ranges (docs/SPEC.md, section 5; document 01, Port order 1): it cuts at
-- every start and end of either list, and each piece tells which item of each list holds it.
use Rattle.std.specs.Prelude.{ℕ, ◌+◌, ◌/◌, ◌%◌, Bool, cond, ◌&&◌, List, [], ◌∷◌, ◌++◌, map, leb, ltb, eqb, length, drop, Option, Some, None}
use Rattle.memory_range.specs.declared.range.MemoryRange.{MemoryRange}
use Rattle.range_lists.specs.declared.walk.RangeWalkResult.{RangeWalkResult}
use Rattle.range_lists.specs.declared.walk.RangeWalkResult.TheVariants.{Left, Right, Both}
use Rattle.range_lists.specs.declared.walk.WalkCursor.{WalkCursor}
use Rattle.range_lists.specs.declared.walk.WalkPiece.{WalkPiece}
use Rattle.memory_range.specs.Range.{range}

-- the boundaries of a list: each item's start and end, in the order of the items
abbrev pub boundaries : List MemoryRange → List ℕ
boundaries [] = []
boundaries (r ∷ rs) = r.start ∷ r.end ∷ boundaries rs

-- a boundary of the left list, or of the right one
pub data Boundary : Type 0 where
  left right : ℕ → Boundary

-- the left boundary b, and rest, which merges those behind it, with the boundaries of the right list
abbrev pub merge_head : ℕ → (List ℕ → List Boundary) → List ℕ → List Boundary
merge_head b rest [] = left b ∷ rest []
merge_head b rest (c ∷ cs) = cond (leb b c) (left b ∷ rest (c ∷ cs)) (right c ∷ merge_head b rest cs)

-- no left boundary is left
abbrev pub all_right_of : List ℕ → List Boundary
all_right_of = map right

-- the boundaries of both lists as one list, the lower one first, of two alike the left one
abbrev pub merge_boundaries : List ℕ → List ℕ → List Boundary
merge_boundaries [] cs = all_right_of cs
merge_boundaries (b ∷ bs) cs = merge_head b (merge_boundaries bs) cs

-- whether one of a list's n items is open where k of its boundaries are passed: between the start of
-- item i and its end, 2i + 1 are passed
abbrev pub is_open : ℕ → ℕ → Bool
is_open n k = eqb (k % 2) 1 && ltb (k / 2) n

-- which item that is
abbrev pub open_item : ℕ → ℕ → Option ℕ
open_item n k = cond (is_open n k) (Some (k / 2)) None

-- what a piece says, from the open item of each list; where neither has one, there is no piece
abbrev pub held_by : Option ℕ → Option ℕ → Option RangeWalkResult
held_by None None = None
held_by (Some i) None = Some (Left i)
held_by None (Some j) = Some (Right j)
held_by (Some i) (Some j) = Some (Both i j)

-- the piece from a to b, as a list: none where no item is open or no byte lies between
abbrev pub piece_of : ℕ → ℕ → Option RangeWalkResult → List WalkPiece
piece_of a b None = []
piece_of a b (Some h) = cond (ltb a b) (record { range = range a b; result = h } ∷ []) []

-- from the address a, with i and j boundaries of the two lists passed, through those that are left
abbrev pub sweep : ℕ → ℕ → ℕ → ℕ → ℕ → List Boundary → List WalkPiece
sweep n m a i j [] = []
sweep n m a i j (left b ∷ bs) = piece_of a b (held_by (open_item n i) (open_item m j)) ++ sweep n m b (i + 1) j bs
sweep n m a i j (right b ∷ bs) = piece_of a b (held_by (open_item n i) (open_item m j)) ++ sweep n m b i (j + 1) bs

-- the pieces that are left at a cursor
unfoldable pub walk_from : List MemoryRange → List MemoryRange → WalkCursor → List WalkPiece
walk_from ls rs c =
    sweep (length ls) (length rs) c.at c.left c.right
    (merge_boundaries (drop c.left (boundaries ls)) (drop c.right (boundaries rs)))

-- before the first boundary
abbrev pub walk_start : WalkCursor
walk_start = record { at = 0; left = 0; right = 0 }

-- all pieces of the walk
abbrev pub walk : List MemoryRange → List MemoryRange → List WalkPiece
walk ls rs = walk_from ls rs walk_start

-- the pieces that a step's answer stands for: the one it yields and those left at its cursor
abbrev pub walk_stepped : List MemoryRange → List MemoryRange → Option (WalkPiece × WalkCursor) → List WalkPiece
walk_stepped ls rs (Some (p, c)) = p ∷ walk_from ls rs c
walk_stepped ls rs None = []
