-- What of one list of ranges is in none of another (docs/SPEC.md, section 6).
use Rattle.std.specs.Prelude.{List, [], ◌∷◌, ◌++◌, Option, Some, None}
use Rattle.memory_range.specs.declared.range.MemoryRange.{MemoryRange}
use Rattle.range_lists.specs.declared.subtract.Remainder.{Remainder}
use Rattle.range_lists.specs.declared.walk.RangeWalkResult.{RangeWalkResult}
use Rattle.range_lists.specs.declared.walk.RangeWalkResult.TheVariants.{Left, Right, Both}
use Rattle.range_lists.specs.declared.walk.WalkCursor.{WalkCursor}
use Rattle.range_lists.specs.declared.walk.WalkPiece.{WalkPiece}
use Rattle.range_lists.specs.Walk.{walk_from, walk_start}

-- a piece that the left list alone holds, with its item; nothing of any other piece
abbrev pub remainder_of : MemoryRange → RangeWalkResult → List Remainder
remainder_of r (Left i) = record { range = r; item = i } ∷ []
remainder_of r (Right j) = []
remainder_of r (Both i j) = []

-- those of a list of pieces
abbrev pub remainders : List WalkPiece → List Remainder
remainders [] = []
remainders (p ∷ ps) = remainder_of p.range p.result ++ remainders ps

-- what is left of the first list at a cursor of the walk
abbrev pub subtract_from : List MemoryRange → List MemoryRange → WalkCursor → List Remainder
subtract_from ls rs c = remainders (walk_from ls rs c)

-- the parts of the first list that are in none of the second: the walk's pieces held by the first
-- alone
abbrev pub subtract : List MemoryRange → List MemoryRange → List Remainder
subtract ls rs = subtract_from ls rs walk_start

-- the parts that a step's answer stands for
abbrev pub subtract_stepped : List MemoryRange → List MemoryRange → Option (Remainder × WalkCursor) → List Remainder
subtract_stepped ls rs (Some (r, c)) = r ∷ subtract_from ls rs c
subtract_stepped ls rs None = []
