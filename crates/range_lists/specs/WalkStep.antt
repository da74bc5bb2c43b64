-- One step of the walk, boundary by boundary: what the walk's inner functions answer.
use Rattle.std.specs.Prelude.{ℕ, ◌+◌, cond, List, [], ◌∷◌, leb, drop, Option, Some, None}
use Rattle.memory_range.specs.declared.range.MemoryRange.{MemoryRange}
use Rattle.range_lists.specs.declared.walk.WalkCursor.{WalkCursor}
use Rattle.range_lists.specs.declared.walk.WalkPiece.{WalkPiece}
use Rattle.range_lists.specs.Walk.{boundaries, held_by, open_item, piece_of}

-- the first of a list of boundaries
abbrev pub first_of : List ℕ → Option ℕ
first_of [] = None
first_of (b ∷ bs) = Some b

-- the cursor behind the next boundary of the left list, which is at a, and of the right one
abbrev pub pass_left : WalkCursor → ℕ → WalkCursor
pass_left c a = record { at = a; left = c.left + 1; right = c.right }

abbrev pub pass_right : WalkCursor → ℕ → WalkCursor
pass_right c b = record { at = b; left = c.left; right = c.right + 1 }

-- the lower of the two next boundaries is passed, of two alike the left one
abbrev pub pass_first : WalkCursor → Option ℕ → Option ℕ → Option WalkCursor
pass_first c (Some a) (Some b) = Some (cond (leb a b) (pass_left c a) (pass_right c b))
pass_first c (Some a) None = Some (pass_left c a)
pass_first c None (Some b) = Some (pass_right c b)
pass_first c None None = None

abbrev pub passed_by : List MemoryRange → List MemoryRange → WalkCursor → Option WalkCursor
passed_by ls rs c = pass_first c (first_of (drop c.left (boundaries ls))) (first_of (drop c.right (boundaries rs)))

-- a list of at most one piece, as an answer
abbrev pub found_of : List WalkPiece → Option WalkPiece
found_of [] = None
found_of (p ∷ ps) = Some p

-- the piece from the cursor up to an address
abbrev pub piece_to : ℕ → ℕ → WalkCursor → ℕ → Option WalkPiece
piece_to n m c b = found_of (piece_of c.at b (held_by (open_item n c.left) (open_item m c.right)))
