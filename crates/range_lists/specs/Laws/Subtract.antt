-- What the difference of two lists of ranges means. For lists in order: its parts are in order, hold the
-- bytes of the first list that the second does not hold, and lie inside the items that they name. For
-- any lists: those items exist. Each follows from the law of the walk of the same kind.
use Rattle.std.specs.Prelude.{ℕ, ◌-◌, ◌<◌, ◌≡◌, refl, Bool, true, false, cond, List, [], ◌∷◌, ◌++◌, map, length, Option, Some, None}
use Rattle.std.proofs.Common.{ap, ap₂, sym, ◌∙◌}
use Rattle.memory_range.specs.declared.range.MemoryRange.{MemoryRange}
use Rattle.range_lists.specs.declared.subtract.Remainder.{Remainder}
use Rattle.range_lists.specs.declared.walk.RangeWalkResult.{RangeWalkResult}
use Rattle.range_lists.specs.declared.walk.RangeWalkResult.TheVariants.{Left, Right, Both}
use Rattle.range_lists.specs.declared.walk.WalkCursor.{WalkCursor}
use Rattle.range_lists.specs.declared.walk.WalkPiece.{WalkPiece}
use Rattle.memory_range.specs.Range.{holds}
use Rattle.memory_range.specs.Bytes.{holders, item_at, Ordered, All}
use Rattle.range_lists.specs.Walk.{held_by, walk, walk_from}
use Rattle.range_lists.specs.Subtract.{remainder_of, remainders, subtract_from, subtract}
use Rattle.memory_range.specs.Laws.Bytes.{counted, holders_items}
use Rattle.range_lists.specs.Laws.Picked.{picked, counted_if, picked-ordered, walk-picked}
use Rattle.range_lists.specs.Laws.Walk.{Says, InLists, walk-ordered, walk_says, walk_items}

abbrev pub remainder_ranges : List Remainder → List MemoryRange
remainder_ranges = map (λ r. r.range)

-- the part lies inside the item of the list that it names
abbrev pub PartOf : List MemoryRange → Remainder → Type 0
PartOf ls r = (a : ℕ) → holds r.range a ≡ true → item_at ls a ≡ Some r.item

-- whether the left list alone holds the piece: the parts are the pieces picked by this
abbrev pub left_only : RangeWalkResult → Bool
left_only (Left i) = true
left_only (Right j) = false
left_only (Both i j) = false

pub remainders-picked : (ps : List WalkPiece) → remainder_ranges (remainders ps) ≡ picked left_only ps
remainders-picked [] = refl
remainders-picked (p ∷ ps) = go p.result (remainders-picked ps)
  where
    go : (h : RangeWalkResult) → remainder_ranges (remainders ps) ≡ picked left_only ps
        → remainder_ranges (remainder_of p.range h ++ remainders ps) ≡ cond (left_only h) (p.range ∷ picked left_only ps) (picked left_only ps)
    go (Left i) e = ap (λ (l : List MemoryRange). p.range ∷ l) e
    go (Right j) e = e
    go (Both i j) e = e

held-left_only : (u v : Option ℕ) → counted_if left_only (held_by u v) ≡ counted u - counted v
held-left_only None None = refl
held-left_only (Some i) None = refl
held-left_only None (Some j) = refl
held-left_only (Some i) (Some j) = refl

-- what holds of the pieces that the left list alone holds, as parts, holds of all parts
remainders-all : (P : WalkPiece → Type 0) (Q : Remainder → Type 0)
    → ((r : MemoryRange) (i : ℕ) → P (record { range = r; result = Left i }) → Q (record { range = r; item = i }))
    → (ps : List WalkPiece) → All P ps → All Q (remainders ps)
remainders-all P Q f [] h = tt
remainders-all P Q f (p ∷ ps) h = go p.result h.0 (remainders-all P Q f ps h.1)
  where
    go : (x : RangeWalkResult) → P (record { range = p.range; result = x }) → All Q (remainders ps) → All Q (remainder_of p.range x ++ remainders ps)
    go (Left i) q rest = (f p.range i q, rest)
    go (Right j) q rest = rest
    go (Both i j) q rest = rest

-- the parts are nonempty, ascending and disjoint
pub subtract-ordered : (ls rs : List MemoryRange) → Ordered 0 ls → Ordered 0 rs → Ordered 0 (remainder_ranges (subtract ls rs))
subtract-ordered ls rs ol or = rw (remainders-picked (walk ls rs)) (picked-ordered left_only 0 (walk ls rs) (walk-ordered ls rs ol or))

-- a byte lies in one part if the first list holds it and the second does not, and else in none
pub subtract_bytes : (ls rs : List MemoryRange) → Ordered 0 ls → Ordered 0 rs → (a : ℕ)
    → holders (remainder_ranges (subtract ls rs)) a ≡ holders ls a - holders rs a
subtract_bytes ls rs ol or a =
    rw (remainders-picked (walk ls rs))
    (walk-picked left_only ls rs ol or a ∙ held-left_only (item_at ls a) (item_at rs a)
    ∙ sym (ap₂ ◌-◌ (holders_items 0 0 ls a ol) (holders_items 0 0 rs a or)))

-- each part lies inside the item that it names
pub subtract_items : (ls rs : List MemoryRange) → Ordered 0 ls → Ordered 0 rs → All (PartOf ls) (subtract ls rs)
subtract_items ls rs ol or = remainders-all (Says ls rs) (PartOf ls) (λ r i says a h. sym (says a h).0) (walk ls rs) (walk_says ls rs ol or)

-- for any lists and any cursor, the item that a part names exists
pub subtract_in-list : (ls rs : List MemoryRange) (c : WalkCursor) → All (λ r. r.item < length ls) (subtract_from ls rs c)
subtract_in-list ls rs c = remainders-all (InLists (length ls) (length rs)) _ (λ r i named. named.0) (walk_from ls rs c) (walk_items ls rs c)
