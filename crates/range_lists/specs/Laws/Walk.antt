-- What the walk of two lists of ranges means. For lists in order: its pieces are in order, cover the
-- bytes of both lists and no others, and name the items that hold them. For any lists: the items that
-- pieces name exist, there are at most two pieces for each item, and they start and end where items do.
use Rattle.std.specs.Prelude.{ℕ, ◌+◌, ◌*◌, ◌/◌, ◌%◌, ◌≤◌, ◌<◌, max, ◌≡◌, refl, Bool, true, false, cond, List, eqb, ltb, length, drop, Option, Some, None}
use Rattle.std.proofs.Common.{ap, ap₂, sym, ◌∙◌, arith, ltb-true}
use Rattle.std.proofs.Math.Bool.{and-eq-true_iff}
use Rattle.memory_range.specs.declared.range.MemoryRange.{MemoryRange}
use Rattle.range_lists.specs.declared.walk.RangeWalkResult.{RangeWalkResult}
use Rattle.range_lists.specs.declared.walk.RangeWalkResult.TheVariants.{Left, Right, Both}
use Rattle.range_lists.specs.declared.walk.WalkCursor.{WalkCursor}
use Rattle.range_lists.specs.declared.walk.WalkPiece.{WalkPiece}
use Rattle.memory_range.specs.Range.{holds}
use Rattle.memory_range.specs.Bytes.{holders, item_at, Ordered, All}
use Rattle.range_lists.specs.Walk.{boundaries, merge_boundaries, is_open, open_item, held_by, walk_from, walk}
use Rattle.memory_range.specs.Laws.Bytes.{counted, holders_items, all_map}
use Rattle.range_lists.specs.Laws.Boundaries.{passed, boundaries-length, merge-all, merge-count, merged_lists, item_open}
pub use Rattle.range_lists.specs.Laws.Pieces.{piece_ranges, result_at}
use Rattle.range_lists.specs.Laws.Pieces.{FromOpen, holders-pieces, pieces_say, sweep-ordered, sweep-at, sweep-count, sweep-ends, sweep_open}

-- the item of the left list that a piece names, and that of the right one
abbrev pub left_item : RangeWalkResult → Option ℕ
left_item (Left i) = Some i
left_item (Right j) = None
left_item (Both i j) = Some i

abbrev pub right_item : RangeWalkResult → Option ℕ
right_item (Left i) = None
right_item (Right j) = Some j
right_item (Both i j) = Some j

-- the piece lies inside the items that it names and outside all others
abbrev pub Says : List MemoryRange → List MemoryRange → WalkPiece → Type 0
Says ls rs p = (a : ℕ) → holds p.range a ≡ true → (left_item p.result ≡ item_at ls a) × (right_item p.result ≡ item_at rs a)

-- the index, if there is one, is below n
abbrev pub Below : ℕ → Option ℕ → Type 0
Below n None = Unit {0}
Below n (Some i) = i < n

-- the items that the piece names exist in lists of n and m items
abbrev pub InLists : ℕ → ℕ → WalkPiece → Type 0
InLists n m p = Below n (left_item p.result) × Below m (right_item p.result)

-- what a piece says names the open items
held_names : (u v : Option ℕ) (h : RangeWalkResult) → held_by u v ≡ Some h → (left_item h ≡ u) × (right_item h ≡ v)
held_names None None h e = (cc, cc)
held_names (Some i) None h e = (cc, cc)
held_names None (Some j) h e = (cc, cc)
held_names (Some i) (Some j) h e = (cc, cc)

held-counted : (u v : Option ℕ) → counted (held_by u v) ≡ max (counted u) (counted v)
held-counted None None = refl
held-counted (Some i) None = refl
held-counted None (Some j) = refl
held-counted (Some i) (Some j) = refl

open_below : (n k : ℕ) → Below n (open_item n k)
open_below n k = go (is_open n k) refl
  where
    go : (t : Bool) → is_open n k ≡ t → Below n (cond t (Some (k / 2)) None)
    go true e = ltb-true (k / 2) n ((and-eq-true_iff (eqb (k % 2) 1) (ltb (k / 2) n)).0 e).1
    go false e = tt

open_named : (n m : ℕ) (p : WalkPiece) → FromOpen n m p → InLists n m p
open_named n m p o =
    let names = held_names (open_item n o.0) (open_item m o.1) p.result o.2 in
    (rw names.0 (open_below n o.0), rw names.1 (open_below m o.1))

-- the pieces are nonempty, ascending and disjoint
pub walk-ordered : (ls rs : List MemoryRange) → Ordered 0 ls → Ordered 0 rs → Ordered 0 (piece_ranges (walk ls rs))
unfolding walk_from
walk-ordered ls rs ol or = sweep-ordered (length ls) (length rs) 0 0 (merged_lists ls rs ol or)

-- the walk says of each byte which item of each list holds it; the next two laws follow
pub walk_at : (ls rs : List MemoryRange) → Ordered 0 ls → Ordered 0 rs → (a : ℕ) → result_at (walk ls rs) a ≡ held_by (item_at ls a) (item_at rs a)
unfolding walk_from
walk_at ls rs ol or a =
    let p = 0 + passed (boundaries ls) a in
    let q = 0 + passed (boundaries rs) a in
    sweep-at (length ls) (length rs) 0 0 p q a (merged_lists ls rs ol or) (omega arith) refl refl
    (omega (arith, boundaries-length ls)) (omega (arith, boundaries-length rs))
    ∙ sym (ap₂ held_by (item_open 0 (length ls) p 0 ls a ol (omega arith) (omega arith)) (item_open 0 (length rs) q 0 rs a or (omega arith) (omega arith)))

-- every byte of either list lies in exactly one piece, and no other byte in any
pub walk_covers : (ls rs : List MemoryRange) → Ordered 0 ls → Ordered 0 rs → (a : ℕ)
    → holders (piece_ranges (walk ls rs)) a ≡ max (holders ls a) (holders rs a)
walk_covers ls rs ol or a =
    holders-pieces 0 (walk ls rs) a (walk-ordered ls rs ol or) ∙ ap counted (walk_at ls rs ol or a) ∙ held-counted (item_at ls a) (item_at rs a)
    ∙ sym (ap₂ max (holders_items 0 0 ls a ol) (holders_items 0 0 rs a or))

-- each piece lies inside the items that it names and outside all others
pub walk_says : (ls rs : List MemoryRange) → Ordered 0 ls → Ordered 0 rs → All (Says ls rs) (walk ls rs)
walk_says ls rs ol or =
    all_map (λ p says a h. held_names _ _ p.result (says a h)) (walk ls rs)
    (pieces_say (λ a. held_by (item_at ls a) (item_at rs a)) 0 (walk ls rs) (walk-ordered ls rs ol or) (λ a l. walk_at ls rs ol or a))

-- for any lists and any cursor, the items that a piece names exist
pub walk_items : (ls rs : List MemoryRange) (c : WalkCursor) → All (InLists (length ls) (length rs)) (walk_from ls rs c)
unfolding walk_from
walk_items ls rs c =
    let ms = merge_boundaries (drop c.left (boundaries ls)) (drop c.right (boundaries rs)) in
    all_map (open_named (length ls) (length rs)) (walk_from ls rs c) (sweep_open (length ls) (length rs) c.at c.left c.right ms)

-- for any lists, there are at most two pieces for each item
pub walk-count : (ls rs : List MemoryRange) → length (walk ls rs) ≤ 2 * (length ls + length rs)
unfolding walk_from
walk-count ls rs =
    let ms = merge_boundaries (boundaries ls) (boundaries rs) in
    omega (arith, sweep-count (length ls) (length rs) 0 0 0 ms, merge-count (boundaries ls) (boundaries rs), boundaries-length ls, boundaries-length rs)

-- for any lists, a piece starts and ends at boundaries of the lists: what holds of these holds of its ends
pub walk_ends : (P : ℕ → Type 0) (ls rs : List MemoryRange) → All P (boundaries ls) → All P (boundaries rs)
    → All (λ p. P p.range.start × P p.range.end) (walk ls rs)
unfolding walk_from
walk_ends P ls rs pl pr =
    let ms = merge_boundaries (boundaries ls) (boundaries rs) in
    sweep-ends P (length ls) (length rs) 0 0 0 ms (λ h e. let z : ◌≡◌ {A = ℕ} 0 1 = cc in absurd (omega arith))
    (merge-all P (boundaries ls) (boundaries rs) pl pr)
