-- How many pieces of a walk the left list holds: at most one for each of its items, and two for each item of the
-- right list. So the used pieces and the table's entries are few enough.
use Rattle.std.specs.Prelude.{ℕ, suc, ◌+◌, ◌*◌, ◌/◌, ◌%◌, ◌≤◌, ◌≡◌, refl, Bool, true, false, cond, List, [], ◌∷◌, ◌++◌, leb, ltb, eqb, length, Option, Some, None}
use Rattle.std.proofs.Common.{ap, arith, eqb-true}
use Rattle.std.proofs.Math.Bool.{and-eq-true_iff}
use Rattle.memory_range.specs.declared.range.MemoryRange.{MemoryRange}
use Rattle.memory_range.specs.declared.range.TaggedRange.{TaggedRange}
use Rattle.range_lists.specs.declared.walk.RangeWalkResult.{RangeWalkResult}
use Rattle.range_lists.specs.declared.walk.RangeWalkResult.TheVariants.{Left, Right, Both}
use Rattle.range_lists.specs.declared.walk.WalkPiece.{WalkPiece}
use Rattle.memory_range.specs.List.{ranges_in}
use Rattle.range_lists.specs.Walk.{boundaries, Boundary, left, right, merge_head, all_right_of, merge_boundaries}
use Rattle.range_lists.specs.Walk.{is_open, open_item, held_by, piece_of, sweep, walk_from, walk}
use Rattle.range_lists.specs.Laws.Boundaries.{boundaries-length}
use Rattle.range_lists.specs.Laws.Entries.{length-ranges_in}
use Rattle.range_lists.specs.Laws.Picked.{picked, counted_if}
use Rattle.memory.specs.Build.{table_entry, table_entries, table_of}
use Rattle.memory.specs.Used.{used_piece, used_pieces, pieces_of}

-- a piece is held by the left list
abbrev pub left_held : RangeWalkResult → Bool
left_held (Left i) = true
left_held (Right j) = false
left_held (Both i j) = true

-- how many of the pieces are
abbrev held_count : List WalkPiece → ℕ
held_count ps = length (picked left_held ps)

-- the next piece is one more at most, where the open item of the left list holds it
next-held : (t : Bool) (p : WalkPiece) (ps : List WalkPiece) → held_count (cond t (p ∷ []) [] ++ ps) ≤ cond (left_held p.result) 1 0 + held_count ps
next-held false p ps = omega arith
next-held true p ps = go (left_held p.result)
  where
    go : (u : Bool) → length (cond u (p.range ∷ picked left_held ps) (picked left_held ps)) ≤ cond u 1 0 + held_count ps
    go true = omega arith
    go false = omega arith

piece-held : (a b : ℕ) (r : Option RangeWalkResult) (ps : List WalkPiece) → held_count (piece_of a b r ++ ps) ≤ counted_if left_held r + held_count ps
piece-held a b None ps = omega arith
piece-held a b (Some h) ps = next-held (ltb a b) _ ps

-- an item of the left list is open only where an odd number of its boundaries is passed
open-held : (n m i j : ℕ) → counted_if left_held (held_by (open_item n i) (open_item m j)) ≤ i % 2
open-held n m i j = go (is_open n i) refl (open_item m j)
  where
    odd : is_open n i ≡ true → i % 2 ≡ 1
    odd e = eqb-true (i % 2) 1 ((and-eq-true_iff (eqb (i % 2) 1) (ltb (i / 2) n)).0 e).0

    go : (t : Bool) → is_open n i ≡ t → (v : Option ℕ) → counted_if left_held (held_by (cond t (Some (i / 2)) None) v) ≤ i % 2
    go true e None = omega (arith, odd e)
    go true e (Some j) = omega (arith, odd e)
    go false e None = omega arith
    go false e (Some j) = omega arith

-- boundaries weighed: one of the left list is half a piece, one of the right list a whole one
abbrev weight : List Boundary → ℕ
weight [] = 0
weight (left b ∷ ms) = 1 + weight ms
weight (right b ∷ ms) = 2 + weight ms

sweep-held : (n m a i j : ℕ) (ms : List Boundary) → 2 * held_count (sweep n m a i j ms) ≤ i % 2 + weight ms
sweep-held n m a i j [] = omega arith
sweep-held n m a i j (left b ∷ ms) =
    omega (arith, piece-held a b (held_by (open_item n i) (open_item m j)) (sweep n m b (i + 1) j ms), open-held n m i j, sweep-held n m b (i + 1) j ms)
sweep-held n m a i j (right b ∷ ms) =
    omega (arith, piece-held a b (held_by (open_item n i) (open_item m j)) (sweep n m b i (j + 1) ms), open-held n m i j, sweep-held n m b i (j + 1) ms)

-- the merged list weighs what its parts do
right-weight : (cs : List ℕ) → weight (all_right_of cs) ≡ 2 * length cs
right-weight [] = refl
right-weight (c ∷ cs) = omega (arith, right-weight cs)

head-weight : (b : ℕ) (bs cs : List ℕ) → ((ds : List ℕ) → weight (merge_boundaries bs ds) ≡ length bs + 2 * length ds)
    → weight (merge_head b (merge_boundaries bs) cs) ≡ 1 + length bs + 2 * length cs
head-weight b bs [] rest = omega (arith, rest [])
head-weight b bs (c ∷ cs) rest = go (leb b c) (head-weight b bs cs rest)
  where
    go : (t : Bool) → weight (merge_head b (merge_boundaries bs) cs) ≡ 1 + length bs + 2 * length cs
        → weight (cond t (left b ∷ merge_boundaries bs (c ∷ cs)) (right c ∷ merge_head b (merge_boundaries bs) cs)) ≡ 1 + length bs + 2 * length (c ∷ cs)
    go true e = omega (arith, rest (c ∷ cs))
    go false e = omega arith

merge-weight : (bs cs : List ℕ) → weight (merge_boundaries bs cs) ≡ length bs + 2 * length cs
merge-weight [] cs = omega (arith, right-weight cs)
merge-weight (b ∷ bs) cs = omega (arith, head-weight b bs cs (merge-weight bs))

-- at most so many pieces of a walk are held by the left list, in whatever order the lists are
pub held-count : (ls rs : List MemoryRange) → length (picked left_held (walk ls rs)) ≤ length ls + 2 * length rs
unfolding walk_from
held-count ls rs =
    let ms = merge_boundaries (boundaries ls) (boundaries rs) in
    omega (
      arith,
      sweep-held (length ls) (length rs) 0 0 0 ms,
      merge-weight (boundaries ls) (boundaries rs),
      boundaries-length ls,
      boundaries-length rs,
    )

-- the used pieces are the pieces that the left list holds, alone or not
pub pieces-picked : (reserved : List TaggedRange) (ps : List WalkPiece) → ranges_in (used_pieces reserved ps) ≡ picked left_held ps
pieces-picked reserved [] = refl
pieces-picked reserved (p ∷ ps) = go p.result (pieces-picked reserved ps)
  where
    go : (h : RangeWalkResult) → ranges_in (used_pieces reserved ps) ≡ picked left_held ps
        → ranges_in (used_piece reserved p.range h ++ used_pieces reserved ps) ≡ cond (left_held h) (p.range ∷ picked left_held ps) (picked left_held ps)
    go (Left i) e = ap (λ (l : List MemoryRange). p.range ∷ l) e
    go (Right j) e = e
    go (Both i j) e = ap (λ (l : List MemoryRange). p.range ∷ l) e

-- an entry of the table for each piece that the left list holds
table-held : (ram used : List TaggedRange) (ps : List WalkPiece) → length (table_entries ram used ps) ≡ held_count ps
table-held ram used [] = refl
table-held ram used (p ∷ ps) = go p.result (table-held ram used ps)
  where
    go : (h : RangeWalkResult) → length (table_entries ram used ps) ≡ held_count ps
        → length (table_entry ram used p.range h ++ table_entries ram used ps)
        ≡ length (cond (left_held h) (p.range ∷ picked left_held ps) (picked left_held ps))
    go (Left i) e = ap suc e
    go (Right j) e = e
    go (Both i j) e = ap suc e

-- at most so many used pieces
pub pieces-count : (used : MemoryRange) (reserved : List TaggedRange) → length (pieces_of used reserved) ≤ 1 + 2 * length reserved
pieces-count used reserved =
    let ps = walk (used ∷ []) (ranges_in reserved) in
    omega (
      arith,
      ap length (pieces-picked reserved ps),
      length-ranges_in (used_pieces reserved ps),
      held-count (used ∷ []) (ranges_in reserved),
      length-ranges_in reserved,
    )

-- at most so many entries of the table
pub table-count : (ram used : List TaggedRange) → length (table_of ram used) ≤ length ram + 2 * length used
unfolding table_of
table-count ram used =
    let ps = walk (ranges_in ram) (ranges_in used) in
    omega (arith, table-held ram used ps, held-count (ranges_in ram) (ranges_in used), length-ranges_in ram, length-ranges_in used)
