-- Laws of the walk over plain variables: the boundary at an index, and what one pass of a boundary
-- does to the pieces that are left.
use Rattle.std.specs.Prelude.{Option, Some, None}
use Prim.Native.Nat.{ℕ, zero, suc, ◌+◌, ◌-◌, ◌*◌, ◌^◌, ◌<◌, ◌≤◌}
use mathlib.Core.Path.{◌≡◌, refl, ap, ◌∙◌}
use mathlib.Core.Bool.{Bool, true, false, cond}
use mathlib.Core.List.{List, [], ◌∷◌, ◌++◌, map}
use Rattle.std.proofs.lemmas.List.{length-map}
use native.Mathlib.Omega.{arith}
use lib.Dec.{leb, ltb}
use lib.ListN.{length, drop, drop_of_length-le}
use lib.Seq.{drop-drop}
use Rattle.memory_range.specs.declared.range.MemoryRange.{MemoryRange}
use Rattle.range_lists.specs.declared.walk.RangeWalkResult.{RangeWalkResult}
use Rattle.range_lists.specs.declared.walk.WalkCursor.{WalkCursor}
use Rattle.range_lists.specs.declared.walk.WalkPiece.{WalkPiece}
use Rattle.range_lists.specs.Laws.Boundaries.{boundaries-length}
use Rattle.std.specs.Prelude.{slice_get}
use Rattle.std.proofs.lemmas.Option.{none-some, same_Some}
use Rattle.memory_range.specs.Range.{range}
use Rattle.range_lists.specs.Walk.{boundaries, walk_from, piece_of, held_by, open_item}
use Rattle.range_lists.specs.WalkStep.{first_of, pass_first, passed_by, piece_to, found_of}

-- boundary 2i is the start of item i, and the one behind it is its end
pub start-at : (rs : List MemoryRange) (i k : ℕ) (r : MemoryRange) → slice_get rs i ≡ Some r → k ≡ 2 * i
    → first_of (drop k (boundaries rs)) ≡ Some r.start
start-at [] i k r e q = absurd (none-some r e)
start-at (x ∷ rs) zero k r e q = rw (q, same_Some x r e)
start-at (x ∷ rs) (suc i) zero r e q = absurd (omega arith)
start-at (x ∷ rs) (suc i) (suc zero) r e q = absurd (omega arith)
start-at (x ∷ rs) (suc i) (suc (suc k)) r e q = start-at rs i k r e (omega arith)

pub end-at : (rs : List MemoryRange) (i k : ℕ) (r : MemoryRange) → slice_get rs i ≡ Some r → k ≡ 2 * i + 1
    → first_of (drop k (boundaries rs)) ≡ Some r.end
end-at [] i k r e q = absurd (none-some r e)
end-at (x ∷ rs) zero k r e q = rw (q, same_Some x r e)
end-at (x ∷ rs) (suc i) zero r e q = absurd (omega arith)
end-at (x ∷ rs) (suc i) (suc zero) r e q = absurd (omega arith)
end-at (x ∷ rs) (suc i) (suc (suc k)) r e q = end-at rs i k r e (omega arith)

pub passed-at : (rs : List MemoryRange) (k : ℕ) → 2 * length rs ≤ k → first_of (drop k (boundaries rs)) ≡ None
passed-at rs k h =
    let g : length (boundaries rs) ≤ k = omega (arith, boundaries-length rs) in
    rw (drop_of_length-le (boundaries rs) g)

-- where a boundary is left, fewer are passed than there are
below : (bs : List ℕ) (k a : ℕ) → first_of (drop k bs) ≡ Some a → k < length bs
below [] zero a e = absurd (none-some a e)
below [] (suc k) a e = absurd (none-some a e)
below (b ∷ bs) zero a e = omega arith
below (b ∷ bs) (suc k) a e = omega (arith, below bs k a e)

-- one more boundary can be counted: there are twice as many as items
pub room : {X : Type 0} (f : X → MemoryRange) (xs : List X) (k a : ℕ) → length xs < 2 ^ 63 → first_of (drop k (boundaries (map f xs))) ≡ Some a
    → k + 1 < 2 ^ 64
room f xs k a h e = omega (arith, below (boundaries (map f xs)) k a e, boundaries-length (map f xs), length-map xs f)

drop-next : (xs : List ℕ) (k x : ℕ) (rest : List ℕ) → drop k xs ≡ x ∷ rest → drop (k + 1) xs ≡ rest
drop-next xs k x rest e = rw (← drop-drop 1 k xs, e)

-- the pieces that are left at a cursor, by what the pass of its next boundary answers
abbrev walk_passed : List MemoryRange → List MemoryRange → WalkCursor → Option WalkCursor → List WalkPiece
walk_passed ls rs c None = []
walk_passed ls rs c (Some d) =
    piece_of c.at d.at (held_by (open_item (length ls) c.left) (open_item (length rs) c.right)) ++ walk_from ls rs d

walk_pass : (ls rs : List MemoryRange) (c : WalkCursor) (xs ys : List ℕ) → drop c.left (boundaries ls) ≡ xs
    → drop c.right (boundaries rs) ≡ ys → walk_from ls rs c ≡ walk_passed ls rs c (pass_first c (first_of xs) (first_of ys))
unfolding walk_from
walk_pass ls rs c [] [] p q = simp (p, q)
walk_pass ls rs c (x ∷ xs) [] p q = simp (p, q, drop-next (boundaries ls) c.left x xs p)
walk_pass ls rs c [] (y ∷ ys) p q = simp (p, q, drop-next (boundaries rs) c.right y ys q)
walk_pass ls rs c (x ∷ xs) (y ∷ ys) p q = both (leb x y) refl
  where
    both : (t : Bool) → leb x y ≡ t → walk_from ls rs c ≡ walk_passed ls rs c (pass_first c (Some x) (Some y))
    both true e = simp (p, q, e, drop-next (boundaries ls) c.left x xs p)
    both false e = simp (p, q, e, drop-next (boundaries rs) c.right y ys q)

-- an answer as a list of at most one piece
abbrev pub found_pieces : Option WalkPiece → List WalkPiece
found_pieces None = []
found_pieces (Some p) = p ∷ []

one_piece : (a b : ℕ) (h : Option RangeWalkResult) → piece_of a b h ≡ found_pieces (found_of (piece_of a b h))
one_piece a b None = refl
one_piece a b (Some h) = one (ltb a b)
  where
    piece : WalkPiece
    piece = record { range = range a b; result = h }

    one : (t : Bool) → cond t (piece ∷ []) [] ≡ found_pieces (found_of (cond t (piece ∷ []) []))
    one true = refl
    one false = refl

-- how many boundaries are still to be passed at a cursor
abbrev pub ahead : List MemoryRange → List MemoryRange → WalkCursor → ℕ
ahead ls rs c = (length (boundaries ls) - c.left) + (length (boundaries rs) - c.right)

-- One turn of the walk: at its end; and to the next cursor, with or without a piece.
module _ (ls rs : List MemoryRange) (c : WalkCursor) where
  pub walk_end : passed_by ls rs c ≡ None → walk_from ls rs c ≡ []
  walk_end e = walk_pass ls rs c _ _ refl refl ∙ ap (walk_passed ls rs c) e

  pub walk_to : (d : WalkCursor) (f : (Option WalkPiece)) → passed_by ls rs c ≡ Some d → piece_to (length ls) (length rs) c d.at ≡ f
      → walk_from ls rs c ≡ found_pieces f ++ walk_from ls rs d
  walk_to d f e g =
      let h = held_by (open_item (length ls) c.left) (open_item (length rs) c.right) in
      walk_pass ls rs c _ _ refl refl ∙ ap (walk_passed ls rs c) e
      ∙ ap (λ (ps : List WalkPiece). ps ++ walk_from ls rs d) (one_piece c.at d.at h ∙ ap found_pieces g)
