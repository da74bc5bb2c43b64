-- Pieces picked by what they say: they are in order if all pieces are, and a byte lies in one of them
-- exactly where what the pieces say of it is picked.
use Rattle.std.specs.Prelude.{ℕ, ◌<◌, ◌≡◌, refl, Bool, true, false, cond, List, [], ◌∷◌, Option, Some, None}
use Rattle.std.proofs.Common.{ap, ◌∙◌, arith}
use Rattle.memory_range.specs.declared.range.MemoryRange.{MemoryRange}
use Rattle.range_lists.specs.declared.walk.RangeWalkResult.{RangeWalkResult}
use Rattle.range_lists.specs.declared.walk.WalkPiece.{WalkPiece}
use Rattle.memory_range.specs.Bytes.{holders, item_at, Ordered}
use Rattle.range_lists.specs.Walk.{held_by, walk}
use Rattle.memory_range.specs.Laws.Bytes.{Place, below, inside, above, place, ordered-before, ordered_below}
use Rattle.range_lists.specs.Laws.Pieces.{piece_ranges, result_at}
use Rattle.range_lists.specs.Laws.Walk.{walk-ordered, walk_at}

-- the ranges of the pieces whose result passes f, in order
abbrev pub picked : (RangeWalkResult → Bool) → List WalkPiece → List MemoryRange
picked f [] = []
picked f (p ∷ ps) = cond (f p.result) (p.range ∷ picked f ps) (picked f ps)

-- 1 where there is something that passes f, and else 0
abbrev pub counted_if : {A : Type 0} → (A → Bool) → Option A → ℕ
counted_if f None = 0
counted_if f (Some x) = cond (f x) 1 0

module _ (f : RangeWalkResult → Bool) where
  pub picked-ordered : (a : ℕ) (ps : List WalkPiece) → Ordered a (piece_ranges ps) → Ordered a (picked f ps)
  picked-ordered a [] o = tt
  picked-ordered a (p ∷ ps) o = go (f p.result) (picked-ordered p.range.end ps o.1.1)
    where
      go : (t : Bool) → Ordered p.range.end (picked f ps) → Ordered a (cond t (p.range ∷ picked f ps) (picked f ps))
      go true q = (o.0, (o.1.0, q))
      go false q = ordered-before a p.range.end (picked f ps) (omega arith) q

  pub holders-picked : (a : ℕ) (ps : List WalkPiece) (x : ℕ) → Ordered a (piece_ranges ps) → holders (picked f ps) x ≡ counted_if f (result_at ps x)
  holders-picked a [] x o = refl
  holders-picked a (p ∷ ps) x o = go (f p.result) refl (place p.range x) (holders-picked p.range.end ps x o.1.1)
    where
      no_more : x < p.range.end → holders (picked f ps) x ≡ 0
      no_more h = ordered_below p.range.end (picked f ps) x (picked-ordered p.range.end ps o.1.1) h

      go : (t : Bool) → f p.result ≡ t → Place p.range x → holders (picked f ps) x ≡ counted_if f (result_at ps x)
          → holders (picked f (p ∷ ps)) x ≡ counted_if f (result_at (p ∷ ps) x)
      go true e (below h n) rest = rw (e, n) (omega arith)
      go true e (inside l h y) rest = rw (e, y, e) (omega (arith, no_more h))
      go true e (above h n) rest = rw (e, n) (omega arith)
      go false e (below h n) rest = rw (e, n) rest
      go false e (inside l h y) rest = rw (e, y, e) (no_more h)
      go false e (above h n) rest = rw (e, n) rest

  -- a byte lies in a picked piece of the walk exactly where what the lists say of it is picked
  pub walk-picked : (ls rs : List MemoryRange) → Ordered 0 ls → Ordered 0 rs → (a : ℕ)
      → holders (picked f (walk ls rs)) a ≡ counted_if f (held_by (item_at ls a) (item_at rs a))
  walk-picked ls rs ol or a = holders-picked 0 (walk ls rs) a (walk-ordered ls rs ol or) ∙ ap (counted_if f) (walk_at ls rs ol or a)
