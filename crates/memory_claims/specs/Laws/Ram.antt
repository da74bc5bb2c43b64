-- Each entry of a table lies in one entry of the RAM, of its node: those that a walk of the RAM cuts, and every part of one that does.
use Rattle.std.specs.Prelude.{ℕ, zero, suc, ◌<◌, ◌≡◌, refl, true, List, [], ◌∷◌, ◌++◌, get_or}
use Rattle.std.proofs.Common.{sym, ◌∙◌, inl, inr, arith}
use Rattle.memory_range.specs.declared.range.TaggedRange.{TaggedRange}
use Rattle.range_lists.specs.declared.walk.RangeWalkResult.{RangeWalkResult}
use Rattle.range_lists.specs.declared.walk.RangeWalkResult.TheVariants.{Left, Right, Both}
use Rattle.range_lists.specs.declared.walk.WalkPiece.{WalkPiece}
use Rattle.memory_range.specs.Bytes.{item_at, Ordered, All}
use Rattle.memory_range.specs.List.{ranges_in}
use Rattle.memory_range.specs.Range.{range, holds, contains_range}
use Rattle.range_lists.specs.Walk.{walk}
use Rattle.memory_range.specs.Laws.Bytes.{item-holds}
use Rattle.memory_range.specs.Laws.Range.{held, contains_bytes}
use Rattle.range_lists.specs.Laws.Pieces.{piece_ranges}
use Rattle.range_lists.specs.Laws.Walk.{left_item, Says, walk-ordered, walk_says}
use Rattle.address_space.specs.declared.table.AddressRange.{AddressRange}
use Rattle.memory.specs.Build.{table_entry, table_entries, table_of}
use Rattle.memory_claims.specs.Claim.{InRam}
use Rattle.memory_claims.specs.Laws.Said.{tag_of}

-- an entry with a byte lies in the item of the RAM that has its node and each of its bytes
in_item : (xs : List TaggedRange) (i : ℕ) (e : AddressRange) → e.range.start < e.range.end → tag_of xs i ≡ e.vnode
    → ((a : ℕ) → holds e.range a ≡ true → holds (get_or (ranges_in xs) i (range 0 0)) a ≡ true)
    → InRam xs e
in_item [] i e l t f =
    let s = e.range.start in
    let none-held = (held (range 0 0) s).0 (f s ((held e.range s).1 (omega arith, l))) in
    omega arith
in_item (x ∷ xs) zero e l t f = inl (t, (contains_bytes x.range e.range).1 f)
in_item (x ∷ xs) (suc i) e l t f = inr (in_item xs i e l t f)

-- a part of an entry lies where the entry does
pub part_in-ram : (ram : List TaggedRange) (e part : AddressRange) → part.vnode ≡ e.vnode → contains_range e.range part.range ≡ true
    → InRam ram e → InRam ram part
part_in-ram [] e part n c h = h
part_in-ram (x ∷ xs) e part n c (inl h) =
    inl (
      h.0 ∙ sym n,
      (contains_bytes x.range part.range).1
          (λ a p. (contains_bytes x.range e.range).0 h.1 a ((contains_bytes e.range part.range).0 c a p)),
    )
part_in-ram (x ∷ xs) e part n c (inr h) = inr (part_in-ram xs e part n c h)

module _ (ram used : List TaggedRange) where
  pieces_in-ram : (a : ℕ) (ps : List WalkPiece) → Ordered a (piece_ranges ps) → All (Says (ranges_in ram) (ranges_in used)) ps
      → All (InRam ram) (table_entries ram used ps)
  pieces_in-ram a [] o says = tt
  pieces_in-ram a (p ∷ ps) o says = go p.result (λ x h. (says.0 x h).0) (pieces_in-ram p.range.end ps o.1.1 says.1)
    where
      go : (r : RangeWalkResult) → ((x : ℕ) → holds p.range x ≡ true → left_item r ≡ item_at (ranges_in ram) x)
          → All (InRam ram) (table_entries ram used ps) → All (InRam ram) (table_entry ram used p.range r ++ table_entries ram used ps)
      go (Left i) f rest = (in_item ram i _ o.1.0 refl (λ x h. item-holds (ranges_in ram) x i (range 0 0) (sym (f x h))), rest)
      go (Right j) f rest = rest
      go (Both i j) f rest = (in_item ram i _ o.1.0 refl (λ x h. item-holds (ranges_in ram) x i (range 0 0) (sym (f x h))), rest)

  -- so do the entries of the table that a build gives
  pub table_in-ram : Ordered 0 (ranges_in ram) → Ordered 0 (ranges_in used) → All (InRam ram) (table_of ram used)
  unfolding table_of
  table_in-ram or ou =
      pieces_in-ram 0 (walk (ranges_in ram) (ranges_in used))
      (walk-ordered (ranges_in ram) (ranges_in used) or ou)
      (walk_says (ranges_in ram) (ranges_in used) or ou)
