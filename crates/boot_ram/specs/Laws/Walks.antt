-- What the file walk and the import walk share: some pieces of a walk are kept as entries, with the nodes of
-- the items of the right list that they lie in. The laws tell which bytes the kept entries hold, of one node
-- or of all, that they are in order, and that they start and end at pages.
use Rattle.std.specs.Prelude.{ℕ, suc, ◌+◌, ◌<◌, ◌≡◌, refl, Bool, true, false, cond, List, [], ◌∷◌, eqb, get_or, Option, Some, None}
use Rattle.std.proofs.Common.{ap, sym, ◌∙◌, arith, zero-add}
use Rattle.memory_range.specs.declared.range.MemoryRange.{MemoryRange}
use Rattle.memory_range.specs.declared.range.TaggedRange.{TaggedRange}
use Rattle.range_lists.specs.declared.walk.RangeWalkResult.{RangeWalkResult}
use Rattle.range_lists.specs.declared.walk.RangeWalkResult.TheVariants.{Left, Right, Both}
use Rattle.range_lists.specs.declared.walk.WalkPiece.{WalkPiece}
use Rattle.memory_range.specs.Bytes.{holders, item_found_from, item_at, Ordered, All}
use Rattle.memory_range.specs.List.{ranges_in, tags_of}
use Rattle.memory_range.specs.Range.{holds}
use Rattle.range_lists.specs.Walk.{boundaries, held_by, walk}
use Rattle.memory_range.specs.Laws.Bytes.{counted, ordered-before, ordered_below, holders_items, all_both}
use Rattle.range_lists.specs.Laws.Pieces.{piece_ranges}
use Rattle.memory_range.specs.Laws.Range.{held}
use Rattle.range_lists.specs.Laws.Picked.{picked, counted_if, walk-picked, picked-ordered}
use Rattle.range_lists.specs.Laws.Walk.{Says, walk-ordered, walk_ends, walk_says}
use Rattle.boot_ram.specs.File.{on_node_of}
use Rattle.boot_ram.specs.Held.{AtPage, PagedRange, Paged, on_node}

-- the ranges of the entries whose node passes a test: of one node, or of all
abbrev pub ranges_for : (ℕ → Bool) → List TaggedRange → List MemoryRange
ranges_for t [] = []
ranges_for t (x ∷ xs) = cond (t x.tag) (x.range ∷ ranges_for t xs) (ranges_for t xs)

abbrev pub is_node : ℕ → ℕ → Bool
is_node n k = eqb k n

abbrev pub any_node : ℕ → Bool
any_node k = true

pub ranges-on : (n : ℕ) (xs : List TaggedRange) → ranges_in (on_node n xs) ≡ ranges_for (is_node n) xs
ranges-on n [] = refl
ranges-on n (x ∷ xs) = go (eqb x.tag n) (ranges-on n xs)
  where
    go : (t : Bool) → ranges_in (on_node n xs) ≡ ranges_for (is_node n) xs
        → ranges_in (cond t (x ∷ on_node n xs) (on_node n xs)) ≡ cond t (x.range ∷ ranges_for (is_node n) xs) (ranges_for (is_node n) xs)
    go true e = ap (x.range ∷◌) e
    go false e = e

pub ranges-all : (xs : List TaggedRange) → ranges_in xs ≡ ranges_for any_node xs
ranges-all [] = refl
ranges-all (x ∷ xs) = ap (x.range ∷◌) (ranges-all xs)

pub ranges-ordered : (t : ℕ → Bool) (a : ℕ) (xs : List TaggedRange) → Ordered a (ranges_in xs) → Ordered a (ranges_for t xs)
ranges-ordered t a [] o = tt
ranges-ordered t a (x ∷ xs) o = go (t x.tag) (ranges-ordered t x.range.end xs o.1.1)
  where
    go : (b : Bool) → Ordered x.range.end (ranges_for t xs) → Ordered a (cond b (x.range ∷ ranges_for t xs) (ranges_for t xs))
    go true q = (o.0, (o.1.0, q))
    go false q = ordered-before a x.range.end (ranges_for t xs) (omega arith) q

-- how many entries of a list in order hold a byte, told by the item that does, if any, and its node
ranges_items : (t f : ℕ → Bool) (k a : ℕ) (m : List TaggedRange) (x : ℕ) → Ordered a (ranges_in m) → ((i : ℕ) → t (get_or (tags_of m) i 0) ≡ f (k + i))
    → holders (ranges_for t m) x ≡ counted_if f (item_found_from k (ranges_in m) x)
ranges_items t f k a [] x o h = refl
ranges_items t f k a (e ∷ es) x o h =
    go (t e.tag) (ap f (omega arith) ∙ sym (h 0)) (holds e.range x) refl
    (ranges_items t f (k + 1) e.range.end es x o.1.1 (λ i. h (suc i) ∙ ap f (omega arith)))
  where
    none-behind : holds e.range x ≡ true → holders (ranges_for t es) x ≡ 0
    none-behind q =
        ordered_below e.range.end (ranges_for t es) x (ranges-ordered t e.range.end es o.1.1) ((held e.range x).0 q).1

    go : (b : Bool) → f k ≡ b → (s : Bool) → holds e.range x ≡ s → holders (ranges_for t es) x ≡ counted_if f (item_found_from (k + 1) (ranges_in es) x)
        → holders (cond b (e.range ∷ ranges_for t es) (ranges_for t es)) x ≡ counted_if f (cond s (Some k) (item_found_from (k + 1) (ranges_in es) x))
    go true p true q rest = rw (q, p) (omega (arith, none-behind q))
    go true p false q rest = rw q (omega arith)
    go false p true q rest = rw p (none-behind q)
    go false p false q rest = rest

-- the item of the right list that a piece lies in, where the left list holds the piece too, and where it does not
abbrev pub both_item : RangeWalkResult → Option ℕ
both_item (Left i) = None
both_item (Right j) = None
both_item (Both i j) = Some j

abbrev pub right_only : RangeWalkResult → Option ℕ
right_only (Left i) = None
right_only (Right j) = Some j
right_only (Both i j) = None

-- the pieces for which side tells an item, as entries with that item's node
abbrev pub kept_with : List TaggedRange → MemoryRange → Option ℕ → List TaggedRange → List TaggedRange
kept_with m r None xs = xs
kept_with m r (Some j) xs = on_node_of m j r ∷ xs

abbrev pub kept : List TaggedRange → (RangeWalkResult → Option ℕ) → List WalkPiece → List TaggedRange
kept m side [] = []
kept m side (p ∷ ps) = kept_with m p.range (side p.result) (kept m side ps)

abbrev passes : (ℕ → Bool) → Option ℕ → Bool
passes f None = false
passes f (Some j) = f j

-- the test of an item by its node
abbrev by_node : (ℕ → Bool) → List TaggedRange → ℕ → Bool
by_node t m j = t (get_or (tags_of m) j 0)

kept-picked : (t : ℕ → Bool) (m : List TaggedRange) (side : RangeWalkResult → Option ℕ) (ps : List WalkPiece)
    → ranges_for t (kept m side ps) ≡ picked (λ h. passes (by_node t m) (side h)) ps
kept-picked t m side [] = refl
kept-picked t m side (p ∷ ps) = go (side p.result) (kept-picked t m side ps)
  where
    go : (u : Option ℕ) → ranges_for t (kept m side ps) ≡ picked (λ h. passes (by_node t m) (side h)) ps
        → ranges_for t (kept_with m p.range u (kept m side ps))
        ≡ cond (passes (by_node t m) u) (p.range ∷ picked (λ h. passes (by_node t m) (side h)) ps) (picked (λ h. passes (by_node t m) (side h)) ps)
    go None e = e
    go (Some j) e = rw e

held_both : (f : ℕ → Bool) (u v : Option ℕ) → counted_if (λ h. passes f (both_item h)) (held_by u v) ≡ cond (eqb (counted u) 0) 0 (counted_if f v)
held_both f None None = refl
held_both f None (Some j) = refl
held_both f (Some i) None = refl
held_both f (Some i) (Some j) = refl

held-right : (f : ℕ → Bool) (u v : Option ℕ) → counted_if (λ h. passes f (right_only h)) (held_by u v) ≡ cond (eqb (counted u) 0) (counted_if f v) 0
held-right f None None = refl
held-right f None (Some j) = refl
held-right f (Some i) None = refl
held-right f (Some i) (Some j) = refl

kept-all : (P : MemoryRange → Type 0) (m : List TaggedRange) (side : RangeWalkResult → Option ℕ) (ps : List WalkPiece)
    → All P (piece_ranges ps) → All (λ x. P x.range) (kept m side ps)
kept-all P m side [] h = tt
kept-all P m side (p ∷ ps) h = go (side p.result) (kept-all P m side ps h.1)
  where
    go : (u : Option ℕ) → All (λ x. P x.range) (kept m side ps) → All (λ x. P x.range) (kept_with m p.range u (kept m side ps))
    go None rest = rest
    go (Some j) rest = (h.0, rest)

pieces_paged : (a : ℕ) (ps : List WalkPiece) → Ordered a (piece_ranges ps) → All (λ p. AtPage p.range.start × AtPage p.range.end) ps
    → All PagedRange (piece_ranges ps)
pieces_paged a [] o h = tt
pieces_paged a (p ∷ ps) o h = ((o.1.0, h.0.0, h.0.1), pieces_paged p.range.end ps o.1.1 h.1)

pub paged-boundaries : (m : List TaggedRange) → Paged m → All AtPage (boundaries (ranges_in m))
paged-boundaries [] h = tt
paged-boundaries (x ∷ xs) h = (h.0.1, (h.0.2, paged-boundaries xs h.1))

-- pieces in order have a byte each
pieces_full : (a : ℕ) (ps : List WalkPiece) → Ordered a (piece_ranges ps) → All (λ p. p.range.start < p.range.end) ps
pieces_full a [] o = tt
pieces_full a (p ∷ ps) o = (o.1.0, pieces_full p.range.end ps o.1.1)

-- each piece of a walk has a byte, and says of its bytes which items hold them
pub walk_each : (ls rs : List MemoryRange) → Ordered 0 ls → Ordered 0 rs → All (λ p. (p.range.start < p.range.end) × Says ls rs p) (walk ls rs)
walk_each ls rs ol or = all_both _ (Says ls rs) (walk ls rs) (pieces_full 0 (walk ls rs) (walk-ordered ls rs ol or)) (walk_says ls rs ol or)

module _ (ls : List MemoryRange) (m : List TaggedRange) (ol : Ordered 0 ls) (om : Ordered 0 (ranges_in m)) where
  items : (t : ℕ → Bool) (a : ℕ) → holders (ranges_for t m) a ≡ counted_if (by_node t m) (item_at (ranges_in m) a)
  items t a = ranges_items t (by_node t m) 0 0 m a om (λ i. rw zero-add)

  kept_bytes : (side : RangeWalkResult → Option ℕ) (t : ℕ → Bool) (a : ℕ)
      → holders (ranges_for t (kept m side (walk ls (ranges_in m)))) a
      ≡ counted_if (λ h. passes (by_node t m) (side h)) (held_by (item_at ls a) (item_at (ranges_in m) a))
  kept_bytes side t a = rw kept-picked (walk-picked _ ls (ranges_in m) ol om a)

  -- of the nodes that pass the test, the pieces of both lists hold a byte of m where ls holds it
  pub both_bytes : (t : ℕ → Bool) (a : ℕ)
      → holders (ranges_for t (kept m both_item (walk ls (ranges_in m)))) a ≡ cond (eqb (holders ls a) 0) 0 (holders (ranges_for t m) a)
  both_bytes t a = rw (holders_items 0 0 ls a ol, items t a) (kept_bytes both_item t a ∙ held_both (by_node t m) (item_at ls a) (item_at (ranges_in m) a))

  -- and the pieces of m alone where ls does not
  pub right_bytes : (t : ℕ → Bool) (a : ℕ)
      → holders (ranges_for t (kept m right_only (walk ls (ranges_in m)))) a ≡ cond (eqb (holders ls a) 0) (holders (ranges_for t m) a) 0
  right_bytes t a = rw (holders_items 0 0 ls a ol, items t a) (kept_bytes right_only t a ∙ held-right (by_node t m) (item_at ls a) (item_at (ranges_in m) a))

  pub kept-ordered : (side : RangeWalkResult → Option ℕ) → Ordered 0 (ranges_in (kept m side (walk ls (ranges_in m))))
  kept-ordered side =
      rw (ranges-all (kept m side (walk ls (ranges_in m))), kept-picked)
      (picked-ordered _ 0 (walk ls (ranges_in m)) (walk-ordered ls (ranges_in m) ol om))

  pub kept_paged : (side : RangeWalkResult → Option ℕ) → All AtPage (boundaries ls) → Paged m → Paged (kept m side (walk ls (ranges_in m)))
  kept_paged side hl hm =
      kept-all PagedRange m side (walk ls (ranges_in m))
      (pieces_paged 0 (walk ls (ranges_in m)) (walk-ordered ls (ranges_in m) ol om)
      (walk_ends AtPage ls (ranges_in m) hl (paged-boundaries m hm)))
