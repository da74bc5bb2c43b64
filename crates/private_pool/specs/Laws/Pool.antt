-- Laws of the placement: what it comes to by the tests of the code.
use Rattle.std.specs.Prelude.{ℕ, ◌≤◌, ◌<◌, Bool, true, false, ◌≡◌, refl, List, [], ◌∷◌, eqb, length, drop, Ok}
use Rattle.std.proofs.Math.Bool.{or-true}
use Rattle.std.proofs.Common.{ap, ◌∙◌}
use borrow.Author.Tests.{eq-eqb, ne_eqb, lt-ltb, le-ltb, le-leb, lt-leb}
use Rattle.refusal.specs.declared.Refusal.{Refusal}
use Rattle.refusal.specs.declared.Refusal.TheVariants as refusals
use Rattle.refusal.specs.Number.{no_fit, pool_too_large, pool_split}
use Rattle.address_space.specs.declared.request.AllocatedRange.{AllocatedRange}
use Rattle.address_space.specs.declared.table.AddressRange.{AddressRange}
use Rattle.address_space.specs.declared.table.AddressSpaceManager.{AddressSpaceManager}
use Rattle.address_space.specs.Request as request
use Rattle.address_space.specs.Table.{entries_of, table_with}
use Rattle.private_pool.specs.declared.pool.PrivatePool.{PrivatePool}
use Rattle.private_pool.specs.Piece.{table_nodes, piece, split_pieces}
use Rattle.private_pool.specs.Pool.{refused, placed, piece_on, place_pieces, pages_bound, is_no_fit, split_placed, whole_or, pool_placed, no_ranges, pool_as}

-- any other refusal is not 25
pub another : (r : Refusal) → (r ≡ no_fit → ⊥) → is_no_fit r ≡ false
another refusals.NoFit h = absurd (h refl)
another r h = refl

-- the split by the tests of the code: row 28 twice, or the pieces
module _ (pages : ℕ) (es : List AddressRange) where
  pub split-none : length (table_nodes es) ≡ 0 → split_placed pages es ≡ refused pool_split
  unfolding split_placed
  split-none h = rw (eq-eqb (length (table_nodes es)) 0 h)

  pub split_few : pages < length (table_nodes es) → split_placed pages es ≡ refused pool_split
  unfolding split_placed
  split_few h = rw (lt-ltb pages (length (table_nodes es)) h, or-true (eqb (length (table_nodes es)) 0))

  pub split_good : (length (table_nodes es) ≡ 0 → ⊥) → length (table_nodes es) ≤ pages
      → split_placed pages es ≡ place_pieces (split_pieces pages (table_nodes es)) es
  unfolding split_placed
  split_good some h = rw (ne_eqb (length (table_nodes es)) 0 some, le-ltb pages (length (table_nodes es)) h)

-- the placement by the tests of the code: row 27, the split where no whole pool is searched for, and what that search comes to
module _ (pages : ℕ) (split : Bool) (es : List AddressRange) where
  pub pool_large : pages_bound ≤ pages → pool_placed pages split es ≡ refused pool_too_large
  unfolding pool_placed
  pool_large h = rw (le-leb pages_bound pages h)

  module _ (few : pages < pages_bound) where
    pub pool_forced : split ≡ true → pool_placed pages split es ≡ split_placed pages es
    unfolding pool_placed
    pool_forced h = rw (lt-leb pages_bound pages few, h)

    pub pool_empty : split ≡ false → pages ≡ 0 → pool_placed pages split es ≡ split_placed pages es
    unfolding pool_placed
    pool_empty f h = rw (lt-leb pages_bound pages few, f, eq-eqb pages 0 h)

    module _ (whole : split ≡ false) (some : pages ≡ 0 → ⊥) where
      pool_tried : pool_placed pages split es ≡ whole_or (piece_on (piece 0 pages) es) (split_placed pages es)
      unfolding pool_placed
      pool_tried = rw (lt-leb pages_bound pages few, whole, ne_eqb pages 0 some)

      pub pool_whole : {x : AllocatedRange} {es' : List AddressRange} → piece_on (piece 0 pages) es ≡ request.handed x es'
          → pool_placed pages split es ≡ placed (x ∷ []) es'
      pool_whole e = pool_tried ∙ rw e

      pub pool-split : {r : Refusal} → piece_on (piece 0 pages) es ≡ request.refused r → r ≡ no_fit
          → pool_placed pages split es ≡ split_placed pages es
      pool-split e h = pool_tried ∙ rw (e, h)

      pub pool_refused : {r : Refusal} → piece_on (piece 0 pages) es ≡ request.refused r → (r ≡ no_fit → ⊥)
          → pool_placed pages split es ≡ refused r
      pool_refused {r} e h = pool_tried ∙ rw (e, another r h)

-- the answer of one range, with the table that it was placed in
pub one-range : (m after : AddressSpaceManager) (x : AllocatedRange) → after ≡ table_with m (entries_of after) true
    → ◌≡◌ {A = PrivatePool} (record { answer = Ok 1; ranges = x ∷ drop 1 no_ranges; manager = after }) (pool_as m (placed (x ∷ []) (entries_of after)))
one-range m after x t =
    ap one_range t
  where
    one_range : AddressSpaceManager → PrivatePool
    one_range w = record { answer = Ok 1; ranges = x ∷ drop 1 no_ranges; manager = w }
