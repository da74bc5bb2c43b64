-- Wrong answers of the placement, each refuted (docs/PROVED.md).
use Rattle.std.specs.Prelude.{ℕ, Bool, true, false, List, [], ◌∷◌, ◌≢◌, eqb}
use Rattle.std.proofs.Common.{ap, true≢false}
use Rattle.memory_range.specs.Range.{range}
use Rattle.address_space.specs.declared.request.AllocatedRange.{AllocatedRange}
use Rattle.address_space.specs.declared.table.AddressRange.{AddressRange}
use Rattle.address_space.specs.declared.usage.AddressUsage.TheVariants.{Used}
use Rattle.address_space.specs.Request.{allocated}
use Rattle.address_space.specs.Split.{free_entry}
use Rattle.address_space.specs.Table.{entry}
use Rattle.private_pool.specs.Piece.{PoolPiece, piece, split_pieces}
use Rattle.private_pool.specs.Pool.{Placement, refused, placed, split_placed, pool_placed}

-- what the answers are told apart by
abbrev first_pages : List PoolPiece → ℕ
first_pages [] = 0
first_pages (p ∷ ps) = p.pages

abbrev is_refused : Placement → Bool
is_refused (refused n) = true
is_refused (placed xs es) = false

-- shares rounded up
pub share_rounded_up : split_pieces 5 (0 ∷ 1 ∷ []) ≢ piece 0 3 ∷ piece 1 2 ∷ []
share_rounded_up e = true≢false (ap (λ (ps : List PoolPiece). eqb (first_pages ps) 2) e)

-- the first pieces of a refused split kept: node 0 has its page, and node 1 has none
pub first-pieces-kept : (es : List AddressRange)
    → split_placed 2 (free_entry 0 (range 0x1000 0x2000) ∷ entry (range 0x2000 0x3000) 1 Used ∷ [])
    ≢ placed (record { range = range 0x1000 0x2000; vnode = 0 } ∷ []) es
unfolding split_placed allocated
first-pieces-kept es e = true≢false (ap is_refused e)

-- 0 pages placed
pub no-pages-placed : (xs : List AllocatedRange) (es : List AddressRange) → pool_placed 0 false (free_entry 0 (range 0x1000 0x2000) ∷ []) ≢ placed xs es
unfolding pool_placed split_placed
no-pages-placed xs es e = true≢false (ap is_refused e)
