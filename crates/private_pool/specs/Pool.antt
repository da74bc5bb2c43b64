-- The placement of the private pool (docs/SPEC.md, section 26; document 01, Port order 6, and rows 27 to 29 of the chart).
use Rattle.std.specs.Prelude.{ℕ, ◌*◌, ◌^◌, Bool, true, false, cond, not, ◌&&◌, ◌||◌, List, [], ◌∷◌, ◌++◌, leb, ltb, eqb, length, drop, replicate, Some, None, Ok, Err}
use Rattle.refusal.specs.declared.Refusal.{Refusal}
use Rattle.refusal.specs.declared.Refusal.TheVariants as refusals
use Rattle.refusal.specs.Number.{pool_too_large, pool_split, pool_node_no_fit}
use Rattle.memory_range.specs.Range.{range}
use Rattle.memory_range.specs.Valid.{page_size}
use Rattle.host_params.specs.declared.AllocationPolicy.TheVariants.{HighMemory}
use Rattle.host_params.specs.declared.AllocationType.TheVariants.{GpaPool}
use Rattle.address_space.specs.declared.request.AllocatedRange.{AllocatedRange}
use Rattle.address_space.specs.declared.table.AddressRange.{AddressRange}
use Rattle.address_space.specs.declared.table.AddressSpaceManager.{AddressSpaceManager}
use Rattle.address_space.specs.Request.{Outcome, allocated}
use Rattle.address_space.specs.Request as request
use Rattle.address_space.specs.Table.{table_with}
use Rattle.private_pool.specs.declared.pool.PrivatePool.{PrivatePool}
use Rattle.private_pool.specs.Piece.{table_nodes, PoolPiece, piece, split_pieces}

-- what a placement comes to: a refusal, or the ranges placed, in the order of their nodes, and the entries afterwards
pub data Placement : Type 0 where
  refused : Refusal → Placement
  placed : List AllocatedRange → List AddressRange → Placement

-- a pool has fewer pages than these
abbrev pub pages_bound : ℕ
pages_bound = 2 ^ 52

-- a piece is searched for on its node, from the top
abbrev pub piece_on : PoolPiece → List AddressRange → Outcome
piece_on p es = allocated (Some p.node) (p.pages * page_size) GpaPool HighMemory None es

-- a range in front of those that are placed after it
abbrev pub in_front : AllocatedRange → Placement → Placement
in_front x (refused r) = refused r
in_front x (placed xs es) = placed (x ∷ xs) es

-- whether a refusal is 25
abbrev pub is_no_fit : Refusal → Bool
is_no_fit refusals.NoFit = true
is_no_fit r = false

-- a piece of a split that finds no fit is 29
abbrev pub piece_refusal : Refusal → Refusal
piece_refusal r = cond (is_no_fit r) pool_node_no_fit r

-- what a piece of a split comes to, with what comes after it
abbrev pub after_piece : (List AddressRange → Placement) → Outcome → Placement
after_piece rest (request.refused r) = refused (piece_refusal r)
after_piece rest (request.handed x es) = in_front x (rest es)

-- the pieces one after the other, each on the table that the last one left; the first that is refused refuses all
abbrev pub place_pieces : List PoolPiece → List AddressRange → Placement
place_pieces [] es = placed [] es
place_pieces (p ∷ ps) es = after_piece (place_pieces ps) (piece_on p es)

-- row 28: no node, or fewer pages than nodes
abbrev pub split_bad : ℕ → List ℕ → Bool
split_bad pages ns = eqb (length ns) 0 || ltb pages (length ns)

-- the split: a piece for each node of the table, ascending
unfoldable pub split_placed : ℕ → List AddressRange → Placement
split_placed pages es =
    cond (split_bad pages (table_nodes es)) (refused pool_split) (place_pieces (split_pieces pages (table_nodes es)) es)

-- whether the whole pool is searched for on node 0: not where the split is forced, nor for 0 pages
abbrev pub whole_tried : ℕ → Bool → Bool
whole_tried pages split = not split && not (eqb pages 0)

-- what the search for the whole pool comes to: where no entry fits, what the split comes to
abbrev pub whole_or : Outcome → Placement → Placement
whole_or (request.handed x es) o = placed (x ∷ []) es
whole_or (request.refused r) o = cond (is_no_fit r) o (refused r)

-- row 27, the whole pool on node 0, and the split
unfoldable pub pool_placed : ℕ → Bool → List AddressRange → Placement
pool_placed pages split es =
    cond (leb pages_bound pages) (refused pool_too_large)
    (cond (whole_tried pages split) (whole_or (piece_on (piece 0 pages) es) (split_placed pages es)) (split_placed pages es))

-- the ranges of an answer before any is placed
abbrev pub no_range : AllocatedRange
no_range = record { range = range 0 0; vnode = 0 }

abbrev pub max_pool_ranges : ℕ
max_pool_ranges = 256

abbrev pub no_ranges : List AllocatedRange
no_ranges = replicate max_pool_ranges no_range

-- the answer and the table: a refusal leaves the table and the flag as found, and a pool that is placed sets the flag
abbrev pub pool_refused_with : AddressSpaceManager → Refusal → PrivatePool
pool_refused_with m r = record { answer = Err r; ranges = no_ranges; manager = m }

abbrev pub pool_as : AddressSpaceManager → Placement → PrivatePool
pool_as m (refused r) = pool_refused_with m r
pool_as m (placed xs es) =
    record { answer = Ok (length xs); ranges = xs ++ drop (length xs) no_ranges; manager = table_with m es true }
