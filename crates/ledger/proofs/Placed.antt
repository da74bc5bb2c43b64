-- The placement of a pool, by the ledger: what each of its searches shows, and what is handed out.
use Rattle.std.specs.Prelude.{ℕ, ◌*◌, ◌<◌, ◌≡◌, Bool, cond, not, List, [], ◌∷◌, ltb, eqb, length, Some, None}
use Rattle.std.proofs.Math.Path.{refl}
use Rattle.std.proofs.Math.Bool.{true, false, and-eq-true_iff}
use Rattle.std.proofs.Common.{arith}
use borrow.Author.Tests.{leb-true, leb-false, ltb-false, eqb-false, not-true}
use Rattle.std.proofs.Math.Dec.{leb}
use Rattle.refusal.specs.Number.{pool_too_large, pool_split}
use Rattle.memory_range.specs.declared.range.MemoryRange.{MemoryRange}
use Rattle.memory_range.specs.declared.range.TaggedRange.{TaggedRange}
use Rattle.memory_range.specs.Bytes.{Ordered, All}
use Rattle.memory_range.specs.List.{ranges_in, tags_of}
use Rattle.memory_range.specs.Valid.{page_size}
use Rattle.host_params.specs.declared.AllocationPolicy.TheVariants.{HighMemory}
use Rattle.host_params.specs.declared.AllocationType.TheVariants.{GpaPool}
use Rattle.address_space.specs.declared.request.AllocatedRange.{AllocatedRange}
use Rattle.address_space.specs.declared.table.AddressRange.{AddressRange}
use Rattle.address_space.specs.declared.usage.AddressUsage.{AddressUsage}
use Rattle.address_space.specs.Request.{Outcome}
use Rattle.address_space.specs.Usage.{usage_for}
use Rattle.memory.specs.declared.builder.AddressSpaceManagerBuilder.{AddressSpaceManagerBuilder}
use Rattle.memory.specs.Laws.Overlap.{or-false_iff}
use Rattle.boot_nodes.specs.Node.{distinct}
use Rattle.private_pool.specs.Piece.{table_nodes, PoolPiece, piece, split_pieces}
use Rattle.private_pool.specs.Pool.{Placement, pages_bound, piece_on, in_front, after_piece, place_pieces, split_bad, split_placed, whole_tried, whole_or, pool_placed}
use Rattle.private_pool.specs.Pool as placement
use Rattle.private_pool.specs.Laws.Piece.{pieces-some}
use Rattle.ledger.specs.Call.{refused, gave, result_answer}
use Rattle.ledger.specs.Ledger.{Ledger}
use Rattle.ledger.specs.Search.{piece_fits, piece_given, PieceSearched, PiecesSearched, SplitSearched, PoolSearched}
use Rattle.ledger.specs.Laws.Kept.{Kept, Given, cut_one, given-none, given_more}
use Rattle.ledger.specs.Laws.Nodes.{nodes-same}
use Rattle.ledger.proofs.Searched.{SearchCase, search_case}
use Rattle.ledger.proofs.Searched as case

module _ (b : AddressSpaceManagerBuilder) (ram : List TaggedRange) (configs pools : List MemoryRange) where
  abbrev pub pool_usage : AddressUsage
  pool_usage = usage_for GpaPool

  -- what a placement hands out from a table, if it is not refused
  abbrev pub GivenBy : List AddressRange → Ledger → Placement → Type 0
  GivenBy es l (placement.refused n) = Unit {0}
  GivenBy es l (placement.placed xs es') = Given b ram configs pools pool_usage xs es es' l

  -- the search for a piece
  abbrev PieceCase : PoolPiece → List AddressRange → Ledger → Outcome → Type 0
  PieceCase p es l o = SearchCase b ram configs pools (Some p.node) (p.pages * page_size) GpaPool HighMemory None es l o

  piece_case : (p : PoolPiece) (es : List AddressRange) (l : Ledger) → Kept b ram configs pools es l → 0 < p.pages → PieceCase p es l (piece_on p es)
  piece_case p es l k some-pages =
      search_case b ram configs pools (Some p.node) (p.pages * page_size) GpaPool HighMemory None es l k (omega arith) (omega arith) refl tt

  -- what the pieces show and hand out
  abbrev Pieces : List PoolPiece → List AddressRange → Ledger → Placement → Type 0
  Pieces ps es l o = PiecesSearched ps l.free (result_answer o) × GivenBy es l o

  pieces_hold : (ps : List PoolPiece) → All (λ p. 0 < p.pages) ps → (es : List AddressRange) (l : Ledger) → Kept b ram configs pools es l
      → Pieces ps es l (place_pieces ps es)
  pieces_hold [] h es l k = (refl, given-none b ram configs pools pool_usage es l k)
  pieces_hold (p ∷ ps) h es l k = go (piece_on p es) (piece_case p es l k h.0) (pieces_hold ps h.1)
    where
      more : (x : AllocatedRange) (es' : List AddressRange) → piece_fits p l.free ≡ true → piece_given p l.free ≡ Some x
          → Given b ram configs pools pool_usage (x ∷ []) es es' l
          → (o : Placement) → Pieces ps es' (cut_one pool_usage x l) o → Pieces (p ∷ ps) es l (in_front x o)
      more x es' f g one (placement.refused n) rest = (PieceSearched.met x (refused n) f g rest.0 refl, tt)
      more x es' f g one (placement.placed xs es'') rest =
          (PieceSearched.met x (gave xs) f g rest.0 refl, given_more b ram configs pools pool_usage x xs es es' es'' l one rest.1)

      go : (o : Outcome) → PieceCase p es l o
          → ((es : List AddressRange) (l : Ledger) → Kept b ram configs pools es l → Pieces ps es l (place_pieces ps es))
          → Pieces (p ∷ ps) es l (after_piece (place_pieces ps) o)
      go o (case.no-fit f e) rest = rw e (PieceSearched.no-fit f refl, tt)
      go o (case.full f e) rest = rw e (PieceSearched.full f refl, tt)
      go o (case.met x es' f g one e) rest = rw e (more x es' f g one (place_pieces ps es') (rest es' (cut_one pool_usage x l) one.kept))

  module _ (pages : ℕ) (es : List AddressRange) (l : Ledger) (k : Kept b ram configs pools es l) where
    -- the split
    split-holds : SplitSearched pages (table_nodes es) l.free (result_answer (split_placed pages es)) × GivenBy es l (split_placed pages es)
    unfolding split_placed
    split-holds = go (split_bad pages (table_nodes es)) refl
      where
        go : (t : Bool) → split_bad pages (table_nodes es) ≡ t
            → SplitSearched pages (table_nodes es) l.free
            (result_answer (cond t (placement.refused pool_split) (place_pieces (split_pieces pages (table_nodes es)) es)))
            × GivenBy es l (cond t (placement.refused pool_split) (place_pieces (split_pieces pages (table_nodes es)) es))
        go true t = (SplitSearched.bad t refl, tt)
        go false t =
            let ns = table_nodes es in
            let both = (or-false_iff (eqb (length ns) 0) (ltb pages (length ns))).0 t in
            let more = eqb-false (length ns) 0 both.0 in
            let few = ltb-false pages (length ns) both.1 in
            let held = pieces_hold (split_pieces pages ns) (pieces-some pages ns (omega arith) few) es l k in
            (SplitSearched.pieces t held.0, held.1)

    -- the whole pool first, where it is searched for
    module _ (split : Bool) where
      abbrev Shown : Placement → Type 0
      Shown o = PoolSearched pages split (table_nodes es) l.free (result_answer o) × GivenBy es l o

      whole-holds : pages < pages_bound → whole_tried pages split ≡ true → (o : Outcome) → PieceCase (piece 0 pages) es l o
          → Shown (whole_or o (split_placed pages es))
      whole-holds small t o (case.no-fit f e) = rw e (PoolSearched.no-fit small t f split-holds.0, split-holds.1)
      whole-holds small t o (case.full f e) = rw e (PoolSearched.full small t f refl, tt)
      whole-holds small t o (case.met x es' f g one e) = rw e (PoolSearched.met x small t f g refl, one)

      tried-holds : pages < pages_bound → (t : Bool) → whole_tried pages split ≡ t
          → Shown (cond t (whole_or (piece_on (piece 0 pages) es) (split_placed pages es)) (split_placed pages es))
      tried-holds small true t =
          let some-pages = eqb-false pages 0 (not-true (eqb pages 0) ((and-eq-true_iff (not split) (not (eqb pages 0))).0 t).1) in
          whole-holds small t (piece_on (piece 0 pages) es) (piece_case (piece 0 pages) es l k (omega arith))
      tried-holds small false t = (PoolSearched.apart small t split-holds.0, split-holds.1)

      placed-holds : Shown (pool_placed pages split es)
      unfolding pool_placed
      placed-holds = go (leb pages_bound pages) refl
        where
          go : (t : Bool) → leb pages_bound pages ≡ t
              → Shown (cond t (placement.refused pool_too_large)
              (cond (whole_tried pages split) (whole_or (piece_on (piece 0 pages) es) (split_placed pages es)) (split_placed pages es)))
          go true t = (PoolSearched.too_large (leb-true _ _ t) refl, tt)
          go false t = tried-holds (leb-false _ _ t) (whole_tried pages split) refl

      pub pool-holds : Ordered 0 (ranges_in ram)
          → PoolSearched pages split (distinct (tags_of ram)) l.free (result_answer (pool_placed pages split es))
          × GivenBy es l (pool_placed pages split es)
      pool-holds o = rw (← (nodes-same ram es o k.sound)) placed-holds
