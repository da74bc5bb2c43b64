-- What the searches of a pool show, told by the answer: no-fit both ways.
use Rattle.std.specs.Prelude.{ℕ, ◌<◌, ◌≡◌, Bool, true, false, cond, List, [], ◌∷◌, ◌⊎◌, Option, Some, None}
use Rattle.std.proofs.Common.{ap, sym, ◌∙◌, true≢false, inl, inr, arith}
use Rattle.refusal.specs.Number.{table_full, pool_split, pool_node_no_fit}
use Rattle.memory_range.specs.declared.range.TaggedRange.{TaggedRange}
use Rattle.address_space.specs.declared.request.AllocatedRange.{AllocatedRange}
use Rattle.private_pool.specs.Piece.{PoolPiece, piece}
use Rattle.private_pool.specs.Pool.{pages_bound, whole_tried}
use Rattle.ledger.specs.Call.{Answer, refused, gave}
use Rattle.ledger.specs.Ledger.{cut}
use Rattle.ledger.specs.Search.{piece_fits, piece_given, ahead, PieceSearched, PiecesSearched, PoolSearched}

-- whether a piece finds no fit among the free ranges, where each is searched for on what those before it leave
abbrev pub without_given : Option AllocatedRange → List TaggedRange → List TaggedRange
without_given None free = free
without_given (Some x) free = cut x.range free

abbrev pub some_stuck : List PoolPiece → List TaggedRange → Bool
some_stuck [] free = false
some_stuck (p ∷ ps) free = cond (piece_fits p free) (some_stuck ps (without_given (piece_given p free) free)) true

-- 29 shows that a piece finds no fit
pub stuck_shown : (ps : List PoolPiece) (free : List TaggedRange) (a : Answer) → PiecesSearched ps free a → a ≡ refused pool_node_no_fit
    → some_stuck ps free ≡ true
stuck_shown [] free a h e = cc
stuck_shown (p ∷ ps) free a (PieceSearched.no-fit f s) e = rw f
stuck_shown (p ∷ ps) free a (PieceSearched.full f s) e = cc
stuck_shown (p ∷ ps) free a (PieceSearched.met x after f g rest s) e = rw (f, g) (stuck_shown ps (cut x.range free) after rest (go after (sym s ∙ e)))
  where
    go : (b : Answer) → ahead x b ≡ refused pool_node_no_fit → b ≡ refused pool_node_no_fit
    go (refused n) q = q
    go (gave xs) q = cc

-- where a piece finds no fit, the answer is 29, or 26 if a piece before it has no room in the table
pub stuck-answered : (ps : List PoolPiece) (free : List TaggedRange) (a : Answer) → PiecesSearched ps free a → some_stuck ps free ≡ true
    → (a ≡ refused pool_node_no_fit) ⊎ (a ≡ refused table_full)
stuck-answered [] free a h t = absurd (true≢false (sym t))
stuck-answered (p ∷ ps) free a (PieceSearched.no-fit f s) t = inl s
stuck-answered (p ∷ ps) free a (PieceSearched.full f s) t = inr s
stuck-answered (p ∷ ps) free a (PieceSearched.met x after f g rest s) t =
    go after s (stuck-answered ps (cut x.range free) after rest (rw (f, g) at t))
  where
    go : (b : Answer) → a ≡ ahead x b → (b ≡ refused pool_node_no_fit) ⊎ (b ≡ refused table_full) → (a ≡ refused pool_node_no_fit) ⊎ (a ≡ refused table_full)
    go b e (inl q) = inl (e ∙ ap (ahead x) q)
    go b e (inr q) = inr (e ∙ ap (ahead x) q)

-- a whole pool that is searched for: 28 and 29 show that no free range of node 0 fits it, and where one fits it is handed out, or has no room in the table
module _ (pages : ℕ) (split : Bool) (nodes : List ℕ) (free : List TaggedRange) (a : Answer) (tried : whole_tried pages split ≡ true) where
  pub whole_shown : PoolSearched pages split nodes free a → (a ≡ refused pool_split) ⊎ (a ≡ refused pool_node_no_fit)
      → piece_fits (piece 0 pages) free ≡ false
  whole_shown (PoolSearched.too_large h e) (inl s) = cc
  whole_shown (PoolSearched.too_large h e) (inr s) = cc
  whole_shown (PoolSearched.apart h t rest) s = absurd (true≢false (sym tried ∙ t))
  whole_shown (PoolSearched.no-fit h t f rest) s = f
  whole_shown (PoolSearched.full h t f e) (inl s) = cc
  whole_shown (PoolSearched.full h t f e) (inr s) = cc
  whole_shown (PoolSearched.met x h t f g e) (inl s) = cc
  whole_shown (PoolSearched.met x h t f g e) (inr s) = cc

  pub whole-answered : PoolSearched pages split nodes free a → pages < pages_bound → piece_fits (piece 0 pages) free ≡ true
      → (a ≡ refused table_full) ⊎ ((x : AllocatedRange) × (piece_given (piece 0 pages) free ≡ Some x) × (a ≡ gave (x ∷ [])))
  whole-answered (PoolSearched.too_large h e) small fit = absurd (omega arith)
  whole-answered (PoolSearched.apart h t rest) small fit = absurd (true≢false (sym tried ∙ t))
  whole-answered (PoolSearched.no-fit h t f rest) small fit = absurd (true≢false (sym fit ∙ f))
  whole-answered (PoolSearched.full h t f e) small fit = inl e
  whole-answered (PoolSearched.met x h t f g e) small fit = inr (x, g, e)
