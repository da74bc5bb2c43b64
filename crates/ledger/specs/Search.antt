-- Searches, judged on the ledger's free ranges as they stand at that search (docs/SPEC.md, section 27).
use Rattle.std.specs.Prelude.{ℕ, ◌*◌, ◌≤◌, ◌<◌, ◌≡◌, Bool, true, false, ◌||◌, List, [], ◌∷◌, ◌↔◌, Option, Some, None}
use Rattle.refusal.specs.Number.{no_fit, table_full, pool_too_large, pool_split, pool_node_no_fit}
use Rattle.memory_range.specs.declared.range.TaggedRange.{TaggedRange}
use Rattle.memory_range.specs.List.{tags_of}
use Rattle.memory_range.specs.Round.{round_up}
use Rattle.memory_range.specs.Valid.{page_size}
use Rattle.host_params.specs.declared.AllocationPolicy.{AllocationPolicy}
use Rattle.host_params.specs.declared.AllocationPolicy.TheVariants.{HighMemory}
use Rattle.address_space.specs.declared.request.AllocatedRange.{AllocatedRange}
use Rattle.address_space.specs.Fit.{aligned_to, fits_in}
use Rattle.address_space.specs.Request.{rows_refusal}
use Rattle.address_space.specs.Search.{Search, nothing, found, searched}
use Rattle.address_space.specs.Split.{allotted, free_entry}
use Rattle.boot_nodes.specs.Node.{distinct}
use Rattle.private_pool.specs.Piece.{PoolPiece, piece, split_pieces}
use Rattle.private_pool.specs.Pool.{pages_bound, split_bad, whole_tried}
use Rattle.ledger.specs.Call.{Request, Call, request, pool, Answer, refused, gave}
use Rattle.ledger.specs.Ledger.{cut}

-- whether a free range meets the fit rule, and whether some of them does
abbrev pub fits : Option ℕ → ℕ → Option ℕ → TaggedRange → Bool
fits asked len alignment x = fits_in asked len alignment (free_entry x.tag x.range)

abbrev pub some_entry_fits : Option ℕ → ℕ → Option ℕ → List TaggedRange → Bool
some_entry_fits asked len alignment [] = false
some_entry_fits asked len alignment (x ∷ xs) = fits asked len alignment x || some_entry_fits asked len alignment xs

-- the range that the rule gives of free ranges: so many bytes of the first that fits, looked for from the side that the policy names
abbrev pub taken_from : ℕ → AllocationPolicy → Option ℕ → Search TaggedRange → Option AllocatedRange
taken_from len policy alignment nothing = None
taken_from len policy alignment (found before x after) =
    Some (record { range = allotted policy len (aligned_to alignment x.range); vnode = x.tag })

abbrev pub given_of : Option ℕ → ℕ → AllocationPolicy → Option ℕ → List TaggedRange → Option AllocatedRange
given_of asked len policy alignment free = taken_from len policy alignment (searched policy (fits asked len alignment) free)

-- a request is searched for where it passes the rows above 25, and is then turned away with 25 exactly where no free range fits
abbrev pub SearchedFor : Request → Type 0
SearchedFor r = rows_refusal r.len r.alignment ≡ None

abbrev pub RequestSearched : Request → List TaggedRange → Answer → Type 0
RequestSearched r free answer =
    SearchedFor r
    → (answer ≡ refused no_fit) ↔ (some_entry_fits r.asked (round_up page_size r.len) r.alignment free ≡ false)

-- a piece of a pool: whether some free range fits it, and the range that it is given
abbrev pub piece_fits : PoolPiece → List TaggedRange → Bool
piece_fits p free = some_entry_fits (Some p.node) (p.pages * page_size) None free

abbrev pub piece_given : PoolPiece → List TaggedRange → Option AllocatedRange
piece_given p free = given_of (Some p.node) (p.pages * page_size) HighMemory None free

-- a range in front of those of an answer
abbrev pub ahead : AllocatedRange → Answer → Answer
ahead x (refused n) = refused n
ahead x (gave xs) = gave (x ∷ xs)

-- the search for a piece of a split, and what comes after it on the free ranges without what it was given
pub data PieceSearched (p : PoolPiece) (rest : List TaggedRange → Answer → Type 0) (free : List TaggedRange) (answer : Answer) : Type 0 where
  -- no free range fits: it is the last piece that is searched for, and the answer is 29
  no-fit : piece_fits p free ≡ false → answer ≡ refused pool_node_no_fit → PieceSearched p rest free answer
  -- one fits, and its split has no room in the table: the answer is 26
  full : piece_fits p free ≡ true → answer ≡ refused table_full → PieceSearched p rest free answer
  -- one fits, and gives the piece the range x
  met : (x : AllocatedRange) (after : Answer) → piece_fits p free ≡ true → piece_given p free ≡ Some x → rest (cut x.range free) after
      → answer ≡ ahead x after → PieceSearched p rest free answer

-- the pieces one after the other, up to the first that is refused
abbrev pub PiecesSearched : List PoolPiece → List TaggedRange → Answer → Type 0
PiecesSearched [] free answer = answer ≡ gave []
PiecesSearched (p ∷ ps) free answer = PieceSearched p (PiecesSearched ps) free answer

-- a split over these nodes
pub data SplitSearched (pages : ℕ) (nodes : List ℕ) (free : List TaggedRange) (answer : Answer) : Type 0 where
  -- row 28: nothing is searched for
  bad : split_bad pages nodes ≡ true → answer ≡ refused pool_split → SplitSearched pages nodes free answer
  pieces : split_bad pages nodes ≡ false → PiecesSearched (split_pieces pages nodes) free answer → SplitSearched pages nodes free answer

-- a pool, in a table of these nodes
pub data PoolSearched (pages : ℕ) (split : Bool) (nodes : List ℕ) (free : List TaggedRange) (answer : Answer) : Type 0 where
  -- row 27: nothing is searched for
  too_large : pages_bound ≤ pages → answer ≡ refused pool_too_large → PoolSearched pages split nodes free answer
  -- a split that is forced, or a pool of 0 pages: the whole is not searched for
  apart : pages < pages_bound → whole_tried pages split ≡ false → SplitSearched pages nodes free answer → PoolSearched pages split nodes free answer
  -- no free range of node 0 fits the whole, which shows as going on to the split
  no-fit : pages < pages_bound → whole_tried pages split ≡ true → piece_fits (piece 0 pages) free ≡ false → SplitSearched pages nodes free answer
      → PoolSearched pages split nodes free answer
  -- one fits, and no split follows: its own split has no room in the table, or it gives the range x
  full : pages < pages_bound → whole_tried pages split ≡ true → piece_fits (piece 0 pages) free ≡ true → answer ≡ refused table_full
      → PoolSearched pages split nodes free answer
  met : (x : AllocatedRange) → pages < pages_bound → whole_tried pages split ≡ true → piece_fits (piece 0 pages) free ≡ true
      → piece_given (piece 0 pages) free ≡ Some x → answer ≡ gave (x ∷ []) → PoolSearched pages split nodes free answer

-- the searches of a call. The nodes of the table are those of its RAM
abbrev pub Searched : List TaggedRange → Call → List TaggedRange → Answer → Type 0
Searched ram (request r) free answer = RequestSearched r free answer
Searched ram (pool pages split) free answer = PoolSearched pages split (distinct (tags_of ram)) free answer
