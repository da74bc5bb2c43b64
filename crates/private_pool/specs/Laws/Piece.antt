-- Laws of the pieces of a split pool: one for each node, whose pages are the pool's, and none of which is without a page.
use Rattle.std.specs.Prelude.{ℕ, suc, ◌+◌, ◌-◌, ◌*◌, ◌/◌, ◌≤◌, ◌<◌, ◌≡◌, refl, List, [], ◌∷◌, map, length}
use Rattle.std.proofs.Common.{ap, div-mul-le_self, div-le_self, le-div_iff_mul-le, arith}
use Rattle.memory_range.specs.Bytes.{All}
use Rattle.private_pool.specs.Piece.{PoolPiece, pieces_from, split_pieces}

-- the nodes of pieces, and their pages in all
abbrev pub nodes_of : List PoolPiece → List ℕ
nodes_of = map (λ p. p.node)

abbrev pub pages_in : List PoolPiece → ℕ
pages_in [] = 0
pages_in (p ∷ ps) = p.pages + pages_in ps

-- one piece for each node, in the order of the nodes
from-nodes : (share left n : ℕ) (ns : List ℕ) → nodes_of (pieces_from share left n ns) ≡ n ∷ ns
from-nodes share left n [] = refl
from-nodes share left n (m ∷ ns) = ap (n ∷◌) (from-nodes share (left - share) m ns)

pub pieces-nodes : (pages : ℕ) (ns : List ℕ) → nodes_of (split_pieces pages ns) ≡ ns
pieces-nodes pages [] = refl
pieces-nodes pages (n ∷ ns) = from-nodes _ pages n ns

-- their pages are the pool's
from-pages : (share left n : ℕ) (ns : List ℕ) → share * length ns ≤ left → pages_in (pieces_from share left n ns) ≡ left
from-pages share left n [] h = omega arith
from-pages share left n (m ∷ ns) h = omega (arith, from-pages share (left - share) m ns (omega arith))

pub pieces-pages : (pages : ℕ) (ns : List ℕ) → 0 < length ns → pages_in (split_pieces pages ns) ≡ pages
pieces-pages pages [] h = absurd (omega arith)
pieces-pages pages (n ∷ ns) h = from-pages _ pages n ns (omega (arith, div-mul-le_self pages (suc (length ns))))

-- where there are as many pages as nodes, each piece has a page
from_some : (share left n : ℕ) (ns : List ℕ) → 0 < share → share * length ns < left
    → All (λ (p : PoolPiece). 0 < p.pages) (pieces_from share left n ns)
from_some share left n [] s h = (omega arith, tt)
from_some share left n (m ∷ ns) s h = (s, from_some share (left - share) m ns s (omega arith))

pub pieces-some : (pages : ℕ) (ns : List ℕ) → 0 < length ns → length ns ≤ pages
    → All (λ (p : PoolPiece). 0 < p.pages) (split_pieces pages ns)
pieces-some pages [] h few = tt
pieces-some pages (n ∷ ns) h few =
    let k = suc (length ns) in
    let s : 1 ≤ pages / k = (le-div_iff_mul-le {k = k} (omega arith)).1 (omega arith) in
    from_some (pages / k) pages n ns (omega arith) (omega (arith, div-mul-le_self pages k))

-- no piece has more pages than the pool
from_within : (bound share left n : ℕ) (ns : List ℕ) → share ≤ bound → left ≤ bound
    → All (λ (p : PoolPiece). p.pages ≤ bound) (pieces_from share left n ns)
from_within bound share left n [] s h = (h, tt)
from_within bound share left n (m ∷ ns) s h = (s, from_within bound share (left - share) m ns s (omega arith))

pub pieces_within : (pages : ℕ) (ns : List ℕ) → All (λ (p : PoolPiece). p.pages ≤ pages) (split_pieces pages ns)
pieces_within pages [] = tt
pieces_within pages (n ∷ ns) = from_within pages _ pages n ns (div-le_self pages (suc (length ns))) (omega arith)
