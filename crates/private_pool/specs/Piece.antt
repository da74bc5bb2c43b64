-- The pieces of a split pool (docs/SPEC.md, section 26; document 01, Port order 6).
use Rattle.std.specs.Prelude.{ℕ, suc, ◌-◌, ◌/◌, List, [], ◌∷◌, map, length}
use Rattle.address_space.specs.declared.table.AddressRange.{AddressRange}
use Rattle.boot_nodes.specs.Node.{distinct}

-- the nodes of entries
abbrev pub vnodes_of : List AddressRange → List ℕ
vnodes_of = map (λ e. e.vnode)

-- the nodes of a table: each once, ascending
abbrev pub table_nodes : List AddressRange → List ℕ
table_nodes es = distinct (vnodes_of es)

-- a piece: so many pages on a node
pub record PoolPiece : Type 0 where
  pub node : ℕ
  pub pages : ℕ

abbrev pub piece : ℕ → ℕ → PoolPiece
piece n pages = record { node = n; pages = pages }

-- a piece for the node n and one for each node behind it: so many pages each, and the last one all that are left
abbrev pub pieces_from : ℕ → ℕ → ℕ → List ℕ → List PoolPiece
pieces_from share left n [] = piece n left ∷ []
pieces_from share left n (m ∷ ns) = piece n share ∷ pieces_from share (left - share) m ns

-- the pages over the nodes: each gives the whole quotient, the last one the rest
abbrev pub split_pieces : ℕ → List ℕ → List PoolPiece
split_pieces pages [] = []
split_pieces pages (n ∷ ns) = pieces_from (pages / suc (length ns)) pages n ns
