-- Laws of lists as words: the row at an index by its words; where each node has 32 bits, the ranges are those that the words stand
-- for; and what an array holds that a list is stored in.
use Rattle.std.specs.Prelude.{ℕ, ◌+◌, ◌*◌, ◌%◌, ◌<◌, ◌≤◌, ◌^◌, ◌≡◌, refl, true, ◌&&◌, List, [], ◌∷◌, map, ltb, length, take, drop, get_or}
use Rattle.std.proofs.Common.{◌∙◌, mod-eq_of_lt, arith, ltb-true, get_or-take, get_or-drop}
use Rattle.std.proofs.Math.Bool.{and-eq-true_iff}
use Rattle.std.proofs.Math.Seq.{take-append_seam}
use Rattle.std.proofs.lemmas.List.{length-map}
use Rattle.std.proofs.lemmas.List.Edits.{sets, sets-eq}
use Rattle.memory_range.specs.List.{ranges_of, tagged_of}
use Rattle.table_words.specs.List.{range_in, ram_in, ram_low, nodes_good, column, node_column}
use Rattle.table_words.specs.Rows.{rows}
use Rattle.table_words.specs.Laws.Rows.{next_row}

-- a word of the row at an index
pub row_word : (width i j : ℕ) (ws : List ℕ) → j < width → get_or (take width (drop (width * i) ws)) j 0 ≡ get_or ws (width * i + j) 0
row_word width i j ws h = get_or-take width (drop (width * i) ws) j 0 h ∙ get_or-drop (width * i) ws j 0

-- the node of each row from an index on
pub next-node : (k i : ℕ) (ws : List ℕ) → i < k
    → nodes_good (drop i (rows 3 k ws)) ≡ (ltb (get_or ws (3 * i + 2) 0) (2 ^ 32) && nodes_good (drop (i + 1) (rows 3 k ws)))
next-node k i ws h = rw (next_row 3 k ws i h, row_word 3 i 2 ws (omega arith))

-- where each is a node, the ranges with the lowest 32 bits are those of the words
pub good-ram : (rs : List (List ℕ)) → nodes_good rs ≡ true → map ram_low rs ≡ map ram_in rs
good-ram [] h = refl
good-ram (r ∷ rs) h =
    let g = (and-eq-true_iff (ltb (get_or r 2 0) (2 ^ 32)) (nodes_good rs)).0 h in
    rw (mod-eq_of_lt (ltb-true (get_or r 2 0) (2 ^ 32) g.0), good-ram rs g.1)

-- the first places of an array hold what is stored in it
pub stored : {A : Type 0} (l vs : List A) (n : ℕ) → length vs ≡ n → n ≤ length l → take n (sets l 0 vs) ≡ vs
stored l vs n e h = rw (sets-eq vs l 0 (omega arith), ← e) (take-append_seam vs _)

-- lists of numbers beside each other, as callers may hold them: a word of each row from an index on, and the nodes from there on
pub next-column : (width k i j at : ℕ) (ws : List ℕ) → i < k → j < width → at ≡ width * i + j
    → column j (drop i (rows width k ws)) ≡ get_or ws at 0 ∷ column j (drop (i + 1) (rows width k ws))
next-column width k i j at ws h g e = rw (next_row width k ws i h, row_word width i j ws g, e)

pub next-node-column : (k i : ℕ) (ws : List ℕ) → i < k
    → node_column (drop i (rows 3 k ws)) ≡ get_or ws (3 * i + 2) 0 % 2 ^ 32 ∷ node_column (drop (i + 1) (rows 3 k ws))
next-node-column k i ws h = rw (next_row 3 k ws i h, row_word 3 i 2 ws (omega arith))

pub length-column : (j : ℕ) (rs : List (List ℕ)) → length (column j rs) ≡ length rs
length-column j rs = length-map rs _

-- words that are nodes are their own lowest 32 bits
pub good-nodes : (rs : List (List ℕ)) → nodes_good rs ≡ true → node_column rs ≡ column 2 rs
good-nodes [] h = refl
good-nodes (r ∷ rs) h =
    let g = (and-eq-true_iff (ltb (get_or r 2 0) (2 ^ 32)) (nodes_good rs)).0 h in
    rw (mod-eq_of_lt (ltb-true (get_or r 2 0) (2 ^ 32) g.0), good-nodes rs g.1)

-- the columns are those of the ranges
pub columns-ranges : (rs : List (List ℕ)) → ranges_of (column 0 rs) (column 1 rs) ≡ map range_in rs
columns-ranges [] = refl
columns-ranges (r ∷ rs) = rw (columns-ranges rs)

pub columns-ram : (rs : List (List ℕ)) → tagged_of (column 0 rs) (column 1 rs) (column 2 rs) ≡ map ram_in rs
columns-ram [] = refl
columns-ram (r ∷ rs) = rw (columns-ram rs)
