-- Wrong answers of tables and lists as words, each refuted (docs/PROVED.md).
use Rattle.std.specs.Prelude.{ℕ, true, List, [], ◌∷◌, ◌≢◌, eqb, get_or}
use Rattle.std.proofs.Common.{ap, true≢false}
use Rattle.std.proofs.lemmas.Bool.{false≢true}
use Rattle.std.proofs.lemmas.List.Edits.{sets}
use Rattle.table_words.specs.List.{ram_rows, nodes_good}
use Rattle.table_words.specs.Table.{entry_good}

-- a node of 33 bits taken, of an entry
pub node_of-33_bits : entry_good (0x1000 ∷ 0x2000 ∷ 0x100000000 ∷ 0 ∷ []) ≢ true
node_of-33_bits e = false≢true e

-- a node of 33 bits taken, of the RAM
pub ram-node_of-33_bits : nodes_good (ram_rows (0x1000 ∷ 0x2000 ∷ 0x100000000 ∷ [])) ≢ true
ram-node_of-33_bits e = false≢true e

-- a word of another place: the third put in the place of the fourth too
pub third_as_fourth : sets {A = ℕ} (0 ∷ 0 ∷ 0 ∷ 0 ∷ []) 0 (1 ∷ 2 ∷ 3 ∷ 4 ∷ []) ≢ 1 ∷ 2 ∷ 3 ∷ 3 ∷ []
third_as_fourth e = true≢false (ap (λ (ws : List ℕ). eqb (get_or ws 3 0) 4) e)
