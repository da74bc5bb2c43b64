-- `list::nodes_good` meets its contract: the test of the chunks is that of the rows.
use Rattle.std.proofs.Common.{◌^◌, ltb, get_or, rules, tests, ◌≡◌, refl, ap, ◌∙◌, List, ℕ, [], ◌∷◌, ◌&&◌, arith}
use Rattle.std.specs.List.{list_all}
use Rattle.std.proofs.lemmas.Iterator.Search.{all_from_yields_List}
use Rattle.table_words.specs.List.{ram_rows, nodes_good}
use Rattle.table_words.specs.Laws.Chunks.{chunks-rows}
use Rattle.table_words.proofs.list.nodes_good.Goals as goal

all_nodes : (rs : List (List ℕ)) → list_all (λ r. ltb (get_or r 2 0) (2 ^ 32)) rs ≡ nodes_good rs
all_nodes [] = refl
all_nodes (r ∷ rs) = ap (λ b. ltb (get_or r 2 0) (2 ^ 32) && b) (all_nodes rs)

pub returns : goal.returns
returns c =
    let chunks = c.chunks_exact.ensures in
    let rows = chunks-rows 3 c.args.words.now (omega arith) chunks.rest chunks.size in
    all_from_yields_List (λ r. ltb (get_or r 2 0) (2 ^ 32)) _ _ _ c.all.ensures.ran rows (λ x b q k. search (rules, tests)) ∙ all_nodes (ram_rows c.args.words.now)
