use Prim.Native.Nat.{ℕ}
use mathlib.Core.Path.{ap, sym, ◌∙◌}
use mathlib.Core.List.{List}
use native.Mathlib.Omega.{arith}
use lib.ListN.{replicate}
use lib.Seq.{length-take-le}
use Rattle.address_space.specs.Table.{entries_of}
use Rattle.private_pool.specs.Piece.{table_nodes}
use Rattle.private_pool.specs.Pool.{max_pool_ranges, pool_as}
use Rattle.private_pool.specs.Laws.Pool.{split-none, split_few, split_good}
use Rattle.private_pool.proofs.nodes.Laws.{nodes-taken, nodes_size}
use Rattle.private_pool.proofs.split.split_pool.Goals.{then-count-eq0-via-then-count-eq0, then-count-eq0-via-else-count-eq0+then-pages-count}
use Rattle.private_pool.proofs.split.split_pool.Goals as goal

-- the array before any node is stored
abbrev no_nodes : List ℕ
no_nodes = replicate max_pool_ranges 0

pub returns-then-count-eq0 : goal.returns-then-count-eq0
returns-then-count-eq0 c =
    let a = c.args in
    let t = c.table_nodes-count in
    elim c.then-count-eq0.branch [
      | then-count-eq0-via-then-count-eq0 w ↦
          c.refused.ensures
          ∙ sym (ap (pool_as a.manager) (split-none a.pages (entries_of a.manager) (sym t.ensures.0 ∙ w.if-count-eq0.true)))
      | then-count-eq0-via-else-count-eq0+then-pages-count w ↦
          c.refused.ensures
          ∙ sym (ap (pool_as a.manager) (split_few a.pages (entries_of a.manager) (rw t.ensures.0 at w.if-pages-count.true)))
    ]

pub place_pieces-requires : goal.place_pieces-requires
place_pieces-requires c =
    let t = c.table_nodes-count in
    let some = c.if-count-eq0.false in
    let size = nodes_size (table_nodes (entries_of c.args.manager)) no_nodes t.ensures.0 t.ensures.2 t.ensures.1 in
    let n = length-take-le t.result t.new.numa_nodes (omega (arith, size, t.ensures.1)) in
    record { some = omega (arith, n); room = omega (arith, n, t.ensures.1); fits = c.requires }

pub returns : goal.returns
returns c =
    let a = c.args in
    let es = entries_of a.manager in
    let t = c.table_nodes-count in
    let n = t.ensures.0 in
    let good = split_good a.pages es (λ h. c.if-count-eq0.false (n ∙ h)) (rw n at c.if-pages-count.false) in
    c.place_pieces.ensures ∙ rw (good, nodes-taken (table_nodes es) no_nodes n t.ensures.2)
