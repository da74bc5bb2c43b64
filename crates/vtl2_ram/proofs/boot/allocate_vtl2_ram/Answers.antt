-- Row 7 is the count of the nodes; where it passes they are 0, 1 and so on, so that the parts are asked for the same nodes.
use Rattle.std.proofs.Common.{◌≡◌, sym, ap, ◌∙◌, arith, Result}
use Rattle.std.proofs.Common.{ℕ, List}
use Rattle.std.proofs.lemmas.Result.{err_from_is_err_and}
use Rattle.memory_range.specs.List.{tags_of}
use Rattle.refusal.specs.declared.Refusal.{Refusal}
use Rattle.host_params.specs.declared.MemoryEntry.{MemoryEntry}
use Rattle.host_map.specs.Map.{entries_in}
use Rattle.boot_nodes.specs.declared.node.NumaNodes.{NumaNodes}
use Rattle.boot_nodes.specs.Node.{nodes_in, nodes_held, nodes_counted, held_counted}
use Rattle.boot_nodes.specs.Laws.Node.{nodes-counted, held-counted}
use Rattle.vtl2_ram.specs.Laws.Boot.{choice-nodes, choice-share, choice-parts}
use Rattle.vtl2_ram.proofs.boot.allocate_vtl2_ram.Goals as goal

-- the nodes of the map's entries are those that were counted
told : (map : List MemoryEntry) {held : NumaNodes} {r : Result ℕ Refusal} → held ≡ nodes_held (nodes_in map) → r ≡ held_counted held
    → nodes_counted (tags_of (entries_in map)) ≡ r
told map e h = sym (h ∙ ap held_counted e ∙ held-counted (tags_of (entries_in map)))

pub returns-in_err-count : goal.returns-in_err-count
returns-in_err-count c =
    let a = c.args in
    let n = told a.map.now c.numa_nodes.ensures c.in_err-count.ensures in
    let p = err_from_is_err_and c.from_residual.result c.from_residual.ensures.1 in
    rw (p.1, p.2, choice-nodes a.isolation a.ram_size a.file (entries_in a.map.now) a.imports.now n)

pub returns-in_err-share : goal.returns-in_err-share
returns-in_err-share c =
    let a = c.args in
    let n = told a.map.now c.numa_nodes.ensures c.in_ok-count.ensures in
    let p = err_from_is_err_and c.from_residual-in_err-share.result c.from_residual-in_err-share.ensures.1 in
    rw (p.1, p.2, choice-share a.isolation a.ram_size a.file (entries_in a.map.now) a.imports.now n (sym c.in_err-share.ensures))

pub overflow_cast-count : goal.overflow_cast-count
overflow_cast-count c =
    let n = told c.args.map.now c.numa_nodes.ensures c.in_ok-count.ensures in
    omega (arith, (nodes-counted (tags_of (entries_in c.args.map.now)) n).2)

pub returns : goal.returns
returns c =
    let a = c.args in
    let n = told a.map.now c.numa_nodes.ensures c.in_ok-count.ensures in
    rw (choice-parts a.isolation a.ram_size a.file (entries_in a.map.now) a.imports.now n (sym c.in_ok-share.ensures)) c.choose_ram.ensures
