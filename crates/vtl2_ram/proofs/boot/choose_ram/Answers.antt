-- Each part passes its refusal on; what all of them choose is sorted where it stands.
use Rattle.std.proofs.Common.{sym, ap, ◌∙◌, length}
use Rattle.std.proofs.lemmas.Result.{err_from_is_err_and}
use Rattle.range_lists.specs.Sort.{sort_by_start}
use Rattle.range_lists.specs.Laws.Sort.{sort-length}
use Rattle.host_map.specs.Map.{entries_in}
use Rattle.boot_nodes.specs.Node.{count_up}
use Rattle.vtl2_ram.specs.Laws.Parts.{choice-ordered}
use Rattle.vtl2_ram.proofs.boot.Laws.{file_refused, crossing, imports_refused, taking_refused, parts-chosen, refilled}
use Rattle.vtl2_ram.proofs.boot.choose_ram.Goals as goal

pub returns-in_err-walk_file : goal.returns-in_err-walk_file
returns-in_err-walk_file c =
    let a = c.args in
    let p = err_from_is_err_and c.from_residual.result c.from_residual.ensures.1 in
    rw (p.1, p.2, file_refused a.isolation a.file (entries_in a.map.now) a.imports.now a.share (count_up 0 a.numa_node_count) c.in_err-walk_file.ensures.0)

pub returns-then-not-imports_clear : goal.returns-then-not-imports_clear
returns-then-not-imports_clear c =
    let a = c.args in
    let crosses = sym c.imports_clear.ensures ∙ c.if-not-imports_clear.true in
    rw (crossing a.isolation a.file (entries_in a.map.now) a.imports.now a.share (count_up 0 a.numa_node_count) c.in_ok-walk_file.ensures crosses)

pub returns-in_err-walk_imports : goal.returns-in_err-walk_imports
returns-in_err-walk_imports c =
    let a = c.args in
    let clear = sym c.imports_clear.ensures ∙ c.if-not-imports_clear.false in
    let i = rw c.as_slice.ensures.value at c.in_err-walk_imports.ensures in
    let p = err_from_is_err_and c.from_residual-in_err-walk_imports.result c.from_residual-in_err-walk_imports.ensures.1 in
    rw (p.1, p.2, imports_refused a.isolation a.file (entries_in a.map.now) a.imports.now a.share (count_up 0 a.numa_node_count) c.in_ok-walk_file.ensures clear i.0)

pub returns-in_err-take_ram : goal.returns-in_err-take_ram
returns-in_err-take_ram c =
    let a = c.args in
    let clear = sym c.imports_clear.ensures ∙ c.if-not-imports_clear.false in
    let i = rw c.as_slice.ensures.value at c.in_ok-walk_imports.ensures in
    let p = err_from_is_err_and c.from_residual-in_err-take_ram.result c.from_residual-in_err-take_ram.ensures.1 in
    rw (
      p.1,
      p.2,
      taking_refused a.isolation a.file (entries_in a.map.now) a.imports.now a.share (count_up 0 a.numa_node_count) c.in_ok-walk_file.ensures clear i
          c.in_err-take_ram.ensures.0,
    )

pub chosen_ram-requires : goal.chosen_ram-requires
chosen_ram-requires c =
    let a = c.args in
    let clear = sym c.imports_clear.ensures ∙ c.if-not-imports_clear.false in
    let i = rw c.as_slice.ensures.value at c.in_ok-walk_imports.ensures in
    let t = c.in_ok-take_ram.ensures in
    let e = parts-chosen a.isolation a.file (entries_in a.map.now) a.imports.now a.share (count_up 0 a.numa_node_count) c.in_ok-walk_file.ensures clear i t.0 t.1 in
    let s = c.sort_by_start.ensures ∙ ap sort_by_start c.as_mut_slice.ensures.value in
    let all = c.take_ram.new.chosen.items in
    let ordered = rw e at (choice-ordered a.isolation a.file (entries_in a.map.now) a.imports.now a.share a.numa_node_count c.requires) in
    rw (refilled all c.sort_by_start.new.ranges (ap length s ∙ sort-length all), s) ordered

pub returns : goal.returns
returns c =
    let a = c.args in
    let clear = sym c.imports_clear.ensures ∙ c.if-not-imports_clear.false in
    let i = rw c.as_slice.ensures.value at c.in_ok-walk_imports.ensures in
    let t = c.in_ok-take_ram.ensures in
    let e = parts-chosen a.isolation a.file (entries_in a.map.now) a.imports.now a.share (count_up 0 a.numa_node_count) c.in_ok-walk_file.ensures clear i t.0 t.1 in
    let s = c.sort_by_start.ensures ∙ ap sort_by_start c.as_mut_slice.ensures.value in
    let all = c.take_ram.new.chosen.items in
    rw (e, c.chosen_ram.ensures, refilled all c.sort_by_start.new.ranges (ap length s ∙ sort-length all), s)
