-- Rows that pass show that the table is empty.
use mathlib.Core.Path.{ap, sym, ◌∙◌}
use lib.ListN.{length}
use Rattle.memory_range.specs.List.{ranges_in}
use Rattle.address_space.specs.Table.{entries_of}
use Rattle.refusal.specs.Laws.Answer.{rows_refused, rows_none}
use Rattle.memory.specs.Build.{has_pool, init_as}
use Rattle.memory.specs.Rows.{rows_refusal}
use Rattle.memory.specs.Laws.Build.{build-refused, build-passed, rows_empty}
use Rattle.memory.proofs.builder.AddressSpaceManagerBuilder.init.Goals as goal

pub build_table-requires : goal.build_table-requires
build_table-requires c =
    let a = c.args in
    let entries = length (entries_of a.manager) in
    let row = rows_refusal a.self entries (ranges_in a.ram.now) a.configs.now a.pools.now in
    rows_empty a.self a.ram.now a.configs.now a.pools.now entries (rows_none row (sym (rw c.len.ensures at c.in-Ok.ensures)))

pub returns-in-Err : goal.returns-in-Err
returns-in-Err c =
    let a = c.args in
    let entries = length (entries_of a.manager) in
    let row = rows_refusal a.self entries (ranges_in a.ram.now) a.configs.now a.pools.now in
    let e = rows_refused row (sym (rw c.len.ensures at c.in-Err.ensures)) in
    c.refused.ensures ∙ sym (ap (init_as a.manager (has_pool a.pools.now)) (build-refused a.self a.ram.now a.configs.now a.pools.now entries e))

pub returns-in-Ok : goal.returns-in-Ok
returns-in-Ok c =
    let a = c.args in
    let entries = length (entries_of a.manager) in
    let row = rows_refusal a.self entries (ranges_in a.ram.now) a.configs.now a.pools.now in
    let e = rows_none row (sym (rw c.len.ensures at c.in-Ok.ensures)) in
    c.build_table.ensures ∙ sym (ap (init_as a.manager (has_pool a.pools.now)) (build-passed a.self a.ram.now a.configs.now a.pools.now entries e))
