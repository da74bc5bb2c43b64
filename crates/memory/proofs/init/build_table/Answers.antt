-- Rows that pass give what the listing asks of what is given.
use native.Mathlib.Omega.{arith}
use Rattle.memory_range.specs.List.{ranges_in}
use Rattle.range_lists.specs.Laws.Entries.{length-ranges_in}
use Rattle.memory.specs.Laws.Rows.{rows-passed}
use Rattle.memory.proofs.init.build_table.Goals as goal

pub list_used-requires : goal.list_used-requires
list_used-requires c =
    let a = c.args in
    let p = rows-passed a.builder 0 (ranges_in a.ram.now) a.configs.now a.pools.now c.requires in
    record { singles_valid = p.0; configs_valid = p.2; pools_valid = p.3; reserved_fit = p.7 }

pub fill_table-requires-clause-ram_fits : goal.fill_table-requires-clause-ram_fits
fill_table-requires-clause-ram_fits c =
    let a = c.args in
    let p = rows-passed a.builder 0 (ranges_in a.ram.now) a.configs.now a.pools.now c.requires in
    omega (arith, length-ranges_in a.ram.now, p.5)
