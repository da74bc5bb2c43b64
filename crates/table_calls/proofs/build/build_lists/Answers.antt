-- `build::build_lists` meets its contract: the parts of the arrays that are lent hold the lists.
use Rattle.table_calls.specs.Laws.Build.{ranges-stored, ram-stored}
use Rattle.table_calls.proofs.build.build_lists.Goals as goal

pub returns : goal.returns
returns c =
    let a = c.args in
    let q = c.requires in
    rw (
      ram-stored a.ram.now _ c.read_ram.ensures q.ram_few q.nodes,
      ranges-stored a.configs.now _ c.read_ranges.ensures q.configs_few,
      ranges-stored a.pools.now _ c.read_ranges-2.ensures q.pools_few,
    ) at c.init.ensures
