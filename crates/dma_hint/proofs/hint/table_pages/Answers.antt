-- `hint::table_pages` meets its contract: what the search found is what the lookup finds, and the rows between the
-- places that it found have their hints given, as the table has.
use Rattle.std.proofs.Common.{arith, ◌-◌, drop}
use Rattle.dma_hint.specs.Lookup.{part}
use Rattle.dma_hint.specs.Laws.Table.{every_take, every_drop}
use Rattle.dma_hint.specs.Laws.Ratio.{largest_least}
use Rattle.dma_hint.proofs.hint.table_pages.Goals as goal

pub collect_ratios-requires : goal.collect_ratios-requires
collect_ratios-requires c =
    let first = c.in-Nearest.first in
    let end = c.in-Nearest.end in
    let rows = c.args.rows.now in
    every_take _ (end - first) (drop first rows) (every_drop _ first rows c.requires.hints)

pub extrapolate-requires-clause-mean_given : goal.extrapolate-requires-clause-mean_given
extrapolate-requires-clause-mean_given c =
    omega (arith, largest_least (part c.in-Nearest.first c.in-Nearest.end c.args.rows.now))
