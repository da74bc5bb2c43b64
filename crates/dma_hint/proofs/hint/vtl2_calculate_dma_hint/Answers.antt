-- `hint::vtl2_calculate_dma_hint` meets its contract: both tables ascend, and each row's hint is given.
use Rattle.dma_hint.specs.Laws.Table.{table-ascends, table_hints}
use Rattle.dma_hint.proofs.hint.vtl2_calculate_dma_hint.Goals as goal

pub table_pages-requires-clause-ascending : goal.table_pages-requires-clause-ascending
table_pages-requires-clause-ascending c = rw c.table_rows.ensures (table-ascends c.args.table)

pub table_pages-requires-clause-hints : goal.table_pages-requires-clause-hints
table_pages-requires-clause-hints c = rw c.table_rows.ensures (table_hints c.args.table)
