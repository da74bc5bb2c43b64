-- `table::table_rows` meets its contract: the code's tables are the definition's lists, by computation.
use Rattle.std.proofs.Common.{ap, sym}
use Rattle.dma_hint.specs.Table.{release, debug, rows_of}
use Rattle.dma_hint.proofs.table.table_rows.Goals as goal

pub returns-in-Release : goal.returns-in-Release
unfolding release
returns-in-Release c = sym (ap rows_of c.in-Release.is)

pub returns-in-Debug : goal.returns-in-Debug
unfolding debug
returns-in-Debug c = sym (ap rows_of c.in-Debug.is)
