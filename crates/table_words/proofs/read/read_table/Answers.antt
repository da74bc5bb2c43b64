-- `read::read_table` meets its contract: words whose length, count and flag are a table's stand for one where their entries are good.
use Rattle.std.proofs.Common.{sym, ◌∙◌}
use Rattle.table_words.specs.Table.{table_of}
use Rattle.table_words.proofs.read.read_table.Goals as goal

pub returns-then-not-head_good : goal.returns-then-not-head_good
unfolding table_of
returns-then-not-head_good c = rw (sym c.head_good.ensures ∙ c.if-not-head_good.true)

pub returns : goal.returns
unfolding table_of
returns c = rw (sym c.head_good.ensures ∙ c.if-not-head_good.false) c.read_entries.ensures
