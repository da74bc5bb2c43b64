-- `record::read_line` meets its contract: the first part is the word, and a word without fields makes no record.
use Rattle.plan_record.proofs.record.Laws.{of_line}
use Rattle.plan_record.proofs.record.read_line.Goals as goal

pub returns : goal.returns
returns c = search of_line
