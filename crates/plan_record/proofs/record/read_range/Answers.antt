-- `record::read_range` meets its contract: the answer is none at the first field that stands for nothing.
use Rattle.plan_fields.specs.Laws.Number.{number-tab}
use Rattle.plan_record.proofs.record.Laws.{of_range, part_next, part_none, last_next, last_none}
use Rattle.plan_record.proofs.record.read_range.Goals as goal

pub returns-in_err-start : goal.returns-in_err-start
returns-in_err-start c = search (of_range, part_none, c.in_err-start.was)

pub returns-in_err-end : goal.returns-in_err-end
returns-in_err-end c = search (of_range, part_next, last_none, number-tab, c.in_ok-start.was, c.in_err-end.was)

pub returns : goal.returns
returns c = search (of_range, part_next, last_next, number-tab, c.in_ok-start.was, c.in_ok-end.was)
