-- `record::read_shape` meets its contract: the answer is none at the first field that stands for nothing.
use Rattle.plan_record.proofs.record.Laws.{of_shape, word_next, word_none, last_next, last_none, empty-first, empty_last, optional-tab}
use Rattle.plan_record.proofs.record.read_shape.Goals as goal

pub returns-in_err-mode : goal.returns-in_err-mode
returns-in_err-mode c = search (of_shape, word_none, c.in_err-mode.was)

pub returns-in_err-isolation : goal.returns-in_err-isolation
returns-in_err-isolation c = search (of_shape, word_next, word_none, empty-first, c.in_ok-mode.was, c.in_err-isolation.was)

pub returns-in_err-memory_size : goal.returns-in_err-memory_size
returns-in_err-memory_size c = search (of_shape, word_next, empty-first, empty_last, last_none, optional-tab, c.in_ok-mode.was, c.in_ok-isolation.was, c.in_err-memory_size.was) depth 7 fits 3000

pub returns : goal.returns
returns c = search (of_shape, word_next, empty-first, empty_last, last_next, optional-tab, c.in_ok-mode.was, c.in_ok-isolation.was, c.in_ok-memory_size.was) depth 7 fits 3000
