-- `record::read_pool` meets its contract: the answer is none at the first field that stands for nothing.
use Rattle.plan_record.proofs.value.Laws.{answered, refused}
use Rattle.plan_record.proofs.record.Laws.{of-pool, pool_front, cut-next, part_next, part_none, last_next, last_none, empty-first, empty-after, split-tab}
use Rattle.plan_record.proofs.record.read_pool.Goals as goal

pub returns-in_err-config : goal.returns-in_err-config
returns-in_err-config c = search (of-pool, cut-next, empty-first, empty-after, refused, c.in_err-config.was) depth 7 fits 3000

pub returns-in_err-host_pages : goal.returns-in_err-host_pages
returns-in_err-host_pages c = search (of-pool, cut-next, empty-first, empty-after, answered, part_none, c.in_ok-config.was, c.in_err-host_pages.was) depth 7 fits 3000

pub returns-in_err-processors : goal.returns-in_err-processors
returns-in_err-processors c = search (of-pool, cut-next, empty-first, empty-after, answered, part_next, part_none, c.in_ok-config.was, c.in_ok-host_pages.was, c.in_err-processors.was) depth 7 fits 3000

pub returns-in_err-split : goal.returns-in_err-split
returns-in_err-split c = search (pool_front, part_next, last_none, split-tab, c.in_ok-config.was, c.in_ok-host_pages.was, c.in_ok-processors.was, c.in_err-split.was) depth 7 fits 3000

pub returns : goal.returns
returns c = search (pool_front, part_next, last_next, split-tab, c.in_ok-config.was, c.in_ok-host_pages.was, c.in_ok-processors.was, c.in_ok-split.was) depth 7 fits 3000
