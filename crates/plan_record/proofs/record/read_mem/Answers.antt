-- `record::read_mem` meets its contract: the answer is none at the first field that stands for nothing.
use Rattle.plan_record.proofs.value.Laws.{answered, refused}
use Rattle.plan_record.proofs.record.Laws.{of_mem, part_next, part_none, last_next, last_none, entry_type-tab}
use Rattle.plan_record.proofs.record.read_mem.Goals as goal

pub returns-in_err-start : goal.returns-in_err-start
returns-in_err-start c = search (of_mem, part_none, c.in_err-start.was)

pub returns-in_err-end : goal.returns-in_err-end
returns-in_err-end c = search (of_mem, part_next, part_none, c.in_ok-start.was, c.in_err-end.was)

pub returns-in_err-node : goal.returns-in_err-node
returns-in_err-node c = search (of_mem, part_next, part_none, c.in_ok-start.was, c.in_ok-end.was, c.in_err-node.was) depth 7 fits 3000

pub returns-in_err-vnode : goal.returns-in_err-vnode
returns-in_err-vnode c = search (of_mem, part_next, refused, c.in_ok-start.was, c.in_ok-end.was, c.in_ok-node.was, c.in_err-vnode.was) depth 7 fits 3000

pub returns-in_err-mem_type : goal.returns-in_err-mem_type
returns-in_err-mem_type c = search (of_mem, part_next, answered, last_none, entry_type-tab, c.in_ok-start.was, c.in_ok-end.was, c.in_ok-node.was, c.in_ok-vnode.was, c.in_err-mem_type.was) depth 7 fits 3000

pub returns : goal.returns
returns c = search (of_mem, part_next, answered, last_next, entry_type-tab, c.in_ok-start.was, c.in_ok-end.was, c.in_ok-node.was, c.in_ok-vnode.was, c.in_ok-mem_type.was) depth 7 fits 3000
