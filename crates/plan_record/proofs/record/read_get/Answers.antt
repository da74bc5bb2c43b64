-- `record::read_get` meets its contract: the answer is none at the first field that stands for nothing.
use Rattle.plan_record.proofs.value.Laws.{answered, refused}
use Rattle.plan_record.proofs.record.Laws.{of_get, get_front, part_next, part_none, word_next, word_none, last_next, last_none, empty-first, empty_last, optional-tab}
use Rattle.plan_record.proofs.record.read_get.Goals as goal

pub returns-in_err-node : goal.returns-in_err-node
returns-in_err-node c = search (of_get, part_none, c.in_err-node.was)

pub returns-in_err-required_vnode : goal.returns-in_err-required_vnode
returns-in_err-required_vnode c = search (of_get, part_next, refused, c.in_ok-node.was, c.in_err-required_vnode.was)

pub returns-in_err-len : goal.returns-in_err-len
returns-in_err-len c = search (of_get, part_next, answered, part_none, c.in_ok-node.was, c.in_ok-required_vnode.was, c.in_err-len.was)

pub returns-in_err-allocation_policy : goal.returns-in_err-allocation_policy
returns-in_err-allocation_policy c = search (of_get, part_next, answered, word_none, c.in_ok-node.was, c.in_ok-required_vnode.was, c.in_ok-len.was, c.in_err-allocation_policy.was) depth 7 fits 3000

pub returns-in_err-allocation_type : goal.returns-in_err-allocation_type
returns-in_err-allocation_type c = search (of_get, part_next, answered, word_next, word_none, empty-first, c.in_ok-node.was, c.in_ok-required_vnode.was, c.in_ok-len.was, c.in_ok-allocation_policy.was, c.in_err-allocation_type.was) depth 7 fits 3000

pub returns-in_err-alignment : goal.returns-in_err-alignment
returns-in_err-alignment c = search (get_front, word_next, empty-first, empty_last, last_none, optional-tab, c.in_ok-node.was, c.in_ok-required_vnode.was, c.in_ok-len.was, c.in_ok-allocation_policy.was, c.in_ok-allocation_type.was, c.in_err-alignment.was) depth 7 fits 3000

pub returns : goal.returns
returns c = search (get_front, word_next, empty-first, empty_last, last_next, optional-tab, c.in_ok-node.was, c.in_ok-required_vnode.was, c.in_ok-len.was, c.in_ok-allocation_policy.was, c.in_ok-allocation_type.was, c.in_ok-alignment.was) depth 7 fits 3000
