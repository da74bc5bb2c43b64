-- What a node takes along its links is what it takes of all free entries, and the next one goes on from there, or its
-- refusal is the answer.
use Rattle.std.proofs.Common.{◌∙◌, ap, []}
use Rattle.std.proofs.lemmas.Result.{err_from_is_err_and}
use Rattle.boot_ram.specs.Laws.Verdict.{so_far}
use Rattle.boot_take.specs.Laws.Linked.{take-highest}
use Rattle.boot_take.proofs.take.Laws.{taking_refused, taking_more, taking_done, told}
use Rattle.boot_take.proofs.take.take_ram.Goals as goal

pub returns-in_err-take_on : goal.returns-in_err-take_on
returns-in_err-take_on c =
    let l = c.loop-node in
    let took = take-highest l.node c.need_on-need.result c.as_slice-entries.result.now c.link_by_node.new.highest c.link_by_node.ensures.highest in
    let e = ap (so_far [] l.chosen.items) took ∙ c.in_err-take_on.ensures in
    let need = rw (c.deref.ensures.0, c.len-pieces.ensures.value) at c.need_on-need.ensures in
    let p = err_from_is_err_and c.from_residual.result c.from_residual.ensures.1 in
    rw (p.1, p.2, ← c.as_slice-entries.ensures.value) (told _ _ _ _ (taking_refused l.invariant c.loop-node-test.true need e))

pub loop-node-preserved : goal.loop-node-preserved
loop-node-preserved c =
    let l = c.loop-node in
    let took = take-highest l.node c.need_on-need.result c.as_slice-entries.result.now c.link_by_node.new.highest c.link_by_node.ensures.highest in
    let need = rw (c.deref.ensures.0, c.len-pieces.ensures.value) at c.need_on-need.ensures in
    taking_more l.invariant c.loop-node-test.true need (ap (so_far [] l.chosen.items) took ∙ c.in_ok-take_on.ensures)

pub returns : goal.returns
returns c = rw (← c.as_slice-entries.ensures.value) (told _ _ _ _ (taking_done c.loop-node.invariant c.loop-node-test.false))
