-- Each way that a turn can end: a piece is taken, or the entry is of another node, and the next place is the last one below that
-- could be of the node. At the end nothing is needed any more.
use Rattle.std.proofs.Common.{◌≡◌, ◌∙◌, [], arith}
use Rattle.boot_ram.specs.Laws.Verdict.{held_choose, held-none}
use Rattle.boot_take.specs.Laws.Linked.{linked_lower, take_last}
use Rattle.boot_take.specs.Laws.TakeSteps.{take_below, take_none, take_other, take_next}
use Rattle.boot_take.proofs.take.take_on.Goals as goal

-- a piece was taken
pub loop-place-preserved-then-entry-node : goal.loop-place-preserved-then-entry-node
loop-place-preserved-then-entry-node c =
    let l = c.loop-place in
    let a = c.args in
    let link = linked_lower a.free.now a.lower.now a.node l.place c.requires.linked c.loop-place-test.true l.invariant.0 l.invariant.1 in
    let past = take_last a.node c.saturating_sub-need.result a.free.now _ _ link (omega arith) in
    let next = take_next a.node l.need a.free.now l.place c.loop-place-test.true (omega arith) c.if-need-ne0.true c.if-entry-node.true in
    let held = c.in_ok-hold.ensures in (
      omega (arith, link.within),
      link.own,
      l.invariant.2
          ∙ rw (← past, held.1, c.saturating_sub-need.ensures, c.len.ensures, c.taken_start.ensures) (held_choose [] l.chosen.items next held.0),
    )

-- the entry is of another node
pub loop-place-preserved : goal.loop-place-preserved
loop-place-preserved c =
    let l = c.loop-place in
    let a = c.args in
    let link = linked_lower a.free.now a.lower.now a.node l.place c.requires.linked c.loop-place-test.true l.invariant.0 l.invariant.1 in
    let past = take_last a.node l.need a.free.now _ _ link (omega arith) in
    let other = take_other a.node l.need a.free.now l.place c.loop-place-test.true (omega arith) c.if-entry-node.false in
    (omega (arith, link.within), link.own, l.invariant.2 ∙ rw (other ∙ past))

-- nothing is needed any more
pub returns : goal.returns
returns c =
    let l = c.loop-place in
    let z : l.need ≡ 0 = omega arith in
    l.invariant.2 ∙ held-none [] l.chosen.items {us = take_below c.args.node l.need c.args.free.now l.place} (rw z (take_none c.args.node _))
