-- `list::read_ranges` meets its contract: a turn stores the next row's range.
use Rattle.std.proofs.Common.{refl, ◌∙◌, arith, add-one}
use Rattle.table_words.specs.Laws.Chunks.{next-row, no-rows}
use Rattle.table_words.proofs.list.read_ranges.Goals as goal

pub loop-i-init : goal.loop-i-init
loop-i-init c =
    let chunks = c.chunks_exact.ensures in
    let items = c.enumerate-i-items.ensures in
    rw (c.into_iter-i-iterator.ensures.into_iter_gives, items.source, items.count, chunks.size, chunks.rest)
    (record { width = refl; left = refl })

pub loop-i-preserved : goal.loop-i-preserved
loop-i-preserved c =
    let l = c.loop-i in
    let step = c.in-Some.ensures.steps in
    let next = next-row l.i-iterator.iter c.next.new.self.iter (omega arith) c.in-Some.row step.0 in
    rw (step.2, c.put.ensures, c.range_in.ensures, step.1, add-one)
    (record { width = step.0.0 ∙ l.invariant.width; left = rw next at l.invariant.left })

pub returns : goal.returns
returns c =
    let l = c.loop-i in
    let none = no-rows l.i-iterator.iter c.next.new.self.iter (omega arith) c.in-None.ensures.steps.0 in
    rw none at l.invariant.left
