-- `selection::check_ranges` meets its contract: a turn looks at the next row.
use Rattle.std.proofs.Common.{◌∙◌, arith}
use Rattle.std.specs.Slice.Iter.{chunks_exact_rest}
use Rattle.selection_calls.proofs.selection.Laws.{next-row, no-rows}
use Rattle.selection_calls.proofs.selection.check_ranges.Goals as goal

pub loop-row-preserved : goal.loop-row-preserved
loop-row-preserved c =
    let i = c.loop-row.invariant in
    let step = rw c.in-Some.is at c.next.ensures.steps in
    let size = step.1.1 ∙ i.0 in
    let next = next-row c.args.size c.in-Some.row.now (chunks_exact_rest c.next.new.self) (omega arith) size step.1.0 in
    (step.0 ∙ i.0, rw c.with-check.ensures (rw next at i.1))

pub returns : goal.returns
returns c =
    let i = c.loop-row.invariant in
    let step = rw c.in-None.is at c.next.ensures.steps in
    rw (no-rows c.args.size (chunks_exact_rest c.loop-row.row-iterator) (omega arith)) at i.1
