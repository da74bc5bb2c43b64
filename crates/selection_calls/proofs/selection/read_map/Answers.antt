-- A turn stores the next row's entry.
use Rattle.std.proofs.Common.{◌∙◌, arith, add-one}
use Rattle.std.specs.Iterator.Adapters.{enumerate_source}
use Rattle.std.specs.Slice.Iter.{chunks_exact_rest}
use Rattle.selection_calls.proofs.selection.Laws.{row-stands, row-entry, no-entries}
use Rattle.selection_calls.proofs.selection.read_map.Goals as goal

pub loop-at-preserved : goal.loop-at-preserved
loop-at-preserved c =
    let step = rw c.in-Some.is at c.next.ensures.steps in
    let row = c.in-Some.row.now in
    let rest = chunks_exact_rest (enumerate_source c.next.new.self) in
    let size = step.0.1.1 ∙ c.loop-at.invariant.0 in
    let stands = row-stands row rest size step.0.1.0 c.loop-at.invariant.1 in
    let i = rw (row-entry row rest size step.0.1.0) at c.loop-at.invariant.2 in
    rw (step.2, c.put.ensures, c.entry_of.ensures, step.1) (step.0.0 ∙ c.loop-at.invariant.0, stands.1, rw add-one i)

pub returns : goal.returns
returns c =
    let step = rw c.in-None.is at c.next.ensures.steps in
    let none = no-entries (chunks_exact_rest (enumerate_source c.loop-at.at-iterator)) (omega arith) in
    rw none at c.loop-at.invariant.2
