use mathlib.Core.Path.{sym, ◌∙◌}
use Rattle.address_space.specs.Table.{no_entry}
use Rattle.address_space.specs.Laws.List.{joined-first, joined, whole}
use Rattle.address_space.proofs.table.AddressSpaceManager.vtl2_ranges.Goals as goal

pub loop-next-init : goal.loop-next-init
loop-next-init c =
    let got = c.in_ok-get.ensures.lookup in
    joined-first c.entries-entries.result.now c.args.at _ _ got.3.0 (got.3.1 no_entry) c.vtl2_range-current.ensures

pub returns-then-not-continues_at : goal.returns-then-not-continues_at
returns-then-not-continues_at c =
    let l = c.loop-next in
    let x = l.current in
    rw (← c.entries-entries.ensures) (l.invariant ∙ whole c.entries-entries.result.now x.range.start x.range.end _ l.next c.loop-next-test.true (sym c.if-not-continues_at.ensures))

pub loop-next-preserved : goal.loop-next-preserved
loop-next-preserved c =
    let l = c.loop-next in
    let x = l.current in
    l.invariant ∙ joined c.entries-entries.result.now x.range.start x.range.end _ l.next c.loop-next-test.true (sym c.if-not-continues_at.ensures)
