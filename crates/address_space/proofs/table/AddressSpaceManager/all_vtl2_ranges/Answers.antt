-- The loop's invariant: the joined ranges are those stored so far, and behind them `current` put in front of the joined
-- ranges from `next` on.
use Prim.Native.Nat.{◌≤◌}
use mathlib.Core.Path.{◌≡◌, refl, ap, sym, ◌∙◌}
use mathlib.Core.List.{List, ◌++◌}
use native.Mathlib.Omega.{arith}
use lib.ListN.{length, take, get_or, length-take, length-set}
use Rattle.memory_range.specs.declared.range.TaggedRange.{TaggedRange}
use Rattle.address_space.specs.List.{continues_at, numbered_ranges, vtl2_ranges}
use Rattle.address_space.specs.Table.{no_entry}
use Rattle.address_space.specs.Usage.{type_number}
use Rattle.address_space.specs.Laws.List.{joined-first, joined, stored_whole}
use Rattle.address_space.proofs.table.AddressSpaceManager.all_vtl2_ranges.Goals.{then-continues_at, else-continues_at}
use Rattle.address_space.proofs.table.AddressSpaceManager.all_vtl2_ranges.Goals as goal

pub loop-next-init : goal.loop-next-init
loop-next-init c =
    let got = c.in-Some.ensures.item in
    (omega arith, got.3.0, refl, joined-first c.entries-entries.result.now 0 _ _ got.3.0 (got.3.1 no_entry) c.vtl2_range-current.ensures)

pub loop-next-preserved : goal.loop-next-preserved
loop-next-preserved c =
    let l = c.loop-next in
    let es = c.entries-entries.result.now in
    let m = c.args.self in
    let w : length m.address_space ≡ 256 = omega arith in
    let n : length es ≤ 256 = rw c.entries-entries.ensures (omega (arith, length-take m.count m.address_space)) in
    let e = get_or es l.next no_entry in
    let x = l.current in
    let type = type_number x.vtl_type in
    let below = c.loop-next-test.true in
    let test : c.continues_at.result ≡ continues_at x.range.end type e = c.continues_at.ensures in
    elim c.if-continues_at.branch [
      | then-continues_at w ↦ (
        rw w.found-is (omega arith),
        omega arith,
        rw w.list-is l.invariant.2,
        rw (w.list-is, w.current-is, w.found-is)
            (l.invariant.3
            ∙ ap (λ (r : List TaggedRange). numbered_ranges (take l.found l.list.ranges) ++ r)
            (joined es x.range.start x.range.end type l.next below (sym test ∙ w.if-continues_at.true))),
      )
      | else-continues_at w ↦ (
        rw w.found-is (omega arith),
        omega arith,
        rw (w.list-is, length-set) l.invariant.2,
        rw (w.list-is, w.current-is, w.found-is)
            (stored_whole
            l.list.ranges
            l.found
            x
            (omega arith)
            es
            l.next
            (vtl2_ranges es)
            w.vtl2_range-current-else-continues_at.result
            below
            l.invariant.3
            (sym test ∙ w.if-continues_at.false)
            w.vtl2_range-current-else-continues_at.ensures),
      )
    ]
