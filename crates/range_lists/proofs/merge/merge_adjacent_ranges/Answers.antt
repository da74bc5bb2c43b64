use Rattle.std.proofs.Common.{◌+◌, List, arith, ◌∙◌, get_or, drop}
use Rattle.std.proofs.lemmas.List.{at_drop_more}
use Rattle.memory_range.specs.declared.range.TaggedRange.{TaggedRange}
use Rattle.memory_range.specs.Range.{range}
use Rattle.range_lists.specs.Merge.{merge_first, merge_adjacent}
use Rattle.range_lists.proofs.merge.Laws.{joined}
use Rattle.range_lists.proofs.merge.merge_adjacent_ranges.Goals as goal

pub loop-next-preserved : goal.loop-next-preserved
loop-next-preserved c =
    let l = c.loop-next in
    let xs = c.args.ranges.now in
    let blank : TaggedRange = record { range = range 0 0; tag = 0 } in
    l.invariant
    ∙ at_drop_more (λ (ys : List TaggedRange). merge_first l.joined (merge_adjacent ys)) xs l.next blank (omega arith)
    ∙ joined l.joined (get_or xs l.next blank) (drop (l.next + 1) xs) c.if-joined-range.false c.if-joined-range-2.false
