-- `write::write_map_lines` meets its contract: its iterator gives the lines of the joined ranges.
use Rattle.std.proofs.Common.{rules, subst, ap, take, ◌∙◌}
use Rattle.std.proofs.lemmas.Iterator.{YieldsList-from_slice, YieldsList-from_map}
use Rattle.std.proofs.lemmas.Iterator.Consumers.{YieldsList-at}
use Rattle.plan.specs.declared.line.OutputLine.TheVariants.{Map}
use Rattle.plan.specs.Line.{Wrote}
use Rattle.plan.specs.Write.{typed_lines}
use Rattle.plan.proofs.write.Laws.{room_for, drained, map_handed}
use Rattle.plan.proofs.write.write_map_lines.Goals as goal

pub put_lines-requires-clause-room : goal.put_lines-requires-clause-room
put_lines-requires-clause-room c =
    let r = c.all_vtl2_ranges-list in
    let same = map_handed (take r.result.count r.result.ranges) ∙ ap typed_lines r.ensures.0 in
    room_for c.args.at c.args.output.now (rw same c.requires)
    (YieldsList-from_map _ (λ x. Map x.range x.vtl_type) (YieldsList-at c.map-lines.ensures.source (YieldsList-from_slice (take r.result.count r.result.ranges) cc)) c.map-lines.ensures.closure (λ x r q k. search rules))

pub returns : goal.returns
returns c =
    let a = c.args in
    let r = c.all_vtl2_ranges-list in
    let same = map_handed (take r.result.count r.result.ranges) ∙ ap typed_lines r.ensures.0 in
    let put = c.put_lines.ensures in
    let given = drained put.0 put.1
    (YieldsList-from_map _ (λ x. Map x.range x.vtl_type) (YieldsList-at c.map-lines.ensures.source (YieldsList-from_slice (take r.result.count r.result.ranges) cc)) c.map-lines.ensures.closure (λ x r q k. search rules)) in
    subst (λ ls. Wrote ls a.at a.output.now c.put_lines.new.output c.put_lines.result) (given ∙ same) put.2
