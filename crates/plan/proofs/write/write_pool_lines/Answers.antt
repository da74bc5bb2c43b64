-- `write::write_pool_lines` meets its contract: its iterator gives the lines of the pool.
use Rattle.std.proofs.Common.{rules, subst}
use Rattle.std.proofs.lemmas.Iterator.{YieldsList-from_slice, YieldsList-from_map}
use Rattle.std.proofs.lemmas.Iterator.Consumers.{YieldsList-at}
use Rattle.plan.specs.declared.line.OutputLine.TheVariants.{Pool}
use Rattle.plan.specs.Line.{Wrote}
use Rattle.plan.proofs.write.Laws.{room_for, drained}
use Rattle.plan.proofs.write.write_pool_lines.Goals as goal

pub put_lines-requires-clause-room : goal.put_lines-requires-clause-room
put_lines-requires-clause-room c =
    room_for c.args.at c.args.output.now c.requires
    (YieldsList-from_map _ (λ x. Pool x.range x.vnode) (YieldsList-at c.map-lines.ensures.source (YieldsList-from_slice c.args.ranges.now cc)) c.map-lines.ensures.closure (λ x r q k. search rules))

pub returns : goal.returns
returns c =
    let a = c.args in
    let put = c.put_lines.ensures in
    let given = drained put.0 put.1
    (YieldsList-from_map _ (λ x. Pool x.range x.vnode) (YieldsList-at c.map-lines.ensures.source (YieldsList-from_slice a.ranges.now cc)) c.map-lines.ensures.closure (λ x r q k. search rules)) in
    subst (λ ls. Wrote ls a.at a.output.now c.put_lines.new.output c.put_lines.result) given put.2
