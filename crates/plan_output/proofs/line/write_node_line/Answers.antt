-- `line::write_node_line` meets its contract: the last field is the digits of the node, at most 8.
use Rattle.std.proofs.Common.{◌≡◌, ◌≤◌, ap, ◌∙◌, arith, length, take}
use Rattle.plan_output.specs.Number.{hex_of}
use Rattle.plan_output.specs.Laws.Number.{hex-length}
use Rattle.plan_output.proofs.line.write_node_line.Goals as goal

pub returns : goal.returns
returns c =
    let h = c.hex_digits-count in
    let spelled : take h.result h.new.digits ≡ hex_of c.args.node = h.ensures.written ∙ ap hex_of c.from.ensures in
    rw (← spelled) c.write_range_line.ensures

pub write_range_line-requires : goal.write_range_line-requires
write_range_line-requires c =
    let h = c.hex_digits-count in
    let short : length (hex_of c.from.result) ≤ 8 = hex-length c.from.result 8 (omega arith) (omega arith) (omega arith) in
    rw h.ensures.written (omega arith)
