-- `line::write_map` meets its contract: the longest word of a type has 13 letters.
use Rattle.std.proofs.Common.{arith}
use Rattle.plan_output.specs.Laws.Line.{type-length}
use Rattle.plan_output.proofs.line.write_map.Goals as goal

pub write_range_line-requires : goal.write_range_line-requires
write_range_line-requires c = rw c.type_word.ensures (omega (arith, type-length c.args.memory_type))
