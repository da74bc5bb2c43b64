use native.Mathlib.Omega.{arith}
use Rattle.memory_range.specs.Laws.List.{length-ranges}
use Rattle.memory_range.proofs.list.range_count.Goals as goal

pub returns : goal.returns
returns c = omega (arith, length-ranges c.args.starts.now c.args.ends.now, c.min.ensures)
