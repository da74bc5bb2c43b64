use native.Mathlib.Omega.{arith}
use Rattle.memory_range.specs.Laws.List.{length-ranges, length-tagged}
use Rattle.memory_range.proofs.list.tagged_count.Goals as goal

pub returns : goal.returns
returns c =
    let a = c.args in
    omega (
      arith,
      length-tagged a.starts.now a.ends.now a.tags.now,
      length-ranges a.starts.now a.ends.now,
      c.range_count.ensures,
      c.min.ensures,
    )
