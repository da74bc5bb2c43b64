-- `aligned_subrange` meets its contract: the start and its padding make the start rounded up, the end
-- less its remainder is the end rounded down, and the tests compare the two.
use mathlib.Core.Path.{ap₂}
use native.Mathlib.Omega.{arith}
use Prim.Native.Nat.{◌≤◌}
use Rattle.memory_range.specs.Range.{range}
use Rattle.memory_range.specs.Round.{round_down, round_up}
use Rattle.memory_range.specs.Laws.Round.{down-zero, up_above, down_sub}
use Rattle.memory_range.specs.Laws.Align.{aligned-some, aligned-none}
use Rattle.memory_range.proofs.range.MemoryRange.aligned_subrange.Goals.{else-self-end-via-then-self-end+else-more-end, else-self-end-via-else-self-end}
use Rattle.memory_range.proofs.range.MemoryRange.aligned_subrange.Goals as goal

pub returns-then-alignment-eq0 : goal.returns-then-alignment-eq0
returns-then-alignment-eq0 c =
    let a = c.args in
    rw (c.if-alignment-eq0.true, aligned-none 0 a.self (omega (arith, down-zero a.self.end)))

pub returns-then-more-end : goal.returns-then-more-end
returns-then-more-end c =
    let a = c.args in
    let m = a.alignment in
    let up = up_above m a.self.start (omega arith) in
    let down = down_sub m a.self.end (omega arith) in
    rw (aligned-some m a.self (omega arith)) (ap₂ range (omega arith) (omega arith))

pub returns : goal.returns
returns c =
    let a = c.args in
    let m = a.alignment in
    let up = up_above m a.self.start (omega arith) in
    let down = down_sub m a.self.end (omega arith) in
    let none : round_down m a.self.end ≤ round_up m a.self.start =
    elim c.else-self-end.branch [
      | else-self-end-via-then-self-end+else-more-end w ↦ omega arith
      | else-self-end-via-else-self-end w ↦ omega arith
    ]
    in
    rw (aligned-none m a.self none)
