-- `padding` meets its contract: rounding up adds nothing to a multiple, and else what the remainder
-- lacks.
use native.Mathlib.Omega.{arith}
use Rattle.memory_range.specs.Laws.Round.{up_exact, up_more}
use Rattle.memory_range.proofs.round.padding.Goals as goal

pub returns-then-past-eq0 : goal.returns-then-past-eq0
returns-then-past-eq0 c =
    let a = c.args in
    omega (arith, up_exact a.multiple a.length (omega arith) c.if-past-eq0.true)

pub returns : goal.returns
returns c =
    let a = c.args in
    omega (arith, up_more a.multiple a.length (omega arith) (omega arith))
