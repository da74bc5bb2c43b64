-- Of an output that is not too short, the answer is the plan's.
use Rattle.std.proofs.Common.{refl, arith}
use borrow.Author.Tests.{lt-ltb}
use Rattle.plan.proofs.planner.plan_to.Goals as goal

pub returns-then-output-output_size : goal.returns-then-output-output_size
returns-then-output-output_size c =
    rw (← c.output_size.ensures, lt-ltb _ _ c.if-output-output_size.true) (record { value = refl; output_after = refl })

pub plan_within-requires : goal.plan_within-requires
plan_within-requires c = omega (arith, c.output_size.ensures)
