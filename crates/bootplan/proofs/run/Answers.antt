use Rattle.std.proofs.Common.{rules}
use Rattle.bootplan.proofs.Known.{ok_mapped, plan_written}
use Rattle.bootplan.proofs.run.Goals as goal

pub returns : goal.returns
returns g c =
    ok_mapped c.write_plan.result c.map_err.result c.map_err.ensures.variant
    (λ wrote. plan_written _ _ _ _ _ (search rules) c.in_ok-len.ensures.text wrote) c.write_plan.ensures
