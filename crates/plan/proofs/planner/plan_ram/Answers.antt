-- What the build comes to is what the plan comes to.
use Rattle.std.proofs.Common.{ap, ◌∙◌}
use Rattle.std.proofs.lemmas.Result.{err_from_is_err_and}
use Rattle.plan.specs.Planner.{after_build}
use Rattle.plan.specs.Laws.Planner.{answers_refused}
use Rattle.plan.specs.Laws.Selected.{selected-chosen, new_empty, init_refused, init-built}
use Rattle.plan.proofs.planner.plan_ram.Goals as goal

pub returns-in_err-init : goal.returns-in_err-init
returns-in_err-init c =
    let p = err_from_is_err_and c.from_residual.result c.from_residual.ensures.1 in
    let e = rw (← new_empty c.new.ensures) at (selected-chosen c.requires.selected) in
    let i = rw c.as_slice-entries.ensures at c.init-init.ensures in
    rw (p.1, p.2) (answers_refused (e ∙ ap (after_build _ _ _ _) (init_refused c.new.result _ _ i c.in_err-init.was)))

-- the build on a new table
pub plan_table-requires-clause-plan : goal.plan_table-requires-clause-plan
plan_table-requires-clause-plan c =
    let e = rw (← new_empty c.new.ensures) at (selected-chosen c.requires.selected) in
    let i = rw c.as_slice-entries.ensures at c.init-init.ensures in
    e ∙ ap (after_build _ _ _ _) (init-built c.new.result _ _ i c.in_ok-init.was)
