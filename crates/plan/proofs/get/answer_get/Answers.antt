-- `get::answer_get` meets its contract: a request that is refused before its split leaves the table.
use Rattle.std.proofs.Common.{Err, refl, ap, sym, ◌∙◌}
use Rattle.std.proofs.lemmas.Result.{err_from_is_err_and}
use Rattle.refusal.specs.Laws.Answer.{rows_refused}
use Rattle.address_space.specs.Table.{entries_of}
use Rattle.plan.proofs.get.Laws.{outcome_refused}
use Rattle.plan.proofs.get.answer_get.Goals as goal

pub returns-in_err-check_request : goal.returns-in_err-check_request
returns-in_err-check_request c =
    let a = c.args in
    let p = err_from_is_err_and c.from_residual.result c.from_residual.ensures.1 in
    rw (outcome_refused a.get (entries_of a.manager.now) _ (rows_refused _ (sym c.check_request.ensures ∙ c.in_err-check_request.was)))
    (p.1 ∙ ap Err p.2, refl)
