-- `request::answer_request` meets its contract: what rows 22 to 25 refuse is refused, and leaves the table.
use Rattle.std.proofs.lemmas.Result.{err_from_is_err_and}
use Rattle.address_space.specs.Table.{entries_of}
use Rattle.table_calls.specs.Laws.Request.{rows-refuse}
use Rattle.table_calls.proofs.request.answer_request.Goals as goal

pub returns-in_err-check_request : goal.returns-in_err-check_request
returns-in_err-check_request c =
    let refused = rows-refuse c.args.row.now (entries_of c.args.manager.now) c.in_ok-asked.ensures c.in_err-check_request.ensures in
    let told = err_from_is_err_and c.from_residual-in_err-check_request.result c.from_residual-in_err-check_request.ensures.1 in
    record { answer = rw (told.1, told.2, refused); table = rw refused }
