-- `request::request` meets its contract: where there is room, a table and whole requests, the call is done.
use Rattle.std.proofs.Common.{◌≡◌, ◌*◌, ◌/◌, ◌%◌, sym, ◌∙◌, length, Some, le-ltb, eq-eqb, arith}
use Rattle.table_words.specs.Table.{table_of}
use Rattle.table_words.specs.Laws.Table.{read_some}
use Rattle.bootplan_c.specs.Request.{request_call}
use Rattle.bootplan_c.proofs.request.request.Goals as goal

pub returns-clause-table_after : goal.returns-clause-table_after
unfolding request_call
returns-clause-table_after c =
    let a = c.args in
    let m : c.read_table.result ≡ Some c.in_ok-manager.manager = grind arith in
    let room = le-ltb (length a.answers.now) (4 * (length a.requests.now / 5)) c.if-answers-requests.false in
    let read = read_some (table_of a.table.now) (sym m ∙ c.read_table.ensures) in
    rw (room, read, eq-eqb (length a.requests.now % 5) 0 c.if-requests-ne0.false, ← c.answer_requests-after.ensures.0) c.write_table.ensures

pub returns-clause-answers_after : goal.returns-clause-answers_after
unfolding request_call
returns-clause-answers_after c =
    let a = c.args in
    let m : c.read_table.result ≡ Some c.in_ok-manager.manager = grind arith in
    let room = le-ltb (length a.answers.now) (4 * (length a.requests.now / 5)) c.if-answers-requests.false in
    let read = read_some (table_of a.table.now) (sym m ∙ c.read_table.ensures) in
    rw (room, read, eq-eqb (length a.requests.now % 5) 0 c.if-requests-ne0.false) c.answer_requests-after.ensures.1
