-- The loop's invariant: the answers of the requests to come, made of the table as it is now, are left to store, and what these
-- requests leave is what all leave.
use Rattle.std.proofs.Common.{◌≡◌, ◌*◌}
use Rattle.std.proofs.lemmas.List.Edits.{sets}
use Rattle.table_words.specs.Table.{table_in}
use Rattle.table_words.specs.Laws.Chunks.{rows_left}
use Rattle.table_words.specs.Laws.Stores.{Stores}
use Rattle.table_calls.specs.Request.{answers_on, after_all, request_rows}
use Rattle.table_calls.proofs.request.answer_requests.Given as goal

abbrev pub invariant-loop-i : goal.invariant-loop-i
invariant-loop-i l =
    let all = request_rows l.requests in
    let left = rows_left l.i-iterator.iter in
    let met = table_in l.initial.manager in
    let now = table_in l.manager in
    record {
      width : l.i-iterator.iter.size ≡ 5;
      answers_left : Stores (sets l.initial.answers 0 (answers_on all met)) (4 * l.i-iterator.count) l.answers (answers_on left now);
      table_left : after_all all met ≡ after_all left now;
    }
