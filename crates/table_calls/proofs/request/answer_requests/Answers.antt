-- `request::answer_requests` meets its contract: a turn stores the next answer, and leaves the table for the others.
use Rattle.std.proofs.Common.{ℕ, List, refl, sym, ap, ◌∙◌, arith}
use Rattle.table_words.specs.Table.{table_in}
use Rattle.table_words.specs.Laws.Chunks.{rows_left, next-row, no-rows}
use Rattle.table_words.specs.Laws.Stores.{stores_more, stores-end}
use Rattle.table_calls.specs.Request.{answer_words, after_all}
use Rattle.table_calls.specs.Laws.Request.{first_answer, first-after, answer-length}
use Rattle.table_calls.proofs.request.answer_requests.Goals as goal

pub loop-i-init : goal.loop-i-init
loop-i-init c =
    let chunks = c.chunks_exact.ensures in
    let items = c.enumerate-i-items.ensures in
    rw (c.into_iter-i-iterator.ensures.into_iter_gives, items.source, items.count, chunks.size, chunks.rest)
    (record { width = refl; answers_left = record { all = refl }; table_left = refl })

pub loop-i-preserved : goal.loop-i-preserved
loop-i-preserved c =
    let l = c.loop-i in
    let step = c.in-Some.ensures.steps in
    let answered = c.answer_request-answer.ensures in
    let next = next-row l.i-iterator.iter c.next.new.self.iter (omega arith) c.in-Some.row step.0 in
    let r = c.in-Some.row.now in
    let rest = rows_left c.next.new.self.iter in
    let t = table_in l.manager in
    let s = rw (next, first_answer r rest t answered.table answered.answer) at l.invariant.answers_left in
    let n = answer-length c.answer_request-answer.result in
    record {
      width = step.0.0 ∙ l.invariant.width;
      answers_left = stores_more (answer_words c.answer_request-answer.result) _ (rw step.1 at c.put_answer.ensures) (omega arith) s;
      table_left = l.invariant.table_left ∙ ap (λ (rs : List (List ℕ)). after_all rs t) next ∙ first-after r rest t answered.table;
    }

pub returns : goal.returns
returns c =
    let l = c.loop-i in
    let none = no-rows l.i-iterator.iter c.next.new.self.iter (omega arith) c.in-None.ensures.steps.0 in
    (sym (rw none at l.invariant.table_left), stores-end refl (rw none at l.invariant.answers_left))
