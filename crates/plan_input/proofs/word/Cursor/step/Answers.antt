-- `word::Cursor::step` meets its contract: the records from the place on are those that the text's step stands for.
use mathlib.Core.Path.{sym, ◌∙◌}
use Rattle.plan_text.specs.Laws.Text.{check-on}
use Rattle.plan_input.specs.Laws.Record.{records_by}
use Rattle.plan_input.proofs.word.Laws.{step_broken, step_ended, step_here}
use Rattle.plan_input.proofs.word.Cursor.step.Goals as goal

pub returns-in_err-ok : goal.returns-in_err-ok
returns-in_err-ok c =
    rw c.from_residual.ensures
    (step_broken c.args.text.now c.args.self.at c.next_record.result c.next_record.ensures (sym c.ok.ensures.value ∙ c.in_err-ok.was))

pub returns-in_err-record : goal.returns-in_err-record
returns-in_err-record c =
    rw c.from_residual-in_err-record.ensures
    (step_ended c.args.text.now c.args.self.at c.next_record.result _ c.next_record.ensures (sym c.ok.ensures.value ∙ c.in_ok-ok.was) c.in_err-record.was)

pub returns : goal.returns
returns c =
    let a = c.args in
    let here = step_here c.next_record.result _ _ (sym c.ok.ensures.value ∙ c.in_ok-ok.was) c.in_ok-record.was in
    (records_by a.text.now a.self.at c.next_record.ensures here, check-on a.text.now a.self.at a.self.order c.next_record.ensures here c.order_after-order.ensures)
