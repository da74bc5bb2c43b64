-- `text::check_from` meets its contract. The loop's invariant: the whole answer is that of the records from `next` on,
-- judged at the order kept so far. The measure is what is left of the text: each record's step goes on.
use mathlib.Core.Path.{ap, sym, ◌∙◌}
use native.Mathlib.Omega.{arith}
use Rattle.std.specs.Prelude.{Ok, Err}
use Rattle.std.proofs.lemmas.Result.{err_from_is_err_and}
use Rattle.plan_text.specs.Laws.Text.{check_by, check-on, step-on, step-refused}
use Rattle.plan_text.proofs.text.check_from.Goals as goal

pub loop-record-smaller : goal.loop-record-smaller
loop-record-smaller c =
    omega (arith, step-on c.args.text.now c.loop-record.next _ _ (sym c.next_record.ensures ∙ c.in_ok-record.was ∙ ap Ok c.in-Some.is))

pub loop-record-preserved : goal.loop-record-preserved
loop-record-preserved c =
    check-on c.args.text.now c.loop-record.next c.loop-record.after c.next_record.ensures (c.in_ok-record.was ∙ ap Ok c.in-Some.is) c.order_after-after.ensures
    ∙ c.loop-record.invariant

pub returns-in_err-record : goal.returns-in_err-record
returns-in_err-record c =
    let l = c.loop-record in
    let p = err_from_is_err_and c.from_residual.result c.from_residual.ensures.1 in
    p.1 ∙ ap Err (p.2 ∙ step-refused c.args.text.now l.next _ (sym c.next_record.ensures ∙ c.in_err-record.was))
    ∙ sym (check_by c.args.text.now l.next l.after c.next_record.ensures c.in_err-record.was)
    ∙ l.invariant

pub returns : goal.returns
returns c =
    let l = c.loop-record in
    c.order_check.ensures ∙ sym (check_by c.args.text.now l.next l.after c.next_record.ensures (c.in_ok-record.was ∙ ap Ok c.in_default.is)) ∙ l.invariant
