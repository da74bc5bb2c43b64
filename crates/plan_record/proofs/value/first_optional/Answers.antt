-- `value::first_optional` meets its contract. The field is absent, or what the number gives.
use Rattle.plan_record.proofs.value.Laws.{answered, refused}
use Rattle.plan_record.proofs.value.Absent.{is-absent, is_number}
use Rattle.plan_record.proofs.value.first_optional.Goals as goal

pub returns-then-starts_with : goal.returns-then-starts_with
returns-then-starts_with c = search is-absent

pub returns-in_err-number : goal.returns-in_err-number
returns-in_err-number c = search (is_number, refused, c.in_err-number.was)

pub returns : goal.returns
returns c = search (is_number, answered, c.in_ok-number.was)
