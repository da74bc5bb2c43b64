-- `number::read_number` meets its contract: with a byte behind them the digits in front are no number.
use mathlib.Core.Path.{sym}
use Rattle.plan_fields.proofs.number.Laws.{field_stops}
use Rattle.plan_fields.proofs.number.read_number.Goals as goal

pub returns-then-size-field : goal.returns-then-size-field
returns-then-size-field c =
    let f = c.front_digits-value in
    sym (field_stops c.args.field.now f.result f.ensures c.if-size-field.true)
