-- `put::hex_digits` meets its contract: no number of 64 bits has more than 16 digits.
use Rattle.std.proofs.Common.{◌∙◌, arith}
use Rattle.plan_output.specs.Laws.Number.{hex_digits}
use Rattle.plan_output.proofs.put.hex_digits.Goals as goal

pub returns-clause-written : goal.returns-clause-written
returns-clause-written c = c.hex.ensures.digits ∙ hex_digits c.args.number c.hex.result (omega arith) c.hex.ensures.len
