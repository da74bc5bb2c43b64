-- `put::put_field` meets its contract: the byte stored behind the field is put with it.
use Rattle.plan_output.proofs.put.Laws.{ended}
use Rattle.plan_output.proofs.put.put_field.Goals as goal

pub returns-clause-buffer_after : goal.returns-clause-buffer_after
returns-clause-buffer_after c =
    let a = c.args in
    let e = c.put_bytes-behind.ensures in
    ended a.at a.end _ a.field.now a.buffer.now _ c.requires e.value e.buffer_after
