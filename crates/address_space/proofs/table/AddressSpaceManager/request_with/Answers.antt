use mathlib.Core.Path.{ap, sym, ◌∙◌}
use Rattle.address_space.specs.Request.{allocation_as}
use Rattle.address_space.specs.Table.{entries_of}
use Rattle.address_space.specs.Laws.Request.{requested_refused, requested_rounded}
use Rattle.address_space.proofs.table.AddressSpaceManager.request_with.Goals as goal

pub returns-in-Err : goal.returns-in-Err
returns-in-Err c =
    let a = c.args in
    c.refused.ensures
    ∙ sym
    (ap (allocation_as a.self.now a.allocation_type)
    (requested_refused a.required_vnode a.len a.allocation_type a.allocation_policy a.alignment (entries_of a.self.now) _ (sym c.in-Err.ensures)))

pub returns-in-Ok : goal.returns-in-Ok
returns-in-Ok c =
    let a = c.args in
    c.allocate_inner.ensures
    ∙ sym
    (ap (allocation_as a.self.now a.allocation_type)
    (requested_rounded a.required_vnode a.len a.allocation_type a.allocation_policy a.alignment (entries_of a.self.now) _ (sym c.in-Ok.ensures)))
