use mathlib.Core.Path.{ap, sym, ◌∙◌}
use Rattle.address_space.specs.Request.{allocation_as}
use Rattle.address_space.specs.Table.{entries_of}
use Rattle.address_space.specs.Laws.Request.{allocated_nowhere, allocated-at}
use Rattle.address_space.proofs.table.AddressSpaceManager.allocate_inner.Goals as goal

pub allocate_range-requires : goal.allocate_range-requires
allocate_range-requires c =
    let a = c.args in
    (allocated-at a.required_vnode a.len a.allocation_type a.allocation_policy a.alignment (entries_of a.self) _ (sym (rw c.entries.ensures at c.in-Some.ensures))).0

pub returns-in-None : goal.returns-in-None
returns-in-None c =
    let a = c.args in
    c.refused.ensures
    ∙ sym
    (ap (allocation_as a.self a.allocation_type)
    (allocated_nowhere a.required_vnode a.len a.allocation_type a.allocation_policy a.alignment (entries_of a.self) (sym (rw c.entries.ensures at c.in-None.ensures))))

pub returns-in-Some : goal.returns-in-Some
returns-in-Some c =
    let a = c.args in
    c.allocate_range.ensures
    ∙ sym
    (ap (allocation_as a.self a.allocation_type)
    (allocated-at a.required_vnode a.len a.allocation_type a.allocation_policy a.alignment (entries_of a.self) _ (sym (rw c.entries.ensures at c.in-Some.ensures))).1)
