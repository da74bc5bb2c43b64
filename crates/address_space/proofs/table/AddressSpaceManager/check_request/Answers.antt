use mathlib.Core.Path.{ap, sym}
use Rattle.refusal.specs.Answer.{rows_as}
use Rattle.std.proofs.lemmas.Result.{err_from_is_err_and}
use Rattle.address_space.specs.Table.{entries_of}
use Rattle.address_space.specs.Laws.Request.{search-rows, search_nowhere, search-at}
use Rattle.address_space.proofs.table.AddressSpaceManager.check_request.Goals as goal

pub returns-in_err-len : goal.returns-in_err-len
returns-in_err-len c =
    let a = c.args in
    let p = err_from_is_err_and c.from_residual.result c.from_residual.ensures.1 in
    rw (p.1, p.2) (sym (ap rows_as (search-rows a.required_vnode a.len a.allocation_policy a.alignment (entries_of a.self.now) _ (sym c.in_err-len.ensures))))

pub returns-in-None : goal.returns-in-None
returns-in-None c =
    let a = c.args in
    sym
    (ap rows_as
    (search_nowhere a.required_vnode a.len a.allocation_policy a.alignment (entries_of a.self.now) _ (sym c.in_ok-len.ensures) (sym (rw c.entries.ensures at c.in-None.ensures))))

pub returns-in-Some : goal.returns-in-Some
returns-in-Some c =
    let a = c.args in
    sym
    (ap rows_as
    (search-at a.required_vnode a.len a.allocation_policy a.alignment (entries_of a.self.now) _ (sym c.in_ok-len.ensures) _ (sym (rw c.entries.ensures at c.in-Some.ensures))))
