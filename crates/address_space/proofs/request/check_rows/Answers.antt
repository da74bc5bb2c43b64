use mathlib.Core.Path.{sym, ◌∙◌}
use Rattle.address_space.specs.Laws.Request.{row_large, row_alignment, row-none}
use Rattle.address_space.proofs.request.check_rows.Goals as goal

pub returns-in_default : goal.returns-in_default
returns-in_default c = let a = c.args in rw (row_large a.len a.alignment c.if-len-eq0.false (sym c.in_default.ensures))

pub returns-then-not-is_good : goal.returns-then-not-is_good
returns-then-not-is_good c =
    let a = c.args in
    rw (row_alignment a.len a.alignment c.if-len-eq0.false _ (sym c.in-Some.ensures) (sym c.is_good.ensures ∙ c.if-not-is_good.true))

pub returns : goal.returns
returns c =
    let a = c.args in
    sym (row-none a.len a.alignment c.if-len-eq0.false _ (sym c.in-Some.ensures) (sym c.is_good.ensures ∙ c.if-not-is_good.false))
