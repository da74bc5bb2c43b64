-- `cut::part_count` meets its contract: each separator makes one more part.
use Rattle.std.proofs.Common.{◌≡◌, ◌==◌, count_by, arith, rules}
use Rattle.plan_fields.proofs.cut.Laws.{parts_counted}
use Rattle.plan_fields.proofs.cut.part_count.Goals as goal

pub returns : goal.returns
returns c =
    let a = c.args in
    let counted : c.count.result ≡ count_by (λ x. x == a.separator) a.bytes.now = search rules in
    omega (arith, parts_counted a.separator a.bytes.now)
