-- `get::answer_gets` meets its contract: a request's line comes before those of the others.
use Rattle.std.proofs.Common.{◌≡◌, ap, ◌∙◌, ◌∷◌}
use Rattle.address_space.specs.Table.{entries_of}
use Rattle.plan.specs.Get.{get_lines, after_gets, get_stepped}
use Rattle.plan.specs.Laws.Write.{writing_more}
use Rattle.plan.proofs.get.Laws.{first_line, first-after}
use Rattle.plan.proofs.get.answer_gets.Invariants.{gets_from}
use Rattle.plan.proofs.get.answer_gets.Goals as goal

pub loop-get-preserved : goal.loop-get-preserved
loop-get-preserved c =
    let text = c.args.text.now in
    let m = c.loop-get.manager in
    let get = c.in-Some.get in
    let behind = gets_from text c.in-Some.behind in
    let e = c.answer_get-answer.ensures in
    let found : gets_from text c.loop-get.place ≡ get ∷ behind = c.next_get.ensures ∙ ap (get_stepped text) c.in-Some.is in
    let left : get_lines (gets_from text c.loop-get.place) (entries_of m)
    ≡ c.answer_line.result ∷ get_lines behind (entries_of c.answer_get-answer.new.manager) =
    rw (found, c.answer_line.ensures) (first_line m get behind e.0 e.1) in (
      writing_more c.loop-get.invariant.0 c.requires left c.put_line-next.ensures,
      c.loop-get.invariant.1 ∙ ap (λ gs. after_gets gs (entries_of m)) found ∙ first-after m get behind e.0 e.1,
    )
