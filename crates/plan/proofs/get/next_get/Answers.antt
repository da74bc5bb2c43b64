-- `get::next_get` meets its contract: the requests are those of what the step answers.
use Rattle.std.specs.Prelude.{ℕ, ◌≡◌, List, [], ◌∷◌, Ok, Err, Option, Some, None}
use Rattle.std.specs.Result.{result_ok}
use Rattle.std.proofs.Common.{refl, ap, sym, ◌∙◌}
use Rattle.plan_record.specs.declared.record.Get.{Get}
use Rattle.plan_text.specs.Plan.{held_by, get_held}
use Rattle.plan_text.specs.Text.{RecordStep}
use Rattle.plan_input.specs.Record.{records_at}
use Rattle.plan_input.specs.Input.{get_then, gets_first}
use Rattle.plan_input.specs.Laws.Record.{records_stepped, records_by}
use Rattle.plan.specs.Get.{get_step, get_stepped}
use Rattle.plan.proofs.get.next_get.Goals as goal

-- a step that answers no record leaves none
none_left : (text : List ℕ) (a : RecordStep) → result_ok a ≡ None → records_stepped text a ≡ []
none_left text (Ok s) e = absurd cc
none_left text (Err r) e = refl

end_left : (text : List ℕ) (a : RecordStep) → result_ok a ≡ Some None → records_stepped text a ≡ []
end_left text (Ok None) e = refl
end_left text (Ok (Some s)) e = absurd cc
end_left text (Err r) e = refl

-- and one that answers a record is this step
answered : (a : RecordStep) {s : Option _} → result_ok a ≡ Some s → a ≡ Ok s
answered (Ok s) e = cc
answered (Err r) e = absurd cc

step_gets : (text : List ℕ) (gs : List Get) (next : ℕ) → get_then gs (gets_first (records_at text next)) ≡ get_stepped text (get_step gs next)
step_gets text [] next = refl
step_gets text (g ∷ gs) next = refl

pub returns-in_err-ok : goal.returns-in_err-ok
returns-in_err-ok c =
    let a = c.args in
    rw c.from_residual.ensures
    (ap gets_first (records_by a.text.now a.at c.next_record.ensures refl ∙ none_left a.text.now _ (sym c.ok.ensures.value ∙ c.in_err-ok.was)))

pub returns-in_err-record : goal.returns-in_err-record
returns-in_err-record c =
    let a = c.args in
    rw c.from_residual-in_err-record.ensures
    (ap gets_first
    (records_by a.text.now a.at c.next_record.ensures refl
    ∙ end_left a.text.now _ (sym c.ok.ensures.value ∙ c.in_ok-ok.was ∙ ap Some c.in_err-record.was)))

pub returns : goal.returns
returns c =
    let a = c.args in
    let step = answered c.next_record.result (sym c.ok.ensures.value ∙ c.in_ok-ok.was ∙ ap Some c.in_ok-record.was) in
    rw (records_by a.text.now a.at c.next_record.ensures step, c.get_in.ensures)
    (step_gets a.text.now (get_held (held_by c.in_ok-record.«record»)) c.in_ok-record.next)
