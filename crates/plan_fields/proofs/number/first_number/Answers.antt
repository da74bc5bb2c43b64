-- `number::first_number` meets its contract: the digits in front are the first of several fields where a tab is behind them.
use mathlib.Core.Path.{◌≡◌, sym, ◌∙◌}
use lib.ListN.{length, get_or}
use native.Mathlib.Omega.{arith}
use Prim.Native.Nat.{◌≤◌, ◌<◌}
use Rattle.std.proofs.lemmas.Grind.{common_steps}
use Rattle.std.proofs.lemmas.Option.{gets}
use Rattle.plan_fields.specs.Cut.{tab}
use Rattle.plan_fields.proofs.number.Laws.{only-field, other_byte, tab-behind}
use Rattle.plan_fields.proofs.number.first_number.Goals as goal

pub returns-in_err-get : goal.returns-in_err-get
returns-in_err-get c =
    let f = c.front_digits-value in
    let past : length c.args.fields.now ≤ f.result.size = grind (arith, common_steps, gets) in
    let e = only-field c.args.fields.now f.result f.ensures past in
    grind (arith, common_steps)

pub returns-then-branch-ne-TAB : goal.returns-then-branch-ne-TAB
returns-then-branch-ne-TAB c =
    let f = c.front_digits-value in
    let b = c.args.fields.now in
    let within : f.result.size < length b = grind (arith, common_steps, gets) in
    let byte : get_or b f.result.size 0 ≡ c.in_ok-get.field-0.now = grind (arith, common_steps, gets) in
    sym (other_byte b f.result f.ensures within (rw byte c.if-branch-ne-TAB.true))

pub returns : goal.returns
returns c =
    let f = c.front_digits-value in
    let b = c.args.fields.now in
    let within : f.result.size < length b = grind (arith, common_steps, gets) in
    let byte : get_or b f.result.size 0 ≡ tab = grind (arith, common_steps, gets) in
    c.then_some.ensures ∙ sym (tab-behind b f.result f.ensures within byte _ c.well_formed-2.ensures)
