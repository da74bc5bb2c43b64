-- Rows 4 and 5 by what is read, and then the plan by what selection comes to and by as much of the lists as there is room for.
use Rattle.std.proofs.Common.{ℕ, ◌≡◌, Bool, true, ◌&&◌, List, ap, sym, ◌∙◌}
use Rattle.std.proofs.lemmas.Result.{err_from_is_err_and}
use Rattle.memory_range.specs.declared.range.MemoryRange.{MemoryRange}
use Rattle.host_params.specs.declared.MemoryEntry.{MemoryEntry}
use Rattle.plan_record.specs.declared.record.Shape.{Shape}
use Rattle.plan_input.specs.declared.build.BuildRead.{BuildRead}
use Rattle.plan_input.specs.declared.once.PoolRead.{PoolRead}
use Rattle.plan_input.specs.declared.selection.SelectionRead.{SelectionRead}
use Rattle.plan_input.specs.Input.{gets_first}
use Rattle.plan_input.specs.Record.{records_at}
use Rattle.plan.specs.Planner.{plan_of, after_choice, choice_of, selection_given, TextRead}
use Rattle.plan.specs.Laws.Planner.{answers_refused}
use Rattle.plan.specs.Laws.Selected.{selected_refused, selected-held, selected}
use Rattle.plan.specs.Laws.Read.{selection_valid, build_valid, text_invalid, text_descends, text-selected, selection-same, selected_few}
use Rattle.plan.proofs.planner.plan_accepted.Goals as goal
use Rattle.plan.proofs.planner.plan_accepted.Goals.{then-read, else-read}

module _ {text : List ℕ} {read : SelectionRead} {build : BuildRead} {pool : PoolRead} {map : List MemoryEntry}
    {imports configs pools : List MemoryRange} (r : TextRead text read build pool map imports configs pools)
    {flag : Bool} (e : flag ≡ (read.valid && build.valid)) where
  -- the flags that were read are those of the text
  valid : (selection_valid text r.accepted && build_valid text r.accepted) ≡ flag
  valid = rw (e, r.selection.valid, r.building.valid)

  -- once rows 4 and 5 are passed, the plan is what comes after selection
  passed : flag ≡ true → read.ascending ≡ true
      → plan_of text
      ≡ after_choice read.shape.isolation pool.pool build.builder (gets_first (records_at text pool.next)) configs pools
      (choice_of (selection_given text))
  passed v a =
      text-selected text r.accepted (valid ∙ v) (sym r.selection.ascending ∙ a) (ap (λ (h : Shape). h.isolation) r.selection.shape)
      r.pool-first
      r.building.builder
      (ap gets_first r.next)
      r.configs_room
      r.pools_room

pub returns-then-not-read : goal.returns-then-not-read
returns-then-not-read c =
    let r = c.requires.read in
    let both : c.if-read.value ≡ (c.args.read.selection.valid && c.args.read.build.valid) =
    elim c.if-read.branch [ then-read w ↦ rw w.if-read.true w.value-is | else-read w ↦ rw w.if-read.false (w.value-is ∙ w.if-read.false) ] in
    answers_refused (text_invalid c.args.text.now r.accepted (valid r both ∙ c.if-not-read.true))

pub returns-then-not-ascending : goal.returns-then-not-ascending
returns-then-not-ascending c =
    let r = c.requires.read in
    let both : c.if-read.value ≡ (c.args.read.selection.valid && c.args.read.build.valid) =
    elim c.if-read.branch [ then-read w ↦ rw w.if-read.true w.value-is | else-read w ↦ rw w.if-read.false (w.value-is ∙ w.if-read.false) ] in
    answers_refused
    (text_descends c.args.text.now r.accepted (valid r both ∙ c.if-not-read.false) (sym r.selection.ascending ∙ c.if-not-ascending.true))

pub returns-in_err-ram : goal.returns-in_err-ram
returns-in_err-ram c =
    let r = c.requires.read in
    let both : c.if-read.value ≡ (c.args.read.selection.valid && c.args.read.build.valid) =
    elim c.if-read.branch [ then-read w ↦ rw w.if-read.true w.value-is | else-read w ↦ rw w.if-read.false (w.value-is ∙ w.if-read.false) ] in
    let plan = passed r both c.if-not-read.false c.if-not-ascending.false in
    let same = selection-same c.args.text.now r.accepted c.args.read.selection r.selection r.map-room r.imports_room c.select_ram.ensures in
    let p = err_from_is_err_and c.from_residual.result c.from_residual.ensures.1 in
    rw (p.1, p.2) (answers_refused (selected_refused _ _ _ _ _ _ _ _ plan (sym same ∙ c.in_err-ram.was)))

pub plan_ram-requires-clause-selected : goal.plan_ram-requires-clause-selected
plan_ram-requires-clause-selected c =
    let r = c.requires.read in
    let both : c.if-read.value ≡ (c.args.read.selection.valid && c.args.read.build.valid) =
    elim c.if-read.branch [ then-read w ↦ rw w.if-read.true w.value-is | else-read w ↦ rw w.if-read.false (w.value-is ∙ w.if-read.false) ] in
    let plan = passed r both c.if-not-read.false c.if-not-ascending.false in
    let same = selection-same c.args.text.now r.accepted c.args.read.selection r.selection r.map-room r.imports_room c.select_ram.ensures in
    selected _ _ _ _ _ _ _ _ plan (selected-held _ (selected_few c.args.text.now r.accepted) (sym same ∙ c.in_ok-ram.was))
