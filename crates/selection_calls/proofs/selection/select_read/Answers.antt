-- `selection::select_read` meets its contract: rows 4 and 5 of lists that there is not room for, and then selection from as much of
-- them as there is room for, which comes to the same.
use Rattle.std.proofs.Common.{sym, ap, ◌∙◌}
use Rattle.std.proofs.lemmas.Result.{err_from_is_err_and}
use Rattle.refusal.specs.Laws.Answer.{rows_refused, rows_none}
use Rattle.vtl2_ram.specs.Ram.{ram_as}
use Rattle.selection_calls.proofs.selection.Lent.{map-lent, imports-lent}
use Rattle.selection_calls.proofs.selection.Told.{long_refused, long-passed}
use Rattle.selection_calls.proofs.selection.select_read.Goals as goal

pub returns-in_err-check_long : goal.returns-in_err-check_long
returns-in_err-check_long c =
    let a = c.args in
    let p = err_from_is_err_and c.from_residual.result c.from_residual.ensures.1 in
    let e = rows_refused _ (sym c.in_err-check_long.ensures) in
    rw (p.1, p.2, long_refused a.mode a.isolation a.ram_size a.file a.map.now a.imports.now e)

pub returns : goal.returns
returns c =
    let a = c.args in
    let passed = rows_none _ (sym c.check_long.ensures ∙ c.in_ok-check_long.was) in
    rw (
      c.min-map_count.ensures,
      c.min-import_count.ensures,
      c.read_map.ensures,
      c.read_ranges.ensures,
      map-lent a.map.now _,
      imports-lent a.imports.now _,
    ) at c.select_vtl2_ram.ensures
    ∙ ap ram_as (long-passed a.mode a.isolation a.ram_size a.file a.map.now a.imports.now passed)
