-- Rows that pass say of the lists what the mode's own function asks of them.
use Rattle.std.proofs.Common.{sym}
use Rattle.std.proofs.lemmas.Result.{err_from_is_err_and}
use Rattle.refusal.specs.Laws.Answer.{rows_refused, rows_none}
use Rattle.host_map.specs.Map.{map_ranges}
use Rattle.vtl2_ram.specs.Select.{choice}
use Rattle.vtl2_ram.specs.Laws.Rows.{rows-passed}
use Rattle.vtl2_ram.proofs.select.select_vtl2_ram.Goals as goal

pub returns-in_err-check_rows : goal.returns-in_err-check_rows
unfolding choice
returns-in_err-check_rows c =
    let p = err_from_is_err_and c.from_residual.result c.from_residual.ensures.1 in
    rw (p.1, p.2, rows_refused _ (sym c.in_err-check_rows.ensures))

pub select_passed-requires : goal.select_passed-requires
select_passed-requires c =
    let a = c.args in
    let p = rows-passed a.mode a.file (map_ranges a.map.now) a.imports.now (rows_none _ (sym c.in_ok-check_rows.ensures)) in
    (p.0, p.1, p.3, p.2, p.4)

pub returns : goal.returns
unfolding choice
returns c = rw (rows_none _ (sym c.in_ok-check_rows.ensures)) c.select_passed.ensures
