-- The rows by what was seen of the copied map; those that pass say of it what the mode's own function asks.
use Rattle.std.proofs.Common.{sym, ◌∙◌, length}
use Rattle.std.proofs.lemmas.Result.{err_from_is_err_and}
use Rattle.refusal.specs.Laws.Answer.{rows_refused, rows_none}
use Rattle.host_map.specs.Map.{map_ranges}
use Rattle.host_map.specs.Laws.Rows.{valid_by, ascending_by}
use Rattle.vtl2_ram.specs.Copied.{copied_map, choice_copied}
use Rattle.vtl2_ram.specs.Laws.Rows.{known-passed, count_within}
use Rattle.vtl2_ram.proofs.select.select_copied.Goals as goal

pub returns-in_err-check_known : goal.returns-in_err-check_known
unfolding choice_copied
returns-in_err-check_known c =
    let p = err_from_is_err_and c.from_residual.result c.from_residual.ensures.1 in
    rw (p.1, p.2, rows_refused _ (sym c.in_err-check_known.ensures))

pub shared_ref_as_front-entries : goal.shared_ref_as_front-entries
shared_ref_as_front-entries c =
    let a = c.args in
    let m = a.map.now in
    let p = known-passed a.mode a.file m.check.valid m.check.ascending m.count a.imports.now (rows_none _ (sym c.in_ok-check_known.ensures)) in
    count_within a.mode m.count (length a.imports.now) p.5

pub select_passed-requires : goal.select_passed-requires
select_passed-requires c =
    let a = c.args in
    let m = a.map.now in
    let p = known-passed a.mode a.file m.check.valid m.check.ascending m.count a.imports.now (rows_none _ (sym c.in_ok-check_known.ensures)) in
    let seen = (c.requires (count_within a.mode m.count (length a.imports.now) p.5)).0 in
    let rs = map_ranges (copied_map m) in
    (p.0, sym (valid_by rs seen) ∙ p.1, sym (ascending_by rs seen) ∙ p.3, p.2, p.4)

pub returns : goal.returns
unfolding choice_copied
returns c = rw (rows_none _ (sym c.in_ok-check_known.ensures)) c.select_passed.ensures
