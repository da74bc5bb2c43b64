-- `selection::read_selection` meets its contract: each call reads on from the records that the one before it left.
use mathlib.Core.Path.{ap, ap₂, ◌∙◌}
use mathlib.Core.Bool.{◌&&◌}
use Rattle.memory_range.specs.Valid.{valid_range}
use Rattle.host_map.specs.Map.{map_ranges}
use Rattle.plan_input.specs.Record.{records_at}
use Rattle.plan_input.specs.Range.{or_empty}
use Rattle.plan_input.specs.Selection.{selection_in}
use Rattle.host_map.specs.Laws.Rows.{valid_by, ascending_by, valid-three}
use Rattle.plan_input.proofs.list.Laws.{check_entries, check_alone}
use Rattle.plan_input.proofs.selection.read_selection.Goals as goal

pub returns : goal.returns
unfolding selection_in
returns c =
    let given = selection_in (records_at c.args.text.now 0) in
    let shape = c.read_shape-shape.ensures in
    let range = rw shape.moved.records at c.read_range.ensures in
    let map = rw range.moved.records at c.read_list-mapped.ensures in
    let imports = rw map.moved.records at c.read_list-imported.ensures in
    let file = c.or_empty-file.ensures ∙ ap or_empty range.value in
    let valid = c.is_valid.ensures ∙ ap valid_range file in
    let map-check = check_entries given.map map.check in
    let imports-check = check_alone given.imports imports.check in (
      record {
        shape = shape.value;
        file = file;
        map-count = map.count;
        import-count = imports.count;
        valid = valid-three valid (valid_by (map_ranges given.map) map-check) (valid_by given.imports imports-check);
        ascending = ap₂ ◌&&◌ (ascending_by (map_ranges given.map) map-check) (ascending_by given.imports imports-check);
        next = imports.moved.records;
        order = imports.moved.order ∙ map.moved.order ∙ range.moved.order ∙ shape.moved.order;
      },
      map.stored,
      imports.stored,
    )
