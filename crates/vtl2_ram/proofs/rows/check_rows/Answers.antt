-- What was seen of the map's ranges is what holds of them.
use Rattle.host_map.specs.Map.{map_ranges}
use Rattle.host_map.specs.Laws.Rows.{valid_by, ascending_by}
use Rattle.vtl2_ram.specs.Laws.Map.{length-map-ranges, entry-ranges}
use Rattle.vtl2_ram.proofs.rows.check_rows.Goals as goal

pub returns : goal.returns
returns c =
    let map = c.args.map.now in
    let seen = rw (entry-ranges map) at c.check_ranges.ensures in
    rw (length-map-ranges map) (rw (valid_by (map_ranges map) seen, ascending_by (map_ranges map) seen) at c.check_known.ensures)
