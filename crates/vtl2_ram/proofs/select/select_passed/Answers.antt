-- What the rows say of the lists is what the mode's own function asks of them.
use Rattle.memory_range.specs.Laws.Valid.{valid-ordered}
use Rattle.host_map.specs.Map.{map_ranges}
use Rattle.vtl2_ram.proofs.select.select_passed.Goals as goal

pub parse_host_vtl2_ram-requires-clause-ordered : goal.parse_host_vtl2_ram-requires-clause-ordered
parse_host_vtl2_ram-requires-clause-ordered c = valid-ordered 0 (map_ranges c.args.map.now) c.requires.1 c.requires.2
