-- The protectable entries are in order, as the map is.
use Rattle.vtl2_ram.specs.Laws.Map.{protectable-ordered}
use Rattle.vtl2_ram.proofs.host.protectable_ram.Goals as goal

pub chosen_ram-requires : goal.chosen_ram-requires
chosen_ram-requires c = rw c.in_ok-entries.ensures.0 (protectable-ordered 0 c.args.map.now c.requires)
