-- The copy of a map comes to the choice of the map.
use Rattle.std.proofs.Common.{refl, ap, ◌∙◌}
use Rattle.host_map.specs.Map.{map_of}
use Rattle.vtl2_ram.specs.Ram.{ram_as}
use Rattle.vtl2_ram.specs.Laws.Copied.{copied, choice-copied}
use Rattle.vtl2_ram.proofs.select.select_from_lists.Goals as goal

pub select_copied-requires : goal.select_copied-requires
select_copied-requires c =
    let a = c.args in
    let map = map_of a.map_starts.now a.map_ends.now a.map_nodes.now a.map_protectable.now in
    rw c.copy_lists-copy.ensures (λ h. ((copied map h).0, refl))

pub returns : goal.returns
returns c =
    let a = c.args in
    let map = map_of a.map_starts.now a.map_ends.now a.map_nodes.now a.map_protectable.now in
    rw c.copy_lists-copy.ensures at c.select_copied.ensures ∙ ap ram_as (choice-copied a.mode a.isolation a.ram_size a.file map a.imports.now)
