-- The choice is the one of the guest's isolation, from the answers of the two callees.
use Rattle.std.proofs.Common.{sym, ◌∙◌}
use Rattle.vtl2_ram.specs.Host.{host_choice}
use Rattle.vtl2_ram.proofs.host.parse_host_vtl2_ram.Goals as goal

pub returns-then-is_hardware_isolated : goal.returns-then-is_hardware_isolated
unfolding host_choice
returns-then-is_hardware_isolated c =
    let isolated = sym c.is_hardware_isolated.ensures ∙ c.if-is_hardware_isolated.true in
    rw isolated (rw c.protectable_bytes.ensures at c.isolated_ram.ensures)

pub returns : goal.returns
unfolding host_choice
returns c =
    let protectable = sym c.is_hardware_isolated.ensures ∙ c.if-is_hardware_isolated.false in
    rw protectable c.protectable_ram.ensures
