-- What is handed out is what the rule gives of the free ranges.
use Rattle.std.specs.Prelude.{ℕ, List, Option, Some}
use Rattle.std.proofs.Math.Path.{◌≡◌}
use Rattle.std.proofs.Common.{ap}
use Rattle.host_params.specs.declared.AllocationPolicy.{AllocationPolicy}
use Rattle.host_params.specs.declared.AllocationType.{AllocationType}
use Rattle.address_space.specs.declared.request.AllocatedRange.{AllocatedRange}
use Rattle.address_space.specs.declared.table.AddressRange.{AddressRange}
use Rattle.address_space.specs.Request.{handed, allocated}
use Rattle.address_space.specs.Search.{in_order_of}
use Rattle.ledger.specs.Search.{given_of}
use Rattle.ledger.specs.Claim.{free_of}
use Rattle.ledger.specs.Laws.Free.{free_in_order, first-free}
use Rattle.ledger.specs.Laws.Allocated.{allocated_from}

module _ (asked : Option ℕ) (len : ℕ) (type : AllocationType) (policy : AllocationPolicy) (alignment : Option ℕ) (es : List AddressRange) where
  -- the rule gives the same of the free ranges
  pub allocated-given : (x : AllocatedRange) (es' : List AddressRange) → allocated asked len type policy alignment es ≡ handed x es'
      → given_of asked len policy alignment (free_of es) ≡ Some x
  allocated-given x es' h =
      let w = allocated_from asked len type policy alignment es x es' h in
      rw (← free_in_order policy es, first-free asked len alignment (in_order_of policy es), w.finds) (ap Some w.gives)
