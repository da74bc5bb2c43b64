-- A wrong answer of a request, refuted (docs/PROVED.md).
use Rattle.std.specs.Prelude.{ℕ, refl, Bool, false, List, [], ◌∷◌, Option, Some, None}
use Rattle.std.proofs.Common.{ap}
use Rattle.std.proofs.lemmas.Bool.{false≢true}
use Rattle.memory_range.specs.Range.{range}
use Rattle.host_params.specs.declared.AllocationPolicy.{AllocationPolicy}
use Rattle.host_params.specs.declared.AllocationType.{AllocationType}
use Rattle.address_space.specs.declared.table.AddressRange.{AddressRange}
use Rattle.address_space.specs.declared.usage.AddressUsage.TheVariants.{Used}
use Rattle.address_space.specs.Table.{entry}
use Rattle.address_space.specs.Usage.{is_free}
use Rattle.memory_claims.specs.Claim.{Note, Handed}

-- whether a byte is said to be free
abbrev said_free : Option Note → Bool
said_free None = false
said_free (Some n) = is_free n.usage

-- a byte handed out that was not free
pub handed-not-free : (asked : Option ℕ) (len : ℕ) (type : AllocationType) (policy : AllocationPolicy) (alignment : Option ℕ) (es : List AddressRange)
    → Handed asked len type policy alignment (entry (range 0x1000 0x2000) 0 Used ∷ []) (record { range = range 0x1000 0x2000; vnode = 0 }) es → ⊥
handed-not-free asked len type policy alignment es h = false≢true (ap said_free (h.was_free 0x1000 refl))
