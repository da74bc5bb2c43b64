-- The claims of the table's value: what a request leaves in it.
use Rattle.std.specs.Prelude.{ℕ, ◌%◌, ◌<◌, ◌≡◌, refl, true, ◌||◌, List, Option}
use Rattle.memory_range.specs.declared.range.TaggedRange.{TaggedRange}
use Rattle.memory_range.specs.Valid.{page_size}
use Rattle.host_params.specs.declared.AllocationPolicy.{AllocationPolicy}
use Rattle.host_params.specs.declared.AllocationType.{AllocationType}
use Rattle.address_space.specs.declared.request.AllocatedRange.{AllocatedRange}
use Rattle.address_space.specs.declared.table.AddressRange.{AddressRange}
use Rattle.address_space.specs.declared.table.AddressSpaceManager.{AddressSpaceManager}
use Rattle.address_space.specs.Request.{Outcome, refused, handed, alignment_good, allocated, requested, allocation_as}
use Rattle.address_space.specs.Table.{entries_of, pool_of}
use Rattle.address_space.specs.Usage.{is_pool}
use Rattle.address_space.specs.Laws.Split.{entries_with}
use Rattle.memory_claims.specs.Claim.{Sound, Of64Bits}
use Rattle.memory_claims.proofs.Request.{allocated-handed, requested-handed}

module _ (m : AddressSpaceManager) (asked : Option ℕ) (len : ℕ) (type : AllocationType) (policy : AllocationPolicy) (alignment : Option ℕ)
    (ram : List TaggedRange) (sound : Sound ram (entries_of m)) (bits : Of64Bits alignment) where
  -- the table is as found after a refusal, and else has the entries of the outcome
  outcome-keeps : (o : Outcome) → ((x : AllocatedRange) (es : List AddressRange) → o ≡ handed x es → Sound ram es)
      → Sound ram (entries_of (allocation_as m type o).manager)
  outcome-keeps (refused n) f = sound
  outcome-keeps (handed x es) f = rw (entries_with m es (pool_of m || is_pool type)) (f x es refl)

  -- a request leaves a sound table, whether it is refused or not
  pub request-keeps : Sound ram (entries_of (allocation_as m type (requested asked len type policy alignment (entries_of m))).manager)
  request-keeps =
      outcome-keeps (requested asked len type policy alignment (entries_of m))
      (λ x es e. (requested-handed asked len type policy alignment (entries_of m) ram x es sound bits e).0)

  -- so do the search and the split alone, for a length in whole pages
  pub core-keeps : len % page_size ≡ 0 → 0 < len → alignment_good alignment ≡ true
      → Sound ram (entries_of (allocation_as m type (allocated asked len type policy alignment (entries_of m))).manager)
  core-keeps pages some_bytes good =
      outcome-keeps (allocated asked len type policy alignment (entries_of m))
      (λ x es e. (allocated-handed asked len type policy alignment (entries_of m) ram x es sound pages some_bytes good bits e).0)
