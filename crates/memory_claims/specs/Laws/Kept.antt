-- The claim of the table's value after a build (after a request: proofs/Kept).
use Rattle.std.specs.Prelude.{◌≡◌, ◌||◌, List, length}
use Rattle.memory_range.specs.declared.range.MemoryRange.{MemoryRange}
use Rattle.memory_range.specs.declared.range.TaggedRange.{TaggedRange}
use Rattle.address_space.specs.declared.table.AddressRange.{AddressRange}
use Rattle.address_space.specs.declared.table.AddressSpaceManager.{AddressSpaceManager}
use Rattle.address_space.specs.Table.{entries_of, pool_of}
use Rattle.address_space.specs.Laws.Split.{entries_with}
use Rattle.memory.specs.declared.builder.AddressSpaceManagerBuilder.{AddressSpaceManagerBuilder}
use Rattle.memory.specs.Build.{built, build, has_pool, init_as}
use Rattle.memory_claims.specs.Claim.{Built}
use Rattle.memory_claims.specs.Laws.Build.{build_claimed}

-- a build that is not refused leaves a table of which the claims of a build hold
pub init_claimed : (m : AddressSpaceManager) (b : AddressSpaceManagerBuilder) (ram : List TaggedRange) (configs pools : List MemoryRange)
    (es : List AddressRange) → build b (length (entries_of m)) ram configs pools ≡ built es
    → Built b ram configs pools (entries_of (init_as m (has_pool pools) (build b (length (entries_of m)) ram configs pools)).manager)
init_claimed m b ram configs pools es e =
    rw (e, entries_with m es (pool_of m || has_pool pools)) (build_claimed b (length (entries_of m)) ram configs pools es e)
