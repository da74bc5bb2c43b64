-- Some build is accepted, so that the claims are about something: RAM from 200000 to 210000, of which the boot shim uses the first four pages, two of
-- them for the persisted state.
use Rattle.std.specs.Prelude.{◌≡◌, refl, [], ◌∷◌}
use Rattle.memory_range.specs.List.{tagged}
use Rattle.memory_range.specs.Range.{range, overlap_ranges}
use Rattle.range_lists.specs.Walk.{walk_from}
use Rattle.address_space.specs.declared.usage.AddressUsage.TheVariants.{Free, Used, Reserved}
use Rattle.address_space.specs.declared.usage.ReservedMemoryType.TheVariants.{PersistedStateHeader, PersistedStatePayload}
use Rattle.address_space.specs.Table.{entry}
use Rattle.address_space.specs.Usage.{usage_of}
use Rattle.memory.specs.Build.{build, built, filled, table_of}
use Rattle.memory.specs.Builder.{builder_of, singles_valid}
use Rattle.memory.specs.Rows.{rows_refusal}
use Rattle.memory.specs.Used.{used_of, used_refusal}

pub one-built : build (builder_of (range 2097152 2113536) (range 2097152 2105344)) 0 (tagged 2097152 2162688 0 ∷ []) [] []
    ≡ built (
    entry (range 2097152 2101248) 0 (Reserved PersistedStateHeader) ∷
    entry (range 2101248 2105344) 0 (Reserved PersistedStatePayload) ∷
    entry (range 2105344 2113536) 0 Used ∷
    entry (range 2113536 2162688) 0 Free ∷
    [])
unfolding build rows_refusal singles_valid used_refusal used_of filled table_of usage_of walk_from overlap_ranges
one-built = refl
