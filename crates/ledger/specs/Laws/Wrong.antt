-- The claim says something: it is refuted for each of the wrong planners.
use Rattle.std.specs.Prelude.{◌≡◌, refl, Bool, true, false, List, [], ◌∷◌, Option, Some, None}
use Rattle.std.proofs.Common.{ap, true≢false}
use Rattle.std.proofs.lemmas.Option.{none-some}
use Rattle.memory_range.specs.declared.range.TaggedRange.{TaggedRange}
use Rattle.memory_range.specs.List.{tagged}
use Rattle.memory_range.specs.Range.{range, overlap_ranges}
use Rattle.range_lists.specs.Walk.{walk_from}
use Rattle.host_params.specs.declared.AllocationPolicy.TheVariants.{LowMemory}
use Rattle.host_params.specs.declared.AllocationType.TheVariants.{SidecarNode}
use Rattle.address_space.specs.declared.usage.AddressUsage.{AddressUsage}
use Rattle.address_space.specs.declared.usage.AddressUsage.TheVariants.{Free, Used, Reserved}
use Rattle.address_space.specs.declared.usage.ReservedMemoryType.TheVariants.{PersistedStateHeader, PersistedStatePayload}
use Rattle.address_space.specs.declared.table.AddressRange.{AddressRange}
use Rattle.address_space.specs.Request.{requested, allocated}
use Rattle.address_space.specs.Table.{entry}
use Rattle.address_space.specs.Usage.{usage_of}
use Rattle.memory.specs.declared.builder.AddressSpaceManagerBuilder.{AddressSpaceManagerBuilder}
use Rattle.memory.specs.Build.{build, filled, table_of}
use Rattle.memory.specs.Builder.{builder_of, singles_valid}
use Rattle.memory.specs.Rows.{rows_refusal}
use Rattle.memory.specs.Used.{used_of, used_refusal}
use Rattle.memory_claims.specs.Claim.{Note}
use Rattle.private_pool.specs.Pool.{pool_placed, split_placed}
use Rattle.ledger.specs.Call.{Call, request, pool}
use Rattle.vtl2_ram.specs.Laws.Select.{one-accepted}
use Rattle.ledger.specs.Claim.{Claim, Demand3}
use Rattle.ledger.specs.Wrong.{TableState, Ways, planner_of, unlooked, left_free, again, pieces_kept, neighbour, refusing}

-- the boot shim uses the first four pages of node 0, two of them for the persisted state
abbrev pub singles : AddressSpaceManagerBuilder
singles = builder_of (range 2097152 2113536) (range 2097152 2105344)

abbrev pub built_state : List AddressRange → TableState
built_state free =
    record {
      entries =
          entry (range 2097152 2101248) 0 (Reserved PersistedStateHeader) ∷
          entry (range 2101248 2105344) 0 (Reserved PersistedStatePayload) ∷
          entry (range 2105344 2113536) 0 Used ∷
          entry (range 2113536 2162688) 0 Free ∷
          free;
      flag = false;
      first = None;
    }

-- one node: RAM from 200000 to 210000
abbrev pub ram : List TaggedRange
ram = tagged 2097152 2162688 0 ∷ []

abbrev pub one : TableState
one = built_state []

-- and a second one, of a single page, at 300000
abbrev pub two_ram : List TaggedRange
two_ram = tagged 2097152 2162688 0 ∷ tagged 3145728 3149824 1 ∷ []

abbrev pub two : TableState
two = built_state (entry (range 3145728 3149824) 1 Free ∷ [])

-- each wrong planner comes from these builds to these states
pub one_builds : (ways : Ways) → (planner_of ways).build singles ram [] [] ≡ Some one
unfolding build rows_refusal singles_valid used_refusal used_of filled table_of usage_of walk_from overlap_ranges
one_builds ways = refl

pub two_builds : (ways : Ways) → (planner_of ways).build singles two_ram [] [] ≡ Some two
unfolding build rows_refusal singles_valid used_refusal used_of filled table_of usage_of walk_from overlap_ranges
two_builds ways = refl

-- whether a byte is said to be reserved
abbrev is_reserved : AddressUsage → Bool
is_reserved Free = false
is_reserved Used = false
is_reserved (Reserved t) = true

abbrev said_reserved : Option Note → Bool
said_reserved None = false
said_reserved (Some n) = is_reserved n.usage

-- a request for a page
abbrev pub page : Call
page = request (record { asked = None; len = 4096; type = SidecarNode; policy = LowMemory; alignment = None; bits = tt })

-- a free range fits, and the answer is no-fit
pub unlooked_refuted : Claim (planner_of unlooked) singles ram [] [] one (page ∷ []) → ⊥
unlooked_refuted c = true≢false ((c.calls_hold.0.searches refl).0 refl)

-- the second page is the first, which is free no more
pub left-free_refuted : Claim (planner_of left_free) singles ram [] [] one (page ∷ page ∷ []) → ⊥
unfolding requested allocated
left-free_refuted c = none-some _ (c.calls_hold.1.0.were-free.0 2113536 refl)

pub again_refuted : Claim (planner_of again) singles ram [] [] one (page ∷ page ∷ []) → ⊥
unfolding requested allocated
again_refuted c = none-some _ (c.calls_hold.1.0.were-free.0 2113536 refl)

-- the pool is refused, and 4 pages of node 0 are free no more
pub pieces-kept_refuted : Claim (planner_of pieces_kept) singles two_ram [] [] two (pool 8 true ∷ []) → ⊥
unfolding pool_placed split_placed allocated
pieces-kept_refuted c = true≢false (ap said_reserved (c.calls_hold.0.others-kept 2158592 refl))

-- the entry below the page was used, and is a config range
pub neighbour_refuted : Claim (planner_of neighbour) singles ram [] [] one (page ∷ []) → ⊥
unfolding requested allocated
neighbour_refuted c = true≢false (ap said_reserved (c.calls_hold.0.others-kept 2105344 refl))

-- a map is accepted, and it selects nothing
pub refusing_refuted : Demand3 refusing → ⊥
refusing_refuted d = none-some _ (d.selects _ _ _ _ _ _ _ one-accepted)
