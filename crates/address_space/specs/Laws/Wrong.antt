-- Wrong answers of the table, each refuted (docs/PROVED.md).
use Rattle.std.specs.Prelude.{ℕ, ◌<◌, ◌≡◌, Bool, true, false, List, [], ◌∷◌, ◌≢◌, eqb, length, Option, Some, None}
use Rattle.std.proofs.Common.{ap, true≢false, arith, le-ltb, length-take}
use Rattle.std.proofs.lemmas.Bool.{false≢true}
use Rattle.refusal.specs.declared.Refusal.{Refusal}
use Rattle.refusal.specs.Number.{number_of, alignment_invalid, no_fit, table_full}
use Rattle.memory_range.specs.declared.range.MemoryRange.{MemoryRange}
use Rattle.memory_range.specs.declared.range.TaggedRange.{TaggedRange}
use Rattle.memory_range.specs.Align.{aligned_part}
use Rattle.memory_range.specs.Bytes.{byte_count}
use Rattle.memory_range.specs.List.{tagged}
use Rattle.memory_range.specs.Power.{bit_count}
use Rattle.memory_range.specs.Range.{range}
use Rattle.host_params.specs.declared.AllocationPolicy.{AllocationPolicy}
use Rattle.host_params.specs.declared.AllocationPolicy.TheVariants.{LowMemory, HighMemory}
use Rattle.host_params.specs.declared.AllocationType.TheVariants as allocation
use Rattle.host_params.specs.declared.MemoryVtlType.{MemoryVtlType}
use Rattle.host_params.specs.declared.MemoryVtlType.TheVariants as vtl
use Rattle.address_space.specs.declared.list.ReservedRange.{ReservedRange}
use Rattle.address_space.specs.declared.request.AllocatedRange.{AllocatedRange}
use Rattle.address_space.specs.declared.table.AddressRange.{AddressRange}
use Rattle.address_space.specs.declared.table.AddressSpaceManager.{AddressSpaceManager}
use Rattle.address_space.specs.declared.usage.AddressUsage.TheVariants.{Free, Used, Reserved}
use Rattle.address_space.specs.declared.usage.ReservedMemoryType.TheVariants.{Vtl2Config, SidecarNode}
use Rattle.address_space.specs.List.{vtl2_ranges, reserved_ranges, free_ranges}
use Rattle.address_space.specs.Request.{Outcome, refused, handed, placed_as, allocated, requested, allocation_as, search_refusal}
use Rattle.address_space.specs.Split.{free_entry}
use Rattle.address_space.specs.Table.{entry, entries_of, pool_of, table_with, empty_table, ranges_at}
use Rattle.address_space.specs.Usage.{is_free, vtl_type_of, type_number}

-- what the answers are told apart by
abbrev is_handed : Outcome → Bool
is_handed (refused n) = false
is_handed (handed x es) = true

abbrev refusal_of : Outcome → ℕ
refusal_of (refused n) = number_of n
refusal_of (handed x es) = 0

abbrev start_of : Outcome → ℕ
start_of (refused n) = 0
start_of (handed x es) = x.range.start

abbrev bytes_after : Outcome → ℕ
bytes_after (refused n) = 0
bytes_after (handed x es) = byte_count (ranges_at es)

abbrev is_none : {A : Type 0} → List A → Bool
is_none [] = true
is_none (x ∷ xs) = false

abbrev passes : Option Refusal → Bool
passes None = true
passes (Some n) = false

-- an entry of node 0 that is free
abbrev pub free_at : ℕ → ℕ → List AddressRange
free_at start end = free_entry 0 (range start end) ∷ []

-- a range of node 0 that is handed out
abbrev pub handed_at : ℕ → ℕ → AllocatedRange
handed_at start end = record { range = range start end; vnode = 0 }

-- a request of one byte for a sidecar node
abbrev pub one_byte : AllocationPolicy → Option ℕ → List AddressRange → Outcome
one_byte policy alignment es = requested None 1 allocation.SidecarNode policy alignment es

-- the part above lost: what is left of the entry starts at its end
pub part_above_lost :
    one_byte LowMemory None (free_at 0x1000 0x3000)
    ≢ handed (handed_at 0x1000 0x2000) (entry (range 0x1000 0x2000) 0 (Reserved SidecarNode) ∷ free_at 0x3000 0x3000)
unfolding requested allocated
part_above_lost e = true≢false (ap (λ (o : Outcome). eqb (bytes_after o) 0x2000) e)

-- 256 entries refused
pub full-table_refused : (x : AllocatedRange) (es : List AddressRange) → length es ≡ 256 → placed_as x es ≢ refused table_full
full-table_refused x es h e = true≢false (ap is_handed (rw (le-ltb 256 (length es) (omega arith)) at e))

-- the flag not set, where a range of the pool is handed out
pub flag-not-set : (x : AllocatedRange) (es : List AddressRange) → pool_of (allocation_as empty_table allocation.GpaPool (handed x es)).manager ≢ false
flag-not-set x es e = true≢false e

-- 24 left to the search, which finds nothing in an empty table
pub alignment-after_search : one_byte LowMemory (Some 3) [] ≢ refused no_fit
unfolding requested bit_count
alignment-after_search e = true≢false (ap (λ (o : Outcome). eqb (refusal_of o) (number_of alignment_invalid)) e)

-- the start of a high range aligned (P11)
pub high-start_aligned : (es : List AddressRange)
    → one_byte HighMemory (Some 0x4000) (free_at 0x205000 0x20e000) ≢ handed (handed_at 0x20c000 0x20d000) es
unfolding requested allocated aligned_part bit_count
high-start_aligned es e = true≢false (ap (λ (o : Outcome). eqb (start_of o) 0x20b000) e)

-- no-fit where an entry fits
pub no_fit_where-one-fits : search_refusal None 0x1000 LowMemory None (free_at 0x1000 0x2000) ≢ Some no_fit
no_fit_where-one-fits e = true≢false (ap passes e)

-- an alignment that is not good passed
pub bad_alignment-passed : search_refusal None 0x1000 LowMemory (Some 3) (free_at 0x1000 0x3000) ≢ None
unfolding bit_count
bad_alignment-passed e = false≢true (ap passes e)

-- only joined within a node
pub joined_within-node :
    vtl2_ranges (entry (range 0x1000 0x2000) 0 Used ∷ entry (range 0x2000 0x3000) 1 Used ∷ [])
    ≢ tagged 0x1000 0x2000 (type_number vtl.Ram) ∷ tagged 0x2000 0x3000 (type_number vtl.Ram) ∷ []
joined_within-node e = true≢false (ap (λ (xs : List TaggedRange). eqb (length xs) 1) e)

-- free not joined with used
pub free-not_joined :
    vtl2_ranges (entry (range 0x1000 0x2000) 0 Free ∷ entry (range 0x2000 0x3000) 0 Used ∷ [])
    ≢ tagged 0x1000 0x2000 (type_number vtl.Ram) ∷ tagged 0x2000 0x3000 (type_number vtl.Ram) ∷ []
free-not_joined e = true≢false (ap (λ (xs : List TaggedRange). eqb (length xs) 1) e)

-- used entries listed
pub used-listed : (x : ReservedRange) → reserved_ranges (entry (range 0x1000 0x2000) 0 Used ∷ []) ≢ x ∷ []
used-listed x e = true≢false (ap is_none e)

-- reserved ones joined
pub reserved_joined :
    reserved_ranges (entry (range 0x1000 0x2000) 0 (Reserved Vtl2Config) ∷ entry (range 0x2000 0x3000) 0 (Reserved Vtl2Config) ∷ [])
    ≢ record { range = range 0x1000 0x3000; reserved_type = Vtl2Config } ∷ []
reserved_joined e = true≢false (ap (λ (xs : List ReservedRange). eqb (length xs) 2) e)

-- free entries of other nodes too
pub free_of_any-node :
    free_ranges 1 (free_entry 0 (range 0x1000 0x2000) ∷ free_entry 1 (range 0x2000 0x3000) ∷ []) ≢ range 0x1000 0x2000 ∷ range 0x2000 0x3000 ∷ []
free_of_any-node e = true≢false (ap (λ (rs : List MemoryRange). eqb (length rs) 1) e)

-- used entries among the free ones
pub used_among-free : free_ranges 0 (entry (range 0x1000 0x2000) 0 Used ∷ []) ≢ range 0x1000 0x2000 ∷ []
used_among-free e = true≢false (ap is_none e)

-- a new table with the flag set
pub new_with_flag : pool_of empty_table ≢ true
new_with_flag e = false≢true e

-- a count above 256
pub count_above-256 : (m : AddressSpaceManager) → length m.address_space ≡ 256 → 256 < m.count → length (entries_of m) ≢ m.count
count_above-256 m h more e = omega (arith, length-take m.count m.address_space)

-- the count of free entries
pub count_of-free : length (entries_of (table_with empty_table (entry (range 0x1000 0x2000) 0 Used ∷ []) false)) ≢ 0
count_of-free e = false≢true (ap (eqb 0) e)

-- used memory free
pub used_is-free : is_free Used ≢ true
used_is-free e = false≢true e

-- the type of another
pub type_of_another : vtl_type_of (Reserved Vtl2Config) ≢ vtl.Reserved
type_of_another e = true≢false (ap (λ (t : MemoryVtlType). eqb (type_number t) 1) e)
