-- The worked examples (docs/SPEC.md, each in the section of its rule), P1 to P12, in one table.
use Rattle.std.specs.Prelude.{ℕ, ◌*◌, ◌/◌, ◌≡◌, true, List, [], ◌∷◌, map, Some, None}
use Rattle.refusal.specs.Number.{number_of}
use Rattle.host_params.specs.declared.Vtl2GpaPoolLookupTable.{Vtl2GpaPoolLookupTable}
use Rattle.host_params.specs.declared.Vtl2GpaPoolLookupTable.TheVariants.{Release, Debug}
use Rattle.memory_range.specs.Range.{range, length_of}
use Rattle.memory_range.specs.Valid.{page_size}
use Rattle.dma_hint.specs.Hint.{dma_hint_of}
use Rattle.boot_nodes.specs.Share.{share_of}
use Rattle.boot_take.specs.Take.{taken_start}
use Rattle.host_params.specs.declared.AllocationPolicy.{AllocationPolicy}
use Rattle.host_params.specs.declared.AllocationPolicy.TheVariants.{LowMemory, HighMemory}
use Rattle.host_params.specs.declared.AllocationType.TheVariants.{SidecarNode}
use Rattle.address_space.specs.declared.request.AllocatedRange.{AllocatedRange}
use Rattle.address_space.specs.declared.table.AddressRange.{AddressRange}
use Rattle.address_space.specs.Request.{Outcome, refused, handed, requested}
use Rattle.address_space.specs.Split.{free_entry}
use Rattle.private_pool.specs.Pool.{Placement, pool_placed}
use Rattle.private_pool.specs.Pool as placement

pub data Example : Type 0 where
  -- the hint of a table for so many processors and so many MiB of memory, in pages
  hint : Vtl2GpaPoolLookupTable → ℕ → ℕ → ℕ → Example
  -- a node's share of a RAM size over so many nodes
  share : ℕ → ℕ → ℕ → Example
  -- where the piece starts that is taken for a need from a free entry with this start and end
  taken : ℕ → ℕ → ℕ → ℕ → Example
  -- the pages of each range that a pool of so many pages is given where it is split over three nodes, each with 16 free pages
  pieces : ℕ → List ℕ → Example
  -- the refusal of such a pool
  unsplit : ℕ → ℕ → Example
  -- where the range starts and ends that a request of one byte, by its policy and alignment, is given from one free entry with
  -- this start and end
  given : ℕ → ℕ → AllocationPolicy → ℕ → ℕ → ℕ → Example
  -- the refusal of such a request
  turned : ℕ → ℕ → AllocationPolicy → ℕ → ℕ → Example

-- a request of one byte on a table with one free entry
abbrev pub one_byte : ℕ → ℕ → AllocationPolicy → ℕ → Outcome
one_byte start end policy alignment = requested None 1 SidecarNode policy (Some alignment) (free_entry 0 (range start end) ∷ [])

-- what an outcome tells: the range's start and end, or the refusal's number; 0 where there is none
abbrev pub start_of : Outcome → ℕ
start_of (refused n) = 0
start_of (handed x es) = x.range.start

abbrev pub end_of : Outcome → ℕ
end_of (refused n) = 0
end_of (handed x es) = x.range.end

abbrev pub refusal_of : Outcome → ℕ
refusal_of (refused n) = number_of n
refusal_of (handed x es) = 0

-- a pool of so many pages, split over a table with a free entry of 16 pages for each of three nodes
abbrev pub three_nodes : List AddressRange
three_nodes = free_entry 0 (range 0 0x10000) ∷ free_entry 1 (range 0x10000 0x20000) ∷ free_entry 2 (range 0x20000 0x30000) ∷ []

abbrev pub over_three : ℕ → Placement
over_three pages = pool_placed pages true three_nodes

-- what a placement tells: the pages of each range, or the refusal's number; none or 0 where there is none
abbrev pub pages_of_each : List AllocatedRange → List ℕ
pages_of_each = map (λ x. length_of x.range / page_size)

abbrev pub pages_placed : Placement → List ℕ
pages_placed (placement.refused n) = []
pages_placed (placement.placed xs es) = pages_of_each xs

abbrev pub placement_refusal : Placement → ℕ
placement_refusal (placement.refused n) = number_of n
placement_refusal (placement.placed xs es) = 0

-- that the definitions give an example's answer
abbrev pub Holds : Example → Type 0
Holds (hint table processors mib pages) = dma_hint_of table processors (mib * 1_048_576) ≡ pages
Holds (share size nodes bytes) = share_of size nodes ≡ bytes
Holds (taken need start end at) = taken_start need (range start end) ≡ at
Holds (pieces pages each) = pages_placed (over_three pages) ≡ each
Holds (unsplit pages number) = placement_refusal (over_three pages) ≡ number
Holds (given start end policy alignment from to) = (start_of (one_byte start end policy alignment) ≡ from) × (end_of (one_byte start end policy alignment) ≡ to)
Holds (turned start end policy alignment number) = refusal_of (one_byte start end policy alignment) ≡ number

abbrev pub AllHold : List Example → Type 0
AllHold [] = Unit
AllHold (e ∷ es) = Holds e × AllHold es

abbrev pub examples : List Example
examples =
    -- P1: an exact row. P2: a row of the count, but of other memory.
    hint Release 2 96 512 ∷
    hint Release 2 120 1_024 ∷
    -- P3, P4: no row of the count nor of a lower one, on both sides of a step of 2 MiB.
    hint Release 1 101 512 ∷
    hint Release 1 102 1_024 ∷
    -- P5: rows of the next lower count only; with the row above it would be 1,536.
    hint Release 3 140 1_024 ∷
    -- P6: the quotient is cut down before the step; raised it would be 3,584.
    hint Release 4 389 3_072 ∷
    -- P7: the row's ratio is 124,000, so the smallest stays at 100,000.
    hint Debug 4 449 1_536 ∷
    -- P8: divided down, then raised to 32,768; raised first it would be 65,536.
    share 65_537 2 32_768 ∷
    -- P9: the start is cut down to that of the entry, and all 61,440 bytes are taken; of an entry of 65,536 the upper half is.
    taken 32_768 0x400000 0x40f000 0x400000 ∷
    taken 32_768 0x400000 0x410000 0x408000 ∷
    -- P10: ten pages over three nodes: the last one gives the rest. Two pages are fewer than the nodes.
    pieces 10 (3 ∷ 3 ∷ 4 ∷ []) ∷
    unsplit 2 28 ∷
    -- P11: of the high range the end is aligned, and the start here is not; of the low range the start is.
    given 0x205000 0x20e000 HighMemory 0x4000 0x20b000 0x20c000 ∷
    given 0x205000 0x20e000 LowMemory 0x4000 0x208000 0x209000 ∷
    -- P12: no multiple of the alignment lies within, so no entry fits.
    turned 0x205000 0x20e000 HighMemory 0x10000 25 ∷
    turned 0x205000 0x20e000 LowMemory 0x10000 25 ∷
    []
