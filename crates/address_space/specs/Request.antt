-- Requests (docs/SPEC.md, section 22; document 01, Port order 5, and rows 22 to 26 of the chart).
use Rattle.std.specs.Prelude.{ℕ, ◌-◌, ◌^◌, Bool, true, cond, not, ◌||◌, List, [], ◌∷◌, ◌++◌, ltb, eqb, length, Option, Some, None, Result, Ok, Err}
use Rattle.refusal.specs.Number.{length_zero, length_too_large, alignment_invalid, no_fit, table_full}
use Rattle.refusal.specs.Rows.{refused_if, downward, unless}
use Rattle.memory_range.specs.Power.{is_power_of_two}
use Rattle.memory_range.specs.Round.{round_up}
use Rattle.memory_range.specs.Valid.{page_size}
use Rattle.host_params.specs.declared.AllocationPolicy.{AllocationPolicy}
use Rattle.host_params.specs.declared.AllocationType.{AllocationType}
use Rattle.address_space.specs.declared.request.AllocatedRange.{AllocatedRange}
use Rattle.address_space.specs.declared.request.Allocation.{Allocation}
use Rattle.address_space.specs.declared.table.AddressRange.{AddressRange}
use Rattle.address_space.specs.declared.table.AddressSpaceManager.{AddressSpaceManager}
use Rattle.address_space.specs.Fit.{aligned_to, fits_in}
use Rattle.address_space.specs.Search.{Search, nothing, found, searched, below_in, above_in}
use Rattle.address_space.specs.Split.{allotted, split_entry}
use Rattle.address_space.specs.Table.{max_address_ranges, entries_of, pool_of, table_with}
use Rattle.address_space.specs.Usage.{usage_for, is_pool}
use Rattle.refusal.specs.declared.Refusal.{Refusal}

-- what a request comes to: a refusal, or the range handed out with its node, and the entries afterwards
pub data Outcome : Type 0 where
  refused : Refusal → Outcome
  handed : AllocatedRange → List AddressRange → Outcome

-- an alignment is good where it is a power of two, or none is given
abbrev pub alignment_good : Option ℕ → Bool
alignment_good (Some a) = is_power_of_two a
alignment_good None = true

-- the rows above the search: 22, 23, 24
abbrev pub rows_refusal : ℕ → Option ℕ → Option Refusal
rows_refusal len alignment =
    downward
    (refused_if (eqb len 0) length_zero
    ∷ refused_if (ltb (2 ^ 64 - page_size) len) length_too_large
    ∷ refused_if (not (alignment_good alignment)) alignment_invalid
    ∷ [])

-- row 26: the range is handed out, unless the entries would be too many
abbrev pub placed_as : AllocatedRange → List AddressRange → Outcome
placed_as x es = cond (ltb max_address_ranges (length es)) (refused table_full) (handed x es)

-- the entry between those below and those above it is split around the range that it gives
abbrev pub placed : ℕ → AllocationType → AllocationPolicy → Option ℕ → List AddressRange → AddressRange → List AddressRange → Outcome
placed len type policy alignment below e above =
    let used = allotted policy len (aligned_to alignment e.range) in
    placed_as (record { range = used; vnode = e.vnode }) (below ++ split_entry used (usage_for type) e ++ above)

-- what a search comes to: row 25 where it ends at nothing
abbrev pub placed_from : ℕ → AllocationType → AllocationPolicy → Option ℕ → Search AddressRange → Outcome
placed_from len type policy alignment nothing = refused no_fit
placed_from len type policy alignment (found before e after) = placed len type policy alignment (below_in policy before after) e (above_in policy before after)

-- the search and the split, for a length in whole pages
unfoldable pub allocated : Option ℕ → ℕ → AllocationType → AllocationPolicy → Option ℕ → List AddressRange → Outcome
allocated asked len type policy alignment es = placed_from len type policy alignment (searched policy (fits_in asked len alignment) es)

-- a request: the rows above the search, and then the search for the length rounded up to pages
unfoldable pub requested : Option ℕ → ℕ → AllocationType → AllocationPolicy → Option ℕ → List AddressRange → Outcome
requested asked len type policy alignment es =
    unless refused (rows_refusal len alignment) (allocated asked (round_up page_size len) type policy alignment es)

-- row 25 of a search: it ends at nothing
abbrev pub missed : Search AddressRange → Option Refusal
missed nothing = Some no_fit
missed (found before e after) = None

-- rows 22 to 25 of a request
abbrev pub search_refusal : Option ℕ → ℕ → AllocationPolicy → Option ℕ → List AddressRange → Option Refusal
search_refusal asked len policy alignment es =
    downward (rows_refusal len alignment ∷ missed (searched policy (fits_in asked (round_up page_size len) alignment) es) ∷ [])

-- the rounded length, or the refusal, as an answer
abbrev pub length_as : Option Refusal → ℕ → Result ℕ Refusal
length_as None len = Ok len
length_as (Some r) len = Err r

-- the answer and the table: a refusal leaves the table as found, and a pool's range sets the flag
abbrev pub refused_with : AddressSpaceManager → Refusal → Allocation
refused_with m r = record { answer = Err r; manager = m }

abbrev pub allocation_as : AddressSpaceManager → AllocationType → Outcome → Allocation
allocation_as m type (refused r) = refused_with m r
allocation_as m type (handed x es) = record { answer = Ok x; manager = table_with m es (pool_of m || is_pool type) }

-- a request made of a table: the answer, and the table afterwards
abbrev pub requested_on : AddressSpaceManager → Option ℕ → ℕ → AllocationType → AllocationPolicy → Option ℕ → Allocation
requested_on m asked len type policy alignment = allocation_as m type (requested asked len type policy alignment (entries_of m))
