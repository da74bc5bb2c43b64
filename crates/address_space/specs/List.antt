-- The lists that are reported (docs/SPEC.md, section 23).
use Rattle.std.specs.Prelude.{ℕ, Bool, cond, ◌&&◌, List, [], ◌∷◌, ◌++◌, map, eqb, drop, Option, Some, None}
use Rattle.memory_range.specs.declared.range.MemoryRange.{MemoryRange}
use Rattle.memory_range.specs.declared.range.TaggedRange.{TaggedRange}
use Rattle.range_lists.specs.Merge.{merge_adjacent}
use Rattle.address_space.specs.declared.list.ReservedRange.{ReservedRange}
use Rattle.address_space.specs.declared.list.Vtl2Range.{Vtl2Range}
use Rattle.address_space.specs.declared.table.AddressRange.{AddressRange}
use Rattle.address_space.specs.declared.usage.AddressUsage.{AddressUsage}
use Rattle.address_space.specs.declared.usage.AddressUsage.TheVariants.{Free, Used, Reserved}
use Rattle.address_space.specs.Usage.{is_free, vtl_type_of, type_number}

-- a range with the number of its reported type
abbrev pub typed_range : AddressRange → TaggedRange
typed_range e = record { range = e.range; tag = type_number (vtl_type_of e.usage) }

abbrev pub typed_ranges : List AddressRange → List TaggedRange
typed_ranges = map typed_range

-- whether an entry goes on where a range of the type of this number ends
abbrev pub continues_at : ℕ → ℕ → AddressRange → Bool
continues_at end number e = eqb end e.range.start && eqb number (type_number (vtl_type_of e.usage))

-- all ranges with their types: touching ones of one type are joined, whatever their nodes
abbrev pub vtl2_ranges : List AddressRange → List TaggedRange
vtl2_ranges es = merge_adjacent (typed_ranges es)

-- ranges that are handed out, each with the number of its type
abbrev pub numbered_range : Vtl2Range → TaggedRange
numbered_range r = record { range = r.range; tag = type_number r.vtl_type }

abbrev pub numbered_ranges : List Vtl2Range → List TaggedRange
numbered_ranges = map numbered_range

-- the reserved entries, in the table's order, unjoined
abbrev pub reserved_in : MemoryRange → AddressUsage → List ReservedRange
reserved_in r Free = []
reserved_in r Used = []
reserved_in r (Reserved t) = record { range = r; reserved_type = t } ∷ []

abbrev pub reserved_ranges : List AddressRange → List ReservedRange
reserved_ranges [] = []
reserved_ranges (e ∷ es) = reserved_in e.range e.usage ++ reserved_ranges es

-- the free entries of a node, in the table's order, unjoined
abbrev pub is_free_on : ℕ → AddressRange → Bool
is_free_on n e = eqb e.vnode n && is_free e.usage

abbrev pub free_ranges : ℕ → List AddressRange → List MemoryRange
free_ranges n [] = []
free_ranges n (e ∷ es) = cond (is_free_on n e) (e.range ∷ free_ranges n es) (free_ranges n es)

-- what a step's answer stands for: the item that it yields and those from its index on
abbrev pub vtl2_stepped : List AddressRange → Option (Vtl2Range × ℕ) → List TaggedRange
vtl2_stepped es (Some (r, next)) = numbered_range r ∷ vtl2_ranges (drop next es)
vtl2_stepped es None = []

abbrev pub reserved_stepped : List AddressRange → Option (ReservedRange × ℕ) → List ReservedRange
reserved_stepped es (Some (r, next)) = r ∷ reserved_ranges (drop next es)
reserved_stepped es None = []

abbrev pub free_stepped : ℕ → List AddressRange → Option (MemoryRange × ℕ) → List MemoryRange
free_stepped n es (Some (r, next)) = r ∷ free_ranges n (drop next es)
free_stepped n es None = []
