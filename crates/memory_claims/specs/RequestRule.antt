-- The rows of the refusal chart that concern a request, each as a rule by itself (docs/SPEC.md, section 25): a request that is met keeps
-- every rule, and a refusal tells the number of the first one that is broken.
use Rattle.std.specs.Prelude.{ℕ, ◌+◌, ◌-◌, ◌^◌, ◌≤◌, ◌<◌, ◌≡◌, true, false, List, ◌∷◌, ◌++◌, length, Option, Some, None}
use Rattle.refusal.specs.Number.{length_zero, length_too_large, alignment_invalid, no_fit, table_full, number_of}
use Rattle.refusal.specs.Rule.{KeptBelow, BrokenAt}
use Rattle.memory_range.specs.Bytes.{All}
use Rattle.memory_range.specs.Round.{round_up}
use Rattle.memory_range.specs.Valid.{page_size}
use Rattle.host_params.specs.declared.AllocationPolicy.{AllocationPolicy}
use Rattle.host_params.specs.declared.AllocationPolicy.TheVariants.{LowMemory, HighMemory}
use Rattle.address_space.specs.declared.table.AddressRange.{AddressRange}
use Rattle.address_space.specs.Fit.{aligned_to, fits_in}
use Rattle.address_space.specs.Split.{allotted, part_count}
use Rattle.address_space.specs.Table.{max_address_ranges}

-- the rows, and their numbers
pub data RequestRow : Type 0 where
  row22 row23 row24 row25 row26 : RequestRow

abbrev pub number : RequestRow → ℕ
number row22 = number_of length_zero
number row23 = number_of length_too_large
number row24 = number_of alignment_invalid
number row25 = number_of no_fit
number row26 = number_of table_full

-- a power of two of 64 bits, or none is given
abbrev pub GoodAlignment : Option ℕ → Type 0
GoodAlignment (Some m) = (k : ℕ) × (k < 64) × (m ≡ 2 ^ k)
GoodAlignment None = Unit {0}

-- the entries that are looked at before the one between these: low begins at the bottom, high at the top
abbrev pub seen_before : AllocationPolicy → List AddressRange → List AddressRange → List AddressRange
seen_before LowMemory below above = below
seen_before HighMemory below above = above

-- how many entries a split around the range that an entry gives adds to the table
abbrev pub added_by : ℕ → AllocationPolicy → Option ℕ → AddressRange → ℕ
added_by len policy alignment e =
    let used = allotted policy len (aligned_to alignment e.range) in
    part_count e.range.start used.start + part_count used.end e.range.end

module _ (asked : Option ℕ) (len : ℕ) (policy : AllocationPolicy) (alignment : Option ℕ) (es : List AddressRange) where
  -- an entry fits, and none that is looked at before it
  abbrev pub FirstFit : List AddressRange → AddressRange → List AddressRange → Type 0
  FirstFit below e above =
      let fits = fits_in asked (round_up page_size len) alignment in
      (es ≡ below ++ e ∷ above) × (fits e ≡ true) × All (λ y. fits y ≡ false) (seen_before policy below above)

  abbrev pub RequestRule : RequestRow → Type 0
  RequestRule row22 = 0 < len
  RequestRule row23 = len ≤ 2 ^ 64 - page_size
  RequestRule row24 = GoodAlignment alignment
  -- some entry fits
  RequestRule row25 =
      (below : List AddressRange) × (e : AddressRange) × (above : List AddressRange)
      × (es ≡ below ++ e ∷ above) × (fits_in asked (round_up page_size len) alignment e ≡ true)
  -- the first one that fits can be split within a table
  RequestRule row26 =
      (below : List AddressRange) (e : AddressRange) (above : List AddressRange) → FirstFit below e above
      → length es + added_by (round_up page_size len) policy alignment e ≤ max_address_ranges

  -- the rules of the rows below a number are kept
  abbrev pub RequestKept : ℕ → Type 0
  RequestKept = KeptBelow number RequestRule

  -- a rule is broken, and those above it in the chart are kept
  abbrev pub RequestBroken : ℕ → Type 0
  RequestBroken = BrokenAt number RequestRule number
