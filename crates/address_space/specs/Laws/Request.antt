-- Laws of requests: how the rows above the search, the search and the split come out.
use Rattle.std.specs.Prelude.{ℕ, ◌+◌, ◌-◌, ◌^◌, ◌≤◌, ◌<◌, ◌≡◌, true, false, List, [], ◌∷◌, length, take, drop, get_or, Some, None, Option, Ok, Err}
use Rattle.std.proofs.Math.Path.{refl}
use Rattle.std.proofs.Math.Decide.{dec_lt}
use Rattle.std.proofs.Common.{arith, eq-eqb, ne_eqb, lt-ltb, le-ltb}
use Rattle.refusal.specs.declared.Refusal.{Refusal}
use Rattle.refusal.specs.Number.{length_zero, length_too_large, alignment_invalid, no_fit}
use Rattle.refusal.specs.Rows.{downward, unless}
use Rattle.memory_range.specs.Round.{round_up, rounded_up}
use Rattle.memory_range.specs.Valid.{page_size}
use Rattle.memory_range.specs.Laws.Round.{rounded_within, rounded-beyond, page_divides}
use Rattle.host_params.specs.declared.AllocationPolicy.{AllocationPolicy}
use Rattle.host_params.specs.declared.AllocationType.{AllocationType}
use Rattle.address_space.specs.declared.table.AddressRange.{AddressRange}
use Rattle.address_space.specs.declared.table.AddressSpaceManager.{AddressSpaceManager}
use Rattle.address_space.specs.Fit.{fits_in}
use Rattle.address_space.specs.Request.{Outcome, refused, handed, alignment_good, rows_refusal, placed, placed_from, allocated, requested, length_as, allocation_as, missed, search_refusal}
use Rattle.address_space.specs.Search.{Search, nothing, found, searched, below_in, place_found}
use Rattle.address_space.specs.Table.{no_entry}
use Rattle.address_space.specs.Laws.Search.{found_at}

-- a length rounds up to pages within 64 bits exactly where it is at most 2^64 less a page
too_large : (len : ℕ) → rounded_up page_size len ≡ None → 2 ^ 64 - page_size < len
too_large len h =
    elim (dec_lt (2 ^ 64 - page_size) len) [
      | yes l ↦ l
      | no l ↦ absurd (let within = rounded_within page_size len (omega arith) page_divides (omega arith) in let z : ◌≡◌ {A = ℕ} 0 1 = cc in omega arith)
    ]

within : (len k : ℕ) → rounded_up page_size len ≡ Some k → (len ≤ 2 ^ 64 - page_size) × (round_up page_size len ≡ k)
within len k h =
    elim (dec_lt (2 ^ 64 - page_size) len) [
      | yes l ↦ absurd (let beyond = rounded-beyond page_size len (omega arith) page_divides l in let z : ◌≡◌ {A = ℕ} 0 1 = cc in omega arith)
      | no l ↦ (omega arith, let e = rounded_within page_size len (omega arith) page_divides (omega arith) in cc)
    ]

-- the rows by the tests of the code: row 22, 23, 24, or none
module _ (len : ℕ) (alignment : Option ℕ) where
  pub row_zero : len ≡ 0 → rows_refusal len alignment ≡ Some length_zero
  row_zero z = rw (eq-eqb len 0 z)

  module _ (more : len ≡ 0 → ⊥) where
    pub row_large : rounded_up page_size len ≡ None → rows_refusal len alignment ≡ Some length_too_large
    row_large h = rw (ne_eqb len 0 more, lt-ltb (2 ^ 64 - page_size) len (too_large len h))

    module _ (k : ℕ) (to : rounded_up page_size len ≡ Some k) where
      pub row_alignment : alignment_good alignment ≡ false → rows_refusal len alignment ≡ Some alignment_invalid
      row_alignment h = rw (ne_eqb len 0 more, le-ltb (2 ^ 64 - page_size) len (within len k to).0, h)

      pub row-none : alignment_good alignment ≡ true → length_as (rows_refusal len alignment) (round_up page_size len) ≡ Ok k
      row-none h = rw (ne_eqb len 0 more, le-ltb (2 ^ 64 - page_size) len (within len k to).0, h, (within len k to).1)

-- the rows' answer decides what comes after them
unless_refused : (o : Option Refusal) (k : ℕ) (r : Refusal) (x : Outcome) → length_as o k ≡ Err r → unless refused o x ≡ refused r
unless_refused None k n x h = cc
unless_refused (Some m) k n x h = cc

unless_rounded : (o : Option Refusal) (k n : ℕ) (f : ℕ → Outcome) → length_as o k ≡ Ok n → unless refused o (f k) ≡ f n
unless_rounded None k n f h = cc
unless_rounded (Some m) k n f h = cc

module _ (asked : Option ℕ) (len : ℕ) (type : AllocationType) (policy : AllocationPolicy) (alignment : Option ℕ) (es : List AddressRange) where
  placed_nowhere : (s : Search AddressRange) → place_found policy s ≡ None → placed_from len type policy alignment s ≡ refused no_fit
  placed_nowhere nothing h = refl
  placed_nowhere (found before x after) h = cc

  -- a search that ends nowhere is row 25
  pub allocated_nowhere : place_found policy (searched policy (fits_in asked len alignment) es) ≡ None
      → allocated asked len type policy alignment es ≡ refused no_fit
  unfolding allocated
  allocated_nowhere h = placed_nowhere (searched policy (fits_in asked len alignment) es) h

  -- the entry at an index of the table is split, with those below it and above it
  abbrev placed_at_index : ℕ → Outcome
  placed_at_index at = placed len type policy alignment (take at es) (get_or es at no_entry) (drop (at + 1) es)

  placed_at : (s : Search AddressRange) (at : ℕ) → searched policy (fits_in asked len alignment) es ≡ s → place_found policy s ≡ Some at
      → (at < length es) × (placed_from len type policy alignment s ≡ placed_at_index at)
  placed_at nothing at e h = absurd (let z : ◌≡◌ {A = ℕ} 0 1 = cc in omega arith)
  placed_at (found before x after) at e h =
      let w = found_at policy (fits_in asked len alignment) es before x after no_entry e in
      let i : length (below_in policy before after) ≡ at = cc in
      rw (← i) (w.0, rw (w.1.0, w.1.1.0, w.1.1.1))

  -- one that ends at an index splits the entry there
  pub allocated-at : (at : ℕ) → place_found policy (searched policy (fits_in asked len alignment) es) ≡ Some at
      → (at < length es) × (allocated asked len type policy alignment es ≡ placed_at_index at)
  unfolding allocated
  allocated-at at h = placed_at (searched policy (fits_in asked len alignment) es) at refl h

  pub requested_refused : (r : Refusal) → length_as (rows_refusal len alignment) (round_up page_size len) ≡ Err r
      → requested asked len type policy alignment es ≡ refused r
  unfolding requested
  requested_refused r h =
      unless_refused (rows_refusal len alignment) (round_up page_size len) r (allocated asked (round_up page_size len) type policy alignment es) h

  pub requested_rounded : (k : ℕ) → length_as (rows_refusal len alignment) (round_up page_size len) ≡ Ok k
      → requested asked len type policy alignment es ≡ allocated asked k type policy alignment es
  unfolding requested
  requested_rounded k h =
      unless_rounded (rows_refusal len alignment) (round_up page_size len) k (λ n. allocated asked n type policy alignment es) h

-- a request whose answer is a refusal leaves the table as found
pub refused_as-found : (m : AddressSpaceManager) (type : AllocationType) (o : Outcome) (r : Refusal) → (allocation_as m type o).answer ≡ Err r → (allocation_as m type o).manager ≡ m
refused_as-found m type (refused k) n h = refl
refused_as-found m type (handed x es) n h = cc

-- rows 22 to 25 by the tests of the code, and what they refuse is refused
missed_nowhere : (policy : AllocationPolicy) (s : Search AddressRange) → place_found policy s ≡ None → missed s ≡ Some no_fit
missed_nowhere policy nothing h = refl
missed_nowhere policy (found before x after) h = cc

missed-at : (policy : AllocationPolicy) (s : Search AddressRange) (at : ℕ) → place_found policy s ≡ Some at → missed s ≡ None
missed-at policy nothing at h = cc
missed-at policy (found before x after) at h = refl

first_refused : (o : Option Refusal) (k : ℕ) (r : Refusal) (m : Option Refusal) → length_as o k ≡ Err r → downward (o ∷ m ∷ []) ≡ Some r
first_refused None k n m h = cc
first_refused (Some r) k n m h = cc

second_refused : (o : Option Refusal) (k n : ℕ) (f : ℕ → Option Refusal) → length_as o k ≡ Ok n → downward (o ∷ f k ∷ []) ≡ downward (f n ∷ [])
second_refused None k n f h = cc
second_refused (Some r) k n f h = cc

missed_refused : (len : ℕ) (type : AllocationType) (policy : AllocationPolicy) (alignment : Option ℕ) (o : Option Refusal) (s : Search AddressRange) (n : Refusal)
    → downward (o ∷ missed s ∷ []) ≡ Some n → unless refused o (placed_from len type policy alignment s) ≡ refused n
missed_refused len type policy alignment (Some r) s n h = cc
missed_refused len type policy alignment None nothing n h = cc
missed_refused len type policy alignment None (found before x after) n h = cc

module _ (asked : Option ℕ) (len : ℕ) (policy : AllocationPolicy) (alignment : Option ℕ) (es : List AddressRange) where
  pub search-rows : (n : Refusal) → length_as (rows_refusal len alignment) (round_up page_size len) ≡ Err n
      → search_refusal asked len policy alignment es ≡ Some n
  search-rows n h = first_refused (rows_refusal len alignment) (round_up page_size len) n (missed (searched policy (fits_in asked (round_up page_size len) alignment) es)) h

  module _ (k : ℕ) (to : length_as (rows_refusal len alignment) (round_up page_size len) ≡ Ok k) where
    search_rounded : search_refusal asked len policy alignment es ≡ downward (missed (searched policy (fits_in asked k alignment) es) ∷ [])
    search_rounded = second_refused (rows_refusal len alignment) (round_up page_size len) k (λ n. missed (searched policy (fits_in asked n alignment) es)) to

    pub search_nowhere : place_found policy (searched policy (fits_in asked k alignment) es) ≡ None → search_refusal asked len policy alignment es ≡ Some no_fit
    search_nowhere h = rw (search_rounded, missed_nowhere policy (searched policy (fits_in asked k alignment) es) h)

    pub search-at : (at : ℕ) → place_found policy (searched policy (fits_in asked k alignment) es) ≡ Some at → search_refusal asked len policy alignment es ≡ None
    search-at at h = rw (search_rounded, missed-at policy (searched policy (fits_in asked k alignment) es) at h)

  pub search_refused : (type : AllocationType) (n : Refusal) → search_refusal asked len policy alignment es ≡ Some n
      → requested asked len type policy alignment es ≡ refused n
  unfolding requested allocated
  search_refused type n h =
      missed_refused (round_up page_size len) type policy alignment (rows_refusal len alignment) (searched policy (fits_in asked (round_up page_size len) alignment) es) n h
