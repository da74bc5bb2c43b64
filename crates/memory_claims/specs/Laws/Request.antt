-- Requests: what the rows above the search leave to it, and where no entry fits.
use Rattle.std.specs.Prelude.{ℕ, ◌-◌, ◌^◌, ◌≤◌, ◌<◌, true, false, not, List, [], ◌∷◌, ◌↔◌, ltb, eqb, Option, None}
use Rattle.std.proofs.Math.Path.{◌≡◌, refl}
use Rattle.std.proofs.Common.{arith, ltb-false}
use Rattle.std.proofs.lemmas.Bool.{eqb-false, not-false}
use Rattle.refusal.specs.Number.{length_zero, length_too_large, alignment_invalid, no_fit}
use Rattle.refusal.specs.Rows.{refused_if}
use Rattle.refusal.specs.Laws.Rows.{first-kept}
use Rattle.memory_range.specs.Bytes.{All}
use Rattle.memory_range.specs.Round.{round_up}
use Rattle.memory_range.specs.Valid.{page_size}
use Rattle.host_params.specs.declared.AllocationPolicy.{AllocationPolicy}
use Rattle.host_params.specs.declared.AllocationType.{AllocationType}
use Rattle.address_space.specs.declared.table.AddressRange.{AddressRange}
use Rattle.address_space.specs.Fit.{fits_in}
use Rattle.address_space.specs.Request.{refused, alignment_good, rows_refusal, placed_from, allocated, requested}
use Rattle.address_space.specs.Search.{Search, nothing, found, in_order_of, searched, below_in, above_in}
use Rattle.address_space.specs.Laws.Request.{requested_rounded}
use Rattle.address_space.specs.Laws.Search.{nothing-fits, in_order-all}
use Rattle.memory_claims.specs.Laws.Placed.{found-placed}

module _ (asked : Option ℕ) (len : ℕ) (type : AllocationType) (policy : AllocationPolicy) (alignment : Option ℕ) (es : List AddressRange) where
  -- the search ends at nothing exactly where no entry fits
  pub allocated_no_fit : (allocated asked len type policy alignment es ≡ refused no_fit) ↔ All (λ e. fits_in asked len alignment e ≡ false) es
  unfolding allocated
  allocated_no_fit =
      (there (searched policy (fits_in asked len alignment) es) refl, λ h. rw (ends.1 (all.1 h)))
    where
      all : All (λ e. fits_in asked len alignment e ≡ false) (in_order_of policy es) ↔ All (λ e. fits_in asked len alignment e ≡ false) es
      all = in_order-all (λ e. fits_in asked len alignment e ≡ false) policy es

      ends : (searched policy (fits_in asked len alignment) es ≡ nothing) ↔ All (λ e. fits_in asked len alignment e ≡ false) (in_order_of policy es)
      ends = nothing-fits (fits_in asked len alignment) (in_order_of policy es)

      there : (s : Search AddressRange) → searched policy (fits_in asked len alignment) es ≡ s
          → placed_from len type policy alignment s ≡ refused no_fit → All (λ e. fits_in asked len alignment e ≡ false) es
      there nothing p q = all.0 (ends.0 p)
      there (found before y after) p q = absurd (found-placed len type policy alignment (below_in policy before after) y (above_in policy before after) q)

module _ (asked : Option ℕ) (len : ℕ) (type : AllocationType) (policy : AllocationPolicy) (alignment : Option ℕ) (es : List AddressRange) where
  -- past the rows above the search a request is the search and the split
  pub passed-rows : rows_refusal len alignment ≡ None
      → requested asked len type policy alignment es ≡ allocated asked (round_up page_size len) type policy alignment es
  passed-rows passed = requested_rounded asked len type policy alignment es (round_up page_size len) (rw passed)

  pub rows-passed : rows_refusal len alignment ≡ None → (0 < len) × (alignment_good alignment ≡ true) × (len ≤ 2 ^ 64 - page_size)
  rows-passed passed =
      let last = refused_if (not (alignment_good alignment)) alignment_invalid ∷ [] in
      let some-length = first-kept (eqb len 0) length_zero (refused_if (ltb (2 ^ 64 - page_size) len) length_too_large ∷ last) passed in
      let small = first-kept (ltb (2 ^ 64 - page_size) len) length_too_large last some-length.1 in
      let good = first-kept (not (alignment_good alignment)) alignment_invalid [] small.1 in
      let more = eqb-false len 0 some-length.0 in
      (omega arith, not-false (alignment_good alignment) good.0, ltb-false (2 ^ 64 - page_size) len small.0)

  -- a request past the rows above the search is refused with 25 exactly where no entry fits
  pub requested_no_fit : rows_refusal len alignment ≡ None
      → (requested asked len type policy alignment es ≡ refused no_fit) ↔ All (λ e. fits_in asked (round_up page_size len) alignment e ≡ false) es
  requested_no_fit passed = rw (passed-rows passed) (allocated_no_fit asked (round_up page_size len) type policy alignment es)
