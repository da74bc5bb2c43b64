-- Requests: on a sound table each leaves a sound table, and hands out what was free.
use Rattle.std.specs.Prelude.{ℕ, ◌%◌, ◌<◌, true, List, Option, Some, None}
use Rattle.std.proofs.Math.Path.{◌≡◌, refl}
use Rattle.std.proofs.Common.{arith}
use Rattle.refusal.specs.declared.Refusal.{Refusal}
use Rattle.memory_range.specs.declared.range.TaggedRange.{TaggedRange}
use Rattle.memory_range.specs.Round.{round_up}
use Rattle.memory_range.specs.Valid.{page_size}
use Rattle.memory_range.specs.Laws.Round.{up_multiple, up_above}
use Rattle.host_params.specs.declared.AllocationPolicy.{AllocationPolicy}
use Rattle.host_params.specs.declared.AllocationType.{AllocationType}
use Rattle.address_space.specs.declared.request.AllocatedRange.{AllocatedRange}
use Rattle.address_space.specs.declared.table.AddressRange.{AddressRange}
use Rattle.address_space.specs.Fit.{fits_in}
use Rattle.address_space.specs.Request.{handed, alignment_good, rows_refusal, placed_from, allocated, requested}
use Rattle.address_space.specs.Search.{Search, nothing, found, in_order_of, searched, below_in, above_in}
use Rattle.address_space.specs.Laws.Request.{requested_refused}
use Rattle.address_space.specs.Laws.Search.{found_in-table, found-fits}
use Rattle.memory_claims.specs.Claim.{Sound, Handed, Of64Bits}
use Rattle.memory_claims.specs.Laws.Part.{at-page}
use Rattle.memory_claims.specs.Laws.Request.{passed-rows, rows-passed}
use Rattle.memory_claims.proofs.Placed.{placed_claimed}

module _ (asked : Option ℕ) (len : ℕ) (type : AllocationType) (policy : AllocationPolicy) (alignment : Option ℕ) (es : List AddressRange) where
  -- the search and the split, for a length in whole pages
  pub allocated-handed : (ram : List TaggedRange) (x : AllocatedRange) (es' : List AddressRange)
      → Sound ram es → len % page_size ≡ 0 → 0 < len → alignment_good alignment ≡ true → Of64Bits alignment
      → allocated asked len type policy alignment es ≡ handed x es' → Sound ram es' × Handed asked len type policy alignment es x es'
  unfolding allocated
  allocated-handed ram x es' sound pages some_bytes good bits e = go (searched policy (fits_in asked len alignment) es) refl e
    where
      go : (s : Search AddressRange) → searched policy (fits_in asked len alignment) es ≡ s → placed_from len type policy alignment s ≡ handed x es'
          → Sound ram es' × Handed asked len type policy alignment es x es'
      go nothing p q = cc
      go (found before y after) p q =
          let whole = found_in-table policy (fits_in asked len alignment) es before y after p in
          let fits = found-fits (fits_in asked len alignment) (in_order_of policy es) before y after p in
          rw whole
          (placed_claimed asked len type policy alignment pages some_bytes good bits ram (below_in policy before after) y (above_in policy before after) x es'
          (rw whole at sound) fits q)

module _ (asked : Option ℕ) (len : ℕ) (type : AllocationType) (policy : AllocationPolicy) (alignment : Option ℕ) (es : List AddressRange) where
  -- a request
  pub requested-handed : (ram : List TaggedRange) (x : AllocatedRange) (es' : List AddressRange)
      → Sound ram es → Of64Bits alignment → requested asked len type policy alignment es ≡ handed x es'
      → Sound ram es' × Handed asked (round_up page_size len) type policy alignment es x es'
  requested-handed ram x es' sound bits e = go (rows_refusal len alignment) refl
    where
      go : (o : Option Refusal) → rows_refusal len alignment ≡ o → Sound ram es' × Handed asked (round_up page_size len) type policy alignment es x es'
      go (Some n) passed = let r = requested_refused asked len type policy alignment es n (rw passed) in cc
      go None passed =
          let kept = rows-passed asked len type policy alignment es passed in
          let pages = at-page (round_up page_size len) (up_multiple page_size len) in
          let some_bytes : 0 < round_up page_size len = omega (arith, up_above page_size len (omega arith)) in
          allocated-handed asked (round_up page_size len) type policy alignment es ram x es' sound pages some_bytes kept.1 bits (rw (passed-rows asked len type policy alignment es passed) at e)
