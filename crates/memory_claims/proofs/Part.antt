-- A valid range gives a request for so many bytes what `Given` says.
use Rattle.std.specs.Prelude.{ℕ, ◌%◌, ◌≤◌, ◌<◌, ◌≡◌, true, Option}
use Rattle.std.proofs.Common.{arith}
use Rattle.memory_range.specs.declared.range.MemoryRange.{MemoryRange}
use Rattle.memory_range.specs.Range.{length_of}
use Rattle.memory_range.specs.Valid.{page_size, valid_range}
use Rattle.memory_range.specs.Laws.Valid.{valid-range}
use Rattle.host_params.specs.declared.AllocationPolicy.{AllocationPolicy}
use Rattle.address_space.specs.Fit.{aligned_to}
use Rattle.address_space.specs.Request.{alignment_good}
use Rattle.address_space.specs.Split.{allotted}
use Rattle.memory_claims.specs.Claim.{Of64Bits}
use Rattle.memory_claims.specs.Laws.Part.{Given, inside_aligned, allotted_inside, ends_aligned, pages_aligned, allotted-pages, allotted_aligned}

pub given : (policy : AllocationPolicy) (len : ℕ) (alignment : Option ℕ) (r : MemoryRange) → len % page_size ≡ 0 → 0 < len
    → alignment_good alignment ≡ true → Of64Bits alignment → valid_range r ≡ true → len ≤ length_of (aligned_to alignment r)
    → Given policy len alignment r (allotted policy len (aligned_to alignment r))
given policy len alignment r pages some_bytes good bits valid enough =
    let part = aligned_to alignment r in
    let outer = inside_aligned alignment r (omega arith) in
    let inner = allotted_inside policy len part some_bytes enough in
    let ends = pages_aligned alignment r bits good valid in
    let at-pages = allotted-pages policy len part some_bytes enough ends.0 ends.1 pages in
    record {
      length = inner.2;
      inside = (omega arith, omega arith, omega arith);
      valid = valid-range (allotted policy len part) (omega arith) at-pages.0 at-pages.1;
      aligned = allotted_aligned policy len alignment part (ends_aligned alignment r);
    }
