-- The part of a free range that a request is given: where it lies, its length, and that it starts and ends at a page. For this the
-- alignment has to be one of 64 bits.
use Rattle.std.specs.Prelude.{ℕ, ◌+◌, ◌-◌, ◌*◌, ◌/◌, ◌%◌, ◌^◌, ◌≤◌, ◌<◌, ◌≡◌, true, ◌⊎◌, Option, Some, None}
use Rattle.std.proofs.Common.{ap, sym, ◌∙◌, inl, inr, ⊎_elim, mul_assoc, arith}
use Rattle.std.proofs.lemmas.Nat.{pow-add}
use Rattle.std.proofs.Math.Decide.{dec_le}
use Rattle.memory_range.specs.declared.range.MemoryRange.{MemoryRange}
use Rattle.memory_range.specs.Align.{aligned_part}
use Rattle.memory_range.specs.Range.{length_of}
use Rattle.memory_range.specs.Valid.{page_size, valid_range}
use Rattle.memory_range.specs.Laws.Align.{aligned_inside, aligned-ends, aligned-largest}
use Rattle.memory_range.specs.Laws.Power.{power_of-two}
use Rattle.memory_range.specs.Laws.Range.{contained, contains-between}
use Rattle.memory_range.specs.Laws.Round.{Multiple}
use Rattle.memory_range.specs.Laws.Valid.{valid-parts}
use Rattle.host_params.specs.declared.AllocationPolicy.{AllocationPolicy}
use Rattle.host_params.specs.declared.AllocationPolicy.TheVariants.{LowMemory, HighMemory}
use Rattle.address_space.specs.Fit.{aligned_to}
use Rattle.address_space.specs.Request.{alignment_good}
use Rattle.address_space.specs.Split.{allotted}
use Rattle.memory_claims.specs.Claim.{AlignedAt, Of64Bits}
use Rattle.memory_claims.specs.Laws.Split.{Inside}

-- multiples of multiples; multiples of a page by their remainder
multiple_through : (l m n : ℕ) → Multiple l m → Multiple m n → Multiple l n
multiple_through l m n p q = (q.0 * p.0, q.1 ∙ ap (λ (x : ℕ). q.0 * x) p.1 ∙ sym (mul_assoc q.0 p.0 l))

pub at-page : (n : ℕ) → Multiple page_size n → n % page_size ≡ 0
at-page n p = omega (arith, p.1)

from-page : (n : ℕ) → n % page_size ≡ 0 → Multiple page_size n
from-page n h = (n / page_size, omega arith)

-- powers of two divide each other, so each divides a page or is divided by one
power-sum : (j k : ℕ) → 2 ^ (j + k) ≡ 2 ^ j * 2 ^ k
power-sum = pow-add 2

power-page : (k : ℕ) → Multiple page_size (2 ^ k) ⊎ Multiple (2 ^ k) page_size
power-page k = go (dec_le 12 k)
  where
    go : Dec (12 ≤ k) → Multiple page_size (2 ^ k) ⊎ Multiple (2 ^ k) page_size
    go (yes h) = let e : k ≡ (k - 12) + 12 = omega arith in inl (2 ^ (k - 12), ap (λ (n : ℕ). 2 ^ n) e ∙ power-sum (k - 12) 12)
    go (no h) = let e : 12 ≡ (12 - k) + k = omega arith in inr (2 ^ (12 - k), ap (λ (n : ℕ). 2 ^ n) e ∙ power-sum (12 - k) k)

-- the aligned part of a valid range lies inside it where it has a byte
pub inside_aligned : (alignment : Option ℕ) (r : MemoryRange) → (aligned_to alignment r).start < (aligned_to alignment r).end
    → (r.start ≤ (aligned_to alignment r).start) × ((aligned_to alignment r).end ≤ r.end)
inside_aligned (Some m) r h = ⊎_elim (λ w. absurd (omega arith)) (λ w. (w.1, w.2)) (contained r (aligned_part m r) (aligned_inside m r))
inside_aligned None r h = (omega arith, omega arith)

-- an alignment that divides a page changes nothing of a valid range: the range is its own aligned part
pub whole_aligned : (m : ℕ) (r : MemoryRange) → valid_range r ≡ true → Multiple m page_size
    → ((aligned_part m r).start ≡ r.start) × ((aligned_part m r).end ≡ r.end)
whole_aligned m r v d =
    let w = valid-parts r v in
    let p = multiple_through m page_size r.start d (from-page r.start w.1) in
    let q = multiple_through m page_size r.end d (from-page r.end w.2) in
    let outer = contained (aligned_part m r) r (aligned-largest m r r p q (contains-between r r (omega arith) (omega arith))) in
    let inner = inside_aligned (Some m) r in
    ⊎_elim (λ g. absurd (omega arith)) (λ g. let i = inner (omega arith) in (omega arith, omega arith)) outer

-- the aligned part of a valid range has ends that are multiples of the alignment, and starts and ends at a page
abbrev pub EndsAligned : Option ℕ → MemoryRange → Type 0
EndsAligned (Some m) r = Multiple m r.start × Multiple m r.end
EndsAligned None r = Unit {0}

pub ends_aligned : (alignment : Option ℕ) (r : MemoryRange) → EndsAligned alignment (aligned_to alignment r)
ends_aligned (Some m) r = aligned-ends m r
ends_aligned None r = tt

power_aligned : (m : ℕ) (r : MemoryRange) → valid_range r ≡ true → Multiple page_size m ⊎ Multiple m page_size
    → ((aligned_part m r).start % page_size ≡ 0) × ((aligned_part m r).end % page_size ≡ 0)
power_aligned m r v (inl d) =
    let ends = aligned-ends m r in
    (at-page _ (multiple_through page_size m _ d ends.0), at-page _ (multiple_through page_size m _ d ends.1))
power_aligned m r v (inr d) =
    let same = whole_aligned m r v d in
    let w = valid-parts r v in
    (rw same.0 w.1, rw same.1 w.2)

pub pages_aligned : (alignment : Option ℕ) (r : MemoryRange) → Of64Bits alignment → alignment_good alignment ≡ true → valid_range r ≡ true
    → ((aligned_to alignment r).start % page_size ≡ 0) × ((aligned_to alignment r).end % page_size ≡ 0)
pages_aligned (Some m) r bits good v =
    let power = (power_of-two m bits).0 good in
    power_aligned m r v (rw power.2 (power-page power.0))
pages_aligned None r bits good v = let w = valid-parts r v in (w.1, w.2)

-- so many bytes of a range that has them: they lie in it, and at the end of it that the policy names
module _ (policy : AllocationPolicy) (len : ℕ) (r : MemoryRange) (some_bytes : 0 < len) (enough : len ≤ length_of r) where
  pub allotted_inside : (r.start ≤ (allotted policy len r).start) × ((allotted policy len r).end ≤ r.end) × (length_of (allotted policy len r) ≡ len)
  allotted_inside = go policy
    where
      go : (p : AllocationPolicy) → (r.start ≤ (allotted p len r).start) × ((allotted p len r).end ≤ r.end) × (length_of (allotted p len r) ≡ len)
      go LowMemory = (omega arith, omega arith, omega arith)
      go HighMemory = (omega arith, omega arith, omega arith)

  pub allotted-pages : r.start % page_size ≡ 0 → r.end % page_size ≡ 0 → len % page_size ≡ 0
      → ((allotted policy len r).start % page_size ≡ 0) × ((allotted policy len r).end % page_size ≡ 0)
  allotted-pages p q l = go policy
    where
      go : (p : AllocationPolicy) → ((allotted p len r).start % page_size ≡ 0) × ((allotted p len r).end % page_size ≡ 0)
      go LowMemory = (omega arith, omega arith)
      go HighMemory = (omega arith, omega arith)

pub allotted_aligned : (policy : AllocationPolicy) (len : ℕ) (alignment : Option ℕ) (r : MemoryRange) → EndsAligned alignment r
    → AlignedAt policy alignment (allotted policy len r)
allotted_aligned LowMemory len (Some m) r h = h.0
allotted_aligned LowMemory len None r h = tt
allotted_aligned HighMemory len (Some m) r h = h.1
allotted_aligned HighMemory len None r h = tt

-- what a valid range gives a request for so many bytes: used (it does: `given`, proofs/Part)
pub record Given (policy : AllocationPolicy) (len : ℕ) (alignment : Option ℕ) (r used : MemoryRange) : Type 0 where
  pub length : length_of used ≡ len
  pub inside : Inside used r
  pub valid : valid_range used ≡ true
  pub aligned : AlignedAt policy alignment used
