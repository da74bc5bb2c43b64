-- Laws of a table's ranges: those from an index on, as they are handed out, and how many there are.
use Rattle.std.specs.Prelude.{ℕ, ◌+◌, ◌<◌, ◌≤◌, ◌≡◌, List, [], ◌∷◌, length, take, drop, get_or}
use Rattle.std.proofs.Common.{ap, ◌∙◌, add-one, arith, drop_of_length-le, drop-cons, get_or-take, length-take-le}
use Rattle.std.proofs.lemmas.List.{length-map}
use Rattle.range_lists.specs.Laws.Merge.{merge-count}
use Rattle.address_space.specs.declared.list.Vtl2Range.{Vtl2Range}
use Rattle.address_space.specs.declared.table.AddressRange.{AddressRange}
use Rattle.address_space.specs.List.{numbered_range, numbered_ranges, typed_ranges, vtl2_ranges, typed_range}

-- the first ranges of an array
module _ (k : ℕ) (xs : List Vtl2Range) (enough : k ≤ length xs) (i : ℕ) where
  pub range-next : (x : Vtl2Range) → i < k
      → numbered_ranges (drop i (take k xs)) ≡ numbered_range (get_or xs i x) ∷ numbered_ranges (drop (i + 1) (take k xs))
  range-next x h =
      let n = length-take-le k xs enough in
      rw add-one (ap numbered_ranges (drop-cons (take k xs) i x (omega arith)) ∙ rw (get_or-take k xs i x h))

  pub range_none : k ≤ i → numbered_ranges (drop i (take k xs)) ≡ []
  range_none h = ap numbered_ranges (drop_of_length-le (take k xs) {i = i} (omega (arith, length-take-le k xs enough)))

typed-count : (es : List AddressRange) → length (typed_ranges es) ≡ length es
typed-count es = length-map es typed_range

pub ranges_few : (es : List AddressRange) → length (vtl2_ranges es) ≤ length es
ranges_few es = omega (arith, merge-count (typed_ranges es), typed-count es)
