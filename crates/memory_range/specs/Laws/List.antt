-- Laws of lists of ranges as they are lent: how many there are, which stands at an index, what is left
-- behind an index, and how each list is found again.
use Rattle.std.specs.Prelude.{ℕ, suc, zero, ◌+◌, ◌≤◌, ◌<◌, min, ◌≡◌, refl, List, [], ◌∷◌, ◌++◌, length, take, drop, get_or}
use Rattle.std.proofs.Common.{ap, arith, add-one, length-take, drop_of_length-le, take_all, drop-cons}
use Rattle.std.proofs.Math.Decide.{dec_lt}
use Rattle.std.proofs.lemmas.List.{length-map}
use Rattle.memory_range.specs.declared.range.TaggedRange.{TaggedRange}
use Rattle.memory_range.specs.Range.{range}
use Rattle.memory_range.specs.List.{ranges_of, ranges_in, tagged, tagged_of, first_tagged, starts_of, ends_of, tags_of}

pub length-ranges : (ss es : List ℕ) → length (ranges_of ss es) ≡ min (length ss) (length es)
length-ranges [] es = omega arith
length-ranges (s ∷ ss) [] = omega arith
length-ranges (s ∷ ss) (e ∷ es) = omega (arith, length-ranges ss es)

pub length-tagged : (ss es ts : List ℕ) → length (tagged_of ss es ts) ≡ min (length ss) (min (length es) (length ts))
length-tagged [] es ts = omega arith
length-tagged (s ∷ ss) [] ts = omega arith
length-tagged (s ∷ ss) (e ∷ es) [] = omega arith
length-tagged (s ∷ ss) (e ∷ es) (t ∷ ts) = omega (arith, length-tagged ss es ts)

pub get_d-ranges : (ss es : List ℕ) (i : ℕ) → i < length (ranges_of ss es)
    → get_or (ranges_of ss es) i (range 0 0) ≡ range (get_or ss i 0) (get_or es i 0)
get_d-ranges [] es i h = absurd (omega arith)
get_d-ranges (s ∷ ss) [] i h = absurd (omega arith)
get_d-ranges (s ∷ ss) (e ∷ es) zero h = refl
get_d-ranges (s ∷ ss) (e ∷ es) (suc i) h = get_d-ranges ss es i (omega arith)

pub get_d-tagged : (ss es ts : List ℕ) (i : ℕ) → i < length (tagged_of ss es ts)
    → get_or (tagged_of ss es ts) i (tagged 0 0 0) ≡ tagged (get_or ss i 0) (get_or es i 0) (get_or ts i 0)
get_d-tagged [] es ts i h = absurd (omega arith)
get_d-tagged (s ∷ ss) [] ts i h = absurd (omega arith)
get_d-tagged (s ∷ ss) (e ∷ es) [] i h = absurd (omega arith)
get_d-tagged (s ∷ ss) (e ∷ es) (t ∷ ts) zero h = refl
get_d-tagged (s ∷ ss) (e ∷ es) (t ∷ ts) (suc i) h = get_d-tagged ss es ts i (omega arith)

-- behind the last item nothing is left
pub past-ranges : (ss es : List ℕ) (i : ℕ) → min (length ss) (length es) ≤ i → drop i (ranges_of ss es) ≡ []
past-ranges ss es i h = drop_of_length-le (ranges_of ss es) {i = i} (omega (arith, length-ranges ss es))

-- what is left at an index is the item there and what is left behind it
pub next-range : (ss es : List ℕ) (i : ℕ) → i < min (length ss) (length es)
    → drop i (ranges_of ss es) ≡ range (get_or ss i 0) (get_or es i 0) ∷ drop (i + 1) (ranges_of ss es)
next-range ss es i h =
    let below : i < length (ranges_of ss es) = omega (arith, length-ranges ss es) in
    rw (add-one, ← get_d-ranges ss es i below) (drop-cons (ranges_of ss es) i (range 0 0) below)

pub next-tagged : (ss es ts : List ℕ) (i : ℕ) → i < min (length ss) (min (length es) (length ts))
    → drop i (tagged_of ss es ts) ≡ tagged (get_or ss i 0) (get_or es i 0) (get_or ts i 0) ∷ drop (i + 1) (tagged_of ss es ts)
next-tagged ss es ts i h =
    let below : i < length (tagged_of ss es ts) = omega (arith, length-tagged ss es ts) in
    rw (add-one, ← get_d-tagged ss es ts i below) (drop-cons (tagged_of ss es ts) i (tagged 0 0 0) below)

-- each list is its field of the tagged ranges, and what lies past the shortest of the three
pub starts-tagged : (ss es ts : List ℕ) → ss ≡ starts_of (tagged_of ss es ts) ++ drop (length (tagged_of ss es ts)) ss
starts-tagged [] es ts = refl
starts-tagged (s ∷ ss) [] ts = refl
starts-tagged (s ∷ ss) (e ∷ es) [] = refl
starts-tagged (s ∷ ss) (e ∷ es) (t ∷ ts) = ap (λ (l : List ℕ). s ∷ l) (starts-tagged ss es ts)

pub ends-tagged : (ss es ts : List ℕ) → es ≡ ends_of (tagged_of ss es ts) ++ drop (length (tagged_of ss es ts)) es
ends-tagged [] es ts = refl
ends-tagged (s ∷ ss) [] ts = refl
ends-tagged (s ∷ ss) (e ∷ es) [] = refl
ends-tagged (s ∷ ss) (e ∷ es) (t ∷ ts) = ap (λ (l : List ℕ). e ∷ l) (ends-tagged ss es ts)

pub tags-tagged : (ss es ts : List ℕ) → ts ≡ tags_of (tagged_of ss es ts) ++ drop (length (tagged_of ss es ts)) ts
tags-tagged [] es ts = refl
tags-tagged (s ∷ ss) [] ts = refl
tags-tagged (s ∷ ss) (e ∷ es) [] = refl
tags-tagged (s ∷ ss) (e ∷ es) (t ∷ ts) = ap (λ (l : List ℕ). t ∷ l) (tags-tagged ss es ts)

-- each field of tagged ranges: as many as there are ranges, which are found again by all three
pub length_starts : (xs : List TaggedRange) → length (starts_of xs) ≡ length xs
length_starts xs = length-map xs _

pub length-ends : (xs : List TaggedRange) → length (ends_of xs) ≡ length xs
length-ends xs = length-map xs _

pub length_tags : (xs : List TaggedRange) → length (tags_of xs) ≡ length xs
length_tags xs = length-map xs _

pub fields-tagged : (xs : List TaggedRange) → tagged_of (starts_of xs) (ends_of xs) (tags_of xs) ≡ xs
fields-tagged [] = refl
fields-tagged (x ∷ xs) = rw (fields-tagged xs)

-- where there are tags enough, the ranges are those of the tagged ranges
pub ranges_alike : (ss es ts : List ℕ) → length ss ≤ length ts → ranges_in (tagged_of ss es ts) ≡ ranges_of ss es
ranges_alike [] es ts h = refl
ranges_alike (s ∷ ss) [] ts h = refl
ranges_alike (s ∷ ss) (e ∷ es) [] h = absurd (omega arith)
ranges_alike (s ∷ ss) (e ∷ es) (t ∷ ts) h = rw (ranges_alike ss es ts (omega arith))

-- the first k of the tagged ranges, and how many these are
pub first-tagged : (k : ℕ) (ss es ts : List ℕ) → first_tagged k ss es ts ≡ take k (tagged_of ss es ts)
first-tagged zero ss es ts = refl
first-tagged (suc k) [] es ts = refl
first-tagged (suc k) (s ∷ ss) [] ts = refl
first-tagged (suc k) (s ∷ ss) (e ∷ es) [] = refl
first-tagged (suc k) (s ∷ ss) (e ∷ es) (t ∷ ts) = ap (λ (l : List TaggedRange). tagged s e t ∷ l) (first-tagged k ss es ts)

pub length-first : (k : ℕ) (ss es ts : List ℕ) → length (first_tagged k ss es ts) ≡ min k (min (length ss) (min (length es) (length ts)))
length-first k ss es ts = rw (first-tagged, length-take, length-tagged)

-- asking for more than there are gives all
pub first-min : (k j : ℕ) (ss es ts : List ℕ) → j ≡ min k (length (tagged_of ss es ts)) → first_tagged j ss es ts ≡ first_tagged k ss es ts
first-min k j ss es ts e =
    let l = tagged_of ss es ts in
    rw (first-tagged j ss es ts, first-tagged k ss es ts)
    (elim (dec_lt (length l) k) [
      | yes h ↦ rw (take_all j l (omega arith), take_all k l (omega arith))
      | no h ↦ let g : j ≡ k = omega arith in rw g
    ])
