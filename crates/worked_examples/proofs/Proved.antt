-- Every worked example holds, by one computed test of the whole table.
use Rattle.std.specs.Prelude.{ℕ, ◌*◌, ◌≡◌, refl, Bool, true, false, ◌&&◌, List, [], ◌∷◌, T, eqb}
use Rattle.std.proofs.Common.{eqb→eq}
use Rattle.std.specs.Float.Ieee.Fits.{and_l, and_r}
use Rattle.dma_hint.specs.Table.{release, debug}
use Rattle.memory_range.specs.Range.{range}
use Rattle.dma_hint.specs.Hint.{dma_hint_of}
use Rattle.boot_nodes.specs.Share.{share_of}
use Rattle.boot_take.specs.Take.{taken_start}
use Rattle.memory_range.specs.Align.{aligned_part}
use Rattle.memory_range.specs.Power.{bit_count}
use Rattle.address_space.specs.Request.{allocated, requested}
use Rattle.private_pool.specs.Pool.{pool_placed, split_placed}
use Rattle.worked_examples.specs.Examples.{Example, hint, share, taken, pieces, unsplit, given, turned}
use Rattle.worked_examples.specs.Examples.{one_byte, start_of, end_of, refusal_of, over_three, pages_placed, placement_refusal}
use Rattle.worked_examples.specs.Examples.{Holds, AllHold, examples}

-- whether two lists of numbers are the same
abbrev same_numbers : List ℕ → List ℕ → Bool
same_numbers [] [] = true
same_numbers [] (y ∷ ys) = false
same_numbers (x ∷ xs) [] = false
same_numbers (x ∷ xs) (y ∷ ys) = eqb x y && same_numbers xs ys

numbers-same : (xs ys : List ℕ) → T (same_numbers xs ys) → xs ≡ ys
numbers-same [] [] t = refl
numbers-same [] (y ∷ ys) t = absurd t
numbers-same (x ∷ xs) [] t = absurd t
numbers-same (x ∷ xs) (y ∷ ys) t =
    let head = eqb→eq x y (and_l (eqb x y) (same_numbers xs ys) t) in
    let tail = numbers-same xs ys (and_r (eqb x y) (same_numbers xs ys) t) in
    cc

abbrev passes : Example → Bool
passes (hint table processors mib pages) = eqb (dma_hint_of table processors (mib * 1_048_576)) pages
passes (share size nodes bytes) = eqb (share_of size nodes) bytes
passes (taken need start end at) = eqb (taken_start need (range start end)) at
passes (pieces pages each) = same_numbers (pages_placed (over_three pages)) each
passes (unsplit pages number) = eqb (placement_refusal (over_three pages)) number
passes (given start end policy alignment from to) =
    eqb (start_of (one_byte start end policy alignment)) from && eqb (end_of (one_byte start end policy alignment)) to
passes (turned start end policy alignment number) = eqb (refusal_of (one_byte start end policy alignment)) number

abbrev all_pass : List Example → Bool
all_pass [] = true
all_pass (e ∷ es) = passes e && all_pass es

holds : (e : Example) → T (passes e) → Holds e
holds (hint table processors mib pages) t = eqb→eq (dma_hint_of table processors (mib * 1_048_576)) pages t
holds (share size nodes bytes) t = eqb→eq (share_of size nodes) bytes t
holds (taken need start end at) t = eqb→eq (taken_start need (range start end)) at t
holds (pieces pages each) t = numbers-same (pages_placed (over_three pages)) each t
holds (unsplit pages number) t = eqb→eq (placement_refusal (over_three pages)) number t
holds (given start end policy alignment from to) t =
    let o = one_byte start end policy alignment in
    (eqb→eq (start_of o) from (and_l (eqb (start_of o) from) (eqb (end_of o) to) t), eqb→eq (end_of o) to (and_r (eqb (start_of o) from) (eqb (end_of o) to) t))
holds (turned start end policy alignment number) t = eqb→eq (refusal_of (one_byte start end policy alignment)) number t

tested : (es : List Example) → T (all_pass es) → AllHold es
tested [] t = tt
tested (e ∷ es) t = (holds e (and_l (passes e) (all_pass es) t), tested es (and_r (passes e) (all_pass es) t))

pub all_hold : AllHold examples
unfolding release debug requested allocated aligned_part bit_count pool_placed split_placed
all_hold = tested examples tt
