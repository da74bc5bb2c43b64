-- A turn of the loops over the bytes, by the byte at the index: the separator, or another.
use Prim.Native.Nat.{ℕ, ◌+◌, ◌≤◌, ◌<◌}
use mathlib.Core.Path.{◌≡◌, refl, ◌∙◌}
use mathlib.Core.Bool.{Bool, true, false, cond}
use mathlib.Core.List.{List, [], ◌∷◌, ◌++◌, append-nil}
use native.Mathlib.Omega.{arith}
use native.Mathlib.Numerals.{add-one}
use borrow.Author.Tests.{eq-eqb, ne_eqb}
use lib.ListN.{length, take, drop, get_or, drop_of_length-le}
use lib.Dec.{eqb}
use lib.Seq.{drop-cons, take-suc, take_all, append_snoc, length-take-le}
use Rattle.std.proofs.Common.{◌==◌, count_by}
use Rattle.std.proofs.lemmas.List.Sums.{sum_by-cons}
use Rattle.plan_fields.specs.Cut.{split_on, first_part}
use Rattle.plan_fields.specs.Laws.Cut.{first_count, split-some}

module _ (c : ℕ) (bs : List ℕ) (i : ℕ) (below : i < length bs) where
  pub first_ends : get_or bs i 0 ≡ c → first_part c (drop i bs) ≡ []
  first_ends e = rw (drop-cons bs i 0 below, eq-eqb (get_or bs i 0) c e)

  pub first_stops : get_or bs i 0 ≡ c → take i bs ++ first_part c (drop i bs) ≡ take i bs
  first_stops e = rw (first_ends e) (append-nil (take i bs))

  pub first_goes-on : (get_or bs i 0 ≡ c → ⊥)
      → take i bs ++ first_part c (drop i bs) ≡ take (i + 1) bs ++ first_part c (drop (i + 1) bs)
  first_goes-on n =
      rw (add-one i, drop-cons bs i 0 below, ne_eqb (get_or bs i 0) c n, take-suc bs i 0 below, append_snoc)

-- where no byte is left, the bytes passed are all
pub first-all : (c : ℕ) (bs : List ℕ) (i : ℕ) → length bs ≤ i → take i bs ++ first_part c (drop i bs) ≡ bs
first-all c bs i h = rw (drop_of_length-le bs {i = i} h, take_all i bs h) (append-nil bs)

-- two bytes passed
pub first-passes-two : (c : ℕ) (bs : List ℕ) (i : ℕ) → i + 1 < length bs → (get_or bs i 0 ≡ c → ⊥) → (get_or bs (i + 1) 0 ≡ c → ⊥)
    → take i bs ++ first_part c (drop i bs) ≡ take (i + 2) bs ++ first_part c (drop (i + 2) bs)
first-passes-two c bs i h m n =
    let two : i + 1 + 1 ≡ i + 2 = omega arith in
    first_goes-on c bs i (omega arith) m ∙ rw two at (first_goes-on c bs (i + 1) h n)

-- each separator makes one more part
pub parts_counted : (c : ℕ) (bs : List ℕ) → length (split_on c bs) ≡ 1 + count_by (λ x. x == c) bs
parts_counted c [] = refl
parts_counted c (b ∷ bs) = go (eqb b c) refl (parts_counted c bs)
  where
    go : (t : Bool) → eqb b c ≡ t → length (split_on c bs) ≡ 1 + count_by (λ x. x == c) bs
        → length (split_on c (b ∷ bs)) ≡ 1 + count_by (λ x. x == c) (b ∷ bs)
    go true e i = let more = rw e at (sum_by-cons (λ x. cond (x == c) 1 0) b bs) in rw e (omega arith)
    go false e i =
        let same = rw e at (sum_by-cons (λ x. cond (x == c) 1 0) b bs) in
        let parts = first_count b (split_on c bs) (split-some c bs) in rw e (omega arith)

pub ruleset cuts = (length-take-le, first_stops, first_goes-on, first-all, first-passes-two)
