-- The entries of a node, what holds of each of them, and how many hold a byte, in lists that are joined or reversed.
use Rattle.std.specs.Prelude.{ℕ, ◌+◌, ◌≡◌, refl, Bool, true, false, cond, eqb}
use mathlib.Core.List.{List, [], ◌∷◌, ◌++◌, reverse, reverse-cons}
use Rattle.std.proofs.Common.{arith, eq-eqb, ne_eqb}
use Rattle.memory_range.specs.List.{ranges_in}
use Rattle.memory_range.specs.declared.range.TaggedRange.{TaggedRange}
use Rattle.memory_range.specs.Bytes.{holders, All}
use Rattle.boot_ram.specs.Held.{holders_on, on_node}

-- what holds of every entry holds of those of a node
pub all-on : (P : TaggedRange → Type 0) (n : ℕ) (xs : List TaggedRange) → All P xs → All P (on_node n xs)
all-on P n [] h = tt
all-on P n (x ∷ xs) h = go (eqb x.tag n) (all-on P n xs h.1)
  where
    go : (b : Bool) → All P (on_node n xs) → All P (cond b (x ∷ on_node n xs) (on_node n xs))
    go true i = (h.0, i)
    go false i = i

pub on_append : (n : ℕ) (xs ys : List TaggedRange) → on_node n (xs ++ ys) ≡ on_node n xs ++ on_node n ys
on_append n [] ys = refl
on_append n (x ∷ xs) ys = rw (on_append n xs ys) (go (eqb x.tag n))
  where
    go : (b : Bool) → cond b (x ∷ (on_node n xs ++ on_node n ys)) (on_node n xs ++ on_node n ys) ≡ cond b (x ∷ on_node n xs) (on_node n xs) ++ on_node n ys
    go true = refl
    go false = refl

-- entries that are all of one node are the entries of that node, and none of another
pub on_same : (n : ℕ) (xs : List TaggedRange) → All (λ x. x.tag ≡ n) xs → on_node n xs ≡ xs
on_same n [] h = refl
on_same n (x ∷ xs) h = rw (eq-eqb x.tag n h.0, on_same n xs h.1)

pub on_other : (m n : ℕ) (xs : List TaggedRange) → (m ≡ n → ⊥) → All (λ x. x.tag ≡ n) xs → on_node m xs ≡ []
on_other m n [] d h = refl
on_other m n (x ∷ xs) d h = rw (ne_eqb x.tag m (omega arith)) (on_other m n xs d h.1)

pub holders_append : (n : ℕ) (xs ys : List TaggedRange) (a : ℕ) → holders_on n (xs ++ ys) a ≡ holders_on n xs a + holders_on n ys a
holders_append n [] ys a = omega arith
holders_append n (x ∷ xs) ys a = go (eqb x.tag n) (holders_append n xs ys a)
  where
    go : (b : Bool) → holders_on n (xs ++ ys) a ≡ holders_on n xs a + holders_on n ys a
        → holders (ranges_in (cond b (x ∷ on_node n (xs ++ ys)) (on_node n (xs ++ ys)))) a
        ≡ holders (ranges_in (cond b (x ∷ on_node n xs) (on_node n xs))) a + holders_on n ys a
    go true i = omega arith
    go false i = i

-- the order of entries does not matter to how many hold a byte
pub holders-reverse : (n : ℕ) (xs : List TaggedRange) (a : ℕ) → holders_on n (reverse xs) a ≡ holders_on n xs a
holders-reverse n [] a = refl
holders-reverse n (x ∷ xs) a =
    rw (reverse-cons x xs)
    (omega (arith, holders_append n (reverse xs) (x ∷ []) a, holders_append n (x ∷ []) xs a, holders-reverse n xs a))
