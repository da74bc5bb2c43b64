-- Laws of single bytes: where a byte lies relative to a range, and that at most one item of a list in
-- order holds it.
use Rattle.std.specs.Prelude.{ℕ, suc, ◌+◌, ◌-◌, ◌≤◌, ◌<◌, ◌≡◌, refl, Bool, true, false, cond, leb, ltb, get_or, Option, Some, None}
use mathlib.Core.List.{List, [], ◌∷◌, ◌++◌, reverse, reverse-cons}
use Rattle.std.proofs.Common.{arith, leb-true, leb-false, ltb-true, ltb-false}
use Rattle.std.proofs.lemmas.Bool.{lt-leb}
use Rattle.memory_range.specs.declared.range.MemoryRange.{MemoryRange}
use Rattle.memory_range.specs.Range.{holds}
use Rattle.memory_range.specs.Bytes.{holders, item_found_from, item_at, Ordered, All}
use Rattle.std.proofs.lemmas.Option.{none-some, same_Some}

-- where a byte lies relative to a range, and whether the range holds it
pub data Place (r : MemoryRange) (a : ℕ) : Type 0 where
  below : a < r.start → holds r a ≡ false → Place r a
  inside : r.start ≤ a → a < r.end → holds r a ≡ true → Place r a
  above : r.end ≤ a → holds r a ≡ false → Place r a

pub place : (r : MemoryRange) (a : ℕ) → Place r a
place r a = go (leb r.start a) refl (ltb a r.end) refl
  where
    go : (t : Bool) → leb r.start a ≡ t → (u : Bool) → ltb a r.end ≡ u → Place r a
    go false p u q = below (leb-false _ _ p) (rw p)
    go true p true q = inside (leb-true _ _ p) (ltb-true _ _ q) (rw (p, q))
    go true p false q = above (ltb-false _ _ q) (rw (p, q))

-- a list in order from b is in order from any address before b
pub ordered-before : (a b : ℕ) (l : List MemoryRange) → a ≤ b → Ordered b l → Ordered a l
ordered-before a b [] h o = tt
ordered-before a b (r ∷ rs) h o = (omega arith, o.1)

-- no item of a list in order from a holds a byte below a
pub ordered_below : (a : ℕ) (l : List MemoryRange) (x : ℕ) → Ordered a l → x < a → holders l x ≡ 0
ordered_below a [] x o h = refl
ordered_below a (r ∷ rs) x o h = rw (lt-leb r.start x (omega arith)) (omega (arith, ordered_below r.end rs x o.1.1 (omega arith)))

-- how many items of a list in order hold a byte, told by the item that does, if any
abbrev pub counted : {A : Type 0} → Option A → ℕ
counted None = 0
counted (Some x) = 1

counted-once : {A : Type 0} (u : Option A) → counted u ≤ 1
counted-once None = omega arith
counted-once (Some x) = omega arith

pub holders-cons : {A : Type 0} (a : ℕ) (r : MemoryRange) (rs : List MemoryRange) (x : ℕ) (y : A) (u : Option A)
    → Ordered a (r ∷ rs) → holders rs x ≡ counted u → holders (r ∷ rs) x ≡ counted (cond (holds r x) (Some y) u)
holders-cons a r rs x y u o e = go (place r x)
  where
    go : Place r x → holders (r ∷ rs) x ≡ counted (cond (holds r x) (Some y) u)
    go (below h f) = rw f (omega arith)
    go (inside l h f) = rw f (omega (arith, ordered_below r.end rs x o.1.1 h))
    go (above h f) = rw f (omega arith)

pub holders_items : (k a : ℕ) (l : List MemoryRange) (x : ℕ) → Ordered a l → holders l x ≡ counted (item_found_from k l x)
holders_items k a [] x o = refl
holders_items k a (r ∷ rs) x o = holders-cons a r rs x k (item_found_from (k + 1) rs x) o (holders_items (k + 1) r.end rs x o.1.1)

-- the item that is told does hold the byte
item_from : (k : ℕ) (l : List MemoryRange) (x i : ℕ) (d : MemoryRange) → item_found_from k l x ≡ Some i → (k ≤ i) × (holds (get_or l (i - k) d) x ≡ true)
item_from k [] x i d e = absurd (none-some i e)
item_from k (r ∷ rs) x i d e = go (holds r x) refl e (item_from (k + 1) rs x i d)
  where
    go : (t : Bool) → holds r x ≡ t → cond t (Some k) (item_found_from (k + 1) rs x) ≡ Some i
        → (item_found_from (k + 1) rs x ≡ Some i → (k + 1 ≤ i) × (holds (get_or rs (i - (k + 1)) d) x ≡ true))
        → (k ≤ i) × (holds (get_or (r ∷ rs) (i - k) d) x ≡ true)
    go true h f rest =
        let same = same_Some k i f in
        let first : i - k ≡ 0 = omega arith in
        (omega arith, rw first h)
    go false h f rest =
        let w = rest f in
        let later : i - k ≡ suc (i - (k + 1)) = omega arith in
        (omega arith, rw later w.1)

pub item-holds : (l : List MemoryRange) (x i : ℕ) (d : MemoryRange) → item_at l x ≡ Some i → holds (get_or l i d) x ≡ true
item-holds l x i d e = let whole : i - 0 ≡ i = omega arith in rw whole at (item_from 0 l x i d e).1

-- no byte lies in two items of a list in order
pub ordered-once : (a : ℕ) (l : List MemoryRange) → Ordered a l → (x : ℕ) → holders l x ≤ 1
ordered-once a l o x = rw (holders_items 0 a l x o) (counted-once (item_found_from 0 l x))

-- P holds of every element and gives Q, so Q holds of every element
pub all_map : {A : Type 0} {P Q : A → Type 0} → ((x : A) → P x → Q x) → (l : List A) → All P l → All Q l
all_map f [] h = tt
all_map f (x ∷ xs) h = (f x h.0, all_map f xs h.1)

pub all_both : {A : Type 0} (P Q : A → Type 0) (l : List A) → All P l → All Q l → All (λ x. P x × Q x) l
all_both P Q [] h g = tt
all_both P Q (x ∷ xs) h g = ((h.0, g.0), all_both P Q xs h.1 g.1)

-- what holds of every element, in lists that are joined, cut in two or reversed
module _ {A : Type 0} (P : A → Type 0) where
  pub all_append : (xs ys : List A) → All P xs → All P ys → All P (xs ++ ys)
  all_append [] ys h g = g
  all_append (x ∷ xs) ys h g = (h.0, all_append xs ys h.1 g)

  pub all_split : (xs ys : List A) → All P (xs ++ ys) → All P xs × All P ys
  all_split [] ys h = (tt, h)
  all_split (x ∷ xs) ys h = let i = all_split xs ys h.1 in ((h.0, i.0), i.1)

  pub all-reverse : (xs : List A) → All P xs → All P (reverse xs)
  all-reverse [] h = tt
  all-reverse (x ∷ xs) h = rw (reverse-cons x xs) (all_append (reverse xs) (x ∷ []) (all-reverse xs h.1) (h.0, tt))
