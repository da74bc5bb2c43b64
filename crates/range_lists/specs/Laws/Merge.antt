-- Joining touching ranges of one tag leaves none to join, makes the list no longer, and keeps its order
-- and how many ranges of each tag hold each byte.
use Rattle.std.specs.Prelude.{ℕ, suc, ◌+◌, ◌≤◌, ◌≡◌, refl, Bool, true, false, ◌&&◌, cond, List, [], ◌∷◌, eqb, length}
use Rattle.std.proofs.Math.Bool.{and-eq-true_iff}
use Rattle.std.proofs.Common.{arith, eqb-true, eq-eqb}
use Rattle.memory_range.specs.declared.range.TaggedRange.{TaggedRange}
use Rattle.memory_range.specs.Range.{range, holds}
use Rattle.memory_range.specs.Bytes.{Ordered}
use Rattle.memory_range.specs.List.{tagged, ranges_in}
use Rattle.range_lists.specs.Merge.{continues, merge_first, merge_adjacent}
use Rattle.memory_range.specs.Laws.Range.{cut-once}

-- what continues a range starts where it ends and has its tag
pub continued : (x y : TaggedRange) → continues x y ≡ true → (x.range.end ≡ y.range.start) × (x.tag ≡ y.tag)
continued x y h =
    let both = (and-eq-true_iff (eqb x.range.end y.range.start) (eqb x.tag y.tag)).0 h in
    (eqb-true _ _ both.0, eqb-true _ _ both.1)

-- what is shown of both ways to put a range in front holds of the joined list
first_cases : (P : List TaggedRange → Type 0) (x y : TaggedRange) (ys : List TaggedRange)
    → (continues x y ≡ true → P (tagged x.range.start y.range.end x.tag ∷ ys))
    → (continues x y ≡ false → P (x ∷ y ∷ ys))
    → P (merge_first x (y ∷ ys))
first_cases P x y ys f g = go (continues x y) refl
  where
    go : (b : Bool) → continues x y ≡ b → P (merge_first x (y ∷ ys))
    go true h = rw h (f h)
    go false h = rw h (g h)

-- a range that continues another may be joined to it before or after those behind it are joined
pub join_first : (s e e' t : ℕ) (zs : List TaggedRange)
    → merge_first (tagged s e t) (merge_first (tagged e e' t) zs) ≡ merge_first (tagged s e' t) zs
join_first s e e' t [] = rw (eq-eqb e e refl, eq-eqb t t refl)
join_first s e e' t (z ∷ zs) =
    first_cases (λ l. merge_first (tagged s e t) l ≡ merge_first (tagged s e' t) (z ∷ zs)) (tagged e e' t) z zs
    (λ h. rw (h, eq-eqb e e refl, eq-eqb t t refl))
    (λ h. rw (h, eq-eqb e e refl, eq-eqb t t refl))

-- a range that the next one does not continue stays as it is
pub keep-first : (x y : TaggedRange) (zs : List TaggedRange) → continues x y ≡ false
    → merge_first x (merge_first y zs) ≡ x ∷ merge_first y zs
keep-first x y [] h = rw h
keep-first x y (z ∷ zs) h = first_cases (λ l. merge_first x l ≡ x ∷ l) y z zs (λ _. rw h) (λ _. rw h)

-- no range is continued by its neighbour
abbrev pub Apart : List TaggedRange → Type 0
Apart [] = Unit {0}
Apart (x ∷ []) = Unit {0}
Apart (x ∷ y ∷ zs) = (continues x y ≡ false) × Apart (y ∷ zs)

first_apart : (x : TaggedRange) (ys : List TaggedRange) → Apart ys → Apart (merge_first x ys)
first_apart x [] a = tt
first_apart x (y ∷ []) a = first_cases Apart x y [] (λ h. tt) (λ h. (h, tt))
first_apart x (y ∷ z ∷ zs) a =
    first_cases Apart x y (z ∷ zs) (λ h. (rw (continued x y h).1 a.0, a.1)) (λ h. (h, a))

pub merge_apart : (xs : List TaggedRange) → Apart (merge_adjacent xs)
merge_apart [] = tt
merge_apart (x ∷ xs) = first_apart x (merge_adjacent xs) (merge_apart xs)

first_count : (x : TaggedRange) (ys : List TaggedRange) → length (merge_first x ys) ≤ suc (length ys)
first_count x [] = omega arith
first_count x (y ∷ ys) =
    first_cases (λ l. length l ≤ suc (length (y ∷ ys))) x y ys (λ h. omega arith) (λ h. omega arith)

pub merge-count : (xs : List TaggedRange) → length (merge_adjacent xs) ≤ length xs
merge-count [] = omega arith
merge-count (x ∷ xs) = omega (arith, first_count x (merge_adjacent xs), merge-count xs)

-- how many ranges with the tag t hold the byte at b
abbrev pub holders_of : ℕ → List TaggedRange → ℕ → ℕ
holders_of t [] b = 0
holders_of t (x ∷ xs) b = cond (eqb x.tag t && holds x.range b) 1 0 + holders_of t xs b

-- ys is in order from a on, and has for each tag and byte as many holders as xs
abbrev pub SameBytes : ℕ → List TaggedRange → List TaggedRange → Type 0
SameBytes a xs ys = Ordered a (ranges_in ys) × ((t b : ℕ) → holders_of t ys b ≡ holders_of t xs b)

-- a byte of a range cut at m lies in one of the two parts
cut-holders : (g : Bool) (s m e b : ℕ) → s ≤ m → m ≤ e
    → cond (g && holds (range s m) b) 1 0 + cond (g && holds (range m e) b) 1 0 ≡ cond (g && holds (range s e) b) 1 0
cut-holders false s m e b h k = refl
cut-holders true s m e b h k = cut-once s m e b h (omega arith)

first_bytes : (a : ℕ) (x : TaggedRange) (ys : List TaggedRange) → Ordered a (ranges_in (x ∷ ys))
    → SameBytes a (x ∷ ys) (merge_first x ys)
first_bytes a x [] o = (o, λ t b. refl)
first_bytes a x (y ∷ ys) o = first_cases (SameBytes a (x ∷ y ∷ ys)) x y ys joined (λ h. (o, λ t b. refl))
  where
    joined : continues x y ≡ true
        → SameBytes a (x ∷ y ∷ ys) (tagged x.range.start y.range.end x.tag ∷ ys)
    joined h =
        let same = continued x y h in (
          (o.0, (omega arith, o.1.1.1.1)),
          λ t b. rw (← same.0, ← same.1)
              (omega (arith, cut-holders (eqb x.tag t) x.range.start x.range.end y.range.end b (omega arith) (omega arith))),
        )

pub merge_bytes : (a : ℕ) (xs : List TaggedRange) → Ordered a (ranges_in xs) → SameBytes a xs (merge_adjacent xs)
merge_bytes a [] o = (o, λ t b. refl)
merge_bytes a (x ∷ xs) o =
    let behind = merge_bytes x.range.end xs o.1.1 in
    let whole = first_bytes a x (merge_adjacent xs) (o.0, (o.1.0, behind.0)) in
    (whole.0, λ t b. omega (arith, whole.1 t b, behind.1 t b))
