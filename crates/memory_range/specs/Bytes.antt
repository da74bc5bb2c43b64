-- What a list of ranges says of each byte: how many of its items hold it, and which; and lists in
-- order. The laws of the functions are stated by these (docs/SPEC.md, section 2).
use Rattle.std.specs.Prelude.{ℕ, ◌+◌, ◌≤◌, ◌<◌, cond, List, [], ◌∷◌, Option, Some, None}
use Rattle.memory_range.specs.declared.range.MemoryRange.{MemoryRange}
use Rattle.memory_range.specs.Range.{length_of, holds}

-- how many items of the list hold the byte at a
abbrev pub holders : List MemoryRange → ℕ → ℕ
holders [] a = 0
holders (r ∷ rs) a = cond (holds r a) 1 0 + holders rs a

-- the bytes of all items, as the sum of their lengths
abbrev pub byte_count : List MemoryRange → ℕ
byte_count [] = 0
byte_count (r ∷ rs) = length_of r + byte_count rs

-- which item holds the byte at a, the first one if there are several; items are counted from k
abbrev pub item_found_from : ℕ → List MemoryRange → ℕ → Option ℕ
item_found_from k [] a = None
item_found_from k (r ∷ rs) a = cond (holds r a) (Some k) (item_found_from (k + 1) rs a)

abbrev pub item_at : List MemoryRange → ℕ → Option ℕ
item_at rs a = item_found_from 0 rs a

-- each item has a byte, and starts at or above the end of the one before it, the first at or above a:
-- the list ascends, its items are disjoint, and they may touch
abbrev pub Ordered : ℕ → List MemoryRange → Type 0
Ordered a [] = Unit {0}
Ordered a (r ∷ rs) = (a ≤ r.start) × ((r.start < r.end) × Ordered r.end rs)

-- P holds of every element
abbrev pub All : {A : Type 0} → (A → Type 0) → List A → Type 0
All P [] = Unit {0}
All P (x ∷ xs) = P x × All P xs
