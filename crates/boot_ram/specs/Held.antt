-- The entries of a node, and which bytes entries hold; the laws of the parts are stated by it (docs/SPEC.md, section 19).
use Rattle.std.specs.Prelude.{ℕ, ◌+◌, ◌%◌, ◌≤◌, ◌<◌, ◌≡◌, cond, List, [], ◌∷◌, eqb, length}
use Rattle.memory_range.specs.declared.range.MemoryRange.{MemoryRange}
use Rattle.memory_range.specs.declared.range.TaggedRange.{TaggedRange}
use Rattle.memory_range.specs.Bytes.{holders, byte_count, All}
use Rattle.memory_range.specs.List.{ranges_in}
use Rattle.memory_range.specs.Valid.{page_size}
use Rattle.boot_ram.specs.Verdict.{Verdict, free, choose, refuse, pass, max_free, max_chosen}

-- a range with a node, as it is held
abbrev pub holding : MemoryRange → ℕ → TaggedRange
holding r n = record { range = r; tag = n }

-- the entries of a node
abbrev pub on_node : ℕ → List TaggedRange → List TaggedRange
on_node n [] = []
on_node n (x ∷ xs) = cond (eqb x.tag n) (x ∷ on_node n xs) (on_node n xs)

-- the bytes of entries
abbrev pub bytes_of : List TaggedRange → ℕ
bytes_of xs = byte_count (ranges_in xs)

-- how many entries of node n hold the byte at a
abbrev pub holders_on : ℕ → List TaggedRange → ℕ → ℕ
holders_on n xs a = holders (ranges_in (on_node n xs)) a

-- the free and the chosen pieces of verdicts
abbrev pub free_in : List Verdict → List TaggedRange
free_in [] = []
free_in (free x ∷ vs) = x ∷ free_in vs
free_in (choose x ∷ vs) = free_in vs
free_in (refuse n ∷ vs) = free_in vs
free_in (pass ∷ vs) = free_in vs

abbrev pub chosen_in : List Verdict → List TaggedRange
chosen_in [] = []
chosen_in (free x ∷ vs) = chosen_in vs
chosen_in (choose x ∷ vs) = x ∷ chosen_in vs
chosen_in (refuse n ∷ vs) = chosen_in vs
chosen_in (pass ∷ vs) = chosen_in vs

-- all pieces of verdicts are within the bounds, with f free and c chosen ones that are held already
abbrev pub Fits : ℕ → ℕ → List Verdict → Type 0
Fits f c vs = (f + length (free_in vs) ≤ max_free) × (c + length (chosen_in vs) ≤ max_chosen)

-- an address is a page multiple
abbrev pub AtPage : ℕ → Type 0
AtPage a = a % page_size ≡ 0

-- a range has a byte, and starts and ends at a page
abbrev pub PagedRange : MemoryRange → Type 0
PagedRange r = (r.start < r.end) × AtPage r.start × AtPage r.end

-- so does the range of each entry
abbrev pub Paged : List TaggedRange → Type 0
Paged xs = All (λ x. PagedRange x.range) xs
