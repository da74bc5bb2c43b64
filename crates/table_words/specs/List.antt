-- Lists of ranges as words: start and end, or start, end and node (docs/SPEC.md, section 31).
use Rattle.std.specs.Prelude.{ℕ, ◌/◌, ◌%◌, ◌^◌, Bool, true, ◌&&◌, List, [], ◌∷◌, map, ltb, length, get_or}
use Rattle.memory_range.specs.declared.range.MemoryRange.{MemoryRange}
use Rattle.memory_range.specs.declared.range.TaggedRange.{TaggedRange}
use Rattle.memory_range.specs.List.{tagged}
use Rattle.memory_range.specs.Range.{range}
use Rattle.table_words.specs.Rows.{rows}

abbrev pub range_rows : List ℕ → List (List ℕ)
range_rows ws = rows 2 (length ws / 2) ws

abbrev pub ram_rows : List ℕ → List (List ℕ)
ram_rows ws = rows 3 (length ws / 3) ws

-- the ranges that words stand for
abbrev pub range_in : List ℕ → MemoryRange
range_in r = range (get_or r 0 0) (get_or r 1 0)

abbrev pub ranges_in : List ℕ → List MemoryRange
ranges_in ws = map range_in (range_rows ws)

-- the same with nodes, where each of these words is one
abbrev pub ram_in : List ℕ → TaggedRange
ram_in r = tagged (get_or r 0 0) (get_or r 1 0) (get_or r 2 0)

abbrev pub rams_in : List ℕ → List TaggedRange
rams_in ws = map ram_in (ram_rows ws)

abbrev pub nodes_good : List (List ℕ) → Bool
nodes_good [] = true
nodes_good (r ∷ rs) = ltb (get_or r 2 0) (2 ^ 32) && nodes_good rs

-- the same of any words: of one that is no node its lowest 32 bits
abbrev pub ram_low : List ℕ → TaggedRange
ram_low r = tagged (get_or r 0 0) (get_or r 1 0) (get_or r 2 0 % 2 ^ 32)

-- lists of numbers beside each other, as callers may hold them: a word of each row
abbrev pub column : ℕ → List (List ℕ) → List ℕ
column j = map (λ r. get_or r j 0)

-- the node of each row: the lowest 32 bits of its word
abbrev pub node_column : List (List ℕ) → List ℕ
node_column = map (λ r. get_or r 2 0 % 2 ^ 32)
