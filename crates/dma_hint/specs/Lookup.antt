-- Finding the rows that size a guest (docs/SPEC.md, section 17). The count of processors and the MiB
-- are compared as they are given here; the remainder by 65,536 is taken before.
use Rattle.std.specs.Prelude.{ℕ, ◌-◌, ◌≤◌, max, cond, ◌&&◌, List, [], ◌∷◌, eqb, ltb, length, take, drop}
use Rattle.dma_hint.specs.declared.lookup.Lookup.{Lookup}
use Rattle.dma_hint.specs.declared.lookup.Lookup.TheVariants.{Exact, Nearest}
use Rattle.dma_hint.specs.Table.{Row, processors_of, mib_of, hint_of}

-- what a lookup finds: the hint of the row that fits exactly, in MiB, or the rows that give the ratios
pub data Found : Type 0 where
  exact : ℕ → Found
  nearest : List Row → Found

-- the rows of a count of processors
abbrev pub rows_with : ℕ → List Row → List Row
rows_with count [] = []
rows_with count (r ∷ rs) = cond (eqb (processors_of r) count) (r ∷ rows_with count rs) (rows_with count rs)

-- the next lower count that a row has; 0 if there is none
abbrev pub next_lower : ℕ → List Row → ℕ
next_lower count [] = 0
next_lower count (r ∷ rs) = cond (ltb (processors_of r) count) (max (processors_of r) (next_lower count rs)) (next_lower count rs)

abbrev pub or_else : List Row → List Row → List Row
or_else [] others = others
or_else (r ∷ rs) others = r ∷ rs

-- the rows of the count; where it has none, those of the next lower count that has some; never of a higher one
abbrev pub nearest_rows : ℕ → List Row → List Row
nearest_rows count rows = or_else (rows_with count rows) (rows_with (next_lower count rows) rows)

-- the hint of the first row of exactly this count and memory, or the answer given for none
abbrev pub exact_or : ℕ → ℕ → List Row → Found → Found
exact_or count mib [] otherwise = otherwise
exact_or count mib (r ∷ rs) otherwise =
    cond (eqb (processors_of r) count && eqb (mib_of r) mib) (exact (hint_of r)) (exact_or count mib rs otherwise)

-- the exact row's hint, or the nearest rows
abbrev pub lookup : ℕ → ℕ → List Row → Found
lookup count mib rows = exact_or count mib rows (nearest (nearest_rows count rows))

-- the rows from the place `first` to before the place `end`
abbrev pub part : ℕ → ℕ → List Row → List Row
part first end rows = take (end - first) (drop first rows)

-- what the code's answer stands for, in a table
abbrev pub found_within : List Row → Lookup → Found
found_within rows (Exact hint) = exact hint
found_within rows (Nearest first end) = nearest (part first end rows)

-- the places of the code's answer are in order and lie in the table
abbrev pub Within : List Row → Lookup → Type 0
Within rows (Exact hint) = Unit
Within rows (Nearest first end) = (first ≤ end) × (end ≤ length rows)
