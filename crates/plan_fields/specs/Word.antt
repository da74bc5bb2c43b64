-- Words, and a field compared with one (docs/SPEC.md, section 10).
use Rattle.std.specs.Prelude.{ℕ, Bool, true, false, cond, ◌&&◌, List, [], ◌∷◌, eqb, Option, Some, None}
use Rattle.std.proofs.Common.{Bor}
use Prim.Native.Char.{code}
use Prim.Native.String.{String, [] as []ˢ, ◌∷◌ as ◌∷ˢ◌}

-- the bytes of a word that is written in ASCII: the code of each character
abbrev pub ascii : String → List ℕ
ascii []ˢ = []
ascii (c ∷ˢ s) = code c ∷ ascii s

-- whether two lists have the same bytes in the same order
abbrev pub same_bytes : List ℕ → List ℕ → Bool
same_bytes [] [] = true
same_bytes [] (b ∷ bs) = false
same_bytes (a ∷ rest) [] = false
same_bytes (a ∷ rest) (b ∷ bs) = eqb a b && same_bytes rest bs

-- what goes on from a value, where there is one
abbrev pub after : {A B : Type 0} → Option A → (A → Option B) → Option B
after None next = None
after (Some x) next = next x

-- what a field stands for, by a table of words and their values; none, where it is none of the words
abbrev pub lookup : {A : Type 0} → List (String × A) → List ℕ → Option A
lookup [] field = None
lookup (row ∷ rows) field = cond (same_bytes field (ascii row.0)) (Some row.1) (lookup rows field)

-- the same by a table of words in bytes
abbrev pub value_by : {A : Type 0} → List (Bor (List ℕ) × A) → List ℕ → Option A
value_by [] field = None
value_by (row ∷ rows) field = cond (same_bytes field (row.0).now) (Some row.1) (value_by rows field)
