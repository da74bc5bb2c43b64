-- Bytes cut at a separator (docs/SPEC.md, section 10). Lines of a text are parted by newlines, fields of
-- a line by tabs.
use Rattle.std.specs.Prelude.{ℕ, cond, List, [], ◌∷◌, ◌++◌, eqb, ltb, length, Option, Some, None}
use Rattle.plan_fields.specs.Word.{after}

abbrev pub tab : ℕ
tab = 9

abbrev pub newline : ℕ
newline = 10

-- a byte in front of the first part
abbrev pub on_first : ℕ → List (List ℕ) → List (List ℕ)
on_first b [] = (b ∷ []) ∷ []
on_first b (p ∷ ps) = (b ∷ p) ∷ ps

-- the parts between one separator and the next, or an end of the bytes: one more than there are separators
abbrev pub split_on : ℕ → List ℕ → List (List ℕ)
split_on c [] = [] ∷ []
split_on c (b ∷ bs) = cond (eqb b c) ([] ∷ split_on c bs) (on_first b (split_on c bs))

-- the first part: the bytes in front of the first separator
abbrev pub first_part : ℕ → List ℕ → List ℕ
first_part c [] = []
first_part c (b ∷ bs) = cond (eqb b c) [] (b ∷ first_part c bs)

-- the parts with a separator between each two
abbrev pub join_with : ℕ → List (List ℕ) → List ℕ
join_with c [] = []
join_with c (p ∷ []) = p
join_with c (p ∷ q ∷ ps) = p ++ c ∷ join_with c (q ∷ ps)

-- what the first of several fields stands for, and the length of that field; none, where it is the only one
unfoldable pub first_of : {A : Type 0} → (List ℕ → Option A) → List ℕ → Option (A × ℕ)
first_of of bs =
    cond (ltb (length (first_part tab bs)) (length bs)) (after (of (first_part tab bs)) (λ v. Some (v, length (first_part tab bs)))) None
