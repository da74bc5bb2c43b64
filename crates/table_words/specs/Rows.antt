-- Words by rows (docs/SPEC.md, section 31).
use Rattle.std.specs.Prelude.{ℕ, zero, suc, List, [], ◌∷◌, take, drop}

-- the first k rows of so many words each
abbrev pub rows : ℕ → ℕ → List ℕ → List (List ℕ)
rows width zero ws = []
rows width (suc k) ws = take width ws ∷ rows width k (drop width ws)
