-- Rows of the chart as rules by themselves (docs/SPEC.md, section 1): each row has a number, and a rule that is kept where the row does not
-- refuse.
use Rattle.std.specs.Prelude.{ℕ, ◌<◌, ◌≡◌}

module _ {Row : Type 0} (number : Row → ℕ) (Rule : Row → Type 0) where
  -- the rules of the rows below k are kept
  abbrev pub KeptBelow : ℕ → Type 0
  KeptBelow k = (row : Row) → number row < k → Rule row

  -- a rule is broken, n is its number, and the rules that are looked at before it are kept: those of the rows below `looked_at`, which in
  -- most charts is the row's own number
  abbrev pub BrokenAt : (Row → ℕ) → ℕ → Type 0
  BrokenAt looked_at n = (row : Row) × (number row ≡ n) × (Rule row → ⊥) × KeptBelow (looked_at row)
