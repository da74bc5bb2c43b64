-- The rules of rows that are kept add up, one row after the other.
use Rattle.std.specs.Prelude.{ℕ, ◌+◌, ◌≤◌, ◌<◌, ◌≡◌}
use Rattle.std.proofs.Common.{sym, ap, ◌∙◌, arith}
use Rattle.std.proofs.Math.Decide.{ℕ_discrete}
use Rattle.refusal.specs.Rule.{KeptBelow}

module _ {Row : Type 0} (number : Row → ℕ) (Rule : Row → Type 0) where
  pub kept-none : (k : ℕ) → ((row : Row) → k ≤ number row) → KeptBelow number Rule k
  kept-none k least row l = absurd (omega (arith, least row))

  pub kept-all : (k : ℕ) → ((row : Row) → number row < k) → KeptBelow number Rule k → (row : Row) → Rule row
  kept-all k most kept row = kept row (most row)

  -- of rows of which no two have one number
  pub kept_more : (row_at : ℕ → Row) → ((row : Row) → row_at (number row) ≡ row) → (row : Row) → KeptBelow number Rule (number row) → Rule row
      → KeptBelow number Rule (number row + 1)
  kept_more row_at row-of row kept here other l = go (ℕ_discrete (number other) (number row))
    where
      go : Dec (number other ≡ number row) → Rule other
      go (yes e) = rw (sym (row-of other) ∙ ap row_at e ∙ row-of row) here
      go (no d) = kept other (omega arith)
