-- The rows of selection have the numbers 4 to 14, so that their rules add up one after the other.
use Rattle.std.specs.Prelude.{ℕ, ◌+◌, ◌≤◌, ◌≡◌, refl, cond, List, leb, Option}
use Rattle.std.proofs.Common.{arith}
use Rattle.memory_range.specs.declared.range.MemoryRange.{MemoryRange}
use Rattle.host_params.specs.declared.IsolationType.{IsolationType}
use Rattle.host_params.specs.declared.MemoryAllocationMode.{MemoryAllocationMode}
use Rattle.host_params.specs.declared.MemoryEntry.{MemoryEntry}
use Rattle.refusal.specs.Number.{number_of, range_invalid, too_many_pieces}
use Rattle.refusal.specs.Laws.Rule as rule
use Rattle.vtl2_ram.specs.Rule.{Row, row4, row5, row6, row7, row8, row9, row10, row11, row12, row13, row14, number, Rule, Kept}

-- the numbers of the rows are 4 to 14, each of one row
pub numbered : (row : Row) → (number_of range_invalid ≤ number row) × (number row ≤ number_of too_many_pieces)
numbered row4 = (omega arith, omega arith)
numbered row5 = (omega arith, omega arith)
numbered row6 = (omega arith, omega arith)
numbered row7 = (omega arith, omega arith)
numbered row8 = (omega arith, omega arith)
numbered row9 = (omega arith, omega arith)
numbered row10 = (omega arith, omega arith)
numbered row11 = (omega arith, omega arith)
numbered row12 = (omega arith, omega arith)
numbered row13 = (omega arith, omega arith)
numbered row14 = (omega arith, omega arith)

abbrev row_of : ℕ → Row
row_of n =
    cond (leb n 8) (cond (leb n 5) (cond (leb n 4) row4 row5) (cond (leb n 6) row6 (cond (leb n 7) row7 row8)))
    (cond (leb n 11) (cond (leb n 9) row9 (cond (leb n 10) row10 row11)) (cond (leb n 12) row12 (cond (leb n 13) row13 row14)))

row-of : (row : Row) → row_of (number row) ≡ row
row-of row4 = refl
row-of row5 = refl
row-of row6 = refl
row-of row7 = refl
row-of row8 = refl
row-of row9 = refl
row-of row10 = refl
row-of row11 = refl
row-of row12 = refl
row-of row13 = refl
row-of row14 = refl

module _ (mode : MemoryAllocationMode) (isolation : IsolationType) (size : (Option ℕ)) (file : MemoryRange) (map : List MemoryEntry)
    (imports : List MemoryRange) where
  pub kept-none : Kept mode isolation size file map imports (number_of range_invalid)
  kept-none = rule.kept-none number (Rule mode isolation size file map imports) (number_of range_invalid) (λ row. (numbered row).0)

  pub kept_more : (row : Row) → Kept mode isolation size file map imports (number row) → Rule mode isolation size file map imports row
      → Kept mode isolation size file map imports (number row + 1)
  kept_more = rule.kept_more number (Rule mode isolation size file map imports) row_of row-of

  pub kept-all : Kept mode isolation size file map imports (number_of too_many_pieces + 1) → (row : Row) → Rule mode isolation size file map imports row
  kept-all = rule.kept-all number (Rule mode isolation size file map imports) (number_of too_many_pieces + 1) (λ row. omega (arith, (numbered row).1))
