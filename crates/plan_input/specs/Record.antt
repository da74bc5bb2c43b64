-- The records from a place of a text on (docs/SPEC.md, section 28).
use Rattle.std.specs.Prelude.{ℕ, ◌≡◌, List, [], ◌∷◌, drop, Option, Some, None}
use Rattle.plan_fields.specs.Cut.{newline, split_on}
use Rattle.plan_record.specs.declared.record.Record.{Record}
use Rattle.plan_record.specs.Record.{line_of}
use Rattle.plan_text.specs.Text.{check_from, records_from}
use Rattle.plan_input.specs.declared.word.Cursor.{Cursor}

-- a line's record in front of those behind it; a line that breaks its form has none, and ends them
abbrev pub in_front : Option Record → List Record → List Record
in_front None rs = []
in_front (Some r) rs = r ∷ rs

-- the records of parts between newlines: what stands behind the last newline is no line
abbrev pub records_in : List (List ℕ) → List Record
records_in [] = []
records_in (p ∷ []) = []
records_in (p ∷ q ∷ ps) = in_front (line_of p) (records_in (q ∷ ps))

-- the records from a place of the text on, up to the first line that breaks its form
unfoldable pub records_at : List ℕ → ℕ → List Record
records_at text at = records_in (split_on newline (drop at text))

-- the records behind the first
abbrev pub behind_one : List Record → List Record
behind_one [] = []
behind_one (r ∷ rs) = rs

-- the text's check from place `next` on, at order `later`, answers as from place `at` on, at order `order`
abbrev pub SameCheck : List ℕ → ℕ → ℕ → ℕ → ℕ → Type 0
SameCheck text order at later next = check_from later (records_from next text) ≡ check_from order (records_from at text)

-- what a step answers: the first record, and the cursor behind it; none, where there is no record
abbrev pub Stepped : List ℕ → Cursor → Option (Record × Cursor) → Type 0
Stepped text c None = records_at text c.at ≡ []
Stepped text c (Some s) = (records_at text c.at ≡ s.0 ∷ records_at text s.1.at) × SameCheck text c.order c.at s.1.order s.1.at

-- from one cursor to another: the records behind it, and the text's check the same
pub record Moved (text : List ℕ) (from to : Cursor) (rest : List Record) : Type 0 where
  pub records : records_at text to.at ≡ rest
  pub order : SameCheck text from.order from.at to.order to.at
