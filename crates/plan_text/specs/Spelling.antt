-- The text that spells a list of records (docs/SPEC.md, section 15).
use Rattle.std.specs.Prelude.{ℕ, List, [], ◌∷◌, ◌++◌}
use Rattle.plan_fields.specs.Cut.{newline}
use Rattle.plan_record.specs.declared.record.Record.{Record}
use Rattle.line_claims.specs.Spelling.{line_for}

-- the lines of the records, each with a newline behind it
abbrev pub text_for : List Record → List ℕ
text_for [] = []
text_for (r ∷ rs) = line_for r ++ newline ∷ text_for rs
