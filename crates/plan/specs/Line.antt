-- The lines of a plan as bytes (docs/SPEC.md, section 29).
use Rattle.std.specs.Prelude.{ℕ, ◌+◌, ◌*◌, ◌≤◌, ◌≡◌, List, [], ◌∷◌, ◌++◌, length}
use Rattle.refusal.specs.Number.{number_of}
use Rattle.plan_output.specs.Line.{ram_line, pool_line, got_line, no_line, map_line}
use Rattle.plan_output.specs.Put.{put_at}
use Rattle.plan.specs.declared.line.OutputLine.{OutputLine}
use Rattle.plan.specs.declared.line.OutputLine.TheVariants.{Ram, Pool, Got, No, Map}

-- the bytes of a line, and of lines one after the other
abbrev pub line_bytes : OutputLine → List ℕ
line_bytes (Ram r node) = ram_line r node
line_bytes (Pool r node) = pool_line r node
line_bytes (Got r node) = got_line r node
line_bytes (No r) = no_line (number_of r)
line_bytes (Map r type) = map_line r type

abbrev pub lines_bytes : List OutputLine → List ℕ
lines_bytes [] = []
lines_bytes (l ∷ ls) = line_bytes l ++ lines_bytes ls

-- a line has at most so many bytes
abbrev pub line_size : ℕ
line_size = 52

-- there is room for so many lines from a place of the output on
abbrev pub Room : ℕ → ℕ → List ℕ → Type 0
Room n at output = at + n * line_size ≤ length output

-- lines were put at a place of the output, and r is the place behind them
pub record Wrote (lines : List OutputLine) (at : ℕ) (before after : List ℕ) (r : ℕ) : Type 0 where
  pub place : r ≡ at + length (lines_bytes lines)
  pub bytes : after ≡ put_at at (lines_bytes lines) before
  pub within : r ≤ at + length lines * line_size
