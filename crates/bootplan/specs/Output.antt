-- What is written.
use Rattle.std.specs.Prelude.{ℕ, List, take}
use Rattle.refusal.specs.Number.{number_of}
use Rattle.plan.specs.Line.{lines_bytes}
use Rattle.plan.specs.Planner.{Plan, refused, lines, plan_of}
use Rattle.plan_output.specs.Line.{no_line}

-- the lines of a plan, or the one of a refusal
abbrev pub plan_bytes : Plan → List ℕ
plan_bytes (refused r) = no_line (number_of r)
plan_bytes (lines ls) = lines_bytes ls

-- of an input no more is looked at than this, one byte more than a text may have
abbrev pub input_size : ℕ
input_size = 65_537

abbrev pub output_for : List ℕ → List ℕ
output_for given = plan_bytes (plan_of (take input_size given))
