-- A refusal, if there is one, as the answer of a function.
use Rattle.std.specs.Prelude.{ℕ, Option, Some, None, Result, Ok, Err}
use Rattle.refusal.specs.declared.Refusal.{Refusal}

-- or a count
abbrev pub counted_as : Option Refusal → ℕ → Result ℕ Refusal
counted_as None n = Ok n
counted_as (Some r) n = Err r

-- or that the rows are passed
abbrev pub rows_as : Option Refusal → Result (Unit {0}) Refusal
rows_as None = Ok tt
rows_as (Some r) = Err r
