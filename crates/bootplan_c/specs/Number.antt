-- A number that need not be given, by a flag beside it (docs/SPEC.md, sections 18 and 19).
use Rattle.std.specs.Prelude.{ℕ, Bool, true, false, Option, Some, None}

-- where the flag is false, the number is not read
abbrev pub given_number : Bool → ℕ → Option ℕ
given_number true number = Some number
given_number false number = None
