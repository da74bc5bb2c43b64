-- How a row of the chart refuses, and which one does where several are looked at (docs/SPEC.md, sections 1 and 19).
use Rattle.std.specs.Prelude.{Bool, true, false, List, [], ◌∷◌, Option, Some, None}
use Rattle.refusal.specs.declared.Refusal.{Refusal}

-- a rule that is broken refuses
abbrev pub refused_if : Bool → Refusal → Option Refusal
refused_if true r = Some r
refused_if false r = None

-- rows are looked at downward: the first one that refuses
abbrev pub downward : List (Option Refusal) → Option Refusal
downward [] = None
downward (Some r ∷ rows) = Some r
downward (None ∷ rows) = downward rows

-- a refusal, if there is one, and else what comes after
abbrev pub unless : {A : Type 0} → (Refusal → A) → Option Refusal → A → A
unless refused (Some r) x = refused r
unless refused None x = x
