-- The requests of a plan, each answered on the table that the last one left (docs/SPEC.md, section 29).
use Rattle.std.specs.Prelude.{ℕ, List, [], ◌∷◌, Option, Some, None, Result, Ok, Err}
use Rattle.address_space.specs.declared.request.AllocatedRange.{AllocatedRange}
use Rattle.address_space.specs.declared.table.AddressRange.{AddressRange}
use Rattle.address_space.specs.Request.{Outcome, refused, handed, requested}
use Rattle.plan_record.specs.declared.record.Get.{Get}
use Rattle.plan_input.specs.Input.{gets_first}
use Rattle.plan_input.specs.Record.{records_at}
use Rattle.plan.specs.declared.line.OutputLine.{OutputLine}
use Rattle.plan.specs.declared.line.OutputLine.TheVariants.{Got, No}
use Rattle.refusal.specs.declared.Refusal.{Refusal}

-- what a request comes to on a table with these entries
abbrev pub outcome_on : Get → List AddressRange → Outcome
outcome_on g es = requested g.required_vnode g.len g.allocation_type g.allocation_policy g.alignment es

-- its line, and the entries that it leaves: those that it met, where refused
abbrev pub outcome_line : Outcome → OutputLine
outcome_line (refused n) = No n
outcome_line (handed x es) = Got x.range x.vnode

abbrev pub left_by : List AddressRange → Outcome → List AddressRange
left_by met (refused n) = met
left_by met (handed x es) = es

-- the lines of requests, and the entries that the last one leaves
abbrev pub get_lines : List Get → List AddressRange → List OutputLine
get_lines [] es = []
get_lines (g ∷ gs) es = outcome_line (outcome_on g es) ∷ get_lines gs (left_by es (outcome_on g es))

abbrev pub after_gets : List Get → List AddressRange → List AddressRange
after_gets [] es = es
after_gets (g ∷ gs) es = after_gets gs (left_by es (outcome_on g es))

-- the line of an answer
abbrev pub answer_line : Result AllocatedRange Refusal → OutputLine
answer_line (Ok x) = Got x.range x.vnode
answer_line (Err n) = No n

-- a step through the requests: of a record that holds one, and what a step's answer stands for
abbrev pub get_step : List Get → ℕ → Option (Get × ℕ)
get_step [] next = None
get_step (g ∷ gs) next = Some (g, next)

abbrev pub get_stepped : List ℕ → Option (Get × ℕ) → List Get
get_stepped text (Some (g, next)) = g ∷ gets_first (records_at text next)
get_stepped text None = []
