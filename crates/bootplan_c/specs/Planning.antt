-- How C is told what a plan comes to (docs/SPEC.md, section 29).
use Rattle.std.specs.Prelude.{ℕ, Result, Ok, Err}
use Rattle.refusal.specs.Number.{number_of}
use Rattle.plan.specs.declared.planner.PlanError.{PlanError}
use Rattle.plan.specs.declared.planner.PlanError.TheVariants as plan
use Rattle.table_words.specs.declared.code.CallError.{CallError}
use Rattle.table_words.specs.declared.code.CallError.TheVariants as call
use Rattle.table_words.specs.Code.{Call, done_code, no_room}

-- as an error of a call
abbrev pub call_error : PlanError → CallError
call_error (plan.Refused r) = call.Refused r
call_error plan.NoRoom = call.NoRoom

abbrev pub plan_call : Result ℕ PlanError → Call ℕ
plan_call (Err e) = Err (call_error e)
plan_call (Ok n) = Ok n

-- the number of an answer
abbrev pub plan_code : Result ℕ PlanError → ℕ
plan_code (Ok n) = done_code
plan_code (Err (plan.Refused r)) = number_of r
plan_code (Err plan.NoRoom) = no_room

-- the plan's length, or what was there before
abbrev pub length_or : Result ℕ PlanError → ℕ → ℕ
length_or (Ok n) before = n
length_or (Err e) before = before
