-- The plan of a text, from its bytes to the bytes of the output (docs/SPEC.md, section 29; document 01, "The plan text").
use Rattle.std.specs.Prelude.{ℕ, ◌+◌, ◌*◌, ◌/◌, min, ◌≡◌, Bool, not, ◌&&◌, cond, List, [], ◌∷◌, ◌++◌, ltb, length, take, Option, Some, None, Result, Ok, Err}
use Rattle.refusal.specs.Number.{range_invalid, ranges_not_ascending}
use Rattle.refusal.specs.Rows.{refused_if, downward, unless}
use Rattle.memory_range.specs.declared.range.MemoryRange.{MemoryRange}
use Rattle.memory_range.specs.declared.range.TaggedRange.{TaggedRange}
use Rattle.memory_range.specs.Valid.{all_valid_of, ascend}
use Rattle.host_params.specs.declared.IsolationType.{IsolationType}
use Rattle.host_params.specs.declared.MemoryEntry.{MemoryEntry}
use Rattle.boot_ram.specs.Held.{bytes_of}
use Rattle.vtl2_ram.specs.declared.ram.Vtl2Ram.{Vtl2Ram}
use Rattle.vtl2_ram.specs.Ram.{ram_entries}
use Rattle.vtl2_ram.specs.Choice.{Choice, chosen}
use Rattle.vtl2_ram.specs.Choice as choice-of
use Rattle.host_map.specs.Map.{map_ranges}
use Rattle.vtl2_ram.specs.Select.{choice}
use Rattle.address_space.specs.declared.request.AllocatedRange.{AllocatedRange}
use Rattle.address_space.specs.declared.table.AddressRange.{AddressRange}
use Rattle.memory.specs.declared.builder.AddressSpaceManagerBuilder.{AddressSpaceManagerBuilder}
use Rattle.memory.specs.Build.{Build, build, built}
use Rattle.memory.specs.Build as build-of
use Rattle.plan_record.specs.declared.record.Get.{Get}
use Rattle.plan_record.specs.declared.record.Pool.{Pool}
use Rattle.plan_record.specs.declared.record.Record.{Record}
use Rattle.plan_text.specs.Text.{text_check, records_of, text_size}
use Rattle.plan_input.specs.declared.build.BuildRead.{BuildRead}
use Rattle.plan_input.specs.declared.once.PoolRead.{PoolRead}
use Rattle.plan_input.specs.declared.selection.SelectionRead.{SelectionRead}
use Rattle.plan_input.specs.Record.{records_at, behind_one}
use Rattle.plan_input.specs.Once.{pool_first}
use Rattle.plan_input.specs.Selection.{SelectionIn, selection_in, SelectionHeld}
use Rattle.plan_input.specs.Build.{BuildIn, build_in, BuildHeld}
use Rattle.plan_input.specs.Input.{Input, input_of, text_ranges}
use Rattle.plan_input.specs.Room.{map_room, import_room, config_room, pool_room}
use Rattle.plan_output.specs.Line.{written}
use Rattle.private_pool.specs.Pool.{Placement, placed}
use Rattle.private_pool.specs.Pool as placement
use Rattle.plan.specs.declared.line.OutputLine.{OutputLine}
use Rattle.plan.specs.declared.planner.PlanError.{PlanError}
use Rattle.plan.specs.declared.planner.PlanError.TheVariants as error
use Rattle.plan.specs.Line.{lines_bytes, line_size}
use Rattle.plan.specs.Write.{ram_lines, pool_lines, map_lines}
use Rattle.plan.specs.Get.{get_lines, after_gets}
use Rattle.plan.specs.Pool.{pages_wanted, placed_for}
use Rattle.refusal.specs.declared.Refusal.{Refusal}

-- what a text comes to: a refusal, or the lines of its plan
pub data Plan : Type 0 where
  refused : Refusal → Plan
  lines : List OutputLine → Plan

-- the RAM, the pool's ranges, a line for each request, and the table that the last request leaves
unfoldable pub plan_lines : List TaggedRange → List AllocatedRange → List Get → List AddressRange → List OutputLine
plan_lines ram pool gets es = ram_lines ram ++ (pool_lines pool ++ (get_lines gets es ++ map_lines (after_gets gets es)))

-- after the pool's placement the requests are answered; none of them refuses the plan
abbrev pub after_pool : List TaggedRange → List Get → Placement → Plan
after_pool ram gets (placement.refused n) = refused n
after_pool ram gets (placed pool es) = lines (plan_lines ram pool gets es)

-- after the build the pool is sized by the RAM's bytes, and placed
abbrev pub after_build : IsolationType → Pool → List TaggedRange → List Get → Build → Plan
after_build isolation pool ram gets (build-of.refused n) = refused n
after_build isolation pool ram gets (built es) =
    after_pool ram gets (placed_for (pages_wanted isolation pool (bytes_of ram)) pool.split es)

-- after selection the table is built
abbrev pub after_choice : IsolationType → Pool → AddressSpaceManagerBuilder → List Get → List MemoryRange → List MemoryRange → Choice → Plan
after_choice isolation pool builder gets configs pools (choice-of.refused n) = refused n
after_choice isolation pool builder gets configs pools (chosen ram) = after_build isolation pool ram gets (build builder 0 ram configs pools)

-- row 4 over all ranges of the text, then row 5 over the map and the imported ranges
unfoldable pub ranges_refusal : List Record → Option Refusal
ranges_refusal rs =
    let i = input_of rs in
    downward
    (refused_if (not (all_valid_of (text_ranges rs))) range_invalid
    ∷ refused_if (not (ascend (map_ranges i.map) && ascend i.imports)) ranges_not_ascending
    ∷ [])

-- the plan of records in order: these rows, and then selection
abbrev pub selected_plan : Input → Plan
selected_plan i =
    let s = i.shape in
    after_choice s.isolation i.pool i.builder i.gets i.configs i.gpools
    (choice s.mode s.isolation s.memory_size i.file i.map i.imports)

unfoldable pub records_plan : List Record → Plan
records_plan rs = unless refused (ranges_refusal rs) (selected_plan (input_of rs))

-- the records of a text that is accepted
abbrev pub records_given : Option (List Record) → List Record
records_given None = []
records_given (Some rs) = rs

abbrev pub checked_plan : Result (Unit {0}) Refusal → List Record → Plan
checked_plan (Err n) rs = refused n
checked_plan (Ok done) rs = records_plan rs

-- the plan of a text: rows 3, 1 and 2, and then the plan of its records
unfoldable pub plan_of : List ℕ → Plan
plan_of bytes = checked_plan (text_check bytes) (records_given (records_of bytes))

-- the answer: a refusal, or how many bytes are written
abbrev pub planned_as : Plan → Result ℕ Refusal
planned_as (refused n) = Err n
planned_as (lines ls) = Ok (length (lines_bytes ls))

-- the output afterwards: as found where refused, else the lines at its start and behind them as found
abbrev pub output_as : Plan → List ℕ → List ℕ
output_as (refused n) output = output
output_as (lines ls) output = written (lines_bytes ls) output

-- both of them
pub record Answers (p : Plan) (before after : List ℕ) (r : Result ℕ Refusal) : Type 0 where
  pub answer : r ≡ planned_as p
  pub output : after ≡ output_as p before

-- what the records of a text give selection, and those behind them the build
abbrev pub selection_given : List ℕ → SelectionIn
selection_given bytes = selection_in (records_at bytes 0)

abbrev pub build_given : List ℕ → BuildIn
build_given bytes = build_in (selection_given bytes).rest

-- all that is read of an accepted text before its requests: of its lists as much as there is room for
pub record TextRead (bytes : List ℕ) (read : SelectionRead) (build : BuildRead) (pool : PoolRead) (map : List MemoryEntry)
    (imports configs pools : List MemoryRange) : Type 0 where
  pub accepted : text_check bytes ≡ Ok tt
  pub selection : SelectionHeld bytes (selection_given bytes) read
  pub building : BuildHeld bytes (build_given bytes) build
  pub pool-first : pool.pool ≡ pool_first (build_given bytes).rest
  pub next : records_at bytes pool.next ≡ behind_one (build_given bytes).rest
  pub map-room : map ≡ take map_room (selection_given bytes).map
  pub imports_room : imports ≡ take import_room (selection_given bytes).imports
  pub configs_room : configs ≡ take config_room (build_given bytes).configs
  pub pools_room : pools ≡ take pool_room (build_given bytes).pools

-- what selection comes to, by as much of the lists that are read as there is room for
abbrev pub choice_of : SelectionIn → Choice
choice_of s = choice s.shape.mode s.shape.isolation s.shape.memory_size s.file (take map_room s.map) (take import_room s.imports)

-- a selection's answer in the course of a plan: its bytes are those of its entries, and the plan is what comes after their choice
pub record Selected (bytes : List ℕ) (isolation : IsolationType) (pool : Pool) (builder : AddressSpaceManagerBuilder) (gets : List Get)
    (configs pools : List MemoryRange) (ram : Vtl2Ram) : Type 0 where
  pub total : ram.bytes ≡ bytes_of (ram_entries ram)
  pub plan : plan_of bytes ≡ after_choice isolation pool builder gets configs pools (chosen (ram_entries ram))

-- the bytes of the shortest request: `get`, five fields of a byte, and the byte behind each of the six
abbrev pub shortest_get : ℕ
shortest_get = 14

-- the plan of a text of so many bytes has at most so many lines: of the RAM, of the pool, of requests, and of the table
abbrev pub most_lines : ℕ → ℕ
most_lines size = 64 + 64 + size / shortest_get + 256

-- so many bytes suffice for the plan of every text of that many bytes; a text of more than 65,536 has none
abbrev pub output_size_for : ℕ → ℕ
output_size_for size = most_lines (min size text_size) * line_size

-- whether the output has fewer bytes than that: so it is told whatever the text is
abbrev pub too_short_of : List ℕ → List ℕ → Bool
too_short_of bytes output = ltb (length output) (output_size_for (length bytes))

-- the plan's answer where there may be another error
abbrev pub answer_to : Result ℕ Refusal → Result ℕ PlanError
answer_to (Err r) = Err (error.Refused r)
answer_to (Ok n) = Ok n

-- the answer where the output may be too short: that it is, or the plan's
abbrev pub planned_to : List ℕ → List ℕ → Result ℕ PlanError
planned_to bytes output = cond (too_short_of bytes output) (Err error.NoRoom) (answer_to (planned_as (plan_of bytes)))

-- the output afterwards: as found where it is too short, else as the plan leaves it
abbrev pub output_to : List ℕ → List ℕ → List ℕ
output_to bytes output = cond (too_short_of bytes output) output (output_as (plan_of bytes) output)
