-- A plan as a run of calls (docs/SPEC.md, section 30): what a text asks for as calls of the claim, the lines of their answers, and what is claimed of
-- the text and its plan.
use Rattle.std.specs.Prelude.{ℕ, ◌≡◌, Bool, List, [], ◌∷◌, ◌++◌, map, Option, Some, None, Ok, Err}
use Rattle.memory_range.specs.declared.range.TaggedRange.{TaggedRange}
use Rattle.memory_range.specs.Bytes.{All}
use Rattle.boot_ram.specs.Held.{bytes_of}
use Rattle.vtl2_ram.specs.Choice.{chosen}
use Rattle.vtl2_ram.specs.Select.{choice}
use Rattle.address_space.specs.declared.request.AllocatedRange.{AllocatedRange}
use Rattle.address_space.specs.declared.table.AddressRange.{AddressRange}
use Rattle.memory_claims.specs.Claim.{Of64Bits}
use Rattle.ledger.specs.Call.{Request, Call, request, pool, Answer, refused, gave}
use Rattle.ledger.specs.Planner.{Event, planner, events}
use Rattle.ledger.specs.Claim.{first_ledger, last_table}
use Rattle.ledger.specs.Laws.Demand.{Planned}
use Rattle.plan_record.specs.declared.record.Get.{Get}
use Rattle.plan_record.specs.declared.record.Record.{Record}
use Rattle.plan_text.specs.Text.{records_of}
use Rattle.plan_input.specs.Input.{Input, input_of}
use Rattle.plan.specs.Get.{answer_line}
use Rattle.plan.specs.declared.line.OutputLine.{OutputLine}
use Rattle.plan.specs.Pool.{pages_wanted}
use Rattle.plan.specs.Write.{ram_lines, pool_lines, map_lines}

-- the alignments of requests are numbers of 64 bits
abbrev pub GetsBits : List Get → Type 0
GetsBits gets = All (λ g. Of64Bits g.alignment) gets

-- a request of a text as one of the claim
abbrev pub request_of : (g : Get) → Of64Bits g.alignment → Request
request_of g bits =
    record {
      asked = g.required_vnode;
      len = g.len;
      type = g.allocation_type;
      policy = g.allocation_policy;
      alignment = g.alignment;
      bits = bits;
    }

-- requests in turn, each a call
abbrev pub requests_of : (gets : List Get) → GetsBits gets → List Call
requests_of [] bits = []
requests_of (g ∷ gets) bits = request (request_of g bits.0) ∷ requests_of gets bits.1

-- the placement of a pool of so many pages in front of other calls, if one is wanted
abbrev pub pool_then : Option ℕ → Bool → List Call → List Call
pool_then None split calls = calls
pool_then (Some pages) split calls = pool pages split ∷ calls

-- what a text asks for, over the chosen RAM: the pool first, if one is wanted, and then its requests
abbrev pub calls_of : (i : Input) → List TaggedRange → GetsBits i.gets → List Call
calls_of i ram bits = pool_then (pages_wanted i.shape.isolation i.pool (bytes_of ram)) i.pool.split (requests_of i.gets bits)

-- the lines of an answer: a line for each range of a pool; a line for a request, its range or its refusal
abbrev pub got_lines : List AllocatedRange → List OutputLine
got_lines = map (λ x. answer_line (Ok x))

abbrev pub answer_lines : Call → Answer → List OutputLine
answer_lines (request r) (refused n) = answer_line (Err n) ∷ []
answer_lines (request r) (gave xs) = got_lines xs
answer_lines (pool pages split) (refused n) = []
answer_lines (pool pages split) (gave xs) = pool_lines xs

-- the lines of a run: of each call those of its answer
abbrev pub run_lines : {S : Type 0} → List (Event S) → List OutputLine
run_lines [] = []
run_lines (e ∷ es) = answer_lines e.call e.answer ++ run_lines es

-- a call that places a pool is not refused
abbrev pub PoolGiven : Call → Answer → Type 0
PoolGiven (request r) a = Unit {0}
PoolGiven (pool pages split) (refused n) = ⊥
PoolGiven (pool pages split) (gave xs) = Unit {0}

-- the run of these calls from a state of the build, and the table after the last of them
abbrev pub run_of : (i : Input) (ram : List TaggedRange) → GetsBits i.gets → planner.State → List (Event planner.State)
run_of i ram bits s = events planner (calls_of i ram bits) s (first_ledger planner i.builder ram i.configs i.gpools)

abbrev pub last_of : (i : Input) (ram : List TaggedRange) → GetsBits i.gets → planner.State → List AddressRange
last_of i ram bits s = last_table planner i.builder ram i.configs i.gpools (calls_of i ram bits) s

-- of a text and the lines of its plan: they are those of a run of the planner that demand 3 is proved of
pub record PlanClaimed (text : List ℕ) (ls : List OutputLine) : Type 0 where
  -- the records of the text, and what they give
  pub records : List Record
  pub read : records_of text ≡ Some records
  pub input : Input
  pub given : input ≡ input_of records
  pub bits : GetsBits input.gets
  -- the RAM that is chosen, and the state of the build from it
  pub ram : List TaggedRange
  pub selected : choice input.shape.mode input.shape.isolation input.shape.memory_size input.file input.map input.imports
      ≡ chosen ram
  pub state : planner.State
  pub builds : planner.build input.builder ram input.configs input.gpools ≡ Some state
  -- demand 3, from the map to the table after the calls
  pub claimed :
      Planned planner input.shape.mode input.shape.isolation input.shape.memory_size input.file input.map input.imports ram
      input.builder input.configs input.gpools state (calls_of input ram bits)
  -- the pool is placed, if one is wanted
  pub pool-given : All (λ e. PoolGiven e.call e.answer) (run_of input ram bits state)
  -- the lines are the RAM's, those of the answers in turn, and those of the table after the last call
  pub as-lines : ls ≡ ram_lines ram ++ (run_lines (run_of input ram bits state) ++ map_lines (last_of input ram bits state))
