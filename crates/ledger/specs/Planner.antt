-- Planners, and the run of a list of calls (docs/SPEC.md, section 27).
use Rattle.std.specs.Prelude.{ℕ, Bool, List, [], ◌∷◌, length, Option, Some, None, Result, Ok, Err}
use Rattle.refusal.specs.declared.Refusal.{Refusal}
use Rattle.memory_range.specs.declared.range.MemoryRange.{MemoryRange}
use Rattle.memory_range.specs.declared.range.TaggedRange.{TaggedRange}
use Rattle.host_params.specs.declared.IsolationType.{IsolationType}
use Rattle.host_params.specs.declared.MemoryAllocationMode.{MemoryAllocationMode}
use Rattle.host_params.specs.declared.MemoryEntry.{MemoryEntry}
use Rattle.vtl2_ram.specs.declared.ram.Vtl2Ram.{Vtl2Ram}
use Rattle.vtl2_ram.specs.Ram.{ram_entries, ram_as}
use Rattle.vtl2_ram.specs.Select.{choice}
use Rattle.address_space.specs.declared.request.Allocation.{Allocation}
use Rattle.address_space.specs.declared.table.AddressRange.{AddressRange}
use Rattle.address_space.specs.declared.table.AddressSpaceManager.{AddressSpaceManager}
use Rattle.address_space.specs.Request.{requested_on}
use Rattle.address_space.specs.Table.{entries_of, pool_of, empty_table}
use Rattle.memory.specs.declared.builder.AddressSpaceManagerBuilder.{AddressSpaceManagerBuilder}
use Rattle.memory.specs.declared.init.Init.{Init}
use Rattle.memory.specs.Build.{build, has_pool, init_as}
use Rattle.private_pool.specs.declared.pool.PrivatePool.{PrivatePool}
use Rattle.private_pool.specs.Pool.{pool_placed, pool_as}
use Rattle.ledger.specs.Call.{Request, Call, request, pool, Answer, request_answer, pool_answer}
use Rattle.ledger.specs.Ledger.{Ledger, fed}

-- what a call comes to: an answer, and the state afterwards
pub record Answered (S : Type 0) : Type 0 where
  pub answer : Answer
  pub state : S

-- a planner: its selection, and its build, requests and placements over states of its own, of which only the table's entries and the pool flag are looked at
pub record Planner : Type 1 where
  -- the RAM chosen by mode, isolation, RAM size, file, map and imported ranges; none where refused
  pub select : MemoryAllocationMode → IsolationType → Option ℕ → MemoryRange → List MemoryEntry → List MemoryRange → Option (List TaggedRange)
  pub State : Type 0
  pub entries : State → List AddressRange
  pub flag : State → Bool
  -- from the single ranges, the RAM, the config and the pool ranges; none where refused
  pub build : AddressSpaceManagerBuilder → List TaggedRange → List MemoryRange → List MemoryRange → Option State
  pub ask : Request → State → Answered State
  pub place : ℕ → Bool → State → Answered State

-- the planner that the definitions are: each part is what the contract of the code's function says of its result
abbrev pub selection_of : Result Vtl2Ram Refusal → Option (List TaggedRange)
selection_of (Ok r) = Some (ram_entries r)
selection_of (Err n) = None

abbrev pub initialized : Result (Unit {0}) Refusal → AddressSpaceManager → Option AddressSpaceManager
initialized (Ok x) m = Some m
initialized (Err n) m = None

abbrev pub init_of : Init → Option AddressSpaceManager
init_of i = initialized i.answer i.manager

abbrev pub allocation_of : Allocation → Answered AddressSpaceManager
allocation_of a = record { answer = request_answer a.answer; state = a.manager }

abbrev pub private_pool_of : PrivatePool → Answered AddressSpaceManager
private_pool_of p = record { answer = pool_answer p.answer p.ranges; state = p.manager }

abbrev pub planner : Planner
planner =
    record {
      select = λ mode isolation size file map imports. selection_of (ram_as (choice mode isolation size file map imports));
      State = AddressSpaceManager;
      entries = entries_of;
      flag = pool_of;
      build = λ b ram configs pools. init_of (init_as empty_table (has_pool pools) (build b (length (entries_of empty_table)) ram configs pools));
      ask = λ r m.
          allocation_of (requested_on m r.asked r.len r.type r.policy r.alignment);
      place = λ pages split m. private_pool_of (pool_as m (pool_placed pages split (entries_of m)));
    }

-- a call in a run: the state that it met and the ledger as it stood, its answer, and the state that it left
pub record Event (S : Type 0) : Type 0 where
  pub call : Call
  pub met : S
  pub ledger : Ledger
  pub answer : Answer
  pub left : S

module _ (P : Planner) where
  abbrev pub answered : Call → P.State → Answered P.State
  answered (request r) s = P.ask r s
  answered (pool pages split) s = P.place pages split s

  -- a list of calls, each on the state that the last one left
  abbrev pub events : List Call → P.State → Ledger → List (Event P.State)
  events [] s l = []
  events (c ∷ cs) s l =
      let a = answered c s in
      record { call = c; met = s; ledger = l; answer = a.answer; left = a.state } ∷ events cs a.state (fed c a.answer l)

  abbrev pub state_after : List Call → P.State → P.State
  state_after [] s = s
  state_after (c ∷ cs) s = state_after cs (answered c s).state

  abbrev pub ledger_after : List Call → P.State → Ledger → Ledger
  ledger_after [] s l = l
  ledger_after (c ∷ cs) s l = ledger_after cs (answered c s).state (fed c (answered c s).answer l)
