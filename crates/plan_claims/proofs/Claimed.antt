-- Of every text whose plan has lines the claim holds.
use Rattle.std.specs.Prelude.{ℕ, ◌≡◌, refl, Bool, true, ◌||◌, List, [], ◌∷◌, ◌++◌, length, drop, Option, Some, None}
use Rattle.std.proofs.Common.{ap, sym, ◌∙◌, append_assoc}
use Rattle.std.proofs.Math.Seq.{take-append_seam}
use Rattle.memory_range.specs.declared.range.TaggedRange.{TaggedRange}
use Rattle.memory_range.specs.Bytes.{All}
use Rattle.boot_ram.specs.Held.{bytes_of}
use Rattle.address_space.specs.declared.request.AllocatedRange.{AllocatedRange}
use Rattle.address_space.specs.declared.table.AddressRange.{AddressRange}
use Rattle.address_space.specs.declared.table.AddressSpaceManager.{AddressSpaceManager}
use Rattle.address_space.specs.Request.{Outcome, handed, allocation_as}
use Rattle.address_space.specs.Request as outcome
use Rattle.address_space.specs.Table.{entries_of, pool_of}
use Rattle.address_space.specs.Usage.{is_pool}
use Rattle.address_space.specs.Laws.Split.{entries_with}
use Rattle.private_pool.specs.Pool.{placed, no_ranges, pool_as}
use Rattle.ledger.specs.Call.{Request, Call, request, pool}
use Rattle.ledger.specs.Ledger.{Ledger, fed}
use Rattle.ledger.specs.Planner.{planner, allocation_of, private_pool_of, answered, events, state_after}
use Rattle.ledger.specs.Claim.{first_ledger}
use Rattle.ledger.specs.Laws.Demand.{planned}
use Rattle.ledger.proofs.Demand.{demand-3}
use Rattle.plan_record.specs.declared.record.Get.{Get}
use Rattle.plan_input.specs.Input.{Input}
use Rattle.plan.specs.Get.{outcome_on, outcome_line, left_by, get_lines, after_gets}
use Rattle.plan.specs.declared.line.OutputLine.{OutputLine}
use Rattle.plan.specs.Planner.{lines, plan_lines, plan_of}
use Rattle.plan.specs.Pool.{pages_wanted, placed_for}
use Rattle.plan.specs.Write.{ram_lines, pool_lines, map_lines}
use Rattle.plan.specs.Laws.Get.{gets_bits}
use Rattle.plan.specs.Laws.Made.{gets-given, plan-made}
use Rattle.plan_claims.specs.Claimed.{GetsBits, request_of, requests_of, pool_then, calls_of, answer_lines, run_lines, PoolGiven, PlanClaimed}

-- of calls from the state s, with the ledger l: no pool is refused, their lines are these, and so are the entries afterwards
record Ran (calls : List Call) (s : AddressSpaceManager) (l : Ledger) (ls : List OutputLine) (es : List AddressRange) : Type 0 where
  given : All (λ e. PoolGiven e.call e.answer) (events planner calls s l)
  run : run_lines (events planner calls s l) ≡ ls
  entries : entries_of (state_after planner calls s) ≡ es

-- a call in front of others
ran_then : (c : Call) (calls : List Call) (s : AddressSpaceManager) (l : Ledger) (ls rest : List OutputLine) (es : List AddressRange)
    → PoolGiven c (answered planner c s).answer → answer_lines c (answered planner c s).answer ≡ ls
    → Ran calls (answered planner c s).state (fed c (answered planner c s).answer l) rest es → Ran (c ∷ calls) s l (ls ++ rest) es
ran_then c calls s l ls rest es g e r = record { given = (g, r.given); run = rw (e, r.run); entries = r.entries }

-- a request's answer is the line of what it comes to, and the entries afterwards are those that this leaves
asked-lines : (r : Request) (s : AddressSpaceManager) (o : Outcome)
    → answer_lines (request r) (allocation_of (allocation_as s r.type o)).answer ≡ outcome_line o ∷ []
asked-lines r s (outcome.refused n) = refl
asked-lines r s (handed x es) = refl

asked-entries : (r : Request) (s : AddressSpaceManager) (o : Outcome)
    → entries_of (allocation_of (allocation_as s r.type o)).state ≡ left_by (entries_of s) o
asked-entries r s (outcome.refused n) = refl
asked-entries r s (handed x es) = entries_with s es (pool_of s || is_pool r.type)

-- so requests in turn are the plan's
requests_ran : (gets : List Get) (bits : GetsBits gets) (s : AddressSpaceManager) (l : Ledger)
    → Ran (requests_of gets bits) s l (get_lines gets (entries_of s)) (after_gets gets (entries_of s))
requests_ran [] bits s l = record { given = tt; run = refl; entries = refl }
requests_ran (g ∷ gets) bits s l =
    let r = request_of g bits.0 in
    let o = outcome_on g (entries_of s) in
    let a = answered planner (request r) s in
    ran_then (request r) (requests_of gets bits.1) s l (outcome_line o ∷ []) (get_lines gets (left_by (entries_of s) o))
    (after_gets gets (left_by (entries_of s) o)) tt (asked-lines r s o)
    (rw (← asked-entries r s o) (requests_ran gets bits.1 a.state (fed (request r) a.answer l)))

-- a pool that is placed answers with its ranges
pool-lines : (pages : ℕ) (split : Bool) (s : AddressSpaceManager) (xs : List AllocatedRange) (es : List AddressRange)
    → answer_lines (pool pages split) (private_pool_of (pool_as s (placed xs es))).answer ≡ pool_lines xs
pool-lines pages split s xs es = ap pool_lines (take-append_seam xs (drop (length xs) no_ranges))

-- the pool, if one is wanted, and then requests: the lines of the plan, and its last table
calls_ran : (wanted : Option ℕ) (split : Bool) (gets : List Get) (bits : GetsBits gets) (s : AddressSpaceManager) (l : Ledger)
    (xs : List AllocatedRange) (es : List AddressRange) → placed_for wanted split (entries_of s) ≡ placed xs es
    → Ran (pool_then wanted split (requests_of gets bits)) s l (pool_lines xs ++ get_lines gets es) (after_gets gets es)
calls_ran None split gets bits s l xs es e =
    let no-ranges : [] ≡ xs = cc in
    let as-found : entries_of s ≡ es = cc in
    rw (← no-ranges, ← as-found) (requests_ran gets bits s l)
calls_ran (Some pages) split gets bits s l xs es e =
    let a = answered planner (pool pages split) s in
    let left : entries_of a.state ≡ es = rw e (entries_with s es true) in
    ran_then (pool pages split) (requests_of gets bits) s l (pool_lines xs) (get_lines gets es) (after_gets gets es) (rw e tt)
    (rw e (pool-lines pages split s xs es)) (rw (← left) (requests_ran gets bits a.state (fed (pool pages split) a.answer l)))

-- the lines of a plan by the lines of its calls and the table that they leave
lines_ran : (ram : List TaggedRange) (xs : List AllocatedRange) (gets : List Get) (es last : List AddressRange) (run : List OutputLine)
    → run ≡ pool_lines xs ++ get_lines gets es → last ≡ after_gets gets es
    → plan_lines ram xs gets es ≡ ram_lines ram ++ (run ++ map_lines last)
unfolding plan_lines
lines_ran ram xs gets es last run e f = rw (e, f, append_assoc (pool_lines xs) (get_lines gets es) (map_lines (after_gets gets es)))

-- every text whose plan has lines: demand 3 holds of the RAM, of the build and of the calls, and the lines are what these come to
pub plan_claimed : (text : List ℕ) (ls : List OutputLine) → plan_of text ≡ lines ls → PlanClaimed text ls
plan_claimed text ls h =
    let m = plan-made text ls h in
    let i = m.input in
    let s = i.shape in
    let gets = ap (λ (j : Input). j.gets) m.given ∙ gets-given m.records in
    let bits : GetsBits i.gets = rw gets (gets_bits text m.records m.read) in
    let calls = calls_of i m.ram bits in
    let state = demand-3.builds i.builder m.ram i.configs i.gpools m.table m.builds in
    let picked = demand-3.selects s.mode s.isolation s.memory_size i.file i.map i.imports m.ram m.selected in
    let claimed =
    planned planner demand-3 s.mode s.isolation s.memory_size i.file i.map i.imports m.ram picked i.builder i.configs
    i.gpools state.0 state.1 calls in
    let table = sym m.builds ∙ claimed.run.first-table in
    let same : m.table ≡ entries_of state.0 = cc in
    let ran =
    calls_ran (pages_wanted s.isolation i.pool (bytes_of m.ram)) i.pool.split i.gets bits state.0
    (first_ledger planner i.builder m.ram i.configs i.gpools) m.pool m.left (rw same at m.places) in
    record {
      records = m.records;
      read = m.read;
      input = i;
      given = m.given;
      bits = bits;
      ram = m.ram;
      selected = m.selected;
      state = state.0;
      builds = state.1;
      claimed = claimed;
      pool-given = ran.given;
      as-lines = m.as-lines ∙ lines_ran m.ram m.pool i.gets m.left _ _ ran.run ran.entries;
    }
