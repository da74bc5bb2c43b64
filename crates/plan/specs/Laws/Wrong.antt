-- Wrong answers of the plan, each refuted (docs/PROVED.md).
use Rattle.std.specs.Prelude.{ℕ, ◌+◌, ◌*◌, false, List, [], ◌∷◌, map, ◌≢◌, eqb, length, get_or, None}
use Rattle.std.proofs.Common.{ap, true≢false, arith, lt-ltb}
use Rattle.refusal.specs.declared.Refusal.{Refusal}
use Rattle.memory_range.specs.Range.{range, overlap_ranges}
use Rattle.range_lists.specs.Walk.{walk_from}
use Rattle.host_params.specs.declared.AllocationPolicy.TheVariants.{LowMemory}
use Rattle.host_params.specs.declared.AllocationType.TheVariants.{SidecarNode}
use Rattle.host_params.specs.declared.IsolationType.TheVariants as isolation
use Rattle.host_params.specs.declared.MemoryAllocationMode.TheVariants.{Host}
use Rattle.host_params.specs.declared.Vtl2GpaPoolConfig.TheVariants.{Off}
use Rattle.vtl2_ram.specs.Host.{host_choice}
use Rattle.vtl2_ram.specs.Rows.{rows_known}
use Rattle.vtl2_ram.specs.Select.{choice}
use Rattle.address_space.specs.Request.{allocated, requested}
use Rattle.address_space.specs.Split.{free_entry}
use Rattle.address_space.specs.Usage.{usage_of}
use Rattle.memory.specs.Build.{build, filled, table_of}
use Rattle.memory.specs.Builder.{singles_valid}
use Rattle.memory.specs.Rows.{rows_refusal}
use Rattle.memory.specs.Used.{used_of, used_refusal}
use Rattle.plan_record.specs.declared.record.Get.{Get}
use Rattle.plan_record.specs.declared.record.Record.{Record}
use Rattle.plan_record.specs.declared.record.Record.TheVariants as record_of
use Rattle.plan_input.specs.Input.{input_of}
use Rattle.plan.specs.declared.line.OutputLine.{OutputLine}
use Rattle.plan.specs.declared.line.OutputLine.TheVariants.{Ram, Pool, Got, No, Map}
use Rattle.plan.specs.Get.{get_lines}
use Rattle.plan.specs.Planner.{Plan, refused, lines, plan_lines, ranges_refusal, records_plan, output_as, output_size_for, output_to}
use Rattle.plan.specs.Pool.{pages_wanted}

-- what the answers are told apart by: where the ranges of lines start and end
abbrev start_of : OutputLine → ℕ
start_of (Ram r n) = r.start
start_of (Pool r n) = r.start
start_of (Got r n) = r.start
start_of (No n) = 0
start_of (Map r t) = r.start

abbrev end_of : OutputLine → ℕ
end_of (Ram r n) = r.end
end_of (Pool r n) = r.end
end_of (Got r n) = r.end
end_of (No n) = 0
end_of (Map r t) = r.end

abbrev first_end : Plan → ℕ
first_end (refused n) = 0
first_end (lines ls) = get_or (map end_of ls) 0 0

-- a request for a page
abbrev pub page : Get
page =
    record {
      required_vnode = None;
      len = 0x1000;
      allocation_policy = LowMemory;
      allocation_type = SidecarNode;
      alignment = None;
    }

-- a request answered on the table that the first one met
pub first-range-again :
    get_lines (page ∷ page ∷ []) (free_entry 0 (range 0x1000 0x3000) ∷ []) ≢ Got (range 0x1000 0x2000) 0 ∷ Got (range 0x1000 0x2000) 0 ∷ []
unfolding requested allocated
first-range-again e = true≢false (ap (λ (ls : List OutputLine). eqb (get_or (map start_of ls) 1 0) 0x2000) e)

-- the records of a text: the host chooses, the file ends at an address, and there is no pool and no request
abbrev pub file_to : ℕ → List Record
file_to end =
    record_of.Shape (record { mode = Host; isolation = isolation.None; memory_size = None }) ∷
    record_of.File (range 0x200000 end) ∷
    record_of.Used (range 0x200000 0x202000) ∷
    record_of.State (range 0x200000 0x202000) ∷
    record_of.Pool (record { config = Off; host_pages = None; processors = 1; split = false }) ∷ []

-- one plan for every text
pub one_stock_plan : records_plan (file_to 0x210000) ≢ records_plan (file_to 0x220000)
unfolding records_plan ranges_refusal input_of choice rows_known host_choice build rows_refusal singles_valid used_refusal used_of filled table_of usage_of walk_from overlap_ranges pages_wanted plan_lines
one_stock_plan e = true≢false (ap (λ (p : Plan). eqb (first_end p) 0x210000) e)

-- an output that a refused plan has written to: the byte `r`, with which plans begin
pub refused_plan_writes : (n : Refusal) → output_as (refused n) (0 ∷ []) ≢ 114 ∷ []
refused_plan_writes n e = true≢false (ap (λ (bytes : List ℕ). eqb (get_or bytes 0 0) 0) e)

-- a short output written: the same byte
pub short_output-written : (text : List ℕ) → output_to text (0 ∷ []) ≢ 114 ∷ []
short_output-written text e =
    true≢false (ap (λ (bytes : List ℕ). eqb (get_or bytes 0 0) 0) (rw (lt-ltb 1 (output_size_for (length text)) (omega arith)) at e))

-- fewer bytes than a plan of so long a text may have: none for the lines of 100 requests
pub requests-not-counted : output_size_for 1_400 ≢ (64 + 64 + 256) * 52
requests-not-counted e = true≢false (ap (eqb 25_168) e)

-- those of the longest text for every text
pub as_for_the_longest : output_size_for 0 ≢ output_size_for 65_536
as_for_the_longest e = true≢false (ap (eqb 19_968) e)
