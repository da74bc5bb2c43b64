-- Laws of the stages of a plan: what the answers of a selection and of a build say of the plan.
use Rattle.std.specs.Prelude.{ℕ, ◌≤◌, ◌≡◌, Bool, ◌||◌, List, length, Option, Ok, Err}
use Rattle.std.proofs.Common.{ap, sym, ◌∙◌}
use Rattle.refusal.specs.declared.Refusal.{Refusal}
use Rattle.memory_range.specs.declared.range.MemoryRange.{MemoryRange}
use Rattle.host_params.specs.declared.IsolationType.{IsolationType}
use Rattle.host_params.specs.declared.MemoryAllocationMode.{MemoryAllocationMode}
use Rattle.host_params.specs.declared.MemoryEntry.{MemoryEntry}
use Rattle.boot_ram.specs.Held.{bytes_of}
use Rattle.boot_ram.specs.Verdict.{max_chosen}
use Rattle.vtl2_ram.specs.declared.ram.Vtl2Ram.{Vtl2Ram}
use Rattle.vtl2_ram.specs.Choice.{Choice, refused, chosen, entries_of}
use Rattle.vtl2_ram.specs.Ram.{ram_of, ram_entries, ram_as}
use Rattle.vtl2_ram.specs.Select.{choice}
use Rattle.vtl2_ram.specs.Laws.Ram.{entries-of}
use Rattle.vtl2_ram.specs.Laws.Select.{choice_few}
use Rattle.address_space.specs.declared.table.AddressSpaceManager.{AddressSpaceManager}
use Rattle.address_space.specs.Table as table_of
use Rattle.address_space.specs.Laws.Split.{entries_with}
use Rattle.memory.specs.declared.builder.AddressSpaceManagerBuilder.{AddressSpaceManagerBuilder}
use Rattle.memory.specs.declared.init.Init.{Init}
use Rattle.memory.specs.Build.{Build, build, built, init_as}
use Rattle.memory.specs.Build as build-of
use Rattle.plan_record.specs.declared.record.Get.{Get}
use Rattle.plan_record.specs.declared.record.Pool.{Pool}
use Rattle.plan.specs.Planner.{Plan, plan_of, after_build, after_choice, Selected}
use Rattle.plan.specs.Planner as plan

-- a selection's answer holds what selection comes to
pub record Held (ram : Vtl2Ram) (selection : Choice) : Type 0 where
  pub few : ram.count ≤ max_chosen
  pub total : ram.bytes ≡ bytes_of (ram_entries ram)
  pub choice : selection ≡ chosen (ram_entries ram)

pub selected-held : (selection : Choice) {ram : Vtl2Ram} → length (entries_of selection) ≤ max_chosen → ram_as selection ≡ Ok ram → Held ram selection
selected-held (refused r) few e = absurd cc
selected-held (chosen xs) {ram} few e =
    let same : ram_of xs ≡ ram = cc in
    let held = entries-of xs few in
    rw (← same) (record { few = few; total = ap bytes_of (sym held); choice = ap chosen (sym held) })

-- whatever the planner selects is within the bound
pub choice-held : (mode : MemoryAllocationMode) (isolation : IsolationType) (size : Option ℕ) (file : MemoryRange) (map : List MemoryEntry)
    (imports : List MemoryRange) {ram : Vtl2Ram} → ram_as (choice mode isolation size file map imports) ≡ Ok ram
    → Held ram (choice mode isolation size file map imports)
choice-held mode isolation size file map imports = selected-held _ (choice_few mode isolation size file map imports)

-- and is refused where that is
as_refused : (selection : Choice) {r : Refusal} → ram_as selection ≡ Err r → selection ≡ refused r
as_refused (refused k) e = cc
as_refused (chosen xs) e = absurd cc

module _ (text : List ℕ) (isolation : IsolationType) (pool : Pool) (builder : AddressSpaceManagerBuilder) (gets : List Get)
    (configs pools : List MemoryRange) (selection : Choice)
    (s : plan_of text ≡ after_choice isolation pool builder gets configs pools selection) where
  pub selected_refused : {r : Refusal} → ram_as selection ≡ Err r → plan_of text ≡ plan.refused r
  selected_refused e = s ∙ ap (after_choice isolation pool builder gets configs pools) (as_refused selection e)

  -- of an answer whose entries are what is chosen, however many they are
  pub selected_by : {ram : Vtl2Ram} → ram.bytes ≡ bytes_of (ram_entries ram) → selection ≡ chosen (ram_entries ram)
      → Selected text isolation pool builder gets configs pools ram
  selected_by total choice = record { total = total; plan = s ∙ ap (after_choice isolation pool builder gets configs pools) choice }

  pub selected : {ram : Vtl2Ram} → Held ram selection → Selected text isolation pool builder gets configs pools ram
  selected h = selected_by h.total h.choice

-- after a selection the table is built
pub selected-chosen : {text : List ℕ} {isolation : IsolationType} {pool : Pool} {builder : AddressSpaceManagerBuilder}
    {gets : List Get} {configs pools : List MemoryRange} {ram : Vtl2Ram} → Selected text isolation pool builder gets configs pools ram
    → let xs = ram_entries ram in plan_of text ≡ after_build isolation pool xs gets (build builder 0 xs configs pools)
selected-chosen s = s.plan

-- a new table has no entry
pub new_empty : {m : AddressSpaceManager} → m ≡ table_of.empty_table → length (table_of.entries_of m) ≡ 0
new_empty e = rw e

-- the answer of a build
module _ (m : AddressSpaceManager) (flag : Bool) (b : Build) {i : Init} (e : i ≡ init_as m flag b) where
  pub init_refused : {r : Refusal} → i.answer ≡ Err r → b ≡ build-of.refused r
  init_refused {r} h = go b (rw e at h)
    where
      go : (b' : Build) → (init_as m flag b').answer ≡ Err r → b' ≡ build-of.refused r
      go (build-of.refused k) q = cc
      go (built es) q = cc

  pub init-built : i.answer ≡ Ok tt → b ≡ built (table_of.entries_of i.manager)
  init-built h = rw e (go b (rw e at h))
    where
      go : (b' : Build) → (init_as m flag b').answer ≡ Ok tt → b' ≡ built (table_of.entries_of (init_as m flag b').manager)
      go (build-of.refused k) q = cc
      go (built es) q = ap built (sym (entries_with m es (table_of.pool_of m || flag)))
