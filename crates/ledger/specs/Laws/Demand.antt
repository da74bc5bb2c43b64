-- Demand 3 of the planner that the definitions are: the selection and the build (whole, with the calls: proofs/Demand), and what it says of a plan.
use Rattle.std.specs.Prelude.{ℕ, ◌+◌, ◌≤◌, ◌<◌, ◌≡◌, refl, true, List, Option, Some}
use Rattle.std.proofs.Common.{ap, sym, ◌∙◌}
use Rattle.std.proofs.lemmas.Option.{same_Some}
use Rattle.memory_range.specs.declared.range.MemoryRange.{MemoryRange}
use Rattle.memory_range.specs.declared.range.TaggedRange.{TaggedRange}
use Rattle.memory_range.specs.List.{tags_of}
use Rattle.range_lists.specs.Laws.Node.{has}
use Rattle.host_params.specs.declared.IsolationType.{IsolationType}
use Rattle.host_params.specs.declared.MemoryAllocationMode.{MemoryAllocationMode}
use Rattle.host_params.specs.declared.MemoryAllocationMode.TheVariants.{Vtl2}
use Rattle.host_params.specs.declared.MemoryEntry.{MemoryEntry}
use Rattle.boot_nodes.specs.Share.{share_step}
use Rattle.boot_ram.specs.Held.{on_node, bytes_of}
use Rattle.vtl2_ram.specs.Choice.{Choice, refused, chosen}
use Rattle.vtl2_ram.specs.Claim.{share_in, due_on}
use Rattle.host_map.specs.Map.{entries_in}
use Rattle.vtl2_ram.specs.Ram.{ram_as}
use Rattle.vtl2_ram.specs.Select.{choice}
use Rattle.vtl2_ram.specs.Laws.Ram.{entries-of}
use Rattle.vtl2_ram.specs.Laws.Select.{boot_claimed, chosen_in_order}
use Rattle.address_space.specs.declared.table.AddressRange.{AddressRange}
use Rattle.address_space.specs.declared.table.AddressSpaceManager.{AddressSpaceManager}
use Rattle.address_space.specs.Table.{table_with, empty_table}
use Rattle.memory.specs.declared.builder.AddressSpaceManagerBuilder.{AddressSpaceManagerBuilder}
use Rattle.memory.specs.Build.{build, built, has_pool}
use Rattle.memory_claims.specs.Claim.{noded_ranges}
use Rattle.ledger.specs.Call.{Call}
use Rattle.ledger.specs.Planner.{Planner, planner, selection_of}
use Rattle.ledger.specs.Claim.{Claim, last_table, SelectionClaim, Demand3}

module _ (mode : MemoryAllocationMode) (isolation : IsolationType) (size : Option ℕ) (file : MemoryRange) (map : List MemoryEntry)
    (imports : List MemoryRange) (ram : List TaggedRange) where
  -- the selection's answer holds the RAM of the definition
  answer-same : selection_of (ram_as (choice mode isolation size file map imports)) ≡ Some ram → choice mode isolation size file map imports ≡ chosen ram
  answer-same e = go (choice mode isolation size file map imports) refl e
    where
      go : (c : Choice) → choice mode isolation size file map imports ≡ c → selection_of (ram_as c) ≡ Some ram → c ≡ chosen ram
      go (refused n) p q = cc
      go (chosen xs) p q =
          let held = entries-of xs (chosen_in_order isolation size file map imports xs mode p).count in
          ap chosen (sym held ∙ same_Some _ ram q)

  pub selection-holds : selection_of (ram_as (choice mode isolation size file map imports)) ≡ Some ram → SelectionClaim mode isolation size file map imports ram
  selection-holds e =
      let same = answer-same e in
      record {
        same = same;
        in_order = chosen_in_order isolation size file map imports ram mode same;
        boot = λ m. boot_claimed isolation size file map imports ram (rw m at same);
      }

  -- and an accepted map's RAM is in it
  pub selects-same : choice mode isolation size file map imports ≡ chosen ram → selection_of (ram_as (choice mode isolation size file map imports)) ≡ Some ram
  selects-same e = rw e (ap Some (entries-of ram (chosen_in_order isolation size file map imports ram mode e).count))

pub builds-some : (b : AddressSpaceManagerBuilder) (ram : List TaggedRange) (configs pools : List MemoryRange) (es : List AddressRange)
    → build b 0 ram configs pools ≡ built es → (s : AddressSpaceManager) × (planner.build b ram configs pools ≡ Some s)
builds-some b ram configs pools es e = (table_with empty_table es (has_pool pools), rw e)

-- from an accepted map through the build from its RAM to the table after any list of calls: in boot mode each node of the map has what is due to it there
pub record Planned (P : Planner) (mode : MemoryAllocationMode) (isolation : IsolationType) (size : Option ℕ) (file : MemoryRange) (map : List MemoryEntry)
    (imports : List MemoryRange) (ram : List TaggedRange) (b : AddressSpaceManagerBuilder) (configs pools : List MemoryRange) (s : P.State)
    (calls : List Call) : Type 0 where
  pub selection : SelectionClaim mode isolation size file map imports ram
  pub run : Claim P b ram configs pools s calls
  pub due : mode ≡ Vtl2 → (n : ℕ) → has n (tags_of (entries_in map)) ≡ true
      → let total = bytes_of (on_node n (noded_ranges (last_table P b ram configs pools calls s))) in
      let due = due_on (share_in size file map) file (entries_in map) n in
      (due ≤ total) × (total < due + share_step)

pub planned : (P : Planner) → Demand3 P → (mode : MemoryAllocationMode) (isolation : IsolationType) (size : Option ℕ) (file : MemoryRange)
    (map : List MemoryEntry) (imports : List MemoryRange) (ram : List TaggedRange) → P.select mode isolation size file map imports ≡ Some ram
    → (b : AddressSpaceManagerBuilder) (configs pools : List MemoryRange) (s : P.State) → P.build b ram configs pools ≡ Some s
    → (calls : List Call) → Planned P mode isolation size file map imports ram b configs pools s calls
planned P d mode isolation size file map imports ram e b configs pools s f calls =
    let selection = d.selection mode isolation size file map imports ram e in
    let run = d.calls b ram configs pools s f calls in
    record { selection = selection; run = run; due = λ m n h. rw (run.totals n) ((selection.boot m).due n h) }
