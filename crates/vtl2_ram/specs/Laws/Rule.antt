-- The rows of the chart as rules: an accepted selection keeps every one, and a refused one tells the number of the first that is
-- broken. So a selection that keeps all of them is accepted.
use Rattle.std.specs.Prelude.{ℕ, ◌≡◌, refl, List, Option, None}
use Rattle.memory_range.specs.declared.range.MemoryRange.{MemoryRange}
use Rattle.memory_range.specs.declared.range.TaggedRange.{TaggedRange}
use Rattle.host_params.specs.declared.IsolationType.{IsolationType}
use Rattle.host_params.specs.declared.MemoryAllocationMode.{MemoryAllocationMode}
use Rattle.host_params.specs.declared.MemoryAllocationMode.TheVariants.{Host, Vtl2}
use Rattle.host_params.specs.declared.MemoryEntry.{MemoryEntry}
use Rattle.host_map.specs.Map.{map_ranges}
use Rattle.refusal.specs.declared.Refusal.{Refusal}
use Rattle.refusal.specs.Number.{number_of}
use Rattle.vtl2_ram.specs.Rule.{Row, Rule, Broken}
use Rattle.vtl2_ram.specs.Choice.{refused, chosen, Choice}
use Rattle.vtl2_ram.specs.Rows.{rows_refusal}
use Rattle.vtl2_ram.specs.Select.{choice, choice_by}
use Rattle.vtl2_ram.specs.Laws.Choice.{choice-told}
use Rattle.vtl2_ram.specs.Laws.RuleTests.{rows_break, rows_keep}
use Rattle.vtl2_ram.specs.Laws.BootRule.{boot-broken, boot-kept}
use Rattle.vtl2_ram.specs.Laws.HostRule.{host-broken, host-kept}
use Rattle.vtl2_ram.specs.Laws.RuleOrder.{kept-all}

module _ (mode : MemoryAllocationMode) (isolation : IsolationType) (size : (Option ℕ)) (file : MemoryRange) (map : List MemoryEntry)
    (imports : List MemoryRange) where
  own-broken : (mode : MemoryAllocationMode) → rows_refusal mode file (map_ranges map) imports ≡ None → {n : Refusal}
      → choice_by mode isolation size file map imports ≡ refused n → Broken mode isolation size file map imports (number_of n)
  own-broken Host e f = host-broken isolation size file map imports (rows_keep Host isolation size file map imports e) f
  own-broken Vtl2 e f = boot-broken isolation size file map imports (rows_keep Vtl2 isolation size file map imports e) f

  -- a refusal tells the number of the first rule that is broken
  pub refused-broken : {n : Refusal} → choice mode isolation size file map imports ≡ refused n
      → Broken mode isolation size file map imports (number_of n)
  unfolding choice
  refused-broken =
      choice-told (λ r. Broken mode isolation size file map imports (number_of r)) (rows_refusal mode file (map_ranges map) imports)
      (choice_by mode isolation size file map imports) (rows_break mode isolation size file map imports) (λ e f. own-broken mode e f)

  -- an accepted selection keeps every rule
  pub chosen-kept : (ram : List TaggedRange) → choice mode isolation size file map imports ≡ chosen ram
      → (row : Row) → Rule mode isolation size file map imports row
  chosen-kept ram e = by mode e
    where
      by : (mode : MemoryAllocationMode) → choice mode isolation size file map imports ≡ chosen ram
          → (row : Row) → Rule mode isolation size file map imports row
      by Host f = kept-all Host isolation size file map imports (host-kept isolation size file map imports ram f)
      by Vtl2 f = kept-all Vtl2 isolation size file map imports (boot-kept isolation size file map imports ram f)

  -- so one that keeps every rule is accepted
  pub kept-chosen : ((row : Row) → Rule mode isolation size file map imports row)
      → (ram : List TaggedRange) × (choice mode isolation size file map imports ≡ chosen ram)
  kept-chosen h = by (choice mode isolation size file map imports) refl
    where
      by : (c : Choice) → choice mode isolation size file map imports ≡ c → (ram : List TaggedRange) × (c ≡ chosen ram)
      by (chosen ram) e = (ram, refl)
      by (refused n) e = let b = refused-broken e in absurd (b.2 (h b.0))
