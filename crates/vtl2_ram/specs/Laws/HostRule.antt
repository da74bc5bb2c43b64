-- Host mode: an accepted selection keeps every rule, and a refused one tells the number of a rule that is broken.
use Rattle.std.specs.Prelude.{ℕ, ◌-◌, ◌^◌, ◌≤◌, ◌+◌, ◌≡◌, Bool, true, cond, ltb, Option}
use Rattle.std.proofs.Math.Path.{refl}
use Rattle.std.proofs.Common.{sym, ◌∙◌, true≢false}
use Rattle.std.proofs.Math.Bool.{false}
use mathlib.Core.List.{List, [], ◌∷◌}
use native.Mathlib.Omega.{arith}
use borrow.Author.Tests.{ltb-true, ltb-false}
use Rattle.std.proofs.Math.ListN.{length}
use Rattle.memory_range.specs.declared.range.MemoryRange.{MemoryRange}
use Rattle.memory_range.specs.declared.range.TaggedRange.{TaggedRange}
use Rattle.memory_range.specs.List.{tagged}
use Rattle.memory_range.specs.Valid.{page_size}
use Rattle.host_params.specs.declared.IsolationType.{IsolationType}
use Rattle.host_params.specs.declared.MemoryAllocationMode.TheVariants.{Host}
use Rattle.host_params.specs.declared.MemoryEntry.{MemoryEntry}
use Rattle.host_map.specs.Map.{map_ranges, protectable_in}
use Rattle.boot_ram.specs.Held.{bytes_of}
use Rattle.boot_ram.specs.Verdict.{max_chosen}
use Rattle.refusal.specs.declared.Refusal.{Refusal}
use Rattle.refusal.specs.Number.{number_of, share_too_large, too_many_pieces, node_numbers}
use Rattle.refusal.specs.Rows.{refused_if}
use Rattle.refusal.specs.Laws.Rows.{rule_told, not_refused}
use Rattle.vtl2_ram.specs.Choice.{refused, chosen}
use Rattle.vtl2_ram.specs.Rows.{rows_refusal}
use Rattle.vtl2_ram.specs.Rule.{Row, row7, row8, row9, row10, row11, row12, row13, row14, Rule, Broken, Kept, number}
use Rattle.vtl2_ram.specs.Select.{choice, choice_by}
use Rattle.vtl2_ram.specs.Host.{is_hardware_isolated, isolated_end, isolated_choice, protectable_choice, host_choice}
use Rattle.vtl2_ram.specs.Laws.Choice.{unless-chosen, choice-told, chosen-not_refused}
use Rattle.vtl2_ram.specs.Laws.RuleTests.{first_rows}
use Rattle.vtl2_ram.specs.Laws.RuleOrder.{kept_more}

module _ (isolation : IsolationType) (size : (Option ℕ)) (file : MemoryRange) (map : List MemoryEntry) (imports : List MemoryRange) where
  abbrev HostRule : Row → Type 0
  HostRule = Rule Host isolation size file map imports

  abbrev HostBroken : Refusal → Type 0
  HostBroken r = Broken Host isolation size file map imports (number_of r)

  abbrev protectable : List TaggedRange
  protectable = protectable_in map

  abbrev isolated_top : ℕ
  isolated_top = isolated_end file (bytes_of protectable)

  abbrev HostKept : ℕ → Type 0
  HostKept = Kept Host isolation size file map imports

  abbrev kept_next : (row : Row) → HostKept (number row) → HostRule row → HostKept (number row + 1)
  kept_next = kept_more Host isolation size file map imports

  -- rows 7 and 8 have no rule here
  upto8 : HostKept (number_of node_numbers) → HostKept (number_of share_too_large)
  upto8 passed = kept_next row8 (kept_next row7 passed tt) tt

  pub host-broken : HostKept (number_of node_numbers) → {n : Refusal} → host_choice isolation file map ≡ refused n → HostBroken n
  unfolding host_choice
  host-broken passed {n} e = by (is_hardware_isolated isolation) refl e
    where
      other : is_hardware_isolated isolation ≡ false → (xs : List TaggedRange) → protectable ≡ xs → protectable_choice file xs ≡ refused n → HostBroken n
      other i [] p e = absurd (chosen-not_refused e)
      other i (x ∷ xs) p e =
          choice-told HostBroken (refused_if (ltb max_chosen (length (x ∷ xs))) too_many_pieces) (chosen (x ∷ xs))
          (rule_told HostBroken (ltb max_chosen (length (x ∷ xs))) too_many_pieces
          (λ l. (
            row14,
            refl,
            λ h. absurd (omega (arith, ltb-true max_chosen (length (x ∷ xs)) l, rw p at (h i))),
            kept_next row9 (upto8 passed) (λ t. absurd (true≢false (sym t ∙ i))),
          )))
          (λ _ f. absurd (chosen-not_refused f)) e

      by : (t : Bool) → is_hardware_isolated isolation ≡ t → cond t (isolated_choice file (bytes_of protectable)) (protectable_choice file protectable) ≡ refused n
          → HostBroken n
      by true i e =
          choice-told HostBroken (refused_if (ltb (2 ^ 64 - page_size) isolated_top) share_too_large) (chosen (tagged file.start isolated_top 0 ∷ []))
          (rule_told HostBroken (ltb (2 ^ 64 - page_size) isolated_top) share_too_large
          (λ l. (row9, refl, λ h. absurd (omega (arith, ltb-true (2 ^ 64 - page_size) isolated_top l, h i)), upto8 passed)))
          (λ _ f. absurd (chosen-not_refused f)) e
      by false i e = other i protectable refl e

  host-rows : (ram : List TaggedRange) → host_choice isolation file map ≡ chosen ram → HostRule row9 × HostRule row14
  unfolding host_choice
  host-rows ram e = by (is_hardware_isolated isolation) e
    where
      other : (xs : List TaggedRange) → protectable_choice file xs ≡ chosen ram → length xs ≤ max_chosen
      other [] e = omega arith
      other (x ∷ xs) e =
          let u = (unless-chosen (refused_if (ltb max_chosen (length (x ∷ xs))) too_many_pieces) (chosen (x ∷ xs)) e).0 in
          ltb-false max_chosen (length (x ∷ xs)) (not_refused _ too_many_pieces u)

      by : (t : Bool) → cond t (isolated_choice file (bytes_of protectable)) (protectable_choice file protectable) ≡ chosen ram
          → (t ≡ true → isolated_top ≤ 2 ^ 64 - page_size) × (t ≡ false → length protectable ≤ max_chosen)
      by true e =
          let u = (unless-chosen (refused_if (ltb (2 ^ 64 - page_size) isolated_top) share_too_large) (chosen (tagged file.start isolated_top 0 ∷ [])) e).0 in
          ((λ _. ltb-false (2 ^ 64 - page_size) isolated_top (not_refused _ share_too_large u)), λ f. absurd (true≢false f))
      by false e = ((λ f. absurd (true≢false (sym f))), λ _. other protectable e)

  module _ (ram : List TaggedRange) (e : choice Host isolation size file map imports ≡ chosen ram) where
    host_own : HostRule row9 × HostRule row14
    unfolding choice
    host_own = host-rows ram (unless-chosen (rows_refusal Host file (map_ranges map) imports) (choice_by Host isolation size file map imports) e).1

    pub host-kept : HostKept (number_of too_many_pieces + 1)
    host-kept =
        let upto9 = kept_next row9 (upto8 (first_rows Host isolation size file map imports ram e)) host_own.0 in
        let upto13 = kept_next row13 (kept_next row12 (kept_next row11 (kept_next row10 upto9 tt) tt) tt) tt in
        kept_next row14 upto13 host_own.1
