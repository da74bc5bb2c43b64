-- Laws of rows 4, 5 and 15 to 17: what refuses, row by row, and what holds where no row does.
use Rattle.std.specs.Prelude.{ℕ, ◌≤◌, ◌<◌, ◌≡◌, Bool, true, false, ◌&&◌, not, eqb, length, Some, None}
use Rattle.std.proofs.Math.Bool.{and-eq-true_iff}
use mathlib.Core.List.{List, [], ◌∷◌}
use borrow.Author.Tests.{lt-ltb, le-ltb, eq-eqb, ne_eqb, ltb-false, eqb-true, not-false}
use Rattle.std.proofs.Math.Dec.{ltb}
use Rattle.refusal.specs.Number.{range_invalid, ranges_not_ascending, ram_count_of, table_not_empty, reserved_count as reserved_count_number}
use Rattle.refusal.specs.Rows.{refused_if}
use Rattle.refusal.specs.Laws.Rows.{first-kept}
use Rattle.memory_range.specs.declared.range.MemoryRange.{MemoryRange}
use Rattle.memory_range.specs.Valid.{all_valid_of, ascend}
use Rattle.memory.specs.declared.builder.AddressSpaceManagerBuilder.{AddressSpaceManagerBuilder}
use Rattle.memory.specs.Builder.{singles_valid, reserved_count}
use Rattle.memory.specs.Rows.{max_ram, max_reserved, all_valid, rows_refusal}

module _ (b : AddressSpaceManagerBuilder) (entries : ℕ) (ram configs pools : List MemoryRange) where
  abbrev valid : Bool
  valid = all_valid b ram configs pools

  pub rows-passed : rows_refusal b entries ram configs pools ≡ None
      → (singles_valid b ≡ true) × (all_valid_of ram ≡ true) × (all_valid_of configs ≡ true) × (all_valid_of pools ≡ true) × (ascend ram ≡ true)
      × (length ram ≤ max_ram) × (entries ≡ 0) × (reserved_count b configs ≤ max_reserved)
  unfolding rows_refusal
  rows-passed h =
      let many = ltb max_reserved (reserved_count b configs) in
      let below-four = refused_if many reserved_count_number ∷ [] in
      let below-three = refused_if (not (eqb entries 0)) table_not_empty ∷ below-four in
      let below_two = refused_if (ltb max_ram (length ram)) ram_count_of ∷ below-three in
      let one = first-kept (not valid) range_invalid (refused_if (not (ascend ram)) ranges_not_ascending ∷ below_two) h in
      let two = first-kept (not (ascend ram)) ranges_not_ascending below_two one.1 in
      let three = first-kept (ltb max_ram (length ram)) ram_count_of below-three two.1 in
      let four = first-kept (not (eqb entries 0)) table_not_empty below-four three.1 in
      let five = first-kept many reserved_count_number [] four.1 in
      let u = (and-eq-true_iff (singles_valid b) (all_valid_of ram && (all_valid_of configs && all_valid_of pools))).0 (not-false _ one.0) in
      let v = (and-eq-true_iff (all_valid_of ram) (all_valid_of configs && all_valid_of pools)).0 u.1 in
      let w = (and-eq-true_iff (all_valid_of configs) (all_valid_of pools)).0 v.1 in
      let few = ltb-false max_reserved (reserved_count b configs) five.0 in
      (u.0, v.0, w.0, w.1, not-false _ two.0, ltb-false max_ram (length ram) three.0, eqb-true entries 0 (not-false _ four.0), few)

  -- each row refuses where those above it are passed
  pub rows_invalid : valid ≡ false → rows_refusal b entries ram configs pools ≡ Some range_invalid
  unfolding rows_refusal
  rows_invalid v = rw v

  module _ (v : valid ≡ true) where
    pub rows_descend : ascend ram ≡ false → rows_refusal b entries ram configs pools ≡ Some ranges_not_ascending
    unfolding rows_refusal
    rows_descend a = rw (v, a)

    module _ (a : ascend ram ≡ true) where
      pub rows-ram : max_ram < length ram → rows_refusal b entries ram configs pools ≡ Some ram_count_of
      unfolding rows_refusal
      rows-ram n = rw (v, a, lt-ltb max_ram (length ram) n)

      module _ (n : length ram ≤ max_ram) where
        pub rows-table : (entries ≡ 0 → ⊥) → rows_refusal b entries ram configs pools ≡ Some table_not_empty
        unfolding rows_refusal
        rows-table t = rw (v, a, le-ltb max_ram (length ram) n, ne_eqb entries 0 t)

        module _ (t : entries ≡ 0) where
          pub rows-reserved : max_reserved < reserved_count b configs → rows_refusal b entries ram configs pools ≡ Some reserved_count_number
          unfolding rows_refusal
          rows-reserved r =
              rw (v, a, le-ltb max_ram (length ram) n, eq-eqb entries 0 t, lt-ltb max_reserved (reserved_count b configs) r)

          pub rows_good : reserved_count b configs ≤ max_reserved → rows_refusal b entries ram configs pools ≡ None
          unfolding rows_refusal
          rows_good r =
              rw (v, a, le-ltb max_ram (length ram) n, eq-eqb entries 0 t, le-ltb max_reserved (reserved_count b configs) r)
