-- Laws of rows 4 to 6: what refuses, row by row, and what holds where no row does.
use Rattle.std.specs.Prelude.{ℕ, ◌≤◌, ◌≡◌, Bool, true, false, ◌&&◌, leb, length, Option, Some, None}
use Rattle.std.proofs.Math.Bool.{not, and_assoc, and-eq-true_iff}
use mathlib.Core.List.{List, [], ◌∷◌}
use borrow.Author.Tests.{leb-true, not-false}
use Rattle.memory_range.specs.declared.range.MemoryRange.{MemoryRange}
use Rattle.memory_range.specs.Valid.{valid_range, all_valid_of, ascend}
use Rattle.host_params.specs.declared.MemoryAllocationMode.{MemoryAllocationMode}
use Rattle.host_map.specs.Map.{max_entries}
use Rattle.refusal.specs.declared.Refusal.{Refusal}
use Rattle.refusal.specs.Number.{range_invalid, ranges_not_ascending, map_count_of}
use Rattle.refusal.specs.Rows.{refused_if}
use Rattle.refusal.specs.Laws.Rows.{first-kept}
use Rattle.vtl2_ram.specs.Rows.{counts_good, rows_refusal, rows_known}

-- a map whose count is good is within its bound
pub count_within : (mode : MemoryAllocationMode) (m i : ℕ) → counts_good mode m i ≡ true → m ≤ max_entries
count_within mode m i g = leb-true m max_entries ((and-eq-true_iff (leb m max_entries) _).0 g).0

-- by what is known of a map
module _ (mode : MemoryAllocationMode) (file : MemoryRange) (valid ascending : Bool) (count : ℕ) (imports : List MemoryRange) where
  abbrev row : Option Refusal
  row = rows_known mode file valid ascending count imports

  pub known-passed : row ≡ None
      → (valid_range file ≡ true) × (valid ≡ true) × (all_valid_of imports ≡ true) × (ascending ≡ true) × (ascend imports ≡ true)
      × (counts_good mode count (length imports) ≡ true)
  unfolding rows_known
  known-passed e =
      let miscounted = not (counts_good mode count (length imports)) in
      let last = refused_if miscounted map_count_of ∷ [] in
      let descend = not (ascending && ascend imports) in
      let one =
      first-kept (not (valid_range file && (valid && all_valid_of imports))) range_invalid (refused_if descend ranges_not_ascending ∷ last) e in
      let two = first-kept descend ranges_not_ascending last one.1 in
      let three = first-kept miscounted map_count_of [] two.1 in
      let v = (and-eq-true_iff (valid_range file) (valid && all_valid_of imports)).0 (not-false _ one.0) in
      let w = (and-eq-true_iff valid (all_valid_of imports)).0 v.1 in
      let o = (and-eq-true_iff ascending (ascend imports)).0 (not-false _ two.0) in
      (v.0, w.0, w.1, o.0, o.1, not-false _ three.0)

  -- each row refuses where those above it are passed
  pub known_invalid : (valid_range file && valid) ≡ false → row ≡ Some range_invalid
  unfolding rows_known
  known_invalid v = rw (← and_assoc (valid_range file) valid (all_valid_of imports), v)

  module _ (v : (valid_range file && valid) ≡ true) where
    pub known-imports_invalid : all_valid_of imports ≡ false → row ≡ Some range_invalid
    unfolding rows_known
    known-imports_invalid w = rw (← and_assoc (valid_range file) valid (all_valid_of imports), v, w)

    module _ (w : all_valid_of imports ≡ true) where
      pub known_descend : ascending ≡ false → row ≡ Some ranges_not_ascending
      unfolding rows_known
      known_descend o = rw (← and_assoc (valid_range file) valid (all_valid_of imports), v, w, o)

      module _ (o : ascending ≡ true) where
        pub known-imports_descend : ascend imports ≡ false → row ≡ Some ranges_not_ascending
        unfolding rows_known
        known-imports_descend p = rw (← and_assoc (valid_range file) valid (all_valid_of imports), v, w, o, p)

        module _ (p : ascend imports ≡ true) where
          pub known-count : counts_good mode count (length imports) ≡ false → row ≡ Some map_count_of
          unfolding rows_known
          known-count g = rw (← and_assoc (valid_range file) valid (all_valid_of imports), v, w, o, p, g)

          pub known_good : counts_good mode count (length imports) ≡ true → row ≡ None
          unfolding rows_known
          known_good g = rw (← and_assoc (valid_range file) valid (all_valid_of imports), v, w, o, p, g)

-- of a map whose ranges are at hand
module _ (mode : MemoryAllocationMode) (file : MemoryRange) (map imports : List MemoryRange) where
  pub rows-passed : rows_refusal mode file map imports ≡ None
      → (valid_range file ≡ true) × (all_valid_of map ≡ true) × (all_valid_of imports ≡ true) × (ascend map ≡ true) × (ascend imports ≡ true)
      × (counts_good mode (length map) (length imports) ≡ true)
  rows-passed e = known-passed mode file (all_valid_of map) (ascend map) (length map) imports e

  pub rows-count : (valid_range file && (all_valid_of map && all_valid_of imports)) ≡ true → (ascend map && ascend imports) ≡ true
      → counts_good mode (length map) (length imports) ≡ false → rows_refusal mode file map imports ≡ Some map_count_of
  unfolding rows_known
  rows-count v o g = rw (v, o, g)
