-- Host mode: the memory that an accepted choice gives VTL2 is pages, in order, and no more ranges than can be held.
use Rattle.std.specs.Prelude.{ℕ, ◌-◌, ◌%◌, ◌^◌, ◌≤◌, ◌≡◌, refl, Bool, false, cond, List, [], ◌∷◌, ltb, length}
use Rattle.std.proofs.Math.Bool.{true, and-eq-true_iff}
use Rattle.std.proofs.Common.{arith, ltb-false, le-leb}
use Rattle.memory_range.specs.declared.range.MemoryRange.{MemoryRange}
use Rattle.memory_range.specs.declared.range.TaggedRange.{TaggedRange}
use Rattle.memory_range.specs.List.{ranges_in, tagged}
use Rattle.memory_range.specs.Range.{range}
use Rattle.memory_range.specs.Valid.{page_size, valid_range, all_valid_of, ascend}
use Rattle.memory_range.specs.Laws.Valid.{valid-parts, valid-range, valid-ordered, ordered-ascend}
use Rattle.host_params.specs.declared.IsolationType.{IsolationType}
use Rattle.host_params.specs.declared.MemoryEntry.{MemoryEntry}
use Rattle.boot_ram.specs.Held.{bytes_of}
use Rattle.boot_ram.specs.Verdict.{max_chosen}
use Rattle.vtl2_ram.specs.Choice.{Choice, refused, chosen}
use Rattle.vtl2_ram.specs.Host.{is_hardware_isolated, isolated_end, isolated_choice, protectable_choice, host_choice}
use Rattle.host_map.specs.Map.{map_ranges, protectable_in}
use Rattle.vtl2_ram.specs.Laws.Map.{protectable-valid, protectable-ordered}

-- the bytes of valid entries are pages
bytes-pages : (xs : List TaggedRange) → all_valid_of (ranges_in xs) ≡ true → bytes_of xs % page_size ≡ 0
bytes-pages [] v = refl
bytes-pages (x ∷ xs) v =
    let v' = (and-eq-true_iff (valid_range x.range) (all_valid_of (ranges_in xs))).0 v in
    let p = valid-parts x.range v'.0 in
    let q = bytes-pages xs v'.1 in
    omega arith

-- what is to hold of an accepted choice
abbrev Good : Choice → Type 0
Good (refused n) = Unit {0}
Good (chosen ram) = (all_valid_of (ranges_in ram) ≡ true) × (ascend (ranges_in ram) ≡ true) × (length ram ≤ max_chosen)

one_good : (s e n : ℕ) → valid_range (range s e) ≡ true → Good (chosen (tagged s e n ∷ []))
one_good s e n v = (rw v, rw (le-leb 0 s (omega arith)), omega arith)

module _ (file : MemoryRange) (valid : valid_range file ≡ true) where
  isolated_good : (bytes : ℕ) → bytes % page_size ≡ 0 → Good (isolated_choice file bytes)
  isolated_good bytes p = go (ltb (2 ^ 64 - page_size) (isolated_end file bytes)) refl
    where
      go : (t : Bool) → ltb (2 ^ 64 - page_size) (isolated_end file bytes) ≡ t → Good (isolated_choice file bytes)
      go true e = rw e tt
      go false e =
          let v = valid-parts file valid in
          let r = range file.start (isolated_end file bytes) in
          rw e (one_good file.start (isolated_end file bytes) 0 (valid-range r (omega arith) v.1 (omega arith)))

  protectable_good : (xs : List TaggedRange) → all_valid_of (ranges_in xs) ≡ true → ascend (ranges_in xs) ≡ true → Good (protectable_choice file xs)
  protectable_good [] v o = one_good file.start file.end 0 valid
  protectable_good (x ∷ xs) v o = go (ltb max_chosen (length (x ∷ xs))) refl
    where
      go : (t : Bool) → ltb max_chosen (length (x ∷ xs)) ≡ t → Good (protectable_choice file (x ∷ xs))
      go true e = rw e tt
      go false e = rw e (v, o, ltb-false _ _ e)

  host_good : (isolation : IsolationType) (map : List MemoryEntry) → all_valid_of (map_ranges map) ≡ true → ascend (map_ranges map) ≡ true
      → Good (host_choice isolation file map)
  unfolding host_choice
  host_good isolation map v o = go (is_hardware_isolated isolation)
    where
      valid' : all_valid_of (ranges_in (protectable_in map)) ≡ true
      valid' = protectable-valid map v

      order : ascend (ranges_in (protectable_in map)) ≡ true
      order = ordered-ascend 0 (ranges_in (protectable_in map)) (protectable-ordered 0 map (valid-ordered 0 (map_ranges map) v o))

      go : (t : Bool) → Good (cond t (isolated_choice file (bytes_of (protectable_in map))) (protectable_choice file (protectable_in map)))
      go true = isolated_good (bytes_of (protectable_in map)) (bytes-pages (protectable_in map) valid')
      go false = protectable_good (protectable_in map) valid' order

pub host-chosen : (isolation : IsolationType) (file : MemoryRange) (map : List MemoryEntry) (ram : List TaggedRange)
    → host_choice isolation file map ≡ chosen ram → valid_range file ≡ true → all_valid_of (map_ranges map) ≡ true → ascend (map_ranges map) ≡ true
    → (all_valid_of (ranges_in ram) ≡ true) × (ascend (ranges_in ram) ≡ true) × (length ram ≤ max_chosen)
host-chosen isolation file map ram e valid v o = rw e at (host_good file valid isolation map v o)
