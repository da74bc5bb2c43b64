-- Laws of what a selection comes to: from as much of both lists as there is room for, and as it is asked for in numbers.
use Rattle.std.specs.Prelude.{Option, Some, None, Ok, Err, ◌++◌, drop}
use Prim.Native.Nat.{ℕ, ◌*◌, ◌≤◌, ◌<◌}
use mathlib.Core.Path.{◌≡◌, refl, ap₂}
use mathlib.Core.Bool.{Bool, true, false, cond, ◌&&◌, not, and-eq-true_iff}
use mathlib.Core.List.{List, [], ◌∷◌}
use native.Mathlib.Omega.{arith}
use borrow.Author.Tests.{lt-ltb, le-ltb, leb-true}
use lib.Dec.{leb}
use lib.ListN.{length, take}
use lib.Seq.{sets, take_all}
use Rattle.refusal.specs.Number.{range_invalid, ranges_not_ascending, map_count_of}
use Rattle.refusal.specs.Rows.{refused_if, downward}
use Rattle.memory_range.specs.declared.range.MemoryRange.{MemoryRange}
use Rattle.memory_range.specs.declared.range.TaggedRange.{TaggedRange}
use Rattle.memory_range.specs.Valid.{valid_range, all_valid_of, ascend}
use Rattle.host_params.specs.declared.IsolationType.{IsolationType}
use Rattle.host_params.specs.declared.MemoryAllocationMode.{MemoryAllocationMode}
use Rattle.host_params.specs.declared.MemoryEntry.{MemoryEntry}
use Rattle.host_map.specs.declared.rows.RangeCheck.{RangeCheck}
use Rattle.host_map.specs.Map.{map_ranges}
use Rattle.host_map.specs.Rows.{check_start, checked_all}
use Rattle.host_map.specs.Laws.Rows.{valid_by, ascending_by, valid-three}
use Rattle.boot_ram.specs.Verdict.{max_chosen}
use Rattle.vtl2_ram.specs.declared.ram.Vtl2Ram.{Vtl2Ram}
use Rattle.vtl2_ram.specs.Choice.{Choice, refused, chosen, entries_of}
use Rattle.vtl2_ram.specs.Ram.{ram_of, ram_entries, ram_as}
use Rattle.vtl2_ram.specs.Laws.Ram.{entries-of}
use Rattle.vtl2_ram.specs.Laws.Select.{choice_few}
use Rattle.vtl2_ram.specs.Rows.{counts_good, rows_known}
use Rattle.vtl2_ram.specs.Select.{choice}
use Rattle.plan_input.specs.Room.{map_room, import_room}
use Rattle.plan_input.specs.Laws.Room.{choice_room}
use Rattle.table_words.specs.declared.code.CallError.TheVariants.{Refused, NoRoom, BadNumber}
use Rattle.refusal.specs.declared.Refusal.{Refusal}
use Rattle.table_words.specs.List.{ranges_in}
use Rattle.selection_calls.specs.Selection.{mode_of, isolation_of, word_entries, map_stands, numbers_stand, ram_words, ram_size_of, asked, chosen_as, rows_of, rows_long}
use Rattle.selection_calls.proofs.selection.Laws.{words-length, sets_first, entries_few}
use Rattle.selection_calls.proofs.selection.Lent.{imports_few}

-- two rows, and another below them
rows_more : (v a g : Bool) {n : Refusal} → downward (refused_if (not v) range_invalid ∷ refused_if (not a) ranges_not_ascending ∷ []) ≡ Some n
    → downward (refused_if (not v) range_invalid ∷ refused_if (not a) ranges_not_ascending ∷ refused_if g map_count_of ∷ []) ≡ Some n
rows_more false a g e = e
rows_more true false g e = e
rows_more true true g e = absurd (let z : ◌≡◌ {A = ℕ} 0 1 = cc in omega arith)

both-passed : (v a : Bool) → downward (refused_if (not v) range_invalid ∷ refused_if (not a) ranges_not_ascending ∷ []) ≡ None
    → (v ≡ true) × (a ≡ true)
both-passed false a e = absurd (let z : ◌≡◌ {A = ℕ} 0 1 = cc in omega arith)
both-passed true false e = absurd (let z : ◌≡◌ {A = ℕ} 0 1 = cc in omega arith)
both-passed true true e = (refl, refl)

module _ (mode : MemoryAllocationMode) (isolation : IsolationType) (size : Option ℕ) (file : MemoryRange) (m : List MemoryEntry) (is : List MemoryRange) where
  -- what selection comes to, and what from as much of the lists as there is room for
  abbrev all : Choice
  all = choice mode isolation size file m is

  abbrev cut : Choice
  cut = choice mode isolation size file (take map_room m) (take import_room is)

  -- nothing is cut off where there is room for both lists
  fits-same : length m ≤ map_room → length is ≤ import_room → cut ≡ all
  fits-same h g = rw (take_all map_room m h, take_all import_room is g)

  -- by what was seen of all ranges
  module _ {k j : RangeCheck} (a : k ≡ checked_all check_start (map_ranges m)) (b : j ≡ checked_all check_start is) where
    valid_same : (valid_range file && k.valid && j.valid) ≡ (valid_range file && (all_valid_of (map_ranges m) && all_valid_of is))
    valid_same = valid-three {a = valid_range file} refl (valid_by (map_ranges m) a) (valid_by is b)

    ascend-same : (k.ascending && j.ascending) ≡ (ascend (map_ranges m) && ascend is)
    ascend-same = ap₂ (λ (x y : Bool). x && y) (ascending_by (map_ranges m) a) (ascending_by is b)

    words_refused : {n : Refusal} → rows_of file k j ≡ Some n → all ≡ refused n
    unfolding choice rows_known
    words_refused e =
        let valid = valid_range file && (all_valid_of (map_ranges m) && all_valid_of is) in
        let uncounted = not (counts_good mode (length (map_ranges m)) (length is)) in
        rw (rows_more valid (ascend (map_ranges m) && ascend is) uncounted (rw (valid_same, ascend-same) at e))

    words-passed : rows_of file k j ≡ None → cut ≡ all
    words-passed e =
        let p = both-passed _ _ (rw (valid_same, ascend-same) at e) in
        let v = (and-eq-true_iff (valid_range file) (all_valid_of (map_ranges m) && all_valid_of is)).0 p.0 in
        let w = (and-eq-true_iff (all_valid_of (map_ranges m)) (all_valid_of is)).0 v.1 in
        let o = (and-eq-true_iff (ascend (map_ranges m)) (ascend is)).0 p.1 in
        choice_room mode isolation size file m is v.0 w.0 w.1 o.0 o.1

-- by rows 4 and 5 of lists that there is not room for
module _ (mode : MemoryAllocationMode) (isolation : IsolationType) (size : Option ℕ) (file : MemoryRange) (map imports : List ℕ) where
  abbrev fits : Bool
  fits = leb (length map) (map_room * 4) && leb (length imports) (import_room * 2)

  abbrev seen : Option Refusal
  seen = rows_of file (checked_all check_start (map_ranges (word_entries map))) (checked_all check_start (ranges_in imports))

  pub long_refused : {n : Refusal} → rows_long file map imports ≡ Some n → all mode isolation size file (word_entries map) (ranges_in imports) ≡ refused n
  long_refused {n} e = go fits e
    where
      go : (b : Bool) → cond b None seen ≡ Some n → all mode isolation size file (word_entries map) (ranges_in imports) ≡ refused n
      go true e = absurd (let z : ◌≡◌ {A = ℕ} 0 1 = cc in omega arith)
      go false e = words_refused mode isolation size file (word_entries map) (ranges_in imports) refl refl e

  pub long-passed : rows_long file map imports ≡ None
      → cut mode isolation size file (word_entries map) (ranges_in imports) ≡ all mode isolation size file (word_entries map) (ranges_in imports)
  long-passed e = go fits refl e
    where
      go : (b : Bool) → fits ≡ b → cond b None seen ≡ None
          → cut mode isolation size file (word_entries map) (ranges_in imports) ≡ all mode isolation size file (word_entries map) (ranges_in imports)
      go true f e =
          let both = (and-eq-true_iff (leb (length map) (map_room * 4)) (leb (length imports) (import_room * 2))).0 f in
          fits-same mode isolation size file (word_entries map) (ranges_in imports)
          (omega (arith, entries_few map, leb-true (length map) (map_room * 4) both.0))
          (omega (arith, imports_few imports, leb-true (length imports) (import_room * 2) both.1))
      go false f e = words-passed mode isolation size file (word_entries map) (ranges_in imports) refl refl e

-- numbers that stand for something, the map among them
pub map_among : (mode isolation : ℕ) (map imports : List ℕ) → numbers_stand mode isolation map imports ≡ true → map_stands map ≡ true
map_among mode isolation map imports e =
    let a = (and-eq-true_iff (leb mode 1 && leb isolation 4 && map_stands map) _).0 e in
    ((and-eq-true_iff (leb mode 1 && leb isolation 4) (map_stands map)).0 a.0).1

-- what is asked for, case by case
module _ (mode isolation : ℕ) (size : Option ℕ) (file : MemoryRange) (map imports ram : List ℕ) where
  pub asked-short : length ram < ram_size_of → asked mode isolation size file map imports ram ≡ Err NoRoom
  unfolding asked
  asked-short h = rw (lt-ltb (length ram) ram_size_of h)

  module _ (h : ram_size_of ≤ length ram) where
    pub asked-bad : numbers_stand mode isolation map imports ≡ false → asked mode isolation size file map imports ram ≡ Err BadNumber
    unfolding asked
    asked-bad e = rw (le-ltb (length ram) ram_size_of h, e)

    pub asked_good : numbers_stand mode isolation map imports ≡ true
        → asked mode isolation size file map imports ram
        ≡ chosen_as (choice (mode_of mode) (isolation_of isolation) size file (word_entries map) (ranges_in imports))
    unfolding asked
    asked_good e = rw (le-ltb (length ram) ram_size_of h, e)

-- what the answer of a choice says of it
pub choice_err : (c : Choice) {e : Refusal} → ram_as c ≡ Err e → chosen_as c ≡ Err (Refused e)
choice_err (refused n) h = cc
choice_err (chosen xs) h = absurd (grind arith)

pub choice_ok : (c : Choice) {r : Vtl2Ram} → length (entries_of c) ≤ max_chosen → ram_as c ≡ Ok r
    → (chosen_as c ≡ Ok (ram_entries r)) × (length (ram_entries r) ≤ max_chosen)
choice_ok (refused n) few h = absurd (grind arith)
choice_ok (chosen xs) {r} few h =
    let e : ram_of xs ≡ r = cc in
    let held = entries-of xs few in
    rw (← e, held) (refl, few)

-- whatever is selected is within the bound
pub choice-told : (mode : MemoryAllocationMode) (isolation : IsolationType) (size : Option ℕ) (file : MemoryRange) (map : List MemoryEntry)
    (imports : List MemoryRange) {r : Vtl2Ram} → ram_as (choice mode isolation size file map imports) ≡ Ok r
    → (chosen_as (choice mode isolation size file map imports) ≡ Ok (ram_entries r)) × (length (ram_entries r) ≤ max_chosen)
choice-told mode isolation size file map imports = choice_ok _ (choice_few mode isolation size file map imports)

-- the words of the most entries fit where there is room for them
pub words_fit : (xs : List TaggedRange) (ram : List ℕ) → length xs ≤ max_chosen → ram_size_of ≤ length ram
    → sets ram 0 (ram_words xs) ≡ ram_words xs ++ drop (length (ram_words xs)) ram
words_fit xs ram few room = let k = words-length xs in sets_first ram (ram_words xs) (omega arith)
