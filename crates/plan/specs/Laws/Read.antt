-- Laws of an accepted text: what the plan is by what is read of it, with lists that are cut to the room that they have.
use Rattle.std.specs.Prelude.{ℕ, ◌≤◌, min, ◌≡◌, refl, Bool, true, false, ◌&&◌, not, List, [], ◌∷◌, length, take, replicate, Result, Ok, Err}
use Rattle.std.proofs.Common.{ap, sym, ◌∙◌, arith}
use Rattle.std.proofs.Math.Bool.{and-eq-true_iff}
use Rattle.std.proofs.lemmas.List.{length-replicate}
use Rattle.std.proofs.lemmas.List.Edits.{sets}
use Rattle.refusal.specs.Number.{range_invalid, ranges_not_ascending}
use Rattle.refusal.specs.Rows.{refused_if, downward, unless}
use Rattle.memory_range.specs.declared.range.MemoryRange.{MemoryRange}
use Rattle.memory_range.specs.Valid.{valid_range, all_valid_of, ascend}
use Rattle.host_params.specs.declared.IsolationType.{IsolationType}
use Rattle.host_params.specs.declared.MemoryEntry.{MemoryEntry}
use Rattle.vtl2_ram.specs.declared.ram.Vtl2Ram.{Vtl2Ram}
use Rattle.vtl2_ram.specs.Ram.{ram_as}
use Rattle.vtl2_ram.specs.Choice.{Choice, refused, chosen, entries_of}
use Rattle.host_map.specs.Map.{map_ranges}
use Rattle.vtl2_ram.specs.Select.{choice}
use Rattle.vtl2_ram.specs.Laws.Select.{chosen_in_order}
use Rattle.boot_ram.specs.Verdict.{max_chosen}
use Rattle.memory.specs.declared.builder.AddressSpaceManagerBuilder.{AddressSpaceManagerBuilder}
use Rattle.memory.specs.Builder.{singles_valid}
use Rattle.plan_record.specs.declared.record.Get.{Get}
use Rattle.plan_record.specs.declared.record.Pool.{Pool}
use Rattle.plan_text.specs.Order.{in_order_of}
use Rattle.plan_text.specs.Text.{text_size, text_check, check_from, records_from}
use Rattle.plan_text.specs.Laws.Text.{accepted, short_from}
use Rattle.plan_input.specs.Record.{records_at, behind_one}
use Rattle.plan_input.specs.Room.{map_room, import_room, config_room, pool_room}
use Rattle.plan_input.specs.Once.{pool_first}
use Rattle.plan_input.specs.declared.selection.SelectionRead.{SelectionRead}
use Rattle.plan_input.specs.Selection.{SelectionIn, selection_in, SelectionHeld}
use Rattle.plan_input.specs.Build.{BuildIn, build_in}
use Rattle.plan_input.specs.Input.{input_read, gets_first}
use Rattle.plan_input.specs.Laws.Record.{records-accepted}
use Rattle.plan_input.specs.Laws.Input.{input-read, valid-read}
use Rattle.plan_input.specs.Laws.Room.{stored-list, choice_room, build_room}
use Rattle.plan.specs.Planner.{plan_of, records_plan, ranges_refusal, selected_plan, after_build, after_choice, refused as plan_refused, choice_of}
use Rattle.plan.specs.Planner as plan
use Rattle.refusal.specs.declared.Refusal.{Refusal}

-- a test that is turned round
pub not-true : (t : Bool) → not t ≡ true → t ≡ false
not-true false e = refl
not-true true e = sym e

pub not-false : (t : Bool) → not t ≡ false → t ≡ true
not-false true e = refl
not-false false e = sym e

-- a list that is stored in an array of so many places: what is lent of it is as much of it as there is room for
pub lent : {A : Type 0} (room : ℕ) (xs : List A) (d : A) {n : ℕ} {array : List A} → array ≡ sets (replicate room d) 0 xs
    → n ≡ min (length xs) room → take n array ≡ take room xs
lent room xs d {n} e h = rw e (stored-list room xs (replicate room d) n (length-replicate room d) h)

-- a selection comes to at most 64 entries
pub choice_few : (c : Choice) → ((xs : List _) → c ≡ chosen xs → length xs ≤ max_chosen) → length (entries_of c) ≤ max_chosen
choice_few (refused n) h = omega arith
choice_few (chosen xs) h = h xs refl

-- config and pool ranges that are cut to their room give the same plan
cut_lists : (isolation : IsolationType) (pool : Pool) (b : AddressSpaceManagerBuilder) (gets : List Get) (cs ps : List MemoryRange) (c : Choice)
    → all_valid_of cs ≡ true → all_valid_of ps ≡ true
    → after_choice isolation pool b gets cs ps c ≡ after_choice isolation pool b gets (take config_room cs) (take pool_room ps) c
cut_lists isolation pool b gets cs ps (refused n) v w = refl
cut_lists isolation pool b gets cs ps (chosen ram) v w = ap (after_build isolation pool ram gets) (sym (build_room b ram cs ps v w))

-- a text that rows 3, 1 or 2 refuse
pub text_refused : (text : List ℕ) {n : Refusal} → text_check text ≡ Err n → plan_of text ≡ plan.refused n
unfolding plan_of
text_refused text e = rw e

-- a text that is not too long is judged by what is left of it behind what is read
pub text_checked : (text : List ℕ) (at k : ℕ) {s : SelectionIn} {read : SelectionRead} {r : Result (Unit {0}) Refusal} → length text ≤ text_size
    → SelectionHeld text s read → check_from k (records_from at text) ≡ check_from read.order (records_from read.next text)
    → r ≡ check_from k (records_from at text) → text_check text ≡ r
text_checked text at k h s e f = short_from text h ∙ sym s.order ∙ sym e ∙ sym f

module _ (text : List ℕ) (a : text_check text ≡ Ok tt) where
  abbrev pub selection : SelectionIn
  selection = selection_in (records_at text 0)

  abbrev pub building : BuildIn
  building = build_in selection.rest

  -- rows 4 and 5 of what is read
  abbrev pub selection_valid : Bool
  selection_valid = valid_range selection.file && (all_valid_of (map_ranges selection.map) && all_valid_of selection.imports)

  abbrev pub build_valid : Bool
  build_valid = singles_valid building.builder && (all_valid_of building.configs && all_valid_of building.pools)

  abbrev pub lists_ascend : Bool
  lists_ascend = ascend (map_ranges selection.map) && ascend selection.imports

  in_order : in_order_of (records_at text 0) ≡ true
  in_order = let h = accepted text a in rw (records-accepted text 0 h.1) h.2

  plan-of : plan_of text ≡ records_plan (records_at text 0)
  unfolding plan_of
  plan-of = let h = accepted text a in rw (a, h.1, records-accepted text 0 h.1)

  -- the plan by what is read: row 4, row 5, and then selection
  plan-rows : plan_of text
      ≡ unless plan_refused (downward (refused_if (not (selection_valid && build_valid)) range_invalid ∷ refused_if (not lists_ascend) ranges_not_ascending ∷ []))
      (selected_plan (input_read (records_at text 0)))
  unfolding records_plan ranges_refusal input_read
  plan-rows = plan-of ∙ rw (valid-read (records_at text 0) in_order, ← input-read (records_at text 0) in_order)

  pub text_invalid : (selection_valid && build_valid) ≡ false → plan_of text ≡ plan.refused range_invalid
  text_invalid e = plan-rows ∙ rw e

  -- what selection comes to, by what the code holds
  pub selection-same : (read : SelectionRead) {m : List MemoryEntry} {imports : List MemoryRange} {ram : Result Vtl2Ram Refusal}
      → SelectionHeld text selection read → m ≡ take map_room selection.map → imports ≡ take import_room selection.imports
      → ram
      ≡ ram_as
      (choice read.shape.mode read.shape.isolation read.shape.memory_size read.file m imports)
      → ram ≡ ram_as (choice_of selection)
  selection-same read h m i e = rw (h.shape, h.file, m, i) at e

  pub selected_few : length (entries_of (choice_of selection)) ≤ max_chosen
  selected_few =
      choice_few (choice_of selection)
      (λ xs e. let s = selection in
      (chosen_in_order s.shape.isolation s.shape.memory_size s.file (take map_room s.map) (take import_room s.imports) xs s.shape.mode e).count)

  module _ (v : (selection_valid && build_valid) ≡ true) where
    pub text_descends : lists_ascend ≡ false → plan_of text ≡ plan.refused ranges_not_ascending
    text_descends e = plan-rows ∙ rw (v, e)

    pub text_planned : lists_ascend ≡ true
        → let s = selection in let b = building in
        plan_of text
        ≡ after_choice s.shape.isolation (pool_first b.rest) b.builder (gets_first (behind_one b.rest)) (take config_room b.configs) (take pool_room b.pools)
        (choice_of s)
    unfolding input_read
    text_planned e =
        let s = selection in
        let b = building in
        let both = (and-eq-true_iff selection_valid build_valid).0 v in
        let file = (and-eq-true_iff (valid_range s.file) (all_valid_of (map_ranges s.map) && all_valid_of s.imports)).0 both.0 in
        let lists = (and-eq-true_iff (all_valid_of (map_ranges s.map)) (all_valid_of s.imports)).0 file.1 in
        let singles = (and-eq-true_iff (singles_valid b.builder) (all_valid_of b.configs && all_valid_of b.pools)).0 both.1 in
        let given = (and-eq-true_iff (all_valid_of b.configs) (all_valid_of b.pools)).0 singles.1 in
        let ordered = (and-eq-true_iff (ascend (map_ranges s.map)) (ascend s.imports)).0 e in
        let chosen = choice_room s.shape.mode s.shape.isolation s.shape.memory_size s.file s.map s.imports
        file.0 lists.0 lists.1 ordered.0 ordered.1 in
        plan-rows ∙ rw (v, e, ← chosen)
        (cut_lists s.shape.isolation (pool_first b.rest) b.builder (gets_first (behind_one b.rest)) b.configs b.pools (choice_of s) given.0 given.1)

    -- the same by what the code holds
    pub text-selected : lists_ascend ≡ true → {isolation : IsolationType} {pool : Pool} {builder : AddressSpaceManagerBuilder} {gets : List Get}
        {configs pools : List MemoryRange}
        → isolation ≡ selection.shape.isolation → pool ≡ pool_first building.rest → builder ≡ building.builder
        → gets ≡ gets_first (behind_one building.rest) → configs ≡ take config_room building.configs → pools ≡ take pool_room building.pools
        → plan_of text ≡ after_choice isolation pool builder gets configs pools (choice_of selection)
    text-selected e i p b g c q = rw (i, p, b, g, c, q) (text_planned e)
