-- Rows 4 to 8 and 11 of the chart are tests of a selection's lists: each says what the rule of its row says.
use Rattle.std.specs.Prelude.{ℕ, ◌+◌, ◌≤◌, ◌<◌, ◌≡◌, Bool, true, false, ◌&&◌, ◌||◌, not, leb, ltb, eqb, length, Option, Some, None}
use Rattle.std.proofs.Math.Path.{refl}
use Rattle.std.proofs.Common.{sym, ◌∙◌, true≢false, inl, inr, ⊎_elim, arith, eqb-true, eq-eqb, ltb-true, ltb-false, leb-true, le-leb, lt-ltb, le-ltb, ne_eqb}
use Rattle.std.proofs.Math.Bool.{and-eq-true_iff, or-true}
use mathlib.Core.List.{List, [], ◌∷◌}
use Rattle.std.proofs.lemmas.Bool.{eqb-false, not-true, not-false}
use Rattle.memory_range.specs.declared.range.MemoryRange.{MemoryRange}
use Rattle.memory_range.specs.declared.range.TaggedRange.{TaggedRange}
use Rattle.memory_range.specs.Bytes.{All}
use Rattle.memory_range.specs.Range.{length_of, holds, contains_range, overlap_ranges}
use Rattle.memory_range.specs.Valid.{valid_range, all_valid_of, ascend}
use Rattle.memory_range.specs.Laws.Range.{contains_bytes, overlap_byte}
use Rattle.memory_range.specs.Laws.Valid.{valid-parts, valid-range, valid-ordered, ordered-ascend}
use Rattle.range_lists.specs.Laws.Node.{has}
use Rattle.host_params.specs.declared.IsolationType.{IsolationType}
use Rattle.host_params.specs.declared.MemoryAllocationMode.{MemoryAllocationMode}
use Rattle.host_params.specs.declared.MemoryAllocationMode.TheVariants.{Host, Vtl2}
use Rattle.host_params.specs.declared.MemoryEntry.{MemoryEntry}
use Rattle.host_map.specs.Map.{max_entries, map_ranges}
use Rattle.boot_nodes.specs.Node.{max_nodes, nodes_bad, all_below}
use Rattle.boot_ram.specs.Import.{imports_clear}
use Rattle.boot_ram.specs.Laws.Paged.{all_paged, paged-all}
use Rattle.refusal.specs.declared.Refusal.{Refusal}
use Rattle.refusal.specs.Number.{number_of, range_invalid, ranges_not_ascending, map_count_of, node_numbers}
use Rattle.refusal.specs.Rows.{refused_if}
use Rattle.refusal.specs.Laws.Rows.{told_in-turn, contrary}
use Rattle.vtl2_ram.specs.Choice.{chosen}
use Rattle.vtl2_ram.specs.Rows.{is_boot, max_imports, counts_good, rows_refusal, rows_known}
use Rattle.vtl2_ram.specs.Rule.{Row, row4, row5, row6, number, InBoot, InsideOrOutside, Rule, Kept, Broken}
use Rattle.vtl2_ram.specs.Select.{choice, choice_by}
use Rattle.vtl2_ram.specs.Boot.{size_wanted, is_size_below}
use Rattle.vtl2_ram.specs.Laws.Choice.{unless-chosen}
use Rattle.vtl2_ram.specs.Laws.Map.{length-map-ranges}
use Rattle.vtl2_ram.specs.Laws.RuleOrder.{kept-none, kept_more}
use Rattle.vtl2_ram.specs.Laws.Rows.{rows-passed}
use Rattle.std.proofs.lemmas.Option.{none-some}

-- row 6, of the counts
counts-kept : (mode : MemoryAllocationMode) (m i : ℕ) → counts_good mode m i ≡ true → (m ≤ max_entries) × (i ≤ max_imports) × InBoot mode (0 < m)
counts-kept mode m i g =
    let a = (and-eq-true_iff (leb m max_entries) _).0 g in
    let b = (and-eq-true_iff (leb i max_imports) _).0 a.1 in
    (leb-true m max_entries a.0, leb-true i max_imports b.0, some-map mode b.1)
  where
    some-map : (mode : MemoryAllocationMode) → not (is_boot mode && eqb m 0) ≡ true → InBoot mode (0 < m)
    some-map Host e = tt
    some-map Vtl2 e = omega (arith, eqb-false m 0 (not-true (eqb m 0) e))

kept_counts : (mode : MemoryAllocationMode) (m i : ℕ) → (m ≤ max_entries) × (i ≤ max_imports) × InBoot mode (0 < m) → counts_good mode m i ≡ true
kept_counts mode m i h = rw (le-leb m max_entries h.0, le-leb i max_imports h.1) (some-map mode h.2)
  where
    some-map : (mode : MemoryAllocationMode) → InBoot mode (0 < m) → not (is_boot mode && eqb m 0) ≡ true
    some-map Host p = refl
    some-map Vtl2 p = rw (ne_eqb m 0 (λ e. omega arith))

-- row 11, of the imported ranges
pub clear_kept : (file : MemoryRange) (rs : List MemoryRange) → imports_clear file rs ≡ true → All (InsideOrOutside file) rs
clear_kept file [] c = tt
clear_kept file (r ∷ rs) c =
    let t = (and-eq-true_iff (not (overlap_ranges file r) || contains_range file r) (imports_clear file rs)).0 c in
    (one (overlap_ranges file r) refl t.0, clear_kept file rs t.1)
  where
    apart : overlap_ranges file r ≡ false → (a : ℕ) → holds r a ≡ true → (t : Bool) → holds file a ≡ t → t ≡ false
    apart e a h false f = refl
    apart e a h true f = absurd (true≢false (sym ((overlap_byte file r).1 (a, f, h)) ∙ e))

    one : (t : Bool) → overlap_ranges file r ≡ t → (not t || contains_range file r) ≡ true → InsideOrOutside file r
    one true e c = inl ((contains_bytes file r).0 c)
    one false e c = inr (λ a h. apart e a h (holds file a) refl)

pub kept_clear : (file : MemoryRange) (rs : List MemoryRange) → All (InsideOrOutside file) rs → imports_clear file rs ≡ true
kept_clear file [] h = refl
kept_clear file (r ∷ rs) h = rw (⊎_elim inside (λ out. apart out (overlap_ranges file r) refl) h.0) (kept_clear file rs h.1)
  where
    inside : ((a : ℕ) → holds r a ≡ true → holds file a ≡ true) → (not (overlap_ranges file r) || contains_range file r) ≡ true
    inside all = rw ((contains_bytes file r).1 all, or-true)

    apart : ((a : ℕ) → holds r a ≡ true → holds file a ≡ false) → (t : Bool) → overlap_ranges file r ≡ t → (not t || contains_range file r) ≡ true
    apart out true e = let w = (overlap_byte file r).0 e in absurd (true≢false (sym w.1 ∙ out w.0 w.2))
    apart out false e = refl

-- row 7, of the nodes
pub below-has : (k n : ℕ) (ns : List ℕ) → all_below k ns ≡ true → has n ns ≡ true → n < k
below-has k n [] b h = absurd (true≢false (sym h))
below-has k n (x ∷ ns) b h =
    let t = (and-eq-true_iff (ltb x k) (all_below k ns)).0 b in
    go (eqb n x) refl h (ltb-true x k t.0) (below-has k n ns t.1)
  where
    go : (same : Bool) → eqb n x ≡ same → (same || has n ns) ≡ true → x < k → (has n ns ≡ true → n < k) → n < k
    go true e q l rest = omega (arith, eqb-true n x e)
    go false e q l rest = rest q

has_below : (k : ℕ) (ns : List ℕ) → ((n : ℕ) → has n ns ≡ true → n < k) → all_below k ns ≡ true
has_below k [] h = refl
has_below k (x ∷ ns) h = rw (lt-ltb x k (h x (rw (eq-eqb x x refl)))) (has_below k ns (λ n q. h n (rw (q, or-true))))

pub nodes-kept : (ns : List ℕ) → (length ns ≤ max_nodes) × ((n : ℕ) → has n ns ≡ true → n < length ns) → nodes_bad ns ≡ false
nodes-kept ns h = rw (le-ltb max_nodes (length ns) h.0, has_below (length ns) ns h.1)

-- row 8, of the size
pub size_below : (size : (Option ℕ)) (file : MemoryRange) → is_size_below size file ≡ true → size_wanted size file < length_of file
size_below (Some size) file e = ltb-true size (length_of file) e
size_below None file e = absurd (true≢false (sym e))

pub size-kept : (size : (Option ℕ)) (file : MemoryRange) → is_size_below size file ≡ false → length_of file ≤ size_wanted size file
size-kept (Some size) file e = ltb-false size (length_of file) e
size-kept None file e = omega arith

module _ (mode : MemoryAllocationMode) (isolation : IsolationType) (size : (Option ℕ)) (file : MemoryRange) (map : List MemoryEntry)
    (imports : List MemoryRange) where
  abbrev Rules : Row → Type 0
  Rules = Rule mode isolation size file map imports

  abbrev Breaks : Refusal → Type 0
  Breaks r = Broken mode isolation size file map imports (number_of r)

  abbrev Keeps : ℕ → Type 0
  Keeps = Kept mode isolation size file map imports

  abbrev kept_next : (row : Row) → Keeps (number row) → Rules row → Keeps (number row + 1)
  kept_next = kept_more mode isolation size file map imports

  abbrev nothing_yet : Keeps (number_of range_invalid)
  nothing_yet = kept-none mode isolation size file map imports

  -- rows 4 to 6
  abbrev m : List MemoryRange
  m = map_ranges map

  ranges_rule : (valid_range file && (all_valid_of m && all_valid_of imports)) ≡ true → Rules row4
  ranges_rule v =
      let t = (and-eq-true_iff (valid_range file) (all_valid_of m && all_valid_of imports)).0 v in
      let u = (and-eq-true_iff (all_valid_of m) (all_valid_of imports)).0 t.1 in
      (valid-parts file t.0, all_paged m u.0, all_paged imports u.1)

  order_rule : Rules row4 → (ascend m && ascend imports) ≡ true → Rules row5
  order_rule h o =
      let t = (and-eq-true_iff (ascend m) (ascend imports)).0 o in
      (valid-ordered 0 m (paged-all m h.1) t.0, valid-ordered 0 imports (paged-all imports h.2) t.1)

  counts_rule : counts_good mode (length m) (length imports) ≡ true → Rules row6
  counts_rule g = rw (length-map-ranges map) at (counts-kept mode (length m) (length imports) g)

  pub rows_break : {n : Refusal} → rows_refusal mode file m imports ≡ Some n → Breaks n
  unfolding rows_known
  rows_break =
      let valid = valid_range file && (all_valid_of m && all_valid_of imports) in
      let ascending = ascend m && ascend imports in
      let counts = counts_good mode (length m) (length imports) in
      let order = refused_if (not ascending) ranges_not_ascending in
      let count = refused_if (not counts) map_count_of in
      told_in-turn Breaks (not valid) range_invalid (order ∷ count ∷ [])
      (λ e. (
        row4,
        refl,
        λ h. contrary valid (rw (valid-range file h.0.0 h.0.1 h.0.2, paged-all m h.1, paged-all imports h.2)) e,
        nothing_yet,
      ))
      (λ v. let four = ranges_rule (not-false valid v) in let upto4 = kept_next row4 nothing_yet four in
      told_in-turn Breaks (not ascending) ranges_not_ascending (count ∷ [])
      (λ e. (row5, refl, λ h. contrary ascending (rw (ordered-ascend 0 m h.0, ordered-ascend 0 imports h.1)) e, upto4))
      (λ o. let upto5 = kept_next row5 upto4 (order_rule four (not-false ascending o)) in
      told_in-turn Breaks (not counts) map_count_of []
      (λ e. (row6, refl, λ h. contrary counts (rw (length-map-ranges map) (kept_counts mode (length map) (length imports) h)) e, upto5))
      (λ g e. absurd (none-some _ e))))

  pub rows_keep : rows_refusal mode file m imports ≡ None → Keeps (number_of node_numbers)
  rows_keep e =
      let p = rows-passed mode file m imports e in
      let four : Rules row4 = (valid-parts file p.0, all_paged m p.1, all_paged imports p.2) in
      let five : Rules row5 = (valid-ordered 0 m p.1 p.3, valid-ordered 0 imports p.2 p.4) in
      kept_next row6 (kept_next row5 (kept_next row4 nothing_yet four) five) (counts_rule p.5)

  pub first_rows : (ram : List TaggedRange) → choice mode isolation size file map imports ≡ chosen ram → Keeps (number_of node_numbers)
  unfolding choice
  first_rows ram e =
      rows_keep (unless-chosen (rows_refusal mode file m imports) (choice_by mode isolation size file map imports) e).0
