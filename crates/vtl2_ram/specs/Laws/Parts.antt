-- What boot selection's parts come to where none refuses: by node and byte, what the chosen entries hold; that
-- they are in order; and that they are at most 64.
use Rattle.std.specs.Prelude.{ℕ, ◌+◌, ◌≤◌, ◌<◌, ◌≡◌, refl, Bool, true, false, cond, not, eqb, length, Option, Some, None}
use Rattle.std.proofs.Math.Path.{sym}
use Rattle.std.proofs.Common.{ap, ◌∙◌, arith, length-append}
use mathlib.Core.List.{List, [], ◌∷◌, ◌++◌}
use borrow.Author.Tests.{ne_eqb, not-false}
use Rattle.memory_range.specs.declared.range.MemoryRange.{MemoryRange}
use Rattle.memory_range.specs.declared.range.TaggedRange.{TaggedRange}
use Rattle.memory_range.specs.Bytes.{holders, Ordered, All}
use Rattle.memory_range.specs.List.{ranges_in}
use Rattle.memory_range.specs.Range.{holds}
use Rattle.range_lists.specs.Sort.{sort_by_start}
use Rattle.memory_range.specs.Laws.Bytes.{ordered-once, all_map, all_append}
use Rattle.range_lists.specs.Laws.Node.{AscendsFrom}
use Rattle.range_lists.specs.Laws.Sort.{sort-ordered, sort-all, sort-holders, sort-length}
use Rattle.memory_range.specs.Laws.Valid.{valid-parts, valid-ordered}
use Rattle.host_params.specs.declared.IsolationType.{IsolationType}
use Rattle.boot_ram.specs.File.{file_walk}
use Rattle.boot_ram.specs.Held.{holders_on, PagedRange, Paged}
use Rattle.boot_ram.specs.Import.{imports_clear, import_walk}
use Rattle.boot_nodes.specs.Node.{count_up}
use Rattle.boot_take.specs.Take.{taking}
use Rattle.boot_ram.specs.Verdict.{Judged, max_chosen}
use Rattle.boot_ram.specs.Laws.File.{file-chosen, file-free, file_in-map, file-free-ordered, file_paged}
use Rattle.boot_ram.specs.Laws.Import.{AtPages, import-free, import_paged}
use Rattle.boot_take.specs.Laws.Bounds.{file_bounds, taking_bounds}
use Rattle.boot_ram.specs.Laws.ByNode.{sort-holders-on, by-nodes}
use Rattle.boot_nodes.specs.Laws.Node.{count-ascends}
use Rattle.boot_ram.specs.Laws.OnNode.{holders_append}
use Rattle.boot_ram.specs.Laws.Paged.{all_paged, entries_paged}
use Rattle.boot_take.specs.Laws.Taking.{taking-held, taking_paged}
use Rattle.refusal.specs.declared.Refusal.{Refusal}
use Rattle.refusal.specs.Number.{import_crosses_file}
use Rattle.refusal.specs.Rows.{refused_if, downward}
use Rattle.refusal.specs.Laws.Rows.{not_refused, downward-none}
use Rattle.vtl2_ram.specs.Boot.{next_unless, and_then, after_imports, beside_file, boot_parts, RowsPassed}
use Rattle.vtl2_ram.specs.Choice.{Choice, refused, chosen, entries_of}
use Rattle.vtl2_ram.specs.Laws.Choice.{unless-chosen}
use Rattle.std.proofs.lemmas.Option.{none-some}

-- a part that is accepted, and the next one
next-none : (u : Option Refusal) (next : Judged) → (next_unless u next).refusal ≡ None → (u ≡ None) × (next_unless u next ≡ next)
next-none None next e = (refl, refl)
next-none (Some n) next e = absurd (none-some n (sym e))

-- no part refused, and the chosen entries are those of the file walk and of the taking, in order of start
pub record Accepted (isolation : IsolationType) (file : MemoryRange) (map : List TaggedRange) (imports : List MemoryRange) (share : ℕ)
    (nodes : List ℕ) (ram : List TaggedRange) : Type 0 where
  pub file-walked : (file_walk file map).refusal ≡ None
  pub clear : imports_clear file imports ≡ true
  pub imports-walked : (import_walk isolation file imports (file_walk file map).free).refusal ≡ None
  pub taken :
      (taking share (file_walk file map).chosen (import_walk isolation file imports (file_walk file map).free).free nodes).refusal ≡ None
  pub sorted :
      ram
      ≡ sort_by_start
      ((file_walk file map).chosen
      ++ (taking share (file_walk file map).chosen (import_walk isolation file imports (file_walk file map).free).free nodes).chosen)

module _ (isolation : IsolationType) (file : MemoryRange) (map : List TaggedRange) (imports : List MemoryRange) (share : ℕ) (nodes : List ℕ)
    (ram : List TaggedRange) where
  abbrev filed : Judged
  filed = file_walk file map

  abbrev freed : Judged
  freed = import_walk isolation file imports filed.free

  abbrev took : Judged
  took = taking share filed.chosen freed.free nodes

  pub parts-accepted : boot_parts isolation file map imports share nodes ≡ chosen ram → Accepted isolation file map imports share nodes ram
  unfolding boot_parts beside_file after_imports
  parts-accepted e =
      let after = and_then freed (λ (free : List TaggedRange). taking share filed.chosen free nodes) in
      let clear = refused_if (not (imports_clear file imports)) import_crosses_file in
      let beside = beside_file isolation file imports share nodes filed.free filed.chosen in
      let first = unless-chosen filed.refusal beside e in
      let all = unless-chosen (downward (clear ∷ after.refusal ∷ [])) (chosen (sort_by_start (filed.chosen ++ after.chosen))) first.1 in
      let second = downward-none clear (after.refusal ∷ []) all.0 in
      let third = downward-none after.refusal [] second.1 in
      let fourth = next-none freed.refusal took third.0 in
      record {
        file-walked = first.0;
        clear = not-false _ (not_refused (not (imports_clear file imports)) import_crosses_file second.0);
        imports-walked = fourth.0;
        taken = rw fourth.1 at third.0;
        sorted = sym (rw fourth.1 at (ap entries_of all.1));
      }

  module _ (rows : RowsPassed file map imports) (accepted : Accepted isolation file map imports share nodes ram) (ascends : AscendsFrom 0 nodes) where
    pub file_full : file.start < file.end
    file_full = (valid-parts file rows.0).0

    pub map-ordered : Ordered 0 (ranges_in map)
    map-ordered = valid-ordered 0 (ranges_in map) rows.1 rows.2

    imports-ordered : Ordered 0 imports
    imports-ordered = valid-ordered 0 imports rows.3 rows.4

    abbrev unsorted : List TaggedRange
    unsorted = filed.chosen ++ took.chosen

    -- what is taken on a node lies in its map entries, outside the file and the imported ranges
    pub taken_within : (n a : ℕ) → holders_on n took.chosen a ≤ cond (eqb (holders imports a) 0) (cond (holds file a) 0 (holders_on n map a)) 0
    taken_within n a =
        let free-ordered = file-free-ordered file map accepted.file-walked file_full map-ordered in
        rw (
          ← file-free file map accepted.file-walked file_full map-ordered n a,
          ← import-free isolation file imports filed.free accepted.imports-walked imports-ordered free-ordered n a,
        )
        (taking-held share filed.chosen freed.free nodes accepted.taken 0 ascends n a)

    -- by node and byte, what the chosen entries hold
    held_in-parts : (n a : ℕ) → holders_on n ram a ≡ cond (holds file a) (holders_on n map a) 0 + holders_on n took.chosen a
    held_in-parts n a =
        rw (accepted.sorted, ← file-chosen file map accepted.file-walked file_full map-ordered n a)
        (sort-holders-on n unsorted a ∙ holders_append n filed.chosen took.chosen a)

    -- every chosen byte lies in the map, in an entry of its node
    pub parts_in-map : (n a : ℕ) → holders_on n ram a ≤ holders_on n map a
    parts_in-map n a = rw (held_in-parts n a) (go (holds file a) (eqb (holders imports a) 0) (taken_within n a))
      where
        go : (t u : Bool) → holders_on n took.chosen a ≤ cond u (cond t 0 (holders_on n map a)) 0
            → cond t (holders_on n map a) 0 + holders_on n took.chosen a ≤ holders_on n map a
        go true true l = omega arith
        go true false l = omega arith
        go false true l = omega arith
        go false false l = omega arith

    -- so no byte is chosen twice
    pub parts-once : (a : ℕ) → holders (ranges_in ram) a ≤ 1
    parts-once a = omega (arith, by-nodes ram map a (λ n. parts_in-map n a), ordered-once 0 (ranges_in map) map-ordered a)

    -- every byte of the file is chosen
    pub parts-file : (a : ℕ) → holds file a ≡ true → holders (ranges_in ram) a ≡ 1
    parts-file a h =
        let all = by-nodes map ram a (λ n. omega (arith, rw h at (held_in-parts n a))) in
        omega (arith, all, parts-once a, file_in-map file map accepted.file-walked file_full map-ordered a h)

    -- no imported byte outside the file is
    pub parts-imports : (a : ℕ) → 0 < holders imports a → holds file a ≡ false → holders (ranges_in ram) a ≡ 0
    parts-imports a p h =
        omega (arith, by-nodes ram [] a (λ n. omega (arith, none-taken n, rw h at (held_in-parts n a))))
      where
        none-taken : (n : ℕ) → holders_on n took.chosen a ≤ 0
        none-taken n = rw (ne_eqb (holders imports a) 0 (λ e. omega arith)) at (taken_within n a)

    unsorted_paged : Paged unsorted
    unsorted_paged =
        let file-pages = valid-parts file rows.0 in
        let filed-pages = file_paged file map accepted.file-walked file_full map-ordered (entries_paged map rows.1) file-pages.1 file-pages.2 in
        let free-ordered = file-free-ordered file map accepted.file-walked file_full map-ordered in
        let import-pages : All AtPages imports = all_map (λ (r : MemoryRange) (p : PagedRange r). (p.1, p.2)) imports (all_paged imports rows.3) in
        let freed-pages = import_paged isolation file imports filed.free accepted.imports-walked imports-ordered free-ordered import-pages filed-pages.1 in
        let took-pages = taking_paged share filed.chosen freed.free nodes accepted.taken freed-pages in
        all_append _ filed.chosen took.chosen filed-pages.0 took-pages

    -- the chosen entries have a byte each and start and end at pages
    pub parts_paged : Paged ram
    parts_paged = rw accepted.sorted (sort-all _ unsorted unsorted_paged)

    -- they are in order
    pub parts-ordered : Ordered 0 (ranges_in ram)
    parts-ordered =
        rw accepted.sorted
        (sort-ordered unsorted
        (all_map {Q = λ x. x.range.start < x.range.end} (λ (x : TaggedRange) (p : PagedRange x.range). p.0) unsorted unsorted_paged)
        (λ a. omega (arith, rw accepted.sorted at (parts-once a), sort-holders unsorted a)))

    -- and are at most 64
    pub parts-count : length ram ≤ max_chosen
    parts-count =
        let first = (file_bounds file map).1 in
        let second = (taking_bounds share filed.chosen freed.free nodes (omega arith)).1 in
        rw accepted.sorted (omega (arith, sort-length unsorted, length-append filed.chosen took.chosen, second))

-- what is chosen is in order, with the nodes that row 7 lets through
pub choice-ordered : (isolation : IsolationType) (file : MemoryRange) (map : List TaggedRange) (imports : List MemoryRange) (share n : ℕ)
    → RowsPassed file map imports → Ordered 0 (ranges_in (entries_of (boot_parts isolation file map imports share (count_up 0 n))))
choice-ordered isolation file map imports share n rows = go (boot_parts isolation file map imports share (count_up 0 n)) refl
  where
    go : (c : Choice) → boot_parts isolation file map imports share (count_up 0 n) ≡ c → Ordered 0 (ranges_in (entries_of c))
    go (refused r) e = tt
    go (chosen ram) e =
        let accepted = parts-accepted isolation file map imports share (count_up 0 n) ram e in
        parts-ordered isolation file map imports share (count_up 0 n) ram rows accepted (count-ascends 0 n)
