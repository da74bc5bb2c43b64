-- Boot mode: an accepted map keeps every rule, and a refused one tells the number of a rule that is broken.
use Rattle.std.specs.Prelude.{ℕ, ◌-◌, ◌^◌, ◌≤◌, ◌<◌, ◌+◌, ◌≡◌, Bool, true, false, cond, List, [], ◌∷◌, ◌++◌, ltb, length, Option, Some, None}
use Rattle.std.proofs.Math.Path.{refl}
use Rattle.std.proofs.Common.{sym, ap, ◌∙◌, inl, inr, ⊎_elim, arith, ltb-true, ltb-false}
use Rattle.std.proofs.Math.Bool.{not, true≢false}
use Rattle.std.proofs.lemmas.Bool.{not-false}
use Rattle.memory_range.specs.declared.range.MemoryRange.{MemoryRange}
use Rattle.memory_range.specs.declared.range.TaggedRange.{TaggedRange}
use Rattle.memory_range.specs.Bytes.{holders, Ordered, All}
use Rattle.memory_range.specs.List.{ranges_in, tags_of}
use Rattle.memory_range.specs.Range.{holds}
use Rattle.memory_range.specs.Valid.{page_size}
use Rattle.memory_range.specs.Laws.Bytes.{all_map}
use Rattle.memory_range.specs.Laws.Count.{bytes-at_most}
use Rattle.range_lists.specs.Laws.Node.{AscendsFrom}
use Rattle.host_params.specs.declared.IsolationType.{IsolationType}
use Rattle.host_params.specs.declared.MemoryAllocationMode.TheVariants.{Vtl2}
use Rattle.host_params.specs.declared.MemoryEntry.{MemoryEntry}
use Rattle.host_map.specs.Map.{map_ranges, entries_in}
use Rattle.boot_nodes.specs.Node.{nodes_in, nodes_bad}
use Rattle.boot_nodes.specs.Laws.Node.{nodes-good, distinct-ascends}
use Rattle.boot_ram.specs.Held.{PagedRange, Paged, on_node, holders_on}
use Rattle.boot_ram.specs.Import.{imports_clear, MayBeImported, import_walk}
use Rattle.boot_ram.specs.Verdict.{Judged}
use Rattle.boot_ram.specs.Laws.Paged.{paged-all, entries_paged}
use Rattle.refusal.specs.declared.Refusal.{Refusal}
use Rattle.refusal.specs.Number.{number_of, node_numbers, ram_size_below_file, share_too_large, import_crosses_file, import_not_in_map, file_not_in_map, too_many_pieces, node_too_small}
use Rattle.refusal.specs.Rows.{refused_if, downward}
use Rattle.refusal.specs.Laws.Rows.{told_in-turn, downward_last, first-kept, contrary}
use Rattle.vtl2_ram.specs.Choice.{refused, chosen}
use Rattle.vtl2_ram.specs.Rows.{rows_refusal}
use Rattle.vtl2_ram.specs.Rule.{Row, row4, row5, row7, row8, row9, row10, row11, row12, row13, row14, Rule, Broken, FreeOn, Kept, number}
use Rattle.vtl2_ram.specs.Select.{choice, choice_by}
use Rattle.vtl2_ram.specs.Claim.{share_in}
use Rattle.vtl2_ram.specs.Boot.{size_wanted, is_size_below, share_too_large_for, share_refusal, after_imports, beside_file, boot_parts, boot_choice, RowsPassed}
use Rattle.range_lists.specs.Sort.{sort_by_start}
use Rattle.boot_ram.specs.Laws.File.{file_in-map, file-fits, file-told, file-free, file-free-ordered, file_paged}
use Rattle.boot_ram.specs.Laws.Import.{import-fits, AtPages, import-told, import-free, import_in-map}
use Rattle.boot_take.specs.Laws.Taking.{taking_bytes, taking-fits, taking-told}
use Rattle.boot_take.specs.Laws.Bounds.{file_bounds}
use Rattle.vtl2_ram.specs.Laws.Parts.{taken_within, Accepted}
use Rattle.vtl2_ram.specs.Laws.Choice.{unless-chosen, choice-told, chosen-not_refused}
use Rattle.vtl2_ram.specs.Laws.Select.{boot-rows, boot-accepted}
use Rattle.vtl2_ram.specs.Laws.Boot.{after_refused, after-taken}
use Rattle.boot_ram.specs.File.{file_walk}
use Rattle.boot_take.specs.Take.{taking}
use Rattle.boot_ram.specs.Laws.ByNode.{by-nodes}
use Rattle.vtl2_ram.specs.Laws.Claim.{file_bytes}
use Rattle.vtl2_ram.specs.Laws.RuleTests.{kept_clear, clear_kept, below-has, nodes-kept, size_below, size-kept, first_rows}
use Rattle.vtl2_ram.specs.Laws.RuleOrder.{kept_more}
use Rattle.std.proofs.lemmas.Option.{none-some, same_Some}

module _ (isolation : IsolationType) (size : (Option ℕ)) (file : MemoryRange) (map : List MemoryEntry) (imports : List MemoryRange) where
  abbrev BootRule : Row → Type 0
  BootRule = Rule Vtl2 isolation size file map imports

  abbrev BootBroken : Refusal → Type 0
  BootBroken r = Broken Vtl2 isolation size file map imports (number_of r)

  abbrev entries : List TaggedRange
  entries = entries_in map

  abbrev nodes : List ℕ
  nodes = nodes_in map

  abbrev share : ℕ
  share = share_in size file map

  abbrev filed : Judged
  filed = file_walk file entries

  abbrev freed : Judged
  freed = import_walk isolation file imports filed.free

  abbrev BootKept : ℕ → Type 0
  BootKept = Kept Vtl2 isolation size file map imports

  abbrev kept_next : (row : Row) → BootKept (number row) → BootRule row → BootKept (number row + 1)
  kept_next = kept_more Vtl2 isolation size file map imports

  -- the four parts, where rows 4 to 9 are passed
  module _ (passed : BootKept (number_of file_not_in_map)) where
    valid : BootRule row4
    valid = passed row4 (omega arith)

    order : BootRule row5
    order = passed row5 (omega arith)

    -- a part that has too many pieces
    pieces-broken : {n : Refusal} → n ≡ too_many_pieces → (BootRule row14 → ⊥) → BootBroken n
    pieces-broken e broken = (row14, sym (ap number_of e), broken, passed)

    file-broken : {n : Refusal} → filed.refusal ≡ Some n → BootBroken n
    file-broken e =
        ⊎_elim (λ t. (row10, sym (ap number_of t.0), t.1, passed)) (λ t. pieces-broken t.0 (λ h. t.1 h.0))
        (file-told file entries valid.0.0 order.0 e)

    module _ (walked : filed.refusal ≡ None) where
      upto10 : BootKept (number_of import_crosses_file)
      upto10 = kept_next row10 passed (λ a h. omega (arith, file_in-map file entries walked valid.0.0 order.0 a h))

      found-ordered : Ordered 0 (ranges_in filed.free)
      found-ordered = file-free-ordered file entries walked valid.0.0 order.0

      -- by node, what is free of the map outside the file
      found-on : (n a : ℕ) → holders_on n filed.free a ≡ cond (holds file a) 0 (holders_on n entries a)
      found-on n a = file-free file entries walked valid.0.0 order.0 n a

      -- a byte of the map is the file's, or free; and what is free lies in the map
      in-found : (a : ℕ) → holds file a ≡ false → holders (map_ranges map) a ≤ holders (ranges_in filed.free) a
      in-found a h = by-nodes entries filed.free a (λ n. rw (found-on n a, h) (omega arith))

      found_in : (a : ℕ) → holders (ranges_in filed.free) a ≤ holders (map_ranges map) a
      found_in a = by-nodes filed.free entries a (λ n. rw (found-on n a) (go n (holds file a)))
        where
          go : (n : ℕ) (t : Bool) → cond t 0 (holders_on n entries a) ≤ holders_on n entries a
          go n true = omega arith
          go n false = omega arith

      still_imported : (a : ℕ) → MayBeImported isolation file (map_ranges map) a → MayBeImported isolation file (ranges_in filed.free) a
      still_imported a = ⊎_elim inl (λ q. ⊎_elim (λ h. go (holds file a) refl h) (λ x. inr (inr x)) q)
        where
          go : (t : Bool) → holds file a ≡ t → 0 < holders (map_ranges map) a → MayBeImported isolation file (ranges_in filed.free) a
          go true e h = inl e
          go false e h = inr (inl (omega (arith, in-found a e)))

      found-pages : Paged filed.free
      found-pages =
          (file_paged file entries walked valid.0.0 order.0 (entries_paged entries (paged-all (map_ranges map) valid.1)) valid.0.1 valid.0.2).1

      import-pages : All AtPages imports
      import-pages = all_map (λ (r : MemoryRange) (p : PagedRange r). (p.1, p.2)) imports valid.2

      module _ (clear : imports_clear file imports ≡ true) where
        upto11 : BootKept (number_of import_not_in_map)
        upto11 = kept_next row11 upto10 (clear_kept file imports clear)

        import-broken : {n : Refusal} → freed.refusal ≡ Some n → BootBroken n
        import-broken e =
            ⊎_elim (λ t. (row12, sym (ap number_of t.0), λ h. t.1 (λ a p. still_imported a (h a p)), upto11)) (λ t. pieces-broken t.0 (λ h. t.1 h.1))
            (import-told isolation file imports filed.free order.1 found-ordered import-pages found-pages clear e)

        module _ (freely : freed.refusal ≡ None) where
          upto12 : BootKept (number_of node_too_small)
          upto12 =
              kept_next row12 upto11
              (λ a p. ⊎_elim inl (λ q. inr (⊎_elim (λ h. inl (omega (arith, found_in a))) inr q))
              (import_in-map isolation file imports filed.free freely order.1 found-ordered a p))

          free_on : (n : ℕ) → FreeOn file entries imports n freed.free
          free_on n a = rw (← found-on n a) (import-free isolation file imports filed.free freely order.1 found-ordered n a)

          taking-broken : {n : Refusal} → (taking share filed.chosen freed.free nodes).refusal ≡ Some n → BootBroken n
          taking-broken e =
              ⊎_elim
              (λ t. (
                row13,
                sym (ap number_of t.0),
                λ h. t.1 (λ n member.
                    omega (arith, h n member freed.free (free_on n), file_bytes file entries walked valid.0.0 order.0 n)),
                upto12,
              ))
              (λ t. pieces-broken t.0 (λ h. t.1 h.2))
              (taking-told share filed.chosen freed.free nodes e)

        taken-broken : {n : Refusal} → (after_imports isolation file imports filed.free share filed.chosen nodes).refusal ≡ Some n → BootBroken n
        taken-broken {n} e = go freed.refusal refl
          where
            go : (u : Option Refusal) → freed.refusal ≡ u → BootBroken n
            go None f = taking-broken f (rw (after-taken isolation file imports share nodes filed.free filed.chosen f) at e)
            go (Some k) f =
                let same = same_Some k n (rw (after_refused isolation file imports share nodes filed.free filed.chosen f) at e) in
                import-broken (rw same at f)

      beside-broken : {n : Refusal} → beside_file isolation file imports share nodes filed.free filed.chosen ≡ refused n → BootBroken n
      unfolding beside_file
      beside-broken {n} =
          let taken = after_imports isolation file imports filed.free share filed.chosen nodes in
          let crosses = not (imports_clear file imports) in
          choice-told BootBroken (downward (refused_if crosses import_crosses_file ∷ taken.refusal ∷ []))
          (chosen (sort_by_start (filed.chosen ++ taken.chosen)))
          (told_in-turn BootBroken crosses import_crosses_file (taken.refusal ∷ [])
          (λ c. (row11, refl, λ h. contrary (imports_clear file imports) (kept_clear file imports h) c, upto10))
          (λ c e. taken-broken (not-false _ c) (rw (downward_last taken.refusal) at e)))
          (λ _ e. absurd (chosen-not_refused e))

    parts-broken : {n : Refusal} → boot_parts isolation file entries imports share nodes ≡ refused n → BootBroken n
    unfolding boot_parts
    parts-broken =
        choice-told BootBroken filed.refusal (beside_file isolation file imports share nodes filed.free filed.chosen) file-broken
        (λ walked e. beside-broken walked e)

  -- rows 7 to 9, where rows 4 to 6 are passed
  module _ (passed : BootKept (number_of node_numbers)) where
    abbrev count : ℕ
    count = length nodes

    abbrev too_large_of : Bool
    too_large_of = ltb (2 ^ 64 - page_size) share

    upto7 : nodes_bad nodes ≡ false → BootKept (number_of ram_size_below_file)
    upto7 g = let good = nodes-good nodes g in kept_next row7 passed (good.0, λ n h. below-has count n nodes good.1 h)

    upto8 : nodes_bad nodes ≡ false → is_size_below size file ≡ false → BootKept (number_of share_too_large)
    upto8 g f = kept_next row8 (upto7 g) (size-kept size file f)

    upto9 : downward (refused_if (nodes_bad nodes) node_numbers ∷ share_refusal size file count ∷ []) ≡ None → BootKept (number_of file_not_in_map)
    upto9 e =
        let one = first-kept (nodes_bad nodes) node_numbers (share_refusal size file count ∷ []) e in
        let rest = rw (downward_last (share_refusal size file count)) at one.1 in
        let two = first-kept (is_size_below size file) ram_size_below_file (share_too_large_for (size_wanted size file) count ∷ []) rest in
        let three = first-kept too_large_of share_too_large [] two.1 in
        kept_next row9 (upto8 one.0 two.0) (ltb-false (2 ^ 64 - page_size) share three.0)

    share-broken : nodes_bad nodes ≡ false → {n : Refusal} → share_refusal size file count ≡ Some n → BootBroken n
    share-broken g =
        told_in-turn BootBroken (is_size_below size file) ram_size_below_file (share_too_large_for (size_wanted size file) count ∷ [])
        (λ f. (row8, refl, λ h. absurd (omega (arith, size_below size file f)), upto7 g))
        (λ f. told_in-turn BootBroken too_large_of share_too_large []
        (λ l. (row9, refl, λ h. absurd (omega (arith, ltb-true (2 ^ 64 - page_size) share l)), upto8 g f))
        (λ l z. absurd (none-some _ z)))

    pub boot-broken : {n : Refusal} → boot_choice isolation size file entries imports ≡ refused n → BootBroken n
    unfolding boot_choice
    boot-broken =
        choice-told BootBroken (downward (refused_if (nodes_bad nodes) node_numbers ∷ share_refusal size file count ∷ []))
        (boot_parts isolation file entries imports share nodes)
        (told_in-turn BootBroken (nodes_bad nodes) node_numbers (share_refusal size file count ∷ [])
        (λ e. (row7, refl, λ h. true≢false (sym e ∙ nodes-kept nodes h), passed))
        (λ g e. share-broken g (rw (downward_last (share_refusal size file count)) at e)))
        (λ u e. parts-broken (upto9 u) e)

  -- an accepted map keeps every rule
  module _ (ram : List TaggedRange) (e : choice Vtl2 isolation size file map imports ≡ chosen ram) where
    accepted : Accepted isolation file entries imports share nodes ram
    accepted = boot-accepted isolation size file map imports ram e

    rows : RowsPassed file entries imports
    rows = boot-rows isolation size file map imports ram e

    ascends : AscendsFrom 0 nodes
    ascends = distinct-ascends (tags_of entries)

    passed-rows : BootKept (number_of file_not_in_map)
    unfolding choice boot_choice
    passed-rows =
        let parts = boot_parts isolation file entries imports share nodes in
        let own = (unless-chosen (rows_refusal Vtl2 file (map_ranges map) imports) (choice_by Vtl2 isolation size file map imports) e).1 in
        upto9 (first_rows Vtl2 isolation size file map imports ram e)
        (unless-chosen (downward (refused_if (nodes_bad nodes) node_numbers ∷ share_refusal size file (length nodes) ∷ [])) parts own).0

    full : file.start < file.end
    full = (valid passed-rows).0.0

    ordered : BootRule row5
    ordered = order passed-rows

    free_enough : BootRule row13
    free_enough n member free h =
        let took = (taking share filed.chosen freed.free nodes).chosen in
        let met = (taking_bytes share filed.chosen freed.free nodes accepted.taken 0 ascends n member).0 in
        let within =
        bytes-at_most (ranges_in (on_node n took)) (ranges_in (on_node n free))
        (λ a. rw (h a) (taken_within isolation file entries imports share nodes ram rows accepted ascends n a)) in
        omega (arith, met, within, file_bytes file entries accepted.file-walked full ordered.0 n)

    pieces_fit : BootRule row14
    pieces_fit = (
      file-fits file entries accepted.file-walked full ordered.0,
      import-fits isolation file imports filed.free accepted.imports-walked ordered.1 (found-ordered passed-rows accepted.file-walked),
      taking-fits share filed.chosen freed.free nodes accepted.taken (omega (arith, (file_bounds file entries).1)),
    )

    pub boot-kept : BootKept (number_of too_many_pieces + 1)
    boot-kept =
        kept_next row14
        (kept_next row13 (upto12 passed-rows accepted.file-walked accepted.clear accepted.imports-walked) free_enough)
        pieces_fit
