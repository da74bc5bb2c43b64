-- The rows of a build as rules: an accepted build keeps every one, and a refused one tells the number of the first that is broken. So a
-- build that keeps all of them is accepted.
use Rattle.std.specs.Prelude.{ℕ, ◌+◌, ◌≤◌, ◌<◌, ◌≡◌, Bool, true, false, cond, ◌&&◌, ◌↔◌, leb, eqb, length, Option, Some, None}
use Rattle.std.proofs.Math.Path.{refl}
use Rattle.std.proofs.Common.{sym, ◌∙◌, arith}
use Rattle.std.proofs.Math.Bool.{not, true≢false, and-eq-true_iff}
use mathlib.Core.List.{List, [], ◌∷◌, ◌++◌}
use borrow.Author.Tests.{eqb-true, eq-eqb, ltb-true, ltb-false, not-false}
use Rattle.std.proofs.Math.Dec.{ltb}
use Rattle.refusal.specs.declared.Refusal.{Refusal}
use Rattle.refusal.specs.Number.{range_invalid, ranges_not_ascending, ram_count_of, table_not_empty, reserved_count as reserved_count_number}
use Rattle.refusal.specs.Number.{reserved_overlap, reserved_outside_used, pool_ranges, used_outside_ram, number_of}
use Rattle.refusal.specs.Rows.{refused_if}
use Rattle.refusal.specs.Laws.Rows.{told_in-turn, rule_told, unless-told, contrary}
use Rattle.refusal.specs.Laws.Rule as rule
use Rattle.memory_range.specs.declared.range.MemoryRange.{MemoryRange}
use Rattle.memory_range.specs.declared.range.TaggedRange.{TaggedRange}
use Rattle.memory_range.specs.Bytes.{holders, Ordered}
use Rattle.memory_range.specs.List.{ranges_in}
use Rattle.memory_range.specs.Range.{holds}
use Rattle.memory_range.specs.Valid.{all_valid_of, ascend}
use Rattle.memory_range.specs.Laws.Bytes.{all_append, all_split}
use Rattle.memory_range.specs.Laws.Valid.{valid-parts, valid-range, valid-ordered, ordered-ascend}
use Rattle.range_lists.specs.Sort.{sort_by_start}
use Rattle.range_lists.specs.Laws.Entries.{length-ranges_in}
use Rattle.range_lists.specs.Laws.Sort.{sort-holders}
use Rattle.boot_ram.specs.Held.{PagedRange, Paged}
use Rattle.boot_ram.specs.Laws.Paged.{all_paged, paged-all, entries_paged, entries-valid}
use Rattle.address_space.specs.declared.table.AddressRange.{AddressRange}
use Rattle.address_space.specs.declared.usage.ReservedMemoryType.{ReservedMemoryType}
use Rattle.address_space.specs.declared.usage.ReservedMemoryType.TheVariants.{Vtl2Reserved, SidecarImage, TdxPageTables, BootshimLogBuffer}
use Rattle.memory.specs.declared.builder.AddressSpaceManagerBuilder.{AddressSpaceManagerBuilder}
use Rattle.memory.specs.Build.{Build, refused, built, table_of, filled, build}
use Rattle.memory.specs.Builder.{option_valid, singles_valid, option_as, options_of, reserved_of, reserved_count}
use Rattle.memory.specs.Rows.{max_ram, max_reserved, rows_refusal}
use Rattle.memory.specs.Used.{max_pools, max_used, any_overlap, any_outside, pieces_used, pools_bad, used_of, used_refusal}
use Rattle.memory.specs.Laws.Build.{pools_good}
use Rattle.memory.specs.Laws.Overlap.{singles_each, or-false_iff, overlap-once, reserved-ordered, used-ordered, used_refused-none, outside_bytes}
use Rattle.memory.specs.Laws.Rows.{rows-passed}
use Rattle.memory_claims.specs.BuildRule.{BuildRow, row4, row5, row15, row16, row17, row18, row19, row20, row21, number, BuildRule, BuildKept, BuildBroken}
use Rattle.memory_claims.specs.Laws.Build.{build-passed}

-- the numbers of the rows are 4 to 21, each of one row
numbered : (row : BuildRow) → (number_of range_invalid ≤ number row) × (number row ≤ number_of used_outside_ram)
numbered row4 = (omega arith, omega arith)
numbered row5 = (omega arith, omega arith)
numbered row15 = (omega arith, omega arith)
numbered row16 = (omega arith, omega arith)
numbered row17 = (omega arith, omega arith)
numbered row18 = (omega arith, omega arith)
numbered row19 = (omega arith, omega arith)
numbered row20 = (omega arith, omega arith)
numbered row21 = (omega arith, omega arith)

abbrev row_of : ℕ → BuildRow
row_of n =
    cond (leb n 16) (cond (leb n 5) (cond (leb n 4) row4 row5) (cond (leb n 15) row15 row16))
    (cond (leb n 18) (cond (leb n 17) row17 row18) (cond (leb n 19) row19 (cond (leb n 20) row20 row21)))

row-of : (row : BuildRow) → row_of (number row) ≡ row
row-of row4 = refl
row-of row5 = refl
row-of row15 = refl
row-of row16 = refl
row-of row17 = refl
row-of row18 = refl
row-of row19 = refl
row-of row20 = refl
row-of row21 = refl

-- row 4 of the single ranges
option_paged : (t : ReservedMemoryType) (o : Option MemoryRange) → (option_valid o ≡ true) ↔ Paged (option_as t o)
option_paged t (Some r) = (λ v. (valid-parts r v, tt), λ h. valid-range r h.0.0 h.0.1 h.0.2)
option_paged t None = (λ v. tt, λ h. refl)

options_paged : (xs : List TaggedRange) (t : ReservedMemoryType) (o : Option MemoryRange) → Paged xs → option_valid o ≡ true → Paged (xs ++ option_as t o)
options_paged xs t o h v = all_append (λ x. PagedRange x.range) xs (option_as t o) h ((option_paged t o).0 v)

paged_options : (xs : List TaggedRange) (t : ReservedMemoryType) (o : Option MemoryRange) → Paged (xs ++ option_as t o) → Paged xs × (option_valid o ≡ true)
paged_options xs t o h =
    let parts = all_split (λ x. PagedRange x.range) xs (option_as t o) h in
    (parts.0, (option_paged t o).1 parts.1)

singles_paged : (b : AddressSpaceManagerBuilder) → singles_valid b ≡ true
    → PagedRange b.bootshim_used × PagedRange b.persisted_state_region × Paged (options_of b)
singles_paged b v =
    let s = singles_each b v in
    let one = option_as Vtl2Reserved b.reserved_range in
    let two = one ++ option_as SidecarImage b.sidecar_image in
    let three = two ++ option_as TdxPageTables b.page_tables in
    let keep = (option_paged Vtl2Reserved b.reserved_range).0 s.2 in
    let side = options_paged one SidecarImage b.sidecar_image keep s.3 in
    let tables = options_paged two TdxPageTables b.page_tables side s.4 in
    let log = options_paged three BootshimLogBuffer b.log_buffer tables s.5 in
    (valid-parts b.bootshim_used s.0, valid-parts b.persisted_state_region s.1, log)

paged-singles : (b : AddressSpaceManagerBuilder)
    → PagedRange b.bootshim_used × PagedRange b.persisted_state_region × Paged (options_of b) → singles_valid b ≡ true
unfolding singles_valid
paged-singles b h =
    let used = h.0 in
    let state = h.1 in
    let one = option_as Vtl2Reserved b.reserved_range in
    let two = one ++ option_as SidecarImage b.sidecar_image in
    let three = two ++ option_as TdxPageTables b.page_tables in
    let log = paged_options three BootshimLogBuffer b.log_buffer h.2 in
    let tables = paged_options two TdxPageTables b.page_tables log.0 in
    let side = paged_options one SidecarImage b.sidecar_image tables.0 in
    let keep = (option_paged Vtl2Reserved b.reserved_range).1 side.0 in
    rw (
      valid-range b.bootshim_used used.0 used.1 used.2,
      valid-range b.persisted_state_region state.0 state.1 state.2,
      keep,
      side.1,
      tables.1,
    ) log.1

-- a byte that a list of one range holds
one_holds : (r : MemoryRange) (a : ℕ) → (0 < holders (r ∷ []) a) ↔ (holds r a ≡ true)
one_holds r a = go (holds r a)
  where
    go : (t : Bool) → (0 < cond t 1 0 + 0) ↔ (t ≡ true)
    go true = (λ _. refl, λ _. omega arith)
    go false = (λ l. absurd (omega arith), λ e. absurd (true≢false (sym e)))

-- row 20
pools-kept : (used : MemoryRange) (pieces : ℕ) (pools : List MemoryRange)
    → (pools_bad used pieces pools ≡ false)
    ↔ ((length pools ≤ max_pools) × ((a : ℕ) → holders (used ∷ pools) a ≤ 1) × (pieces + length pools ≤ max_used))
pools-kept used pieces pools = (
  λ e. let few = (or-false_iff (ltb max_pools (length pools)) _).0 e in
      let apart = (or-false_iff (any_overlap (used ∷ pools)) _).0 few.1 in
      (ltb-false max_pools (length pools) few.0, (overlap-once (used ∷ pools)).0 apart.0, ltb-false max_used (pieces + length pools) apart.1),
  λ h. pools_good used pieces pools h.0 h.2 ((overlap-once (used ∷ pools)).1 h.1),
)

module _ (b : AddressSpaceManagerBuilder) (entries : ℕ) (ram : List TaggedRange) (configs pools : List MemoryRange) where
  abbrev Rules : BuildRow → Type 0
  Rules = BuildRule b entries ram configs pools

  abbrev Keeps : ℕ → Type 0
  Keeps = BuildKept b entries ram configs pools

  abbrev Breaks : Refusal → Type 0
  Breaks n = BuildBroken b entries ram configs pools (number_of n)

  nothing_yet : Keeps (number_of range_invalid)
  nothing_yet = rule.kept-none number Rules (number_of range_invalid) (λ row. (numbered row).0)

  kept_next : (row : BuildRow) → Keeps (number row) → Rules row → Keeps (number row + 1)
  kept_next = rule.kept_more number Rules row_of row-of

  -- between 5 and 15 no row concerns a build
  upto14 : Keeps (number_of ranges_not_ascending + 1) → Keeps (number_of ram_count_of)
  upto14 k row l = go row l
    where
      go : (row : BuildRow) → number row < number_of ram_count_of → Rules row
      go row4 l = k row4 (omega arith)
      go row5 l = k row5 (omega arith)
      go row15 l = absurd (omega arith)
      go row16 l = absurd (omega arith)
      go row17 l = absurd (omega arith)
      go row18 l = absurd (omega arith)
      go row19 l = absurd (omega arith)
      go row20 l = absurd (omega arith)
      go row21 l = absurd (omega arith)

  abbrev used : MemoryRange
  used = b.bootshim_used

  abbrev reserved : List TaggedRange
  reserved = reserved_of b configs

  abbrev valid : Bool
  valid = singles_valid b && (all_valid_of (ranges_in ram) && (all_valid_of configs && all_valid_of pools))

  valid-kept : valid ≡ true → Rules row4
  valid-kept v =
      let s = (and-eq-true_iff (singles_valid b) _).0 v in
      let m = (and-eq-true_iff (all_valid_of (ranges_in ram)) _).0 s.1 in
      let c = (and-eq-true_iff (all_valid_of configs) (all_valid_of pools)).0 m.1 in
      let one = singles_paged b s.0 in
      (one.0, one.1, one.2, entries_paged ram m.0, all_paged configs c.0, all_paged pools c.1)

  kept-valid : Rules row4 → valid ≡ true
  kept-valid h = rw (paged-singles b (h.0, h.1, h.2), entries-valid ram h.3, paged-all configs h.4) (paged-all pools h.5)

  -- rows 4, 5 and 15 to 17
  rows-broken : {n : Refusal} → rows_refusal b entries (ranges_in ram) configs pools ≡ Some n → Breaks n
  unfolding rows_refusal
  rows-broken =
      let ascending = ascend (ranges_in ram) in
      let many = ltb max_ram (length (ranges_in ram)) in
      let full = not (eqb entries 0) in
      let over = ltb max_reserved (reserved_count b configs) in
      let last = refused_if over reserved_count_number ∷ [] in
      let table = refused_if full table_not_empty ∷ last in
      let count = refused_if many ram_count_of ∷ table in
      told_in-turn Breaks (not valid) range_invalid (refused_if (not ascending) ranges_not_ascending ∷ count)
      (λ e. (row4, refl, λ h. contrary valid (kept-valid h) e, nothing_yet))
      (λ v. let four = valid-kept (not-false valid v) in let upto4 = kept_next row4 nothing_yet four in
      told_in-turn Breaks (not ascending) ranges_not_ascending count
      (λ e. (row5, refl, λ h. contrary ascending (ordered-ascend 0 (ranges_in ram) h) e, upto4))
      (λ o. let upto5 = kept_next row5 upto4 (valid-ordered 0 (ranges_in ram) (entries-valid ram four.3) (not-false ascending o)) in
      told_in-turn Breaks many ram_count_of table
      (λ e. (row15, refl, λ h. absurd (omega (arith, length-ranges_in ram, ltb-true max_ram (length (ranges_in ram)) e)), upto14 upto5))
      (λ m. let upto15 = kept_next row15 (upto14 upto5) (omega (arith, length-ranges_in ram, ltb-false max_ram (length (ranges_in ram)) m)) in
      told_in-turn Breaks full table_not_empty last
      (λ e. (row16, refl, λ h. contrary (eqb entries 0) (eq-eqb entries 0 h) e, upto15))
      (λ t. let upto16 = kept_next row16 upto15 (eqb-true entries 0 (not-false (eqb entries 0) t)) in
      told_in-turn Breaks over reserved_count_number []
      (λ e. (row17, refl, λ h. absurd (omega (arith, ltb-true max_reserved (reserved_count b configs) e)), upto16))
      (λ _ e. cc)))))

  rows-kept : rows_refusal b entries (ranges_in ram) configs pools ≡ None → Keeps (number_of reserved_overlap)
  rows-kept e =
      let p = rows-passed b entries (ranges_in ram) configs pools e in
      let one = singles_paged b p.0 in
      let four : Rules row4 = (one.0, one.1, one.2, entries_paged ram p.1, all_paged configs p.2, all_paged pools p.3) in
      let upto5 = kept_next row5 (kept_next row4 nothing_yet four) (valid-ordered 0 (ranges_in ram) p.1 p.4) in
      let upto15 = kept_next row15 (upto14 upto5) (omega (arith, length-ranges_in ram, p.5)) in
      kept_next row17 (kept_next row16 upto15 p.6) p.7

  -- rows 18 to 20, and row 21, where those above them are passed
  module _ (passed : Keeps (number_of reserved_overlap)) where
    four : Rules row4
    four = passed row4 (omega arith)

    singles : singles_valid b ≡ true
    singles = paged-singles b (four.0, four.1, four.2)

    abbrev overlap : Bool
    overlap = any_overlap (ranges_in reserved)

    abbrev outside : Bool
    outside = any_outside (used ∷ []) (ranges_in (sort_by_start reserved))

    abbrev bad : Bool
    bad = pools_bad used (length (pieces_used b configs)) pools

    upto18 : overlap ≡ false → Keeps (number_of reserved_outside_used)
    upto18 o = kept_next row18 passed ((overlap-once (ranges_in reserved)).0 o)

    outside_rule : overlap ≡ false → (outside ≡ false) ↔ Rules row19
    outside_rule o = (
      λ e a p. (one_holds used a).0 (bytes.0 e a (omega (arith, sort-holders reserved a))),
      λ h. bytes.1 (λ a p. (one_holds used a).1 (h a (omega (arith, sort-holders reserved a)))),
    )
      where
        bytes : (outside ≡ false) ↔ ((a : ℕ) → 0 < holders (ranges_in (sort_by_start reserved)) a → 0 < holders (used ∷ []) a)
        bytes =
            outside_bytes (used ∷ []) (ranges_in (sort_by_start reserved)) (omega arith, (four.0.0, tt))
            (reserved-ordered b configs singles (paged-all configs four.4) o)

    upto19 : overlap ≡ false → outside ≡ false → Keeps (number_of pool_ranges)
    upto19 o s = kept_next row19 (upto18 o) ((outside_rule o).0 s)

    used-broken : {n : Refusal} → used_refusal b configs pools ≡ Some n → Breaks n
    unfolding used_refusal
    used-broken =
        told_in-turn Breaks overlap reserved_overlap (refused_if outside reserved_outside_used ∷ refused_if bad pool_ranges ∷ [])
        (λ e. (row18, refl, λ h. true≢false (sym e ∙ (overlap-once (ranges_in reserved)).1 h), passed))
        (λ o. told_in-turn Breaks outside reserved_outside_used (refused_if bad pool_ranges ∷ [])
        (λ e. (row19, refl, λ h. true≢false (sym e ∙ (outside_rule o).1 h), upto18 o))
        (λ s. told_in-turn Breaks bad pool_ranges []
        (λ e. (row20, refl, λ h. true≢false (sym e ∙ (pools-kept used (length (pieces_used b configs)) pools).1 h), upto19 o s))
        (λ _ e. cc)))

    module _ (listed : used_refusal b configs pools ≡ None) where
      upto20 : Keeps (number_of used_outside_ram)
      upto20 =
          let p = used_refused-none b configs pools listed in
          kept_next row20 (upto19 p.0 p.1) ((pools-kept used (length (pieces_used b configs)) pools).0 p.2)

      abbrev beyond : Bool
      beyond = any_outside (ranges_in ram) (ranges_in (used_of b configs pools))

      beyond_rule : (beyond ≡ false) ↔ Rules row21
      beyond_rule = (
        λ e a p. bytes.0 e a (omega (arith, lists.1 a)),
        λ h. bytes.1 (λ a p. h a (omega (arith, lists.1 a))),
      )
        where
          lists : Ordered 0 (ranges_in (used_of b configs pools))
              × ((a : ℕ) → holders (ranges_in (used_of b configs pools)) a ≡ holders (used ∷ pools) a)
          lists = used-ordered b configs pools singles (paged-all configs four.4) (paged-all pools four.5) listed

          bytes : (beyond ≡ false) ↔ ((a : ℕ) → 0 < holders (ranges_in (used_of b configs pools)) a → 0 < holders (ranges_in ram) a)
          bytes = outside_bytes (ranges_in ram) (ranges_in (used_of b configs pools)) (passed row5 (omega arith)) lists.0

      filled-broken : {n : Refusal} → filled ram (used_of b configs pools) ≡ refused n → Breaks n
      unfolding filled
      filled-broken =
          unless-told refused (λ k n e. cc) Breaks (refused_if beyond used_outside_ram) (built (table_of ram (used_of b configs pools)))
          (rule_told Breaks beyond used_outside_ram (λ e. (row21, refl, λ h. true≢false (sym e ∙ beyond_rule.1 h), upto20)))
          (λ _ e. cc)

  -- a refusal tells the number of the first rule that is broken
  pub refused-broken : {n : Refusal} → build b entries ram configs pools ≡ refused n → Breaks n
  unfolding build
  refused-broken =
      unless-told refused (λ k n e. cc) Breaks (rows_refusal b entries (ranges_in ram) configs pools) _ rows-broken
      (λ rows. unless-told refused (λ k n e. cc) Breaks (used_refusal b configs pools) (filled ram (used_of b configs pools)) (used-broken (rows-kept rows))
      (λ listed e. filled-broken (rows-kept rows) listed e))

  -- an accepted build keeps every rule
  pub built-kept : (es : List AddressRange) → build b entries ram configs pools ≡ built es → (row : BuildRow) → Rules row
  built-kept es e =
      let passed = build-passed b entries ram configs pools es e in
      let rows = rows-kept passed.0 in
      let all = kept_next row21 (upto20 rows passed.1) ((beyond_rule rows passed.1).0 passed.3) in
      rule.kept-all number Rules (number_of used_outside_ram + 1) (λ row. omega (arith, (numbered row).1)) all

  -- so one that keeps every rule is accepted
  pub kept-built : ((row : BuildRow) → Rules row) → (es : List AddressRange) × (build b entries ram configs pools ≡ built es)
  kept-built h = by (build b entries ram configs pools) refl
    where
      by : (o : Build) → build b entries ram configs pools ≡ o → (es : List AddressRange) × (o ≡ built es)
      by (built es) e = (es, refl)
      by (refused n) e = let broken = refused-broken e in absurd (broken.2 (h broken.0))
