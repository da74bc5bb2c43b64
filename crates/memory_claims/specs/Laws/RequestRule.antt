-- The rows of a request as rules: one that is met keeps every rule, and one that is refused tells the number of the first that is broken.
-- So a request that keeps all of them is met.
use Rattle.std.specs.Prelude.{ℕ, ◌+◌, ◌-◌, ◌^◌, ◌≤◌, ◌<◌, Bool, true, false, cond, not, List, [], ◌∷◌, ◌++◌, ◌↔◌, leb, ltb, eqb, Option, Some, None}
use Rattle.std.proofs.Math.Path.{◌≡◌, refl, sym, ap}
use Rattle.std.proofs.Common.{◌∙◌, true≢false, arith, eqb-true, ltb-true, ltb-false, length-append}
use Rattle.std.proofs.lemmas.List.{reverse-reverse}
use Rattle.std.proofs.lemmas.Bool.{eqb-false}
use Rattle.std.proofs.Math.ListN.{length}
use Rattle.refusal.specs.declared.Refusal.{Refusal}
use Rattle.refusal.specs.Number.{length_zero, length_too_large, alignment_invalid, no_fit, table_full, number_of}
use Rattle.refusal.specs.Rows.{refused_if}
use Rattle.refusal.specs.Laws.Rows.{told_in-turn, unless-told, contrary}
use Rattle.refusal.specs.Laws.Rule as rule
use Rattle.memory_range.specs.Bytes.{All}
use Rattle.memory_range.specs.Round.{round_up}
use Rattle.memory_range.specs.Valid.{page_size}
use Rattle.memory_range.specs.Laws.Bytes.{all_split}
use Rattle.memory_range.specs.Laws.Power.{power_of-two}
use Rattle.host_params.specs.declared.AllocationPolicy.{AllocationPolicy}
use Rattle.host_params.specs.declared.AllocationPolicy.TheVariants.{LowMemory, HighMemory}
use Rattle.host_params.specs.declared.AllocationType.{AllocationType}
use Rattle.address_space.specs.declared.request.AllocatedRange.{AllocatedRange}
use Rattle.address_space.specs.declared.table.AddressRange.{AddressRange}
use Rattle.address_space.specs.Fit.{aligned_to, fits_in}
use Rattle.address_space.specs.Request.{Outcome, refused, handed, alignment_good, rows_refusal, placed_as, placed, placed_from, allocated, requested}
use Rattle.address_space.specs.Search.{Search, nothing, found, in_order_of, searched, below_in, above_in}
use Rattle.address_space.specs.Split.{allotted, split_entry}
use Rattle.address_space.specs.Table.{max_address_ranges}
use Rattle.address_space.specs.Usage.{usage_for}
use Rattle.address_space.specs.Laws.Request.{requested_refused}
use Rattle.address_space.specs.Laws.Search.{found_in-table, found-fits, lowest_fit, highest_fit, low-found, high-found}
use Rattle.address_space.specs.Laws.Split.{split-length}
use Rattle.memory_claims.specs.Claim.{Of64Bits}
use Rattle.memory_claims.specs.RequestRule.{RequestRow, row22, row23, row24, row25, row26, number, GoodAlignment, seen_before, added_by, FirstFit, RequestRule, RequestKept, RequestBroken}
use Rattle.memory_claims.specs.Laws.Request.{allocated_no_fit, passed-rows, rows-passed}

-- the numbers of the rows are 22 to 26, each of one row
numbered : (row : RequestRow) → (number_of length_zero ≤ number row) × (number row ≤ number_of table_full)
numbered row22 = (omega arith, omega arith)
numbered row23 = (omega arith, omega arith)
numbered row24 = (omega arith, omega arith)
numbered row25 = (omega arith, omega arith)
numbered row26 = (omega arith, omega arith)

abbrev row_of : ℕ → RequestRow
row_of n = cond (leb n 23) (cond (leb n 22) row22 row23) (cond (leb n 24) row24 (cond (leb n 25) row25 row26))

row-of : (row : RequestRow) → row_of (number row) ≡ row
row-of row22 = refl
row-of row23 = refl
row-of row24 = refl
row-of row25 = refl
row-of row26 = refl

-- row 24
good_alignment : (alignment : Option ℕ) → Of64Bits alignment → (alignment_good alignment ≡ true) ↔ GoodAlignment alignment
good_alignment (Some m) bits = power_of-two m bits
good_alignment None bits = (λ _. tt, λ _. refl)

-- the search looks at no entry that fits before the one that it finds, and finds the first that does
none_looked-at : (policy : AllocationPolicy) (f : AddressRange → Bool) (es before : List AddressRange) (e : AddressRange) (after : List AddressRange)
    → searched policy f es ≡ found before e after → All (λ y. f y ≡ false) (seen_before policy (below_in policy before after) (above_in policy before after))
none_looked-at LowMemory f es before e after h = lowest_fit f es before e after h
none_looked-at HighMemory f es before e after h = highest_fit f es before e after h

first-placed : (len : ℕ) (type : AllocationType) (policy : AllocationPolicy) (alignment : Option ℕ) (f : AddressRange → Bool)
    (below : List AddressRange) (e : AddressRange) (above : List AddressRange) → f e ≡ true → All (λ y. f y ≡ false) (seen_before policy below above)
    → placed_from len type policy alignment (searched policy f (below ++ e ∷ above)) ≡ placed len type policy alignment below e above
first-placed len type LowMemory alignment f below e above g h = rw (low-found f below e above g h)
first-placed len type HighMemory alignment f below e above g h = rw (high-found f below e above g h, reverse-reverse below, reverse-reverse above)

-- the entries once one is split
split-count : (len : ℕ) (type : AllocationType) (policy : AllocationPolicy) (alignment : Option ℕ) (below : List AddressRange) (e : AddressRange)
    (above : List AddressRange)
    → length (below ++ split_entry (allotted policy len (aligned_to alignment e.range)) (usage_for type) e ++ above)
    ≡ length (below ++ e ∷ above) + added_by len policy alignment e
split-count len type policy alignment below e above =
    let used = allotted policy len (aligned_to alignment e.range) in
    let parts = split_entry used (usage_for type) e in
    rw (length-append (below ++ parts) above, length-append below parts, length-append below (e ∷ above), split-length used (usage_for type) e) (omega arith)

-- entries that are refused as too many are
full-told : (x : AllocatedRange) (es : List AddressRange) {n : Refusal} → placed_as x es ≡ refused n → (table_full ≡ n) × (max_address_ranges < length es)
full-told x es {n} = go (ltb max_address_ranges (length es)) refl
  where
    go : (t : Bool) → ltb max_address_ranges (length es) ≡ t → cond t (refused table_full) (handed x es) ≡ refused n
        → (table_full ≡ n) × (max_address_ranges < length es)
    go true full e = (cc, ltb-true max_address_ranges (length es) full)
    go false full e = cc

-- those that are not are within the bound
full-kept : (x y : AllocatedRange) (es es' : List AddressRange) → placed_as x es ≡ handed y es' → length es ≤ max_address_ranges
full-kept x y es es' = go (ltb max_address_ranges (length es)) refl
  where
    go : (t : Bool) → ltb max_address_ranges (length es) ≡ t → cond t (refused table_full) (handed x es) ≡ handed y es' → length es ≤ max_address_ranges
    go true full e = cc
    go false full e = ltb-false max_address_ranges (length es) full

module _ (asked : Option ℕ) (len : ℕ) (type : AllocationType) (policy : AllocationPolicy) (alignment : Option ℕ) (es : List AddressRange)
    (bits : Of64Bits alignment) where
  abbrev Rules : RequestRow → Type 0
  Rules = RequestRule asked len policy alignment es

  abbrev Keeps : ℕ → Type 0
  Keeps = RequestKept asked len policy alignment es

  abbrev Breaks : Refusal → Type 0
  Breaks n = RequestBroken asked len policy alignment es (number_of n)

  nothing_yet : Keeps (number_of length_zero)
  nothing_yet = rule.kept-none number Rules (number_of length_zero) (λ row. (numbered row).0)

  kept_next : (row : RequestRow) → Keeps (number row) → Rules row → Keeps (number row + 1)
  kept_next = rule.kept_more number Rules row_of row-of

  abbrev pages : ℕ
  pages = round_up page_size len

  abbrev fits : AddressRange → Bool
  fits = fits_in asked pages alignment

  -- the entries once the one between these is split
  abbrev after_split : List AddressRange → AddressRange → List AddressRange → List AddressRange
  after_split below e above = below ++ split_entry (allotted policy pages (aligned_to alignment e.range)) (usage_for type) e ++ above

  rows-broken : {n : Refusal} → rows_refusal len alignment ≡ Some n → Breaks n
  rows-broken =
      let large = ltb (2 ^ 64 - page_size) len in
      let good = alignment_good alignment in
      let last = refused_if (not good) alignment_invalid ∷ [] in
      told_in-turn Breaks (eqb len 0) length_zero (refused_if large length_too_large ∷ last)
      (λ e. (row22, refl, λ h. absurd (omega (arith, eqb-true len 0 e)), nothing_yet))
      (λ z. let more = eqb-false len 0 z in let upto22 = kept_next row22 nothing_yet (omega arith) in
      told_in-turn Breaks large length_too_large last
      (λ e. (row23, refl, λ h. absurd (omega (arith, ltb-true (2 ^ 64 - page_size) len e)), upto22))
      (λ l. told_in-turn Breaks (not good) alignment_invalid []
      (λ e. (
        row24,
        refl,
        λ h. contrary good ((good_alignment alignment bits).1 h) e,
        kept_next row23 upto22 (ltb-false (2 ^ 64 - page_size) len l),
      ))
      (λ _ e. cc)))

  rows-kept : rows_refusal len alignment ≡ None → Keeps (number_of no_fit)
  rows-kept e =
      let p = rows-passed asked len type policy alignment es e in
      kept_next row24 (kept_next row23 (kept_next row22 nothing_yet p.0) p.2) ((good_alignment alignment bits).0 p.1)

  -- rows 25 and 26, where those above them are passed
  module _ (passed : Keeps (number_of no_fit)) where
    found-broken : (below : List AddressRange) (e : AddressRange) (above : List AddressRange) → FirstFit asked len policy alignment es below e above
        → {n : Refusal} → placed pages type policy alignment below e above ≡ refused n → Breaks n
    found-broken below e above first {n} f =
        let told = full-told _ (after_split below e above) f in
        let count = split-count pages type policy alignment below e above in (
          row26,
          ap number_of told.0,
          λ h. absurd (omega (arith, told.1, h below e above first, ap length first.0)),
          kept_next row25 passed (below, e, above, first.0, first.1),
        )

    searched_nothing : searched policy fits es ≡ nothing → allocated asked pages type policy alignment es ≡ refused no_fit
    unfolding allocated
    searched_nothing e = rw e

    search-broken : (s : Search AddressRange) → searched policy fits es ≡ s → {n : Refusal} → placed_from pages type policy alignment s ≡ refused n → Breaks n
    search-broken nothing e {n} f =
        let same : no_fit ≡ n = cc in
        let none-fits = (allocated_no_fit asked pages type policy alignment es).0 (searched_nothing e) in
        (row25, ap number_of same, λ h. fit_among none-fits h, passed)
      where
        fit_among : All (λ e. fits e ≡ false) es → Rules row25 → ⊥
        fit_among all (below, e, above, whole, fit) =
            true≢false (sym fit ∙ (all_split (λ e. fits e ≡ false) below (e ∷ above) (rw whole at all)).1.0)
    search-broken (found before e after) p f =
        let whole = found_in-table policy fits es before e after p in
        let fit = found-fits fits (in_order_of policy es) before e after p in
        found-broken (below_in policy before after) e (above_in policy before after) (whole, fit, none_looked-at policy fits es before e after p) f

  -- a refusal tells the number of the first rule that is broken
  pub refused-broken : {n : Refusal} → requested asked len type policy alignment es ≡ refused n → Breaks n
  unfolding requested allocated
  refused-broken =
      unless-told refused (λ k n e. cc) Breaks (rows_refusal len alignment) (placed_from pages type policy alignment (searched policy fits es)) rows-broken
      (λ rows e. search-broken (rows-kept rows) (searched policy fits es) refl e)

  -- a request that is met keeps every rule
  module _ (x : AllocatedRange) (es' : List AddressRange) (e : requested asked len type policy alignment es ≡ handed x es') where
    -- of the first entry that fits, however it is found
    first-splits : (below : List AddressRange) (y : AddressRange) (above : List AddressRange) → FirstFit asked len policy alignment es below y above
        → rows_refusal len alignment ≡ None → length es + added_by pages policy alignment y ≤ max_address_ranges
    unfolding allocated
    first-splits below y above first passed =
        let searched-for = rw (passed-rows asked len type policy alignment es passed, first.0) at e in
        let placed-there = sym (first-placed pages type policy alignment fits below y above first.1 first.2) ∙ searched-for in
        let within = full-kept _ x (after_split below y above) es' placed-there in
        omega (arith, within, split-count pages type policy alignment below y above, ap length first.0)

    some_fits : rows_refusal len alignment ≡ None → Rules row25
    unfolding allocated
    some_fits passed = go (searched policy fits es) refl (rw (passed-rows asked len type policy alignment es passed) at e)
      where
        go : (s : Search AddressRange) → searched policy fits es ≡ s → placed_from pages type policy alignment s ≡ handed x es' → Rules row25
        go nothing p f = cc
        go (found before y after) p f = (
          below_in policy before after,
          y,
          above_in policy before after,
          found_in-table policy fits es before y after p,
          found-fits fits (in_order_of policy es) before y after p,
        )

    pub handed-kept : (row : RequestRow) → Rules row
    handed-kept = go (rows_refusal len alignment) refl
      where
        go : (u : Option Refusal) → rows_refusal len alignment ≡ u → (row : RequestRow) → Rules row
        go None passed =
            let upto25 = kept_next row25 (rows-kept passed) (some_fits passed) in
            let all = kept_next row26 upto25 (λ below y above first. first-splits below y above first passed) in
            rule.kept-all number Rules (number_of table_full + 1) (λ row. omega (arith, (numbered row).1)) all
        go (Some n) refusing =
            let r = requested_refused asked len type policy alignment es n (rw refusing) in cc

  -- so one that keeps every rule is met
  pub kept-handed : ((row : RequestRow) → Rules row)
      → (x : AllocatedRange) × (es' : List AddressRange) × (requested asked len type policy alignment es ≡ handed x es')
  kept-handed h = by (requested asked len type policy alignment es) refl
    where
      by : (o : Outcome) → requested asked len type policy alignment es ≡ o → (x : AllocatedRange) × (es' : List AddressRange) × (o ≡ handed x es')
      by (handed x es') e = (x, es', refl)
      by (refused n) e = let broken = refused-broken e in absurd (broken.2 (h broken.0))
