-- All ranges of a build start and end at pages: the reserved ones, so the used pieces, so the table's entries.
use Rattle.std.specs.Prelude.{ℕ, ◌≡◌, refl, Bool, true, false, cond, List, [], ◌∷◌, ◌++◌, ltb, Option, Some, None}
use Rattle.std.proofs.Common.{arith}
use Rattle.memory_range.specs.declared.range.MemoryRange.{MemoryRange}
use Rattle.memory_range.specs.declared.range.TaggedRange.{TaggedRange}
use Rattle.memory_range.specs.Bytes.{Ordered, All}
use Rattle.memory_range.specs.List.{ranges_in}
use Rattle.range_lists.specs.Sort.{sort_by_start}
use Rattle.memory_range.specs.Valid.{valid_range, all_valid_of}
use Rattle.range_lists.specs.Walk.{boundaries, walk}
use Rattle.memory_range.specs.Laws.Bytes.{all_map, all_append}
use Rattle.range_lists.specs.Laws.Sort.{sort-all}
use Rattle.memory_range.specs.Laws.Valid.{valid-parts, valid-range}
use Rattle.range_lists.specs.Laws.Walk.{walk_ends}
use Rattle.boot_ram.specs.Held.{AtPage}
use Rattle.boot_ram.specs.Laws.Paged.{entries_paged}
use Rattle.address_space.specs.declared.usage.ReservedMemoryType.{ReservedMemoryType}
use Rattle.address_space.specs.declared.usage.ReservedMemoryType.TheVariants.{Vtl2Config, Vtl2Reserved, SidecarImage, Vtl2GpaPool, TdxPageTables, BootshimLogBuffer, PersistedStatePayload}
use Rattle.address_space.specs.Table.{ranges_at}
use Rattle.memory.specs.declared.builder.AddressSpaceManagerBuilder.{AddressSpaceManagerBuilder}
use Rattle.memory.specs.Build.{table_of}
use Rattle.memory.specs.Builder.{option_valid, singles_valid, all_as, option_as, state_of, given_range, options_of, reserved_of}
use Rattle.memory.specs.Used.{pieces_used, used_of}
use Rattle.memory.specs.Laws.Overlap.{singles_each}
use Rattle.memory_claims.specs.Laws.Said.{ranges_as}
use Rattle.memory_claims.specs.Laws.Walked.{entries-all, pieces-all}

-- a range starts and ends at a page
abbrev pub AtPages : MemoryRange → Type 0
AtPages r = AtPage r.start × AtPage r.end

abbrev pub AllAtPages : List TaggedRange → Type 0
AllAtPages xs = All (λ x. AtPages x.range) xs

-- a valid range starts and ends at pages
valid-at-pages : (r : MemoryRange) → valid_range r ≡ true → AtPages r
valid-at-pages r v = let p = valid-parts r v in (p.1, p.2)

-- so do the ranges of valid entries, and valid ranges given as one type
pub entries-at-pages : (xs : List TaggedRange) → all_valid_of (ranges_in xs) ≡ true → AllAtPages xs
entries-at-pages xs v = all_map (λ x p. (p.1, p.2)) xs (entries_paged xs v)

all-at-pages : (t : ReservedMemoryType) (rs : List MemoryRange) → all_valid_of rs ≡ true → AllAtPages (all_as t rs)
all-at-pages t rs v = entries-at-pages (all_as t rs) (rw (ranges_as t rs) v)

option-at-pages : (t : ReservedMemoryType) (o : Option MemoryRange) → option_valid o ≡ true → AllAtPages (option_as t o)
option-at-pages t (Some r) v = (valid-at-pages r v, tt)
option-at-pages t None v = tt

given-at-pages : (t : ReservedMemoryType) (r : MemoryRange) → AtPages r → AllAtPages (option_as t (given_range r))
given-at-pages t r p = go (ltb r.start r.end)
  where
    go : (u : Bool) → AllAtPages (option_as t (cond u (Some r) None))
    go true = (p, tt)
    go false = tt

both-at-pages : (xs ys : List TaggedRange) → AllAtPages xs → AllAtPages ys → AllAtPages (xs ++ ys)
both-at-pages = all_append (λ x. AtPages x.range)

-- the ends of such ranges are pages
pages-between : (xs : List TaggedRange) → AllAtPages xs → All AtPage (boundaries (ranges_in xs))
pages-between [] h = tt
pages-between (x ∷ xs) h = (h.0.0, (h.0.1, pages-between xs h.1))

module _ (b : AddressSpaceManagerBuilder) (configs pools : List MemoryRange) (singles : singles_valid b ≡ true) (vc : all_valid_of configs ≡ true)
    (vp : all_valid_of pools ≡ true) where
  options-at-pages : AllAtPages (options_of b)
  options-at-pages =
      let each = singles_each b singles in
      let reserved = option_as Vtl2Reserved b.reserved_range in
      let sidecar = option_as SidecarImage b.sidecar_image in
      let tables = option_as TdxPageTables b.page_tables in
      let buffer = option_as BootshimLogBuffer b.log_buffer in
      let image = option-at-pages SidecarImage b.sidecar_image each.3 in
      let two = both-at-pages reserved sidecar (option-at-pages Vtl2Reserved b.reserved_range each.2) image in
      let three = both-at-pages (reserved ++ sidecar) tables two (option-at-pages TdxPageTables b.page_tables each.4) in
      both-at-pages (reserved ++ sidecar ++ tables) buffer three (option-at-pages BootshimLogBuffer b.log_buffer each.5)

  -- the persisted state starts and ends at pages and has one, so it is split at a page
  reserved-at-pages : AllAtPages (reserved_of b configs)
  reserved-at-pages =
      let state = valid-parts b.persisted_state_region (singles_each b singles).1 in
      let page : AtPage (state_of b).left.end = omega arith in
      let payload = option_as PersistedStatePayload (given_range (state_of b).right) in
      let config = all_as Vtl2Config configs in
      let rest = given-at-pages PersistedStatePayload (state_of b).right (page, state.2) in
      let given = both-at-pages payload config rest (all-at-pages Vtl2Config configs vc) in
      ((state.1, page), both-at-pages (payload ++ config) (options_of b) given options-at-pages)

  -- what is cut from ranges at pages is cut at pages: the pieces of the used range, and the table
  pub used-at-pages : AllAtPages (used_of b configs pools)
  unfolding used_of
  used-at-pages =
      let used = b.bootshim_used in
      let reserved = sort_by_start (reserved_of b configs) in
      let at = valid-at-pages used (singles_each b singles).0 in
      sort-all (λ x. AtPages x.range) (pieces_used b configs ++ all_as Vtl2GpaPool pools)
      (both-at-pages (pieces_used b configs) (all_as Vtl2GpaPool pools)
      (pieces-all reserved AtPages (walk (used ∷ []) (ranges_in reserved))
      (walk_ends AtPage (used ∷ []) (ranges_in reserved) (at.0, (at.1, tt))
      (pages-between reserved (sort-all (λ x. AtPages x.range) (reserved_of b configs) reserved-at-pages))))
      (all-at-pages Vtl2GpaPool pools vp))

pub table-at-pages : (ram used : List TaggedRange) → AllAtPages ram → AllAtPages used → All AtPages (ranges_at (table_of ram used))
unfolding table_of
table-at-pages ram used pr pu =
    entries-all ram used AtPages (walk (ranges_in ram) (ranges_in used))
    (walk_ends AtPage (ranges_in ram) (ranges_in used) (pages-between ram pr) (pages-between used pu))

-- ranges in order that start and end at pages are valid
pub pages-valid : (a : ℕ) (rs : List MemoryRange) → Ordered a rs → All AtPages rs → all_valid_of rs ≡ true
pages-valid a [] o h = refl
pages-valid a (r ∷ rs) o h = rw (valid-range r o.1.0 h.0.0 h.0.1) (pages-valid r.end rs o.1.1 h.1)
