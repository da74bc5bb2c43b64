-- The build: every table that it gives is sound, and says of each byte what the ranges given say.
use Rattle.std.specs.Prelude.{ℕ, ◌≤◌, ◌≡◌, refl, false, List, length, Option, Some, None}
use Rattle.std.proofs.Common.{ap, ◌∙◌, arith}
use Rattle.refusal.specs.declared.Refusal.{Refusal}
use Rattle.refusal.specs.Number.{used_outside_ram}
use Rattle.refusal.specs.Rows.{refused_if, unless}
use Rattle.refusal.specs.Laws.Rows.{not_refused}
use Rattle.memory_range.specs.declared.range.MemoryRange.{MemoryRange}
use Rattle.memory_range.specs.declared.range.TaggedRange.{TaggedRange}
use Rattle.memory_range.specs.Bytes.{Ordered}
use Rattle.memory_range.specs.List.{ranges_in}
use Rattle.memory_range.specs.Laws.Valid.{valid-ordered}
use Rattle.range_lists.specs.Laws.Entries.{length-ranges_in}
use Rattle.address_space.specs.declared.table.AddressRange.{AddressRange}
use Rattle.address_space.specs.declared.usage.AddressUsage.{AddressUsage}
use Rattle.memory.specs.declared.builder.AddressSpaceManagerBuilder.{AddressSpaceManagerBuilder}
use Rattle.memory.specs.Build.{Build, refused, built, table_of, filled, build}
use Rattle.memory.specs.Rows.{rows_refusal}
use Rattle.memory.specs.Used.{any_outside, used_of, used_refusal}
use Rattle.memory.specs.Laws.Count.{table-count}
use Rattle.memory.specs.Laws.Overlap.{used-ordered}
use Rattle.memory.specs.Laws.Rows.{rows-passed}
use Rattle.memory_claims.specs.Claim.{note, max_built, Built}
use Rattle.memory_claims.specs.Laws.Pages.{entries-at-pages, used-at-pages}
use Rattle.memory_claims.specs.Laws.Walked.{table_says}
use Rattle.memory_claims.specs.Laws.Table.{table_sound}
use Rattle.memory_claims.specs.Laws.Used.{used_says, used-count}

-- what a build that gives a table shows: no row refused
unless-built : (u : Option Refusal) (o : Build) {es : List AddressRange} → unless refused u o ≡ built es → (u ≡ None) × (o ≡ built es)
unless-built None o e = (refl, e)
unless-built (Some n) o e = cc

module _ (b : AddressSpaceManagerBuilder) (entries : ℕ) (ram : List TaggedRange) (configs pools : List MemoryRange) where
  table-built : rows_refusal b entries (ranges_in ram) configs pools ≡ None → used_refusal b configs pools ≡ None
      → Built b ram configs pools (table_of ram (used_of b configs pools))
  table-built rows passed =
      let used = used_of b configs pools in
      let ok = rows-passed b entries (ranges_in ram) configs pools rows in
      let or = valid-ordered 0 (ranges_in ram) ok.1 ok.4 in
      let ou = (used-ordered b configs pools ok.0 ok.2 ok.3 passed).0 in
      let few : length (table_of ram used) ≤ max_built =
      omega (arith, length-ranges_in ram, table-count ram used, used-count b configs pools ok.0 ok.2 ok.3 passed) in
      record {
        sound =
            table_sound ram used or ou (entries-at-pages ram ok.1) (used-at-pages b configs pools ok.0 ok.2 ok.3) (omega arith);
        count = few;
        says = λ n a e.
            table_says ram used or ou a ∙ rw e (ap (λ (u : AddressUsage). Some (note n u)) (used_says b configs pools ok.0 ok.2 ok.3 passed a));
      }

  -- a build that gives a table: no row refused, and the table is that of the RAM and of what is used of it
  pub build-passed : (es : List AddressRange) → build b entries ram configs pools ≡ built es
      → (rows_refusal b entries (ranges_in ram) configs pools ≡ None) × (used_refusal b configs pools ≡ None) × (table_of ram (used_of b configs pools) ≡ es)
      × (any_outside (ranges_in ram) (ranges_in (used_of b configs pools)) ≡ false)
  unfolding build filled
  build-passed es e =
      let rows = unless-built (rows_refusal b entries (ranges_in ram) configs pools) _ e in
      let passed = unless-built (used_refusal b configs pools) _ rows.1 in
      let outside = any_outside (ranges_in ram) (ranges_in (used_of b configs pools)) in
      let last = unless-built (refused_if outside used_outside_ram) _ passed.1 in
      let same = last.1 in
      (rows.0, passed.0, cc, not_refused outside used_outside_ram last.0)

  -- its RAM is in order
  pub build-ordered : (es : List AddressRange) → build b entries ram configs pools ≡ built es → Ordered 0 (ranges_in ram)
  build-ordered es e =
      let ok = rows-passed b entries (ranges_in ram) configs pools (build-passed es e).0 in
      valid-ordered 0 (ranges_in ram) ok.1 ok.4

  pub build_claimed : (es : List AddressRange) → build b entries ram configs pools ≡ built es → Built b ram configs pools es
  build_claimed es e =
      let passed = build-passed es e in
      rw passed.2 at (table-built passed.0 passed.1)
