-- Wrong answers of the build, each refuted (docs/PROVED.md).
use Rattle.std.specs.Prelude.{◌≡◌, Bool, true, false, List, [], ◌∷◌, ◌≢◌, eqb, length, get_or, Option, Some, None}
use Rattle.std.proofs.Common.{ap, sym, ◌∙◌, true≢false, arith}
use Rattle.std.proofs.lemmas.Bool.{false≢true}
use Rattle.refusal.specs.Number.{used_outside_ram}
use Rattle.memory_range.specs.declared.range.MemoryRange.{MemoryRange}
use Rattle.memory_range.specs.Range.{range}
use Rattle.address_space.specs.declared.table.AddressRange.{AddressRange}
use Rattle.address_space.specs.declared.usage.AddressUsage.TheVariants.{Free}
use Rattle.address_space.specs.Table.{entry, no_entry, pool_of, empty_table}
use Rattle.memory.specs.declared.builder.AddressSpaceManagerBuilder.{AddressSpaceManagerBuilder}
use Rattle.memory.specs.Build.{refused, built, has_pool, init_as}
use Rattle.memory.specs.Builder.{builder_of, with_reserved_range, with_sidecar_image, with_page_tables, with_log_buffer, singles_valid, reserved_count}
use Rattle.memory.specs.Used.{any_overlap, pools_bad}
use Rattle.memory.specs.Laws.Build.{pools_good}

-- what the answers are told apart by
abbrev is_given_in : Option MemoryRange → Bool
is_given_in (Some r) = true
is_given_in None = false

module _ (used state r s : MemoryRange) where
  -- a step that sets another range
  pub sets_another : with_page_tables (builder_of used state) r ≢ with_log_buffer (builder_of used state) r
  sets_another e = true≢false (ap (λ (b : AddressSpaceManagerBuilder). is_given_in b.page_tables) e)

  -- a step that drops an earlier one
  pub drops_earlier : with_sidecar_image (with_reserved_range (builder_of used state) r) s ≢ with_sidecar_image (builder_of used state) s
  drops_earlier e = true≢false (ap (λ (b : AddressSpaceManagerBuilder). is_given_in b.reserved_range) e)

-- an optional range not looked at: the log buffer has no bytes
pub option-not_looked-at : singles_valid (with_log_buffer (builder_of (range 0x1000 0x4000) (range 0x1000 0x3000)) (range 0x3000 0x3000)) ≢ true
unfolding singles_valid
option-not_looked-at e = false≢true e

-- the flag not set, where there are pool ranges
pub pool_flag-not-set : (r : MemoryRange) (es : List AddressRange) → pool_of (init_as empty_table (has_pool (r ∷ [])) (built es)).manager ≢ false
pool_flag-not-set r es e = true≢false e

-- an empty payload not counted: the persisted state is one page
pub payload-not-counted : (used : MemoryRange) → reserved_count (builder_of used (range 0x1000 0x2000)) [] ≢ 1
payload-not-counted used e = true≢false (ap (eqb 2) e)

-- 84 used pieces refused: 20 of the used range, and 64 pool ranges
pub used-84_refused : (used : MemoryRange) (pools : List MemoryRange) → length pools ≡ 64 → any_overlap (used ∷ pools) ≡ false → pools_bad used 20 pools ≢ true
used-84_refused used pools h apart e = false≢true (sym (pools_good used 20 pools (omega arith) (omega arith) apart) ∙ e)

-- a refused build that leaves entries in the array
pub entries-left : get_or (init_as empty_table false (refused used_outside_ram)).manager.address_space 0 no_entry ≢ entry (range 0x1000 0x2000) 0 Free
entries-left e = true≢false (ap (λ (x : AddressRange). eqb x.range.end 0) e)
