-- What an entry that fits gives a request: a range that was free, and a table that is as sound as it was.
use Rattle.std.specs.Prelude.{ℕ, ◌%◌, ◌<◌, ◌≡◌, true, List, ◌∷◌, ◌++◌, Option}
use Rattle.std.proofs.Common.{◌∙◌}
use Rattle.memory_range.specs.declared.range.TaggedRange.{TaggedRange}
use Rattle.memory_range.specs.Valid.{page_size}
use Rattle.memory_range.specs.Laws.Range.{contains-between}
use Rattle.host_params.specs.declared.AllocationPolicy.{AllocationPolicy}
use Rattle.host_params.specs.declared.AllocationType.{AllocationType}
use Rattle.address_space.specs.declared.request.AllocatedRange.{AllocatedRange}
use Rattle.address_space.specs.declared.table.AddressRange.{AddressRange}
use Rattle.address_space.specs.Fit.{fits_in}
use Rattle.address_space.specs.Request.{handed, alignment_good, placed}
use Rattle.address_space.specs.Split.{split_entry}
use Rattle.address_space.specs.Usage.{usage_for}
use Rattle.memory_claims.specs.Claim.{InRam, Sound, Handed, Of64Bits}
use Rattle.memory_claims.proofs.Part.{given}
use Rattle.memory_claims.specs.Laws.Placed.{placed-handed, outcome, fits-parts, stays_sound}
use Rattle.memory_claims.specs.Laws.Ram.{part_in-ram}
use Rattle.memory_claims.specs.Laws.Split.{entry-valid, split-ordered, split-valid, split-all, split_was, split_now, split_others}

module _ (asked : Option ℕ) (len : ℕ) (type : AllocationType) (policy : AllocationPolicy) (alignment : Option ℕ) where
  module _ (pages : len % page_size ≡ 0) (some_bytes : 0 < len) (good : alignment_good alignment ≡ true) (bits : Of64Bits alignment) where
    -- an entry that fits gives a range, between those below it and those above it
    pub placed_claimed : (ram : List TaggedRange) (lower : List AddressRange) (e : AddressRange) (higher : List AddressRange) (x : AllocatedRange)
        (es' : List AddressRange) → Sound ram (lower ++ e ∷ higher) → fits_in asked len alignment e ≡ true
        → placed len type policy alignment lower e higher ≡ handed x es'
        → Sound ram es' × Handed asked len type policy alignment (lower ++ e ∷ higher) x es'
    placed_claimed ram lower e higher x es' sound fits h =
        let free = fits-parts asked len type policy alignment e fits in
        let part = given policy len alignment e.range pages some_bytes good bits (entry-valid lower e higher sound.valid) free.2 in
        let y = outcome len type policy alignment e in
        let used = y.range in
        let after = lower ++ split_entry used (usage_for type) e ++ higher in
        let same = placed-handed y after x es' h in
        let gives : Handed asked len type policy alignment (lower ++ e ∷ higher) y after =
        record {
          length = part.length;
          valid = part.valid;
          node = free.1;
          aligned = part.aligned;
          was_free = λ a b. split_was lower e higher used (usage_for type) part.inside a 0 sound.ordered b ∙ rw free.0;
          now-used = λ a b. split_now lower e higher used (usage_for type) part.inside a 0 sound.ordered b;
          others = split_others lower e higher used (usage_for type) part.inside free.0;
        }
        in
        rw (← same.0, ← same.1) (
          stays_sound asked len type policy alignment ram (lower ++ e ∷ higher) after y sound gives
              (split-ordered lower e higher used (usage_for type) part.inside 0 sound.ordered)
              (split-valid lower e higher used (usage_for type) part.inside part.valid sound.valid)
              (split-all lower e higher used (usage_for type) part.inside (InRam ram)
              (λ f n i. part_in-ram ram e f n (contains-between e.range f.range i.0 i.2)) sound.in-ram)
              same.2,
          gives,
        )
