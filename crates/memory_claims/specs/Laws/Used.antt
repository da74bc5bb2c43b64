-- What is used, the pieces and the pool ranges: it says of each byte what the ranges given to the build say, and it is at most 84 ranges.
use Rattle.std.specs.Prelude.{ℕ, ◌+◌, ◌≤◌, ◌<◌, ◌≡◌, refl, Bool, true, false, cond, List, [], ◌∷◌, ◌++◌, ltb, length, Option, Some, None}
use Rattle.std.proofs.Math.Path.{ap}
use Rattle.std.proofs.Common.{sym, ◌∙◌, arith, ltb-false}
use Rattle.memory_range.specs.declared.range.MemoryRange.{MemoryRange}
use Rattle.memory_range.specs.declared.range.TaggedRange.{TaggedRange}
use Rattle.memory_range.specs.Bytes.{holders, Ordered}
use Rattle.memory_range.specs.List.{ranges_in}
use Rattle.memory_range.specs.Range.{holds}
use Rattle.range_lists.specs.Sort.{sort_by_start}
use Rattle.memory_range.specs.Valid.{all_valid_of}
use Rattle.memory_range.specs.Laws.Bytes.{counted, ordered-once}
use Rattle.range_lists.specs.Laws.Sort.{sort-holders}
use Rattle.memory_range.specs.Laws.Valid.{valid-parts}
use Rattle.address_space.specs.declared.usage.ReservedMemoryType.TheVariants.{Vtl2GpaPool}
use Rattle.address_space.specs.Usage.{usage_of}
use Rattle.memory.specs.declared.builder.AddressSpaceManagerBuilder.{AddressSpaceManagerBuilder}
use Rattle.memory.specs.Builder.{singles_valid, all_as, reserved_of}
use Rattle.memory.specs.Used.{max_pools, max_used, any_overlap, any_outside, pieces_used, used_of, pools_bad, used_refusal}
use Rattle.memory.specs.Laws.Overlap.{or-false_iff, singles_each, reserved-ordered, outside_bytes, used-ordered, used-length, used_refused-none}
use Rattle.memory_claims.specs.Claim.{tag_at, said_by, usage_said}
use Rattle.memory_claims.specs.Laws.Said.{ranges_as, or_else, tag_append, tag-holders, tag-sort}
use Rattle.memory_claims.specs.Laws.Walked.{piece_tag, pieces_tag}

-- reserved ranges lie in the used range, pool ranges outside: what is said of a byte by its used piece, or else by its pool range
said_same : (held : Bool) (r p : Option ℕ) → (0 < counted r → 0 < cond held 1 0 + 0) → cond held 1 0 + counted p ≤ 1
    → said_by (or_else (piece_tag held r) p) false ≡ said_by (or_else r p) held
unfolding usage_of
said_same false None p inside apart = refl
said_same false (Some t) p inside apart = absurd (let z = inside (omega arith) in omega arith)
said_same true (Some t) p inside apart = refl
said_same true None None inside apart = refl
said_same true None (Some t) inside apart = absurd (omega arith)

module _ (b : AddressSpaceManagerBuilder) (configs pools : List MemoryRange) (singles : singles_valid b ≡ true) (vc : all_valid_of configs ≡ true)
    (vp : all_valid_of pools ≡ true) (passed : used_refusal b configs pools ≡ None) where
  abbrev reserved : List TaggedRange
  reserved = reserved_of b configs

  abbrev gpa : List TaggedRange
  gpa = all_as Vtl2GpaPool pools

  rules : (any_overlap (ranges_in reserved) ≡ false) × (any_outside (b.bootshim_used ∷ []) (ranges_in (sort_by_start reserved)) ≡ false)
      × (pools_bad b.bootshim_used (length (pieces_used b configs)) pools ≡ false)
  rules = used_refused-none b configs pools passed

  used_full : b.bootshim_used.start < b.bootshim_used.end
  used_full = (valid-parts b.bootshim_used (singles_each b singles).0).0

  sorted-ordered : Ordered 0 (ranges_in (sort_by_start reserved))
  sorted-ordered = reserved-ordered b configs singles vc rules.0

  reserved-once : (a : ℕ) → holders (ranges_in reserved) a ≤ 1
  reserved-once a = omega (arith, sort-holders reserved a, ordered-once 0 (ranges_in (sort_by_start reserved)) sorted-ordered a)

  used-once : (a : ℕ) → holders (b.bootshim_used ∷ pools) a ≤ 1
  used-once a =
      let order = used-ordered b configs pools singles vc vp passed in
      omega (arith, order.1 a, ordered-once 0 (ranges_in (used_of b configs pools)) order.0 a)

  used_tag : (a : ℕ) → tag_at (used_of b configs pools) a ≡ or_else (piece_tag (holds b.bootshim_used a) (tag_at reserved a)) (tag_at gpa a)
  unfolding used_of
  used_tag a =
      let order = (used-ordered b configs pools singles vc vp passed).0 in
      let pieces = pieces_used b configs in
      tag-sort (pieces ++ gpa) a (omega (arith, sort-holders (pieces ++ gpa) a, ordered-once 0 (ranges_in (sort_by_start (pieces ++ gpa))) order a))
      ∙ tag_append pieces gpa a
      ∙ ap (λ (u : Option ℕ). or_else u (tag_at gpa a))
      (pieces_tag (sort_by_start reserved) b.bootshim_used used_full sorted-ordered a
      ∙ ap (piece_tag (holds b.bootshim_used a)) (tag-sort reserved a (reserved-once a)))

  -- what is used, piece by piece, says of a byte what the ranges given say
  pub used_says : (a : ℕ) → said_by (tag_at (used_of b configs pools) a) false ≡ usage_said b configs pools a
  used_says a =
      let used = b.bootshim_used in
      let one : Ordered 0 (used ∷ []) = (omega arith, (used_full, tt)) in
      let within = (outside_bytes (used ∷ []) (ranges_in (sort_by_start reserved)) one sorted-ordered).0 rules.1 a in
      let pooled : holders (ranges_in gpa) a ≡ holders pools a = rw (ranges_as Vtl2GpaPool pools) refl in
      ap (λ (u : Option ℕ). said_by u false) (used_tag a)
      ∙ said_same (holds used a) (tag_at reserved a) (tag_at gpa a)
      (λ l. within (omega (arith, sort-holders reserved a, tag-holders reserved a (reserved-once a))))
      (omega (arith, used-once a, tag-holders gpa a (omega (arith, used-once a))))
      ∙ ap (λ (u : Option ℕ). said_by u (holds used a)) (sym (tag_append reserved gpa a))

  pub used-count : length (used_of b configs pools) ≤ max_used
  used-count =
      let few = ((or-false_iff (ltb max_pools (length pools)) _).0 rules.2).1 in
      let fewer = ((or-false_iff (any_overlap (b.bootshim_used ∷ pools)) (ltb max_used (length (pieces_used b configs) + length pools))).0 few).1 in
      omega (arith, used-length b configs pools, ltb-false max_used (length (pieces_used b configs) + length pools) fewer)
