-- Laws of what is reserved and what is used: ranges overlap exactly where some byte lies in two of them, the
-- pieces of the used range are that range cut up, and with the pool ranges they are in order once sorted.
use Rattle.std.specs.Prelude.{ℕ, ◌+◌, ◌≤◌, ◌<◌, ◌≡◌, refl, ◌↔◌, Bool, true, false, cond, not, ◌||◌, leb, ltb, length, Option, Some, None}
use Rattle.std.proofs.Common.{sym, ◌∙◌, true≢false, arith, ltb-true, leb-true, length-append}
use Rattle.std.proofs.Math.Bool.{and-eq-true_iff}
use mathlib.Core.List.{List, [], ◌∷◌, ◌++◌}
use Rattle.refusal.specs.Number.{reserved_overlap, reserved_outside_used, pool_ranges}
use Rattle.refusal.specs.Rows.{refused_if}
use Rattle.refusal.specs.Laws.Rows.{first-kept}
use Rattle.memory_range.specs.declared.range.MemoryRange.{MemoryRange}
use Rattle.memory_range.specs.declared.range.TaggedRange.{TaggedRange}
use Rattle.range_lists.specs.declared.walk.WalkPiece.{WalkPiece}
use Rattle.memory_range.specs.Bytes.{holders, item_at, Ordered, All}
use Rattle.memory_range.specs.List.{ranges_in}
use Rattle.memory_range.specs.Range.{holds, overlap_ranges}
use Rattle.range_lists.specs.Sort.{sort_by_start}
use Rattle.memory_range.specs.Valid.{valid_range, all_valid_of, ascend_from, ascend}
use Rattle.range_lists.specs.Walk.{held_by, walk}
use Rattle.memory_range.specs.Laws.Bytes.{counted, holders_items, ordered-once, all_append}
use Rattle.range_lists.specs.Laws.Picked.{picked, counted_if, picked-ordered, walk-picked}
use Rattle.memory_range.specs.Laws.Range.{held, overlap_byte}
use Rattle.range_lists.specs.Laws.Sort.{sort-length, sort-holders, sort-all, sort-ordered}
use Rattle.memory_range.specs.Laws.Valid.{valid-parts, ordered-ascend}
use Rattle.range_lists.specs.Laws.Walk.{walk-ordered}
use Rattle.address_space.specs.declared.usage.ReservedMemoryType.{ReservedMemoryType}
use Rattle.address_space.specs.declared.usage.ReservedMemoryType.TheVariants.{Vtl2Config, Vtl2Reserved, SidecarImage, Vtl2GpaPool, TdxPageTables, BootshimLogBuffer, PersistedStatePayload}
use Rattle.memory.specs.declared.builder.AddressSpaceManagerBuilder.{AddressSpaceManagerBuilder}
use Rattle.memory.specs.Builder.{option_valid, singles_valid, all_as, option_as, state_of, given_range, options_of, reserved_of}
use Rattle.memory.specs.Used.{overlaps_one, any_overlap, is_right, any_right, any_outside, pieces_of, pieces_used, max_pools, used_of, pools_bad, used_refusal, CutUp}
use Rattle.memory.specs.Laws.Count.{left_held, pieces-picked}
use Rattle.memory.specs.Laws.Reserved.{length-all}

abbrev pub HasByte : MemoryRange → Type 0
HasByte r = r.start < r.end

-- each of the ranges has a byte
abbrev HaveBytes : List TaggedRange → Type 0
HaveBytes xs = All (λ x. HasByte x.range) xs

pub both_have : (xs ys : List TaggedRange) → HaveBytes xs → HaveBytes ys → HaveBytes (xs ++ ys)
both_have = all_append (λ x. HasByte x.range)

option-has : (t : ReservedMemoryType) (o : (Option MemoryRange)) → option_valid o ≡ true → HaveBytes (option_as t o)
option-has t (Some r) v = ((valid-parts r v).0, tt)
option-has t None v = tt

given-has : (t : ReservedMemoryType) (r : MemoryRange) → HaveBytes (option_as t (given_range r))
given-has t r = go (ltb r.start r.end) refl
  where
    go : (u : Bool) → ltb r.start r.end ≡ u → HaveBytes (option_as t (cond u (Some r) None))
    go true e = (ltb-true _ _ e, tt)
    go false e = tt

-- valid ranges have bytes, as such and with a type
pub valid_have : (rs : List MemoryRange) → all_valid_of rs ≡ true → All HasByte rs
valid_have [] v = tt
valid_have (r ∷ rs) v =
    let w = (and-eq-true_iff (valid_range r) (all_valid_of rs)).0 v in
    ((valid-parts r w.0).0, valid_have rs w.1)

pub all_have : (t : ReservedMemoryType) (rs : List MemoryRange) → All HasByte rs → HaveBytes (all_as t rs)
all_have t [] h = tt
all_have t (r ∷ rs) h = (h.0, all_have t rs h.1)

-- where the single ranges are valid, so is each of them
pub singles_each : (b : AddressSpaceManagerBuilder) → singles_valid b ≡ true
    → (valid_range b.bootshim_used ≡ true) × (valid_range b.persisted_state_region ≡ true) × (option_valid b.reserved_range ≡ true)
    × (option_valid b.sidecar_image ≡ true) × (option_valid b.page_tables ≡ true) × (option_valid b.log_buffer ≡ true)
unfolding singles_valid
singles_each b v =
    let p = (and-eq-true_iff (valid_range b.bootshim_used) _).0 v in
    let q = (and-eq-true_iff (valid_range b.persisted_state_region) _).0 p.1 in
    let r = (and-eq-true_iff (option_valid b.reserved_range) _).0 q.1 in
    let s = (and-eq-true_iff (option_valid b.sidecar_image) _).0 r.1 in
    let t = (and-eq-true_iff (option_valid b.page_tables) (option_valid b.log_buffer)).0 s.1 in
    (p.0, q.0, r.0, s.0, t.0, t.1)

options_have : (b : AddressSpaceManagerBuilder) → singles_valid b ≡ true → HaveBytes (options_of b)
options_have b v =
    let each = singles_each b v in
    let reserved = option_as Vtl2Reserved b.reserved_range in
    let sidecar = option_as SidecarImage b.sidecar_image in
    let tables = option_as TdxPageTables b.page_tables in
    let buffer = option_as BootshimLogBuffer b.log_buffer in
    let two = both_have reserved sidecar (option-has Vtl2Reserved b.reserved_range each.2) (option-has SidecarImage b.sidecar_image each.3) in
    let three = both_have (reserved ++ sidecar) tables two (option-has TdxPageTables b.page_tables each.4) in
    both_have (reserved ++ sidecar ++ tables) buffer three (option-has BootshimLogBuffer b.log_buffer each.5)

-- each reserved range has a byte: the first page of a valid range has one, and a payload without bytes is dropped
pub reserved-has_bytes : (b : AddressSpaceManagerBuilder) (configs : List MemoryRange) → singles_valid b ≡ true → all_valid_of configs ≡ true
    → All (λ x. HasByte x.range) (reserved_of b configs)
reserved-has_bytes b configs v w =
    let state = (valid-parts b.persisted_state_region (singles_each b v).1).0 in
    let payload = option_as PersistedStatePayload (given_range (state_of b).right) in
    let config = all_as Vtl2Config configs in
    let given = both_have payload config (given-has PersistedStatePayload (state_of b).right) (all_have Vtl2Config configs (valid_have configs w)) in
    (omega arith, both_have (payload ++ config) (options_of b) given (options_have b v))

pub or-false_iff : (s t : Bool) → (s || t ≡ false) ↔ ((s ≡ false) × (t ≡ false))
or-false_iff true t = (λ h. absurd (true≢false h), λ h. h.0)
or-false_iff false t = (λ h. (refl, h), λ h. h.1)

-- no range of the list overlaps r exactly where none holds a byte of r
none_overlaps : (r : MemoryRange) (ss : List MemoryRange)
    → (overlaps_one r ss ≡ false) ↔ ((a : ℕ) → holds r a ≡ true → holders ss a ≡ 0)
none_overlaps r [] = (λ h a i. refl, λ h. refl)
none_overlaps r (s ∷ ss) = (there (none_overlaps r ss).0, back (none_overlaps r ss).1)
  where
    there : (overlaps_one r ss ≡ false → (a : ℕ) → holds r a ≡ true → holders ss a ≡ 0)
        → overlap_ranges r s || overlaps_one r ss ≡ false → (a : ℕ) → holds r a ≡ true → holders (s ∷ ss) a ≡ 0
    there rest h a i = go (holds s a) refl
      where
        both : (overlap_ranges r s ≡ false) × (overlaps_one r ss ≡ false)
        both = (or-false_iff (overlap_ranges r s) (overlaps_one r ss)).0 h

        go : (t : Bool) → holds s a ≡ t → cond t 1 0 + holders ss a ≡ 0
        go true e = absurd (true≢false (sym ((overlap_byte r s).1 (a, i, e)) ∙ both.0))
        go false e = omega (arith, rest both.1 a i)

    back : (((a : ℕ) → holds r a ≡ true → holders ss a ≡ 0) → overlaps_one r ss ≡ false)
        → ((a : ℕ) → holds r a ≡ true → holders (s ∷ ss) a ≡ 0) → overlap_ranges r s || overlaps_one r ss ≡ false
    back rest h = go (overlap_ranges r s) refl
      where
        go : (t : Bool) → overlap_ranges r s ≡ t → t || overlaps_one r ss ≡ false
        go true e =
            let w = (overlap_byte r s).0 e in
            let twice = rw w.2 at (h w.0 w.1) in
            absurd (omega arith)
        go false e = rest (λ a i. omega (arith, h a i))

-- no two of the ranges overlap exactly where no byte lies in two of them
pub overlap-once : (ys : List MemoryRange) → (any_overlap ys ≡ false) ↔ ((a : ℕ) → holders ys a ≤ 1)
overlap-once [] = (λ h a. omega arith, λ h. refl)
overlap-once (y ∷ ys) = (there (overlap-once ys).0, back (overlap-once ys).1)
  where
    there : (any_overlap ys ≡ false → (a : ℕ) → holders ys a ≤ 1)
        → overlaps_one y ys || any_overlap ys ≡ false → (a : ℕ) → holders (y ∷ ys) a ≤ 1
    there rest h a = go (holds y a) refl
      where
        both : (overlaps_one y ys ≡ false) × (any_overlap ys ≡ false)
        both = (or-false_iff (overlaps_one y ys) (any_overlap ys)).0 h

        go : (t : Bool) → holds y a ≡ t → cond t 1 0 + holders ys a ≤ 1
        go true e = omega (arith, (none_overlaps y ys).0 both.0 a e)
        go false e = omega (arith, rest both.1 a)

    back : (((a : ℕ) → holders ys a ≤ 1) → any_overlap ys ≡ false)
        → ((a : ℕ) → holders (y ∷ ys) a ≤ 1) → overlaps_one y ys || any_overlap ys ≡ false
    back rest h =
        let alone = (none_overlaps y ys).1 (λ a i. let once = rw i at (h a) in omega arith) in
        (or-false_iff (overlaps_one y ys) (any_overlap ys)).1 (alone, rest (λ a. omega (arith, h a)))

-- ranges that each have a byte and ascend are in order; ranges in order each have a byte
ascend-ordered : (a : ℕ) (xs : List TaggedRange) → HaveBytes xs → ascend_from a (ranges_in xs) ≡ true → Ordered a (ranges_in xs)
ascend-ordered a [] h e = tt
ascend-ordered a (x ∷ xs) h e =
    let w = (and-eq-true_iff (leb a x.range.start) (ascend_from x.range.end (ranges_in xs))).0 e in
    (leb-true _ _ w.0, (h.0, ascend-ordered x.range.end xs h.1 w.1))

ordered-has : (a : ℕ) (xs : List TaggedRange) → Ordered a (ranges_in xs) → HaveBytes xs
ordered-has a [] o = tt
ordered-has a (x ∷ xs) o = (o.1.0, ordered-has x.range.end xs o.1.1)

-- sorted ranges that hold each byte as often as ys ascend exactly where no two of ys overlap
pub sorted-overlap : (xs : List TaggedRange) (ys : List MemoryRange) → HaveBytes xs
    → ((a : ℕ) → holders (ranges_in xs) a ≡ holders ys a) → ascend (ranges_in (sort_by_start xs)) ≡ not (any_overlap ys)
sorted-overlap xs ys h same = go (any_overlap ys) refl (ascend (ranges_in (sort_by_start xs))) refl
  where
    go : (t : Bool) → any_overlap ys ≡ t → (u : Bool) → ascend (ranges_in (sort_by_start xs)) ≡ u → u ≡ not t
    go false e u f =
        let once = (overlap-once ys).0 e in
        sym f ∙ ordered-ascend 0 (ranges_in (sort_by_start xs)) (sort-ordered xs h (λ a. omega (arith, same a, once a)))
    go true e true f =
        let sorted = ascend-ordered 0 (sort_by_start xs) (sort-all (λ x. HasByte x.range) xs h) f in
        let once = ordered-once 0 (ranges_in (sort_by_start xs)) sorted in
        sym e ∙ (overlap-once ys).1 (λ a. omega (arith, once a, sort-holders xs a, same a))
    go true e false f = refl

-- reserved ranges of which no two overlap are in order once sorted
pub reserved-ordered : (b : AddressSpaceManagerBuilder) (configs : List MemoryRange) → singles_valid b ≡ true → all_valid_of configs ≡ true
    → any_overlap (ranges_in (reserved_of b configs)) ≡ false → Ordered 0 (ranges_in (sort_by_start (reserved_of b configs)))
reserved-ordered b configs v w e =
    sort-ordered (reserved_of b configs) (reserved-has_bytes b configs v w) ((overlap-once (ranges_in (reserved_of b configs))).0 e)

-- the left list holds a piece where an item of it does
held-left : (u v : Option ℕ) → counted_if left_held (held_by u v) ≡ counted u
held-left None None = refl
held-left (Some i) None = refl
held-left None (Some j) = refl
held-left (Some i) (Some j) = refl

module _ (used : MemoryRange) (reserved : List TaggedRange) (has : HasByte used) (order : Ordered 0 (ranges_in reserved)) where
  one : Ordered 0 (used ∷ [])
  one = (omega arith, (has, tt))

  -- the pieces of the used range are in order
  pub pieces-ordered : Ordered 0 (ranges_in (pieces_of used reserved))
  pieces-ordered =
      rw (pieces-picked reserved (walk (used ∷ []) (ranges_in reserved)))
      (picked-ordered left_held 0 (walk (used ∷ []) (ranges_in reserved)) (walk-ordered (used ∷ []) (ranges_in reserved) one order))

  pieces_bytes : (a : ℕ) → holders (ranges_in (pieces_of used reserved)) a ≡ holders (used ∷ []) a
  pieces_bytes a =
      rw (pieces-picked reserved (walk (used ∷ []) (ranges_in reserved)))
      (walk-picked left_held (used ∷ []) (ranges_in reserved) one order a ∙ held-left (item_at (used ∷ []) a) (item_at (ranges_in reserved) a)
      ∙ sym (holders_items 0 0 (used ∷ []) a one))

  -- and are that range cut up
  pub pieces-cut_up : CutUp used (pieces_of used reserved)
  pieces-cut_up = (ordered-has 0 (pieces_of used reserved) pieces-ordered, λ a. omega (arith, pieces_bytes a))

-- what ranges hold that are given as one type, behind others
pub holders_as : (xs : List TaggedRange) (t : ReservedMemoryType) (rs : List MemoryRange) (a : ℕ)
    → holders (ranges_in (xs ++ all_as t rs)) a ≡ holders (ranges_in xs) a + holders rs a
holders_as [] t [] a = refl
holders_as [] t (r ∷ rs) a = omega (arith, holders_as [] t rs a)
holders_as (x ∷ xs) t rs a = omega (arith, holders_as xs t rs a)

module _ (b : AddressSpaceManagerBuilder) (configs pools : List MemoryRange) where
  -- where rows 18 to 20 pass, none of their rules is broken
  pub used_refused-none : used_refusal b configs pools ≡ None
      → (any_overlap (ranges_in (reserved_of b configs)) ≡ false)
      × (any_outside (b.bootshim_used ∷ []) (ranges_in (sort_by_start (reserved_of b configs))) ≡ false)
      × (pools_bad b.bootshim_used (length (pieces_used b configs)) pools ≡ false)
  unfolding used_refusal
  used_refused-none e =
      let overlap = any_overlap (ranges_in (reserved_of b configs)) in
      let outside = any_outside (b.bootshim_used ∷ []) (ranges_in (sort_by_start (reserved_of b configs))) in
      let bad = pools_bad b.bootshim_used (length (pieces_used b configs)) pools in
      let last = refused_if bad pool_ranges ∷ [] in
      let one = first-kept overlap reserved_overlap (refused_if outside reserved_outside_used ∷ last) e in
      let two = first-kept outside reserved_outside_used last one.1 in
      (one.0, two.0, (first-kept bad pool_ranges [] two.1).0)

  pub used-length : length (used_of b configs pools) ≡ length (pieces_used b configs) + length pools
  unfolding used_of
  used-length =
      sort-length (pieces_used b configs ++ all_as Vtl2GpaPool pools)
      ∙ rw (length-append (pieces_used b configs) (all_as Vtl2GpaPool pools), length-all Vtl2GpaPool pools)

  -- where the ranges are valid and rows 18 to 20 pass, what is used is in order, and holds the used range and the pool ranges
  pub used-ordered : singles_valid b ≡ true → all_valid_of configs ≡ true → all_valid_of pools ≡ true → used_refusal b configs pools ≡ None
      → Ordered 0 (ranges_in (used_of b configs pools))
      × ((a : ℕ) → holders (ranges_in (used_of b configs pools)) a ≡ holders (b.bootshim_used ∷ pools) a)
  unfolding used_of
  used-ordered v w p e =
      let used = b.bootshim_used in
      let passed = used_refused-none e in
      let has = (valid-parts used (singles_each b v).0).0 in
      let cut = pieces-cut_up used (sort_by_start (reserved_of b configs)) has (reserved-ordered b configs v w passed.0) in
      let behind = ((or-false_iff (ltb max_pools (length pools)) _).0 passed.2).1 in
      let alone = ((or-false_iff (any_overlap (used ∷ pools)) _).0 behind).0 in
      let pooled = valid_have pools p in
      let once = (overlap-once (used ∷ pools)).0 alone in
      let pieces = pieces_used b configs in
      let gpa = all_as Vtl2GpaPool pools in
      let bytes = both_have pieces gpa cut.0 (all_have Vtl2GpaPool pools pooled) in
      let same : (a : ℕ) → holders (ranges_in (pieces ++ gpa)) a ≡ holders (used ∷ pools) a = λ a. omega (arith, holders_as pieces Vtl2GpaPool pools a, cut.1 a) in
      (sort-ordered (pieces ++ gpa) bytes (λ a. omega (arith, same a, once a)), λ a. sort-holders (pieces ++ gpa) a ∙ same a)

-- no piece is held by the right list alone exactly where the pieces picked as such hold no byte
any-right : (a : ℕ) (ps : List WalkPiece) → Ordered a (picked is_right ps)
    → (any_right ps ≡ false) ↔ ((x : ℕ) → holders (picked is_right ps) x ≡ 0)
any-right a [] o = (λ h x. refl, λ h. refl)
any-right a (p ∷ ps) o = go (is_right p.result) o (any-right a ps)
  where
    go : (t : Bool) → Ordered a (cond t (p.range ∷ picked is_right ps) (picked is_right ps))
        → (Ordered a (picked is_right ps) → (any_right ps ≡ false) ↔ ((x : ℕ) → holders (picked is_right ps) x ≡ 0))
        → (t || any_right ps ≡ false) ↔ ((x : ℕ) → holders (cond t (p.range ∷ picked is_right ps) (picked is_right ps)) x ≡ 0)
    go true q rest =
        let s = p.range.start in
        (λ h. absurd (true≢false h), λ h. let Some = rw ((held p.range s).1 (omega arith, q.1.0)) at (h s) in absurd (omega arith))
    go false q rest = rest q

held-right : (u v : Option ℕ) → (counted_if is_right (held_by u v) ≡ 0) ↔ (0 < counted v → 0 < counted u)
held-right None None = (λ h g. g, λ h. refl)
held-right (Some i) None = (λ h g. omega arith, λ h. refl)
held-right None (Some j) = (λ h g. absurd (omega arith), λ h. absurd (omega (arith, h (omega arith))))
held-right (Some i) (Some j) = (λ h g. omega arith, λ h. refl)

-- rows 19 and 21: no piece is held by the second list alone exactly where each byte of it lies in the first
pub outside_bytes : (ls rs : List MemoryRange) → Ordered 0 ls → Ordered 0 rs
    → (any_outside ls rs ≡ false) ↔ ((a : ℕ) → 0 < holders rs a → 0 < holders ls a)
outside_bytes ls rs ol or = (there, back)
  where
    none_right : (any_right (walk ls rs) ≡ false) ↔ ((a : ℕ) → holders (picked is_right (walk ls rs)) a ≡ 0)
    none_right = any-right 0 (walk ls rs) (picked-ordered is_right 0 (walk ls rs) (walk-ordered ls rs ol or))

    at : (a : ℕ) → (counted_if is_right (held_by (item_at ls a) (item_at rs a)) ≡ 0) ↔ (0 < counted (item_at rs a) → 0 < counted (item_at ls a))
    at a = held-right (item_at ls a) (item_at rs a)

    there : any_right (walk ls rs) ≡ false → (a : ℕ) → 0 < holders rs a → 0 < holders ls a
    there h a =
        rw (holders_items 0 0 rs a or, holders_items 0 0 ls a ol)
        ((at a).0 (sym (walk-picked is_right ls rs ol or a) ∙ none_right.0 h a))

    back : ((a : ℕ) → 0 < holders rs a → 0 < holders ls a) → any_right (walk ls rs) ≡ false
    back h =
        none_right.1
        (λ a. walk-picked is_right ls rs ol or a ∙ (at a).1 (rw (holders_items 0 0 rs a or, holders_items 0 0 ls a ol) at (h a)))
