-- Laws of the build: what the first places of three lists of numbers hold, as callers may hold ranges, and what a sort
-- of them leaves there; and how the answers of its parts make that of the build.
use Rattle.std.specs.Prelude.{ℕ, ◌+◌, ◌≤◌, ◌<◌, ◌≡◌, refl, Bool, true, false, not, List, [], ◌∷◌, ◌++◌, ltb, eqb, length, take, drop, Option, Some, None, Result}
use Rattle.std.proofs.Common.{ap, sym, ◌∙◌, append-nil, arith, lt-ltb, le-ltb, ne_eqb, length-take, drop_of_length-le}
use Rattle.std.proofs.Math.Bool.{or-true}
use Rattle.std.proofs.Math.Seq.{take-append_seam}
use Rattle.std.specs.List.{refill}
use Rattle.refusal.specs.Number.{reserved_overlap, reserved_outside_used, pool_ranges}
use Rattle.refusal.specs.Rows.{refused_if, unless}
use Rattle.refusal.specs.Laws.Rows.{downward_last}
use Rattle.memory_range.specs.declared.range.MemoryRange.{MemoryRange}
use Rattle.memory_range.specs.declared.range.TaggedRange.{TaggedRange}
use Rattle.memory_range.specs.List.{ranges_of, ranges_in, first_tagged, starts_of, ends_of, tags_of}
use Rattle.range_lists.specs.Sort.{sort_by_start, starts_sorted, ends_sorted, tags_sorted}
use Rattle.memory_range.specs.Valid.{all_valid_of, ascend}
use Rattle.memory_range.specs.Laws.List.{length-tagged, length_starts, length-ends, length_tags, fields-tagged, ranges_alike, length-first}
use Rattle.range_lists.specs.Laws.Sort.{sort-length}
use Rattle.memory_range.specs.Laws.Valid.{valid-parts}
use Rattle.address_space.specs.declared.table.AddressSpaceManager.{AddressSpaceManager}
use Rattle.address_space.specs.declared.usage.ReservedMemoryType.TheVariants.{Vtl2GpaPool}
use Rattle.memory.specs.declared.builder.AddressSpaceManagerBuilder.{AddressSpaceManagerBuilder}
use Rattle.memory.specs.Build.{refused, build, filled, has_pool, init_as, refused_with}
use Rattle.memory.specs.Builder.{all_as, reserved_of, singles_valid}
use Rattle.memory.specs.Rows.{rows_refusal}
use Rattle.memory.specs.Used.{max_pools, max_used, any_overlap, any_outside, pieces_used, pools_bad, used_of, used_refusal, CutUp, ListedIn}
use Rattle.memory.specs.Laws.Overlap.{HasByte, both_have, all_have, valid_have, singles_each, holders_as}
use Rattle.memory.specs.Laws.Overlap.{reserved-has_bytes, reserved-ordered, sorted-overlap, pieces-cut_up}
use Rattle.memory.specs.Laws.Rows.{rows-passed}
use Rattle.refusal.specs.declared.Refusal.{Refusal}

-- ranges that are sorted in the places of a list
pub sorted-in-place : {xs ys zs ss : List TaggedRange} → ys ≡ xs → zs ≡ ys → ss ≡ sort_by_start zs → refill (length ys) ys ss ≡ sort_by_start xs
sorted-in-place {xs} y z s =
    let ss = sort_by_start xs in
    rw (s, z, y) (ap (λ (n : ℕ). take n (ss ++ drop (length ss) xs)) (sym (sort-length xs)) ∙ take-append_seam ss (drop (length ss) xs))

-- the first n places of an array hold a field of ranges, as the sort leaves them
sorted-field : (field : List TaggedRange → List ℕ) → ((xs : List TaggedRange) → length (field xs) ≡ length xs)
    → (xs : List TaggedRange) (n : ℕ) (l : List ℕ) {l' : List ℕ} → length xs ≡ n → l' ≡ field (sort_by_start xs) ++ drop (length xs) (take n l)
    → take n (l' ++ drop n l) ≡ field (sort_by_start xs)
sorted-field field len xs n l h e =
    let nothing = drop_of_length-le (take n l) {i = n} (simp length-take (omega arith)) in
    let same : n ≡ length (field (sort_by_start xs)) = sym h ∙ sym (sort-length xs) ∙ sym (len (sort_by_start xs)) in
    rw (e, h, nothing, append-nil, same) (take-append_seam (field (sort_by_start xs)) (drop (length (field (sort_by_start xs))) l))

-- the first n places of three arrays are there, and hold the ranges
pub record Held (n : ℕ) (xs : List TaggedRange) (ss es ts : List ℕ) : Type 0 where
  pub room : (n ≤ length ss) × (n ≤ length es) × (n ≤ length ts)
  pub found : first_tagged n ss es ts ≡ xs

-- n ranges have n places
pub held-counted : {n : ℕ} {xs : List TaggedRange} {ss es ts : List ℕ} → first_tagged n ss es ts ≡ xs → length xs ≡ n → Held n xs ss es ts
held-counted {n} {xs} {ss} {es} {ts} e h =
    let l = simp (length-tagged, length-take) at (ap length e ∙ h) in
    record { room = (omega arith, omega arith, omega arith); found = e }

module _ {n : ℕ} {xs : List TaggedRange} {ss es ts : List ℕ} (h : Held n xs ss es ts) where
  pub held-places : length xs ≡ n
  held-places = let l = rw h.found at (length-first n ss es ts) in let r = h.room in omega arith

  pub held-ranges : ranges_of (take n ss) (take n es) ≡ ranges_in xs
  held-ranges =
      let r = h.room in
      sym (ranges_alike (take n ss) (take n es) (take n ts) (simp length-take (omega arith))) ∙ ap ranges_in h.found

  -- the sort of these places leaves the ranges there, sorted
  pub held_sorted : {ss' es' ts' : List ℕ} → ss' ≡ starts_sorted (take n ss) (take n es) (take n ts)
      → es' ≡ ends_sorted (take n ss) (take n es) (take n ts) → ts' ≡ tags_sorted (take n ss) (take n es) (take n ts)
      → Held n (sort_by_start xs) (ss' ++ drop n ss) (es' ++ drop n es) (ts' ++ drop n ts)
  unfolding starts_sorted ends_sorted tags_sorted
  held_sorted p q r =
      let c = held-places in
      let x = sorted-field starts_of length_starts xs n ss c (rw h.found at p) in
      let y = sorted-field ends_of length-ends xs n es c (rw h.found at q) in
      let z = sorted-field tags_of length_tags xs n ts c (rw h.found at r) in
      held-counted (rw (x, y, z) (fields-tagged (sort_by_start xs))) (sort-length xs ∙ c)

-- the used range has a byte
used-has_byte : (b : AddressSpaceManagerBuilder) → singles_valid b ≡ true → HasByte b.bootshim_used
used-has_byte b v = (valid-parts b.bootshim_used (singles_each b v).0).0

-- whether two reserved ranges overlap, and row 19
abbrev pub overlap : AddressSpaceManagerBuilder → List MemoryRange → Bool
overlap b configs = any_overlap (ranges_in (reserved_of b configs))

abbrev pub outside_row : AddressSpaceManagerBuilder → List MemoryRange → Option Refusal
outside_row b configs = refused_if (any_outside (b.bootshim_used ∷ []) (ranges_in (sort_by_start (reserved_of b configs)))) reserved_outside_used

-- the reserved ranges of valid ranges: sorted, they ascend exactly where no two overlap, and there the pieces are the used range cut up
module _ (b : AddressSpaceManagerBuilder) (configs : List MemoryRange) (v : singles_valid b ≡ true) (w : all_valid_of configs ≡ true) where
  pub reserved-ascend : ascend (ranges_in (sort_by_start (reserved_of b configs))) ≡ not (overlap b configs)
  reserved-ascend =
      sorted-overlap (reserved_of b configs) (ranges_in (reserved_of b configs)) (reserved-has_bytes b configs v w) (λ a. refl)

  pub used-cut_up : overlap b configs ≡ false → CutUp b.bootshim_used (pieces_used b configs)
  used-cut_up h =
      pieces-cut_up b.bootshim_used (sort_by_start (reserved_of b configs)) (used-has_byte b v) (reserved-ordered b configs v w h)

-- pool ranges behind the pieces of the used range: sorted, all ascend exactly where no two pool ranges overlap and none overlaps the used range
pub pools-ascend : (used : MemoryRange) (pieces : List TaggedRange) (pools : List MemoryRange) → CutUp used pieces
    → all_valid_of pools ≡ true → ascend (ranges_in (sort_by_start (pieces ++ all_as Vtl2GpaPool pools))) ≡ not (any_overlap (used ∷ pools))
pools-ascend used pieces pools cut v =
    sorted-overlap (pieces ++ all_as Vtl2GpaPool pools) (used ∷ pools)
    (both_have pieces (all_as Vtl2GpaPool pools) cut.0 (all_have Vtl2GpaPool pools (valid_have pools v))) (λ a. omega (arith, holders_as pieces Vtl2GpaPool pools a, cut.1 a))

-- row 20, by each of its tests
module _ (used : MemoryRange) (pieces : ℕ) (pools : List MemoryRange) where
  pub pools_many : max_pools < length pools → pools_bad used pieces pools ≡ true
  pools_many h = rw (lt-ltb max_pools (length pools) h)

  pub pools-beyond : max_used < pieces + length pools → pools_bad used pieces pools ≡ true
  pools-beyond h = rw (lt-ltb max_used (pieces + length pools) h) (simp or-true)

  pub pools-overlap : any_overlap (used ∷ pools) ≡ true → pools_bad used pieces pools ≡ true
  pools-overlap h = rw h (or-true (ltb max_pools (length pools)))

  pub pools_good : length pools ≤ max_pools → pieces + length pools ≤ max_used → any_overlap (used ∷ pools) ≡ false → pools_bad used pieces pools ≡ false
  pools_good h k o = rw (le-ltb max_pools (length pools) h, o, le-ltb max_used (pieces + length pools) k)

-- rows 18 to 20, each where those above it pass
module _ (b : AddressSpaceManagerBuilder) (configs pools : List MemoryRange) where
  pub used-overlap : overlap b configs ≡ true → used_refusal b configs pools ≡ Some reserved_overlap
  unfolding used_refusal
  used-overlap h = rw h

  pub used-outside : {n : Refusal} → overlap b configs ≡ false → outside_row b configs ≡ Some n → used_refusal b configs pools ≡ Some n
  unfolding used_refusal
  used-outside h k = rw (h, k)

  -- the last of them, with what is answered for the pool ranges and what the list holds then
  module _ (h : overlap b configs ≡ false) (k : outside_row b configs ≡ None) where
    used-pools : used_refusal b configs pools ≡ refused_if (pools_bad b.bootshim_used (length (pieces_used b configs)) pools) pool_ranges
    unfolding used_refusal
    used-pools = rw (h, k) (downward_last (refused_if (pools_bad b.bootshim_used (length (pieces_used b configs)) pools) pool_ranges))

    pub used-listed : {r : Result (Unit {0}) Refusal} {xs list : List TaggedRange} → xs ≡ pieces_used b configs
        → ListedIn (refused_if (pools_bad b.bootshim_used (length xs) pools) pool_ranges) (sort_by_start (xs ++ all_as Vtl2GpaPool pools)) r list
        → ListedIn (used_refusal b configs pools) (used_of b configs pools) r list
    unfolding used_of
    used-listed found listed = rw used-pools (rw found at listed)

-- whether there are pool ranges, by their count
pub has-pool : (pools : List MemoryRange) → not (eqb (length pools) 0) ≡ has_pool pools
has-pool [] = refl
has-pool (r ∷ rs) = rw (ne_eqb (length (r ∷ rs)) 0 (λ z. omega arith))

module _ (b : AddressSpaceManagerBuilder) (ram : List TaggedRange) (configs pools : List MemoryRange) where
  -- where one of rows 18 to 20 refuses, nothing is filled; where they pass, the table is
  pub build_stopped : (m : AddressSpaceManager) {n : Refusal} → used_refusal b configs pools ≡ Some n
      → refused_with m n ≡ init_as m (has_pool pools) (unless refused (used_refusal b configs pools) (filled ram (used_of b configs pools)))
  build_stopped m e = rw e

  pub build-filled : (m : AddressSpaceManager) {t : Bool} {used : List TaggedRange} → t ≡ has_pool pools → used ≡ used_of b configs pools
      → used_refusal b configs pools ≡ None
      → init_as m t (filled ram used) ≡ init_as m (has_pool pools) (unless refused (used_refusal b configs pools) (filled ram (used_of b configs pools)))
  build-filled m p u e = rw (p, u, e)

  -- the rows before them: one refuses, or all pass, and the table is empty
  module _ (entries : ℕ) where
    pub build-refused : {n : Refusal} → rows_refusal b entries (ranges_in ram) configs pools ≡ Some n → build b entries ram configs pools ≡ refused n
    unfolding build
    build-refused e = rw e

    module _ (e : rows_refusal b entries (ranges_in ram) configs pools ≡ None) where
      pub build-passed : build b entries ram configs pools ≡ unless refused (used_refusal b configs pools) (filled ram (used_of b configs pools))
      unfolding build
      build-passed = rw e

      pub rows_empty : rows_refusal b 0 (ranges_in ram) configs pools ≡ None
      rows_empty = rw (rows-passed b entries (ranges_in ram) configs pools e).6 at e
