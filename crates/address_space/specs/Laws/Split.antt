-- Laws of the split: how many entries it makes, what the array is after its stores, and what a request is answered
-- that is placed at an index.
use Rattle.std.specs.Prelude.{ℕ, zero, suc, ◌+◌, ◌-◌, ◌≤◌, ◌<◌, Bool, true, false, cond, ◌||◌, ◌≡◌, refl, List, [], ◌∷◌, ◌++◌, ltb, length, take, drop, get_or, set, Option, Ok}
use Rattle.std.proofs.Common.{ap, sym, ◌∙◌, append_assoc, append-nil, add-zero, add-one, arith, lt-ltb, le-ltb, length-append, length-take, length-drop, take-append-drop, drop_of_length-le, length-take-le, take-take, drop_at, drop-cons, take-suc, set-set, get_or-take}
use Rattle.std.proofs.Math.Decide.{dec_lt}
use Rattle.std.proofs.Math.ListN.{get_or-append}
use Rattle.std.specs.List.{copy_within}
use Rattle.std.proofs.lemmas.List.{take-append-le, set_at, drop-take}
use Rattle.std.proofs.Math.Seq.{take-append_seam}
use Rattle.std.proofs.lemmas.List.Edits.{sets, sets-eq}
use Rattle.refusal.specs.Number.{table_full}
use Rattle.memory_range.specs.declared.range.MemoryRange.{MemoryRange}
use Rattle.memory_range.specs.Bytes.{holders}
use Rattle.memory_range.specs.Range.{range, length_of, holds, split_range_at}
use Rattle.memory_range.specs.Laws.Bytes.{Place, below, inside, above, place}
use Rattle.memory_range.specs.Laws.Range.{cut-once}
use Rattle.host_params.specs.declared.AllocationPolicy.{AllocationPolicy}
use Rattle.host_params.specs.declared.AllocationPolicy.TheVariants.{HighMemory}
use Rattle.host_params.specs.declared.AllocationType.{AllocationType}
use Rattle.address_space.specs.declared.request.Allocation.{Allocation}
use Rattle.address_space.specs.declared.split.SplitParts.{SplitParts}
use Rattle.address_space.specs.declared.table.AddressRange.{AddressRange}
use Rattle.address_space.specs.declared.table.AddressSpaceManager.{AddressSpaceManager}
use Rattle.address_space.specs.declared.usage.AddressUsage.{AddressUsage}
use Rattle.address_space.specs.Fit.{aligned_to}
use Rattle.address_space.specs.Request.{refused_with, allocation_as, placed}
use Rattle.address_space.specs.Split.{allotted, free_entry, handed_out, left_free, part_count, split_entry, parts_of}
use Rattle.address_space.specs.Table.{max_address_ranges, entries_of, pool_of, table_with, no_entry, ranges_at}
use Rattle.address_space.specs.Usage.{usage_for, is_pool}

-- a range of at most so many bytes is handed out from the top as a whole
pub allotted-all : (len : ℕ) (r : MemoryRange) → length_of r ≤ len → (split_range_at r 0).right ≡ allotted HighMemory len r
allotted-all len r h =
    let z : length_of r - len ≡ 0 = omega arith in
    ap (λ (n : ℕ). (split_range_at r n).right) (sym z)

-- a remainder needs at most one entry
pub part-one : (s e : ℕ) → part_count s e ≤ 1
part-one s e = go (ltb s e)
  where
    go : (t : Bool) → cond t 1 0 ≤ 1
    go true = omega arith
    go false = omega arith

-- what is left free has as many entries as are counted
left-length : (n s e : ℕ) → length (left_free n s e) ≡ part_count s e
left-length n s e = go (ltb s e)
  where
    go : (t : Bool) → length (cond t (free_entry n (range s e) ∷ []) []) ≡ cond t 1 0
    go true = refl
    go false = refl

-- an entry becomes one more than the parts that are left free
pub split-length : (used : MemoryRange) (usage : AddressUsage) (e : AddressRange)
    → length (split_entry used usage e) ≡ 1 + (part_count e.range.start used.start + part_count used.end e.range.end)
split-length used usage e =
    let below = left-length e.vnode e.range.start used.start in
    let above = left-length e.vnode used.end e.range.end in
    rw length-append (omega arith)

-- the entries of a table that has them put in are those entries
pub entries_with : (m : AddressSpaceManager) (es : List AddressRange) (flag : Bool) → entries_of (table_with m es flag) ≡ es
entries_with m es flag = take-append_seam es (drop (length es) m.address_space)

module _ {A : Type 0} where
  -- the first k of a list are as many of its first as there are
  pub take_counted : (k : ℕ) (l : List A) → take (length (take k l)) l ≡ take k l
  take_counted zero l = refl
  take_counted (suc k) [] = refl
  take_counted (suc k) (x ∷ xs) = ap (λ (l : List A). x ∷ l) (take_counted k xs)

  -- the list in which the elements from the index f up to k stand by places further up
  abbrev pub moved_up : ℕ → ℕ → ℕ → List A → List A
  moved_up f k by l = take (f + by) l ++ drop f (take k l) ++ drop (k + by) l

  -- it is what a copy of those elements leaves
  pub copied-up : (f k by : ℕ) (l : List A) → f ≤ k → copy_within l f k (f + by) ≡ moved_up f k by l
  copied-up f k by l h =
      let n : f + (k - f) ≡ k = omega arith in
      let e : f + by + (k - f) ≡ k + by = omega arith in
      let t : take (k - f) (drop f l) ≡ drop f (take k l) = sym (drop-take f (k - f) l) ∙ rw n in
      rw (e, t)

  module _ (k by : ℕ) (l : List A) (fits : k + by ≤ length l) where
    -- nothing is moved before the first turn
    pub moved_none : l ≡ moved_up k k by l
    moved_none =
        let g : length (take k l) ≤ k = omega (arith, length-take k l) in
        rw (drop_of_length-le (take k l) g, append-nil) (sym (take-append-drop (k + by) l))

    -- a turn moves the element below
    pub moved-one : (f : ℕ) (d : A) (l' : List A) → f < k → l' ≡ moved_up (f + 1) k by l → set l' (f + by) (get_or l' f d) ≡ moved_up f k by l
    moved-one f d l' h e =
        let n : length (take (f + by) l) ≡ f + by = length-take-le (f + by) l (omega arith) in
        let s : f + 1 + by ≡ suc (f + by) = omega arith in
        let t : take (f + 1 + by) l ≡ take (f + by) l ++ get_or l (f + by) d ∷ [] = rw s (take-suc l (f + by) d (omega arith)) in
        let p : l' ≡ take (f + by) l ++ get_or l (f + by) d ∷ (drop (f + 1) (take k l) ++ drop (k + by) l) = e ∙ rw t (simp append_assoc) in
        let i : f < length (take (f + 1 + by) l) = omega (arith, length-take (f + 1 + by) l) in
        let j : f < f + 1 + by = omega arith in
        let g : get_or l' f d ≡ get_or l f d = rw (e, append_assoc, get_or-append, get_or-take) in
        let q : drop f (take k l) ≡ get_or l f d ∷ drop (f + 1) (take k l) =
        rw (add-one, drop-cons (take k l) f d (omega (arith, length-take k l)), get_or-take)
        in
        rw (g, p, set_at, q, append_assoc)

    -- the parts stored from at on, in the place of the element at at
    stored-parts : (at : ℕ) (parts l' : List A) → at < k → length parts ≡ 1 + by → l' ≡ moved_up (at + 1) k by l
        → sets l' at parts ≡ take at (take k l) ++ parts ++ drop (at + 1) (take k l) ++ drop (k + by) l
    stored-parts at parts l' h n e =
        let z : at + length parts ≡ at + 1 + by = omega arith in
        let w : length (take (at + 1 + by) l) ≡ at + 1 + by = length-take-le (at + 1 + by) l (omega arith) in
        let v : length l' ≡ length l = rw e (simp (length-append, length-drop, length-take) (omega arith)) in
        let low : at ≤ at + 1 + by = omega arith in
        let lower : at ≤ length (take (at + 1 + by) l) = omega arith in
        let d : drop (at + 1 + by) l' ≡ drop (at + 1) (take k l) ++ drop (k + by) l = rw (e, append_assoc, drop_at) in
        let t : take at l' ≡ take at (take k l) =
        rw (e, append_assoc, take-append-le, take-take at (at + 1 + by) l low, take-take at k l (omega arith))
        in
        sets-eq parts l' at (omega arith) ∙ rw (z, d, t) (simp append_assoc)

  -- an element stored, with one in front of it or none and one behind it or none: the first, itself and the last of
  -- them stored one after the other
  stored-three : (l : List A) (at : ℕ) (f h g : A) (s t : Bool)
      → set (set (set l at (cond s f h)) (at + cond s 1 0) h) (at + (cond s 1 0 + cond t 1 0)) (cond t g h)
      ≡ sets l at (cond s (f ∷ []) [] ++ h ∷ cond t (g ∷ []) [])
  stored-three l at f h g true true =
      let y : at + 1 ≡ suc at = omega arith in
      let z : at + 2 ≡ suc (suc at) = omega arith in
      rw (y, z)
  stored-three l at f h g true false = let y : at + 1 ≡ suc at = omega arith in rw (y, set-set)
  stored-three l at f h g false true = let y : at + 1 ≡ suc at = omega arith in rw (add-zero, y, set-set)
  stored-three l at f h g false false = rw (add-zero, set-set, set-set)

-- the entry at an index of the table is the array's
pub entry_at : (k at : ℕ) (l : List AddressRange) → at < length (take k l) → get_or (take k l) at no_entry ≡ get_or l at no_entry
entry_at k at l h = get_or-take k l at no_entry (omega (arith, length-take k l))

-- the table with an entry split has so many more
pub split-total : (at : ℕ) (l : List AddressRange) (used : MemoryRange) (usage : AddressUsage) (e : AddressRange) → at < length l
    → length (take at l ++ split_entry used usage e ++ drop (at + 1) l)
    ≡ length l + (part_count e.range.start used.start + part_count used.end e.range.end)
split-total at l used usage e h =
    simp (length-append (take at l ++ split_entry used usage e), length-append (take at l), length-take, length-drop, split-length)
    (omega arith)

-- what is below the range handed out is among what is added, and that is two at most
pub parts_few : (used : MemoryRange) (usage : AddressUsage) (e : AddressRange) (p : SplitParts) → p ≡ parts_of used usage e
    → (p.below ≤ p.added) × (p.added ≤ 2)
parts_few used usage e p q =
    let low = part-one e.range.start used.start in
    let high = part-one used.end e.range.end in
    rw q (omega arith, omega arith)

-- what the stores of a split's parts leave, in an array in which the entries above were moved up
module _ (k at count : ℕ) (l l' : List AddressRange) (used : MemoryRange) (usage : AddressUsage) (e : AddressRange) (parts : SplitParts)
    (within : at < length (take k l))
    (counted : count ≡ length (take k l))
    (split : parts ≡ parts_of used usage e) where
  split_stored : count + parts.added ≤ length l → l' ≡ moved_up (at + 1) count parts.added l
      → set (set (set l' at parts.first) (at + parts.below) parts.used) (at + parts.added) parts.last
      ≡ take at (take k l) ++ split_entry used usage e ++ drop (at + 1) (take k l) ++ drop (count + parts.added) l
  split_stored fits moved =
      let same : take count l ≡ take k l = rw (counted, take_counted k l) in
      let low = free_entry e.vnode (range e.range.start used.start) in
      let high = free_entry e.vnode (range used.end e.range.end) in
      let below = ltb e.range.start used.start in
      let above = ltb used.end e.range.end in
      let n : length (split_entry used usage e) ≡ 1 + parts.added = rw split (split-length used usage e) in
      rw split (stored-three l' at low (handed_out e.vnode usage used) high below above)
      ∙ stored-parts count parts.added l fits at (split_entry used usage e) l' (omega arith) n moved
      ∙ rw same

-- the answer to a request that is placed at an index, where used is what the array's entry there gives, and parts are
-- those of its split
module _ (m : AddressSpaceManager) (at len : ℕ) (type : AllocationType) (policy : AllocationPolicy) (alignment : Option ℕ) (used : MemoryRange)
    (parts : SplitParts) (count : ℕ)
    (within : at < length (entries_of m))
    (counted : count ≡ length (entries_of m))
    (given : used ≡ allotted policy len (aligned_to alignment (get_or m.address_space at no_entry).range))
    (split : parts ≡ parts_of used (usage_for type) (get_or m.address_space at no_entry)) where
  abbrev chosen : AddressRange
  chosen = get_or m.address_space at no_entry

  abbrev placed_at : Allocation
  placed_at =
      allocation_as m type
      (placed len type policy alignment (take at (entries_of m)) (get_or (entries_of m) at no_entry) (drop (at + 1) (entries_of m)))

  abbrev after : List AddressRange
  after = take at (entries_of m) ++ split_entry used (usage_for type) chosen ++ drop (at + 1) (entries_of m)

  -- how many entries there are afterwards
  total : length after ≡ count + parts.added
  total = rw (split, counted) (split-total at (entries_of m) used (usage_for type) chosen within)

  -- the parts are too many
  pub placed_full : max_address_ranges < count + parts.added → refused_with m table_full ≡ placed_at
  placed_full h =
      let t = total in
      rw (entry_at m.count at m.address_space within, ← given, lt-ltb max_address_ranges (length after) (omega arith))

  -- they are not, and are stored in an array in which the entries above were moved up
  pub placed_within : (l : List AddressRange) (flag : Bool) → count + parts.added ≤ max_address_ranges
      → length m.address_space ≡ max_address_ranges
      → l ≡ moved_up (at + 1) count parts.added m.address_space
      → flag ≡ (pool_of m || is_pool type)
      → ◌≡◌ {A = Allocation}
      (record {
        answer = Ok (record { range = used; vnode = chosen.vnode });
        manager = record {
          address_space = set (set (set l at parts.first) (at + parts.below) parts.used) (at + parts.added) parts.last;
          count = count + parts.added;
          vtl2_pool = flag;
        };
      })
      placed_at
  placed_within l flag h n moved f =
      let t = total in
      rw (
        entry_at m.count at m.address_space within,
        ← given,
        le-ltb max_address_ranges (length after) (omega arith),
        f,
        t,
        split_stored m.count at count m.address_space l used (usage_for type) chosen parts within counted split (omega arith) moved,
      )

-- what is left free, in front of other entries, holds each of its bytes once
left-holders : (n s t : ℕ) (rest : List AddressRange) (a : ℕ)
    → holders (ranges_at (left_free n s t ++ rest)) a ≡ cond (holds (range s t) a) 1 0 + holders (ranges_at rest) a
left-holders n s t rest a = go (dec_lt s t) (place (range s t) a)
  where
    go : Dec (s < t) → Place (range s t) a
        → holders (ranges_at (left_free n s t ++ rest)) a ≡ cond (holds (range s t) a) 1 0 + holders (ranges_at rest) a
    go (yes h) p = rw (lt-ltb s t h)
    go (no h) (below l f) = rw (le-ltb s t (omega arith), f) (omega arith)
    go (no h) (inside l k f) = absurd (omega arith)
    go (no h) (above l f) = rw (le-ltb s t (omega arith), f) (omega arith)

-- the parts of a split are the entry's bytes, once each, where the range handed out lies in the entry
pub split_bytes : (used : MemoryRange) (usage : AddressUsage) (e : AddressRange) (a : ℕ)
    → e.range.start ≤ used.start → used.start ≤ used.end → used.end ≤ e.range.end
    → holders (ranges_at (split_entry used usage e)) a ≡ cond (holds e.range a) 1 0
split_bytes used usage e a l m h =
    let n = e.vnode in
    let out = handed_out n usage used in
    let higher : List AddressRange = left_free n used.end e.range.end in
    let top : holders (ranges_at (higher ++ [])) a ≡ cond (holds (range used.end e.range.end) a) 1 0 + 0 =
    left-holders n used.end e.range.end [] a in
    omega (
      arith,
      left-holders n e.range.start used.start (out ∷ higher) a,
      rw (append-nil higher) at top,
      cut-once used.start used.end e.range.end a m (omega arith),
      cut-once e.range.start used.start e.range.end a l (omega arith),
    )
