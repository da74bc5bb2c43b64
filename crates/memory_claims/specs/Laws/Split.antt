-- What a table is after one of its entries is split: in order, valid, and what it says of each byte.
use Rattle.std.specs.Prelude.{ℕ, ◌%◌, ◌≤◌, ◌<◌, ◌≡◌, refl, true, false, cond, List, [], ◌∷◌, ◌++◌, Some}
use Rattle.std.proofs.Common.{◌∙◌, append_assoc, arith, lt-ltb, le-ltb}
use Rattle.std.proofs.Math.Bool.{and-eq-true_iff}
use Rattle.std.proofs.Math.Decide.{dec_lt}
use Rattle.memory_range.specs.declared.range.MemoryRange.{MemoryRange}
use Rattle.memory_range.specs.Bytes.{Ordered, All}
use Rattle.memory_range.specs.Range.{range, holds}
use Rattle.memory_range.specs.Valid.{page_size, valid_range, all_valid_of}
use Rattle.memory_range.specs.Laws.Bytes.{Place, below, inside, above, place, ordered-before, all_append, all_split}
use Rattle.memory_range.specs.Laws.Range.{held}
use Rattle.memory_range.specs.Laws.Valid.{valid-parts, valid-range}
use Rattle.address_space.specs.declared.table.AddressRange.{AddressRange}
use Rattle.address_space.specs.declared.usage.AddressUsage.{AddressUsage}
use Rattle.address_space.specs.declared.usage.AddressUsage.TheVariants.{Free}
use Rattle.address_space.specs.Split.{free_entry, handed_out, left_free, split_entry}
use Rattle.address_space.specs.Table.{ranges_at}
use Rattle.memory_claims.specs.Claim.{note, note_at}
use Rattle.memory_claims.specs.Laws.Notes.{not_below, not_above, same-behind, said-behind}

-- what is left free, in front of other entries
module _ (n s t : ℕ) (rest : List AddressRange) where
  left-note : (a : ℕ) → note_at (left_free n s t ++ rest) a ≡ cond (holds (range s t) a) (Some (note n Free)) (note_at rest a)
  left-note a = go (dec_lt s t) (place (range s t) a)
    where
      go : Dec (s < t) → Place (range s t) a → note_at (left_free n s t ++ rest) a ≡ cond (holds (range s t) a) (Some (note n Free)) (note_at rest a)
      go (yes h) p = rw (lt-ltb s t h)
      go (no h) (below l f) = rw (le-ltb s t (omega arith), f)
      go (no h) (inside l k f) = absurd (omega arith)
      go (no h) (above l f) = rw (le-ltb s t (omega arith), f)

  left-ordered : (b : ℕ) → b ≤ s → s ≤ t → Ordered t (ranges_at rest) → Ordered b (ranges_at (left_free n s t ++ rest))
  left-ordered b p q o = go (dec_lt s t)
    where
      go : Dec (s < t) → Ordered b (ranges_at (left_free n s t ++ rest))
      go (yes h) = rw (lt-ltb s t h) (p, (h, o))
      go (no h) = rw (le-ltb s t (omega arith)) (ordered-before b t (ranges_at rest) (omega arith) o)

  left-valid : s % page_size ≡ 0 → t % page_size ≡ 0 → all_valid_of (ranges_at rest) ≡ true → all_valid_of (ranges_at (left_free n s t ++ rest)) ≡ true
  left-valid p q v = go (dec_lt s t)
    where
      go : Dec (s < t) → all_valid_of (ranges_at (left_free n s t ++ rest)) ≡ true
      go (yes h) = rw (lt-ltb s t h, valid-range (range s t) h p q) v
      go (no h) = rw (le-ltb s t (omega arith)) v

  left-all : (P : AddressRange → Type 0) → (s < t → P (free_entry n (range s t))) → All P rest → All P (left_free n s t ++ rest)
  left-all P f r = go (dec_lt s t)
    where
      go : Dec (s < t) → All P (left_free n s t ++ rest)
      go (yes h) = rw (lt-ltb s t h) (f h, r)
      go (no h) = rw (le-ltb s t (omega arith)) r

-- entries in the place of others behind the same entries: in order, and valid, where those were
ordered-behind : (xs ys : List AddressRange) → ((b : ℕ) → Ordered b (ranges_at xs) → Ordered b (ranges_at ys))
    → (b : ℕ) (es : List AddressRange) → Ordered b (ranges_at (es ++ xs)) → Ordered b (ranges_at (es ++ ys))
ordered-behind xs ys f b [] o = f b o
ordered-behind xs ys f b (e ∷ es) o = (o.0, (o.1.0, ordered-behind xs ys f e.range.end es o.1.1))

valid-behind : (xs ys : List AddressRange) → (all_valid_of (ranges_at xs) ≡ true → all_valid_of (ranges_at ys) ≡ true)
    → (es : List AddressRange) → all_valid_of (ranges_at (es ++ xs)) ≡ true → all_valid_of (ranges_at (es ++ ys)) ≡ true
valid-behind xs ys f [] v = f v
valid-behind xs ys f (e ∷ es) v =
    let both = (and-eq-true_iff (valid_range e.range) (all_valid_of (ranges_at (es ++ xs)))).0 v in
    rw both.0 (valid-behind xs ys f es both.1)

-- the valid entries of a table are so one by one
pub entry-valid : (lower : List AddressRange) (e : AddressRange) (higher : List AddressRange) → all_valid_of (ranges_at (lower ++ e ∷ higher)) ≡ true
    → valid_range e.range ≡ true
entry-valid [] e higher v = ((and-eq-true_iff (valid_range e.range) (all_valid_of (ranges_at higher))).0 v).0
entry-valid (x ∷ lower) e higher v =
    entry-valid lower e higher ((and-eq-true_iff (valid_range x.range) (all_valid_of (ranges_at (lower ++ e ∷ higher)))).0 v).1

-- a range with a byte that lies inside another
abbrev pub Inside : MemoryRange → MemoryRange → Type 0
Inside used r = (r.start ≤ used.start) × (used.start < used.end) × (used.end ≤ r.end)

-- the entry e between those lower and those higher is split around used, which lies inside it
module _ (lower : List AddressRange) (e : AddressRange) (higher : List AddressRange) (used : MemoryRange) (usage : AddressUsage)
    (within : Inside used e.range) where
  -- the parts and the entries above them, one after the other
  abbrev parts : List AddressRange
  parts = split_entry used usage e ++ higher

  abbrev top_part : List AddressRange
  top_part = left_free e.vnode used.end e.range.end ++ higher

  part-note : (a : ℕ) → note_at parts a
      ≡ cond (holds (range e.range.start used.start) a) (Some (note e.vnode Free))
      (cond (holds used a) (Some (note e.vnode usage)) (note_at top_part a))
  part-note a =
      rw append_assoc
      (left-note e.vnode e.range.start used.start (handed_out e.vnode usage used ∷ top_part) a)

  part-used : (a : ℕ) → holds used a ≡ true → note_at parts a ≡ Some (note e.vnode usage)
  part-used a h =
      let inner = (held used a).0 h in
      part-note a ∙ rw (not_above (range e.range.start used.start) a inner.0, h)

  part_other : e.usage ≡ Free → (a : ℕ) → holds used a ≡ false → note_at parts a ≡ note_at (e ∷ higher) a
  part_other free a h = part-note a ∙ rw (h, left-note e.vnode used.end e.range.end higher a, free) (go (place e.range a) (place used a))
    where
      go : Place e.range a → Place used a
          → cond (holds (range e.range.start used.start) a) (Some (note e.vnode Free))
          (cond (holds (range used.end e.range.end) a) (Some (note e.vnode Free)) (note_at higher a))
          ≡ cond (holds e.range a) (Some (note e.vnode Free)) (note_at higher a)
      go (below l f) p =
          rw (not_below (range e.range.start used.start) a l, not_below (range used.end e.range.end) a (omega arith), f)
      go (above l f) p =
          rw (not_above (range e.range.start used.start) a (omega arith), not_above (range used.end e.range.end) a l, f)
      go (inside l k f) (below m g) = rw ((held (range e.range.start used.start) a).1 (l, m), f)
      go (inside l k f) (inside m n g) = cc
      go (inside l k f) (above m g) =
          rw (not_above (range e.range.start used.start) a (omega arith), (held (range used.end e.range.end) a).1 (m, k), f)

  part-ordered : (b : ℕ) → Ordered b (ranges_at (e ∷ higher)) → Ordered b (ranges_at parts)
  part-ordered b o =
      let top = left-ordered e.vnode used.end e.range.end higher used.end (omega arith) within.2 o.1.1 in
      rw append_assoc
      (left-ordered e.vnode e.range.start used.start (handed_out e.vnode usage used ∷ top_part) b
      o.0 within.0 (omega arith, (within.1, top)))

  part-valid : valid_range used ≡ true → all_valid_of (ranges_at (e ∷ higher)) ≡ true → all_valid_of (ranges_at parts) ≡ true
  part-valid u v =
      let both = (and-eq-true_iff (valid_range e.range) (all_valid_of (ranges_at higher))).0 v in
      let whole = valid-parts e.range both.0 in
      let inner = valid-parts used u in
      let top = left-valid e.vnode used.end e.range.end higher inner.2 whole.2 both.1 in
      rw append_assoc
      (left-valid e.vnode e.range.start used.start (handed_out e.vnode usage used ∷ top_part)
      whole.1 inner.1 (rw u top))

  -- the table before, and after
  abbrev pub before : List AddressRange
  before = lower ++ e ∷ higher

  abbrev pub after : List AddressRange
  after = lower ++ split_entry used usage e ++ higher

  after-parts : after ≡ lower ++ parts
  after-parts = append_assoc lower (split_entry used usage e) higher

  pub split-ordered : (b : ℕ) → Ordered b (ranges_at before) → Ordered b (ranges_at after)
  split-ordered b o = rw after-parts (ordered-behind (e ∷ higher) parts part-ordered b lower o)

  pub split-valid : valid_range used ≡ true → all_valid_of (ranges_at before) ≡ true → all_valid_of (ranges_at after) ≡ true
  split-valid u v = rw after-parts (valid-behind (e ∷ higher) parts (part-valid u) lower v)

  -- what holds of every entry, and with an entry of each part of it, holds of every entry after
  pub split-all : (P : AddressRange → Type 0)
      → ((part : AddressRange) → part.vnode ≡ e.vnode → Inside part.range e.range → P e → P part)
      → All P before → All P after
  split-all P f h =
      let both = all_split P lower (e ∷ higher) h in
      let here = both.1.0 in
      let top =
      left-all e.vnode used.end e.range.end higher P (λ l. f _ refl (omega arith, l, omega arith) here) both.1.1 in
      let out = f (handed_out e.vnode usage used) refl within here in
      rw after-parts
      (all_append P lower parts both.0
      (rw append_assoc
      (left-all e.vnode e.range.start used.start (handed_out e.vnode usage used ∷ top_part) P
      (λ l. f _ refl (omega arith, l, omega arith) here) (out, top))))

  -- a byte of the range handed out was one of the entry, and has the new usage
  module _ (a : ℕ) (b : ℕ) (o : Ordered b (ranges_at before)) (h : holds used a ≡ true) where
    pub split_was : note_at before a ≡ Some (note e.vnode e.usage)
    split_was =
        let inner = (held used a).0 h in
        said-behind e higher b lower (e ∷ higher) a o (omega arith) ∙ rw ((held e.range a).1 (omega arith, omega arith))

    pub split_now : note_at after a ≡ Some (note e.vnode usage)
    split_now =
        let inner = (held used a).0 h in
        rw after-parts (said-behind e higher b lower parts a o (omega arith) ∙ part-used a h)

  -- every other byte of a free entry's table keeps what is said of it
  pub split_others : e.usage ≡ Free → (a : ℕ) → holds used a ≡ false → note_at after a ≡ note_at before a
  split_others free a h = rw after-parts (same-behind lower parts (e ∷ higher) a (part_other free a h))
