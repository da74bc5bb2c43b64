-- Laws of cutting ranges from a list of tagged ranges: what the list says of each byte afterwards, that it stays in order, and that neighbours
-- still touch only at seams, none of which lies inside a range.
use Rattle.std.specs.Prelude.{ℕ, ◌+◌, ◌≤◌, ◌<◌, min, max, ◌≡◌, refl, Bool, true, false, cond, List, [], ◌∷◌, ◌++◌, ltb, Option, Some, None}
use Rattle.std.proofs.Common.{sym, ◌∙◌, append_assoc, arith, zero-add, lt-ltb, le-ltb}
use Rattle.std.proofs.Math.Decide.{dec_lt}
use Rattle.memory_range.specs.declared.range.MemoryRange.{MemoryRange}
use Rattle.memory_range.specs.declared.range.TaggedRange.{TaggedRange}
use Rattle.memory_range.specs.Bytes.{holders, Ordered, All}
use Rattle.memory_range.specs.List.{ranges_in, tagged}
use Rattle.memory_range.specs.Range.{range, holds}
use Rattle.memory_range.specs.Laws.Bytes.{Place, below, inside, above, place, ordered-before}
use Rattle.memory_range.specs.Laws.Range.{held}
use Rattle.memory.specs.Laws.Overlap.{HasByte}
use Rattle.memory_claims.specs.Claim.{tag_at}
use Rattle.memory_claims.specs.Laws.Notes.{not_below, not_above}
use Rattle.ledger.specs.Ledger.{over, cut, cut_each}
use Rattle.ledger.specs.Laws.Same.{Behind, Joints, NoneInside, Whole, apart}

-- what is over, in front of other ranges: one range more, or none
over_either : (P : List TaggedRange → Type 0) (n s e : ℕ) (rest : List TaggedRange) → (s < e → P (tagged s e n ∷ rest)) → (e ≤ s → P rest)
    → P (over n s e ++ rest)
over_either P n s e rest f g = go (dec_lt s e)
  where
    go : Dec (s < e) → P (over n s e ++ rest)
    go (yes h) = rw (lt-ltb s e h) (f h)
    go (no h) = rw (le-ltb s e (omega arith)) (g (omega arith))

over_tag : (n s e : ℕ) (rest : List TaggedRange) (a : ℕ) → tag_at (over n s e ++ rest) a ≡ cond (holds (range s e) a) (Some n) (tag_at rest a)
over_tag n s e rest a =
    over_either (λ l. tag_at l a ≡ cond (holds (range s e) a) (Some n) (tag_at rest a)) n s e rest (λ h. refl) (λ h. go h (place (range s e) a))
  where
    go : e ≤ s → Place (range s e) a → tag_at rest a ≡ cond (holds (range s e) a) (Some n) (tag_at rest a)
    go h (below l f) = rw f
    go h (inside l k f) = absurd (omega arith)
    go h (above l f) = rw f

same_either : (t : Bool) (v : Option ℕ) → cond t v v ≡ v
same_either true v = refl
same_either false v = refl

-- the bytes of r are in no range any more; of every other byte the same is said
pub cut_tag : (r : MemoryRange) (xs : List TaggedRange) (a : ℕ) → tag_at (cut r xs) a ≡ cond (holds r a) None (tag_at xs a)
cut_tag r [] a = sym (same_either (holds r a) None)
cut_tag r (x ∷ xs) a =
    rw (append_assoc, over_tag, over_tag, cut_tag r xs a) (go (place x.range a) (place r a))
  where
    low : MemoryRange
    low = range x.range.start (min x.range.end r.start)

    high : MemoryRange
    high = range (max x.range.start r.end) x.range.end

    go : Place x.range a → Place r a
        → cond (holds low a) (Some x.tag) (cond (holds high a) (Some x.tag) (cond (holds r a) None (tag_at xs a)))
        ≡ cond (holds r a) None (cond (holds x.range a) (Some x.tag) (tag_at xs a))
    go (below l f) p = rw (not_below low a l, not_below high a (omega arith), f)
    go (above l f) p = rw (not_above low a (omega arith), not_above high a l, f)
    go (inside l k f) (below m g) = rw ((held low a).1 (l, omega arith), g, f)
    go (inside l k f) (inside m n g) = rw (not_above low a (omega arith), not_below high a (omega arith), g)
    go (inside l k f) (above m g) = rw ((held high a).1 (omega arith, k), same_either, g, f)

-- the part of x above r, if any, in front of other ranges; and in front of both the part below r, if any
abbrev top_of : MemoryRange → TaggedRange → List TaggedRange → List TaggedRange
top_of r x rest = over x.tag (max x.range.start r.end) x.range.end ++ rest

module _ (P : List TaggedRange → Type 0) (r : MemoryRange) (x : TaggedRange) (xs : List TaggedRange) where
  top_either : (max x.range.start r.end < x.range.end → P (tagged (max x.range.start r.end) x.range.end x.tag ∷ cut r xs))
      → P (cut r xs) → P (top_of r x (cut r xs))
  top_either f g = over_either P x.tag (max x.range.start r.end) x.range.end (cut r xs) f (λ h. g)

  low_either : (x.range.start < min x.range.end r.start
      → P (tagged x.range.start (min x.range.end r.start) x.tag ∷ top_of r x (cut r xs)))
      → P (top_of r x (cut r xs)) → P (cut r (x ∷ xs))
  low_either f g =
      rw append_assoc (over_either P x.tag x.range.start (min x.range.end r.start) (top_of r x (cut r xs)) f (λ h. g))

-- what holds of each range, and with a range of each part of it, holds afterwards
pub cut_all : (P : TaggedRange → Type 0)
    → ((x : TaggedRange) (s e : ℕ) → x.range.start ≤ s → s < e → e ≤ x.range.end → P x → P (tagged s e x.tag))
    → (r : MemoryRange) (xs : List TaggedRange) → All P xs → All P (cut r xs)
cut_all P f r [] h = tt
cut_all P f r (x ∷ xs) h =
    let rest = cut_all P f r xs h.1 in
    let top = top_either (All P) r x xs (λ l. (f x _ _ (omega arith) l (omega arith) h.0, rest)) rest in
    low_either (All P) r x xs (λ l. (f x _ _ (omega arith) l (omega arith) h.0, top)) top

-- the ranges stay in order
pub cut-ordered : (b : ℕ) (r : MemoryRange) (xs : List TaggedRange) → r.start ≤ r.end → Ordered b (ranges_in xs) → Ordered b (ranges_in (cut r xs))
cut-ordered b r [] h o = tt
cut-ordered b r (x ∷ xs) h o =
    let rest = cut-ordered x.range.end r xs h o.1.1 in
    low_either (λ l. Ordered b (ranges_in l)) r x xs
    (λ l. (o.0, (l, top rest (min x.range.end r.start) (omega arith) (omega arith))))
    (top rest b (omega arith) (omega arith))
  where
    top : Ordered x.range.end (ranges_in (cut r xs)) → (c : ℕ) → c ≤ x.range.end → c ≤ max x.range.start r.end
        → Ordered c (ranges_in (top_of r x (cut r xs)))
    top rest c k m =
        top_either (λ l. Ordered c (ranges_in l)) r x xs (λ l. (m, (l, rest)))
        (ordered-before c x.range.end (ranges_in (cut r xs)) k rest)

-- the ranges that touch do so at seams: the two parts of one range lie apart, and parts of two ranges touch only where these did
module _ (Seam : ℕ → Type 0) (r : MemoryRange) (full : r.start < r.end) where
  cut-behind : (e : ℕ) (xs : List TaggedRange) → Ordered e (ranges_in xs) → Behind Seam e xs → Behind Seam e (cut r xs)
  cut-behind e [] o j = tt
  cut-behind e (x ∷ xs) o j =
      let rest = apart Seam x.range.end e (cut r xs) (cut-ordered x.range.end r xs (omega arith) o.1.1) (omega arith) in
      low_either (Behind Seam e) r x xs (λ l. j) (top_either (Behind Seam e) r x xs (λ l t. j (omega arith)) rest)

  pub cut_joints : (b : ℕ) (xs : List TaggedRange) → Ordered b (ranges_in xs) → Joints Seam xs → Joints Seam (cut r xs)
  cut_joints b [] o j = tt
  cut_joints b (x ∷ xs) o j =
      let rest = cut_joints x.range.end xs o.1.1 j.1 in
      let behind = cut-behind x.range.end xs o.1.1 j.0 in
      let top = top_either (Joints Seam) r x xs (λ l. (behind, rest)) rest in
      low_either (Joints Seam) r x xs
      (λ l. (top_either (Behind Seam m) r x xs (λ k t. absurd (omega arith)) (go (dec_lt m x.range.end) behind), top))
      top
    where
      m : ℕ
      m = min x.range.end r.start

      go : Dec (m < x.range.end) → Behind Seam x.range.end (cut r xs) → Behind Seam m (cut r xs)
      go (yes h) behind = apart Seam x.range.end m (cut r xs) (cut-ordered x.range.end r xs (omega arith) o.1.1) h
      go (no h) behind = let same : m ≡ x.range.end = omega arith in rw same behind

  pub cut_whole : (xs : List TaggedRange) → Whole Seam xs → Whole Seam (cut r xs)
  cut_whole = cut_all (NoneInside Seam) (λ x s e l k h w a p q. w a (omega arith) (omega arith)) r

-- ranges that are cut in turn
pub each-ordered : (b : ℕ) (rs : List MemoryRange) (xs : List TaggedRange) → All HasByte rs → Ordered b (ranges_in xs)
    → Ordered b (ranges_in (cut_each rs xs))
each-ordered b [] xs h o = o
each-ordered b (r ∷ rs) xs h o = each-ordered b rs (cut r xs) h.1 (cut-ordered b r xs (omega (arith, h.0)) o)

module _ (Seam : ℕ → Type 0) where
  pub each_joints : (b : ℕ) (rs : List MemoryRange) (xs : List TaggedRange) → All HasByte rs → Ordered b (ranges_in xs) → Joints Seam xs
      → Joints Seam (cut_each rs xs)
  each_joints b [] xs h o j = j
  each_joints b (r ∷ rs) xs h o j =
      each_joints b rs (cut r xs) h.1 (cut-ordered b r xs (omega (arith, h.0)) o) (cut_joints Seam r h.0 b xs o j)

  pub each_whole : (rs : List MemoryRange) (xs : List TaggedRange) → All HasByte rs → Whole Seam xs → Whole Seam (cut_each rs xs)
  each_whole [] xs h w = w
  each_whole (r ∷ rs) xs h w = each_whole rs (cut r xs) h.1 (cut_whole Seam r h.0 xs w)

-- a byte that one of them holds is in no range any more; of every other byte the same is said
pub each_tag : (rs : List MemoryRange) (xs : List TaggedRange) (a : ℕ) → tag_at (cut_each rs xs) a ≡ cond (ltb 0 (holders rs a)) None (tag_at xs a)
each_tag [] xs a = refl
each_tag (r ∷ rs) xs a = each_tag rs (cut r xs) a ∙ rw (cut_tag r xs a) (go (holds r a))
  where
    go : (t : Bool) → cond (ltb 0 (holders rs a)) None (cond t None (tag_at xs a)) ≡ cond (ltb 0 (cond t 1 0 + holders rs a)) None (tag_at xs a)
    go true = rw (lt-ltb 0 (1 + holders rs a) (omega arith)) (same_either (ltb 0 (holders rs a)) None)
    go false = rw zero-add
