-- Two lists of tagged ranges that say the same of each byte are the same list, where it is known where their ranges meet: given addresses, seams,
-- such that neighbours that touch do so at a seam, and no seam lies inside a range.
use Rattle.std.specs.Prelude.{ℕ, ◌≤◌, ◌<◌, ◌≡◌, refl, List, [], ◌∷◌, Some, None}
use Rattle.std.proofs.Common.{sym, ap₂, ◌∙◌, arith}
use Rattle.std.proofs.Math.Decide.{dec_le, dec_lt}
use Rattle.std.proofs.lemmas.Option.{none-some, same_Some}
use Rattle.memory_range.specs.declared.range.TaggedRange.{TaggedRange}
use Rattle.memory_range.specs.Bytes.{Ordered, All}
use Rattle.memory_range.specs.List.{ranges_in}
use Rattle.memory_range.specs.Laws.Bytes.{all_map}
use Rattle.memory_range.specs.Laws.Range.{held}
use Rattle.memory_claims.specs.Claim.{tag_at}
use Rattle.memory_claims.specs.Laws.Notes.{not_below, not_above}

-- a list in order says nothing of a byte below it, and so something only of bytes from its first start on
pub tag_below : (b : ℕ) (xs : List TaggedRange) (a : ℕ) → Ordered b (ranges_in xs) → a < b → tag_at xs a ≡ None
tag_below b [] a o h = refl
tag_below b (x ∷ xs) a o h = rw (not_below x.range a (omega arith)) (tag_below x.range.end xs a o.1.1 (omega arith))

pub said_from : (b : ℕ) (xs : List TaggedRange) (a n : ℕ) → Ordered b (ranges_in xs) → tag_at xs a ≡ Some n → b ≤ a
said_from b xs a n o e = go (dec_le b a)
  where
    go : Dec (b ≤ a) → b ≤ a
    go (yes h) = h
    go (no h) = absurd (none-some n (sym (tag_below b xs a o (omega arith)) ∙ e))

-- a range has its tag said of each of its bytes
pub said-first : (x : TaggedRange) (xs : List TaggedRange) (a : ℕ) → x.range.start ≤ a → a < x.range.end → tag_at (x ∷ xs) a ≡ Some x.tag
said-first x xs a l h = rw ((held x.range a).1 (l, h))

-- a range x with a byte, each of whose bytes the list xs says its tag of
abbrev pub Said : List TaggedRange → TaggedRange → Type 0
Said xs x = (x.range.start < x.range.end) × ((a : ℕ) → x.range.start ≤ a → a < x.range.end → tag_at xs a ≡ Some x.tag)

pub all_said : (b : ℕ) (xs : List TaggedRange) → Ordered b (ranges_in xs) → All (Said xs) xs
all_said b [] o = tt
all_said b (x ∷ xs) o = (
  (o.1.0, said-first x xs),
  all_map
      (λ z f. (f.0, λ a l h. rw (not_above x.range a (said_from x.range.end xs a z.tag o.1.1 (f.1 a l h))) (f.1 a l h)))
      xs (all_said x.range.end xs o.1.1),
)

-- ranges alike in start, end and tag are the same
alike : (x y : TaggedRange) → x.range.start ≡ y.range.start → x.range.end ≡ y.range.end → x.tag ≡ y.tag → x ≡ y
alike x y s e t = λ i. record { range = record { start = s i; end = e i }; tag = t i }

module _ (Seam : ℕ → Type 0) where
  -- a list behind a range that ends at e: where it starts there, that is a seam
  abbrev pub Behind : ℕ → List TaggedRange → Type 0
  Behind e [] = Unit {0}
  Behind e (y ∷ ys) = e ≡ y.range.start → Seam e

  abbrev pub Joints : List TaggedRange → Type 0
  Joints [] = Unit {0}
  Joints (x ∷ xs) = Behind x.range.end xs × Joints xs

  abbrev pub NoneInside : TaggedRange → Type 0
  NoneInside x = (a : ℕ) → x.range.start < a → a < x.range.end → Seam a → ⊥

  abbrev pub Whole : List TaggedRange → Type 0
  Whole xs = All NoneInside xs

  -- a list that starts above e does not touch
  pub apart : (b e : ℕ) (ys : List TaggedRange) → Ordered b (ranges_in ys) → e < b → Behind e ys
  apart b e [] o h = tt
  apart b e (y ∷ ys) o h = λ t. absurd (omega arith)

  -- what holds of any two ranges gives the joints
  pub touching : (P : TaggedRange → Type 0) → ((x y : TaggedRange) → P x → P y → x.range.end ≡ y.range.start → Seam x.range.end)
      → (xs : List TaggedRange) → All P xs → Joints xs
  touching P f [] h = tt
  touching P f (x ∷ []) h = (tt, tt)
  touching P f (x ∷ y ∷ xs) h = (f x y h.0 h.1.0, touching P f (y ∷ xs) h.1)

  -- of two lists that say the same: the first one starts no later, and then ends no earlier
  module _ (x : TaggedRange) (xs : List TaggedRange) (y : TaggedRange) (ys : List TaggedRange)
      (same : (a : ℕ) → tag_at (x ∷ xs) a ≡ tag_at (y ∷ ys) a) (ox : Ordered x.range.start (ranges_in (x ∷ xs)))
      (oy : Ordered y.range.start (ranges_in (y ∷ ys))) where
    starts_first : x.range.start ≤ y.range.start
    starts_first =
        let s = y.range.start in
        said_from x.range.start (x ∷ xs) s y.tag ox (same s ∙ said-first y ys s (omega arith) oy.1.0)

    -- where the first one ended earlier, the range behind it would start at its end, inside the other's first range
    ends_last : Behind x.range.end xs → NoneInside y → y.range.start ≤ x.range.start → y.range.end ≤ x.range.end
    ends_last joint whole s = go (dec_le y.range.end x.range.end)
      where
        next : (zs : List TaggedRange) → Ordered x.range.end (ranges_in zs) → Behind x.range.end zs
            → tag_at zs x.range.end ≡ Some y.tag → Seam x.range.end
        next [] o j t = cc
        next (z ∷ zs) o j t =
            let from = said_from z.range.start (z ∷ zs) x.range.end y.tag (omega arith, o.1) t in
            j (omega arith)

        go : Dec (y.range.end ≤ x.range.end) → y.range.end ≤ x.range.end
        go (yes h) = h
        go (no h) =
            let e = x.range.end in
            let said = rw (not_above x.range e (omega arith)) at (same e ∙ said-first y ys e (omega arith) (omega arith)) in
            absurd (whole e (omega arith) (omega arith) (next xs ox.1.1 joint said))

  pub same-list : (b : ℕ) (xs ys : List TaggedRange) → Ordered b (ranges_in xs) → Ordered b (ranges_in ys) → Joints xs → Joints ys → Whole xs → Whole ys
      → ((a : ℕ) → tag_at xs a ≡ tag_at ys a) → xs ≡ ys
  same-list b [] [] ox oy jx jy wx wy same = refl
  same-list b [] (y ∷ ys) ox oy jx jy wx wy same =
      let s = y.range.start in
      absurd (none-some y.tag (same s ∙ said-first y ys s (omega arith) oy.1.0))
  same-list b (x ∷ xs) [] ox oy jx jy wx wy same =
      let s = x.range.start in
      absurd (none-some x.tag (sym (same s) ∙ said-first x xs s (omega arith) ox.1.0))
  same-list b (x ∷ xs) (y ∷ ys) ox oy jx jy wx wy same =
      ap₂ ◌∷◌ (alike x y starts ends tags)
      (same-list x.range.end xs ys ox.1.1 (rw ends oy.1.1) jx.1 jy.1 wx.1 wy.1 behind)
    where
      from-x : Ordered x.range.start (ranges_in (x ∷ xs))
      from-x = (omega arith, ox.1)

      from_y : Ordered y.range.start (ranges_in (y ∷ ys))
      from_y = (omega arith, oy.1)

      back : (a : ℕ) → tag_at (y ∷ ys) a ≡ tag_at (x ∷ xs) a
      back a = sym (same a)

      starts : x.range.start ≡ y.range.start
      starts = omega (arith, starts_first x xs y ys same from-x from_y, starts_first y ys x xs back from_y from-x)

      ends : x.range.end ≡ y.range.end
      ends =
          omega (
            arith,
            ends_last x xs y ys same from-x from_y jx.0 wy.0 (omega (arith, starts)),
            ends_last y ys x xs back from_y from-x jy.0 wx.0 (omega (arith, starts)),
          )

      tags : x.tag ≡ y.tag
      tags =
          let s = x.range.start in
          same_Some x.tag y.tag
          (sym (said-first x xs s (omega arith) ox.1.0) ∙ same s ∙ said-first y ys s (omega (arith, starts)) (omega (arith, ends, ox.1.0)))

      behind : (a : ℕ) → tag_at xs a ≡ tag_at ys a
      behind a = go (dec_lt a x.range.end)
        where
          go : Dec (a < x.range.end) → tag_at xs a ≡ tag_at ys a
          go (yes h) = tag_below x.range.end xs a ox.1.1 h ∙ sym (tag_below y.range.end ys a oy.1.1 (omega (arith, ends)))
          go (no h) = rw (not_above x.range a (omega arith), not_above y.range a (omega (arith, ends))) at (same a)
