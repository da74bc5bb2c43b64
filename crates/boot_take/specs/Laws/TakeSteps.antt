-- Laws of the taking: what a node still needs beside pieces, what it takes of the first so many free entries, one entry at a time
-- from the top, and the nodes one after the other.
use Rattle.std.specs.Prelude.{ℕ, suc, ◌+◌, ◌-◌, ◌≤◌, ◌<◌, ◌≡◌, refl, List, [], ◌∷◌, reverse, length, take, drop, get_or}
use Rattle.std.proofs.Common.{ap, ◌∙◌, arith, add-one, eq-eqb, ne_eqb, drop_of_length-le, take-suc, get_or-take, drop-cons}
use Rattle.std.proofs.lemmas.List.{reverse-append}
use Rattle.memory_range.specs.declared.range.TaggedRange.{TaggedRange}
use Rattle.memory_range.specs.List.{tagged, first_tagged}
use Rattle.memory_range.specs.Range.{length_of}
use Rattle.memory_range.specs.Laws.List.{length-tagged, length-first, next-tagged}
use Rattle.boot_take.specs.Take.{taken_of, need_on, take_from}
use Rattle.boot_ram.specs.Held.{holding, on_node}
use Rattle.boot_nodes.specs.Node.{count_up}
use Rattle.boot_ram.specs.Verdict.{Verdict, choose, refuse}
use Rattle.refusal.specs.Number.{node_too_small}

-- an entry, or what a read past the end gives; and its node
abbrev pub entry_at : List TaggedRange → ℕ → TaggedRange
entry_at fs i = get_or fs i (tagged 0 0 0)

abbrev pub tag_at : List TaggedRange → ℕ → ℕ
tag_at fs i = (entry_at fs i).tag

-- a piece of the node lessens what the node needs, another one does not
module _ (need n : ℕ) (ps : List TaggedRange) (i : ℕ) (h : i < length ps) where
  pub need_own : tag_at ps i ≡ n → need_on need (drop i ps) n ≡ need_on (need - length_of (entry_at ps i).range) (drop (i + 1) ps) n
  need_own e = rw (add-one, drop-cons ps i (tagged 0 0 0) h, eq-eqb (tag_at ps i) n e) (omega arith)

  pub need_other : (tag_at ps i ≡ n → ⊥) → need_on need (drop i ps) n ≡ need_on need (drop (i + 1) ps) n
  need_other e = rw (add-one, drop-cons ps i (tagged 0 0 0) h, ne_eqb (tag_at ps i) n e)

-- what a node takes of the first i entries
abbrev pub take_below : ℕ → ℕ → List TaggedRange → ℕ → List Verdict
take_below n need free i = take_from n need (on_node n (reverse (take i free)))

-- that is nothing, where it needs nothing; and it is refused, where it needs more and no entry is left
pub take_none : (n : ℕ) (es : List TaggedRange) → take_from n 0 es ≡ []
take_none n [] = refl
take_none n (e ∷ es) = refl

pub take_short : (n need : ℕ) → (need ≡ 0 → ⊥) → take_from n need [] ≡ refuse node_too_small ∷ []
take_short n need h = rw (ne_eqb need 0 h)

reverse-take : (l : List TaggedRange) (i : ℕ) (d : TaggedRange) → i < length l → reverse (take (suc i) l) ≡ get_or l i d ∷ reverse (take i l)
reverse-take l i d h = rw (take-suc l i d h) (reverse-append (take i l) (get_or l i d ∷ []))

-- the entry at i - 1 is the next one: it is passed over where it is of another node, and else the piece from its
-- top is the next verdict
module _ (n need : ℕ) (fs : List TaggedRange) (i : ℕ) (above : 0 < i) (within : i ≤ length fs) where
  last : reverse (take i fs) ≡ entry_at fs (i - 1) ∷ reverse (take (i - 1) fs)
  last =
      let e : i ≡ suc (i - 1) = omega arith in
      ap (λ (k : ℕ). reverse (take k fs)) e ∙ reverse-take fs (i - 1) (tagged 0 0 0) (omega arith)

  pub take_other : (tag_at fs (i - 1) ≡ n → ⊥) → take_below n need fs i ≡ take_below n need fs (i - 1)
  take_other h = rw (last, ne_eqb (tag_at fs (i - 1)) n h)

  pub take_next : (need ≡ 0 → ⊥) → tag_at fs (i - 1) ≡ n
      → take_below n need fs i
      ≡ choose (holding (taken_of need (entry_at fs (i - 1)).range) n)
      ∷ take_below n (need - length_of (taken_of need (entry_at fs (i - 1)).range)) fs (i - 1)
  take_next g h = rw (last, eq-eqb (tag_at fs (i - 1)) n h, ne_eqb need 0 g)

-- from a number below the end on, that number comes first; from the end on, none
pub count_next : (k n : ℕ) → k < n → count_up k (n - k) ≡ k ∷ count_up (k + 1) (n - (k + 1))
count_next k n h = let e : n - k ≡ suc (n - (k + 1)) = omega arith in rw e

pub count_none : (k n : ℕ) → n ≤ k → count_up k (n - k) ≡ []
count_none k n h = let e : n - k ≡ 0 = omega arith in rw e

-- lists of numbers beside each other, as callers may hold them: the entry at an index of the first so many, and none past the last
module _ (k : ℕ) (ss es ts : List ℕ) where
  pub past_first : (i : ℕ) → length (first_tagged k ss es ts) ≤ i → drop i (first_tagged k ss es ts) ≡ []
  past_first i h = drop_of_length-le (first_tagged k ss es ts) {i = i} h

  module _ (need n i : ℕ) (h : i < length (first_tagged k ss es ts)) where
    next-first : drop i (first_tagged k ss es ts) ≡ tagged (get_or ss i 0) (get_or es i 0) (get_or ts i 0) ∷ drop (i + 1) (first_tagged k ss es ts)
    next-first =
        let l = length-tagged (take k ss) (take k es) (take k ts) in
        let b : i < k = omega (arith, length-first k ss es ts) in
        next-tagged (take k ss) (take k es) (take k ts) i (omega arith)
        ∙ rw (get_or-take k ss i 0 b, get_or-take k es i 0 b, get_or-take k ts i 0 b)
