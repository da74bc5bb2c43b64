-- Entries by node: what each node's entries hold adds up to what all hold, and a sort changes neither what
-- they hold nor how many bytes they have.
use Rattle.std.specs.Prelude.{ℕ, zero, suc, ◌+◌, ◌≤◌, ◌<◌, max, ◌≡◌, refl, Bool, true, false, cond, List, [], ◌∷◌, ◌++◌, eqb}
use Rattle.std.proofs.Common.{sym, ◌∙◌, arith, eq-eqb, ne_eqb}
use Rattle.std.proofs.Math.Decide.{ℕ_discrete}
use Rattle.memory_range.specs.declared.range.TaggedRange.{TaggedRange}
use Rattle.memory_range.specs.Bytes.{holders}
use Rattle.memory_range.specs.List.{ranges_in}
use Rattle.memory_range.specs.Range.{length_of, holds}
use Rattle.range_lists.specs.Sort.{sort_by_start}
use Rattle.memory_range.specs.Laws.Count.{tally, tally_add, tally-at_most}
use Rattle.range_lists.specs.Laws.Sort.{total, sort_tag-total}
use Rattle.boot_ram.specs.Held.{holders_on, on_node, bytes_of}

-- a sum over nodes in which one node alone counts
tally-none : (t h k : ℕ) → k ≤ t → tally (λ n. cond (eqb t n) h 0) k ≡ 0
tally-none t h zero l = refl
tally-none t h (suc k) l = rw (ne_eqb t k (λ e. omega arith)) (omega (arith, tally-none t h k (omega arith)))

tally-one : (t h k : ℕ) → t < k → tally (λ n. cond (eqb t n) h 0) k ≡ h
tally-one t h zero l = absurd (omega arith)
tally-one t h (suc k) l =
    elim (ℕ_discrete t k) [
      | yes e ↦ rw (eq-eqb t k e) (omega (arith, tally-none t h k (omega arith)))
      | no e ↦ rw (ne_eqb t k e) (omega (arith, tally-one t h k (omega arith)))
    ]

-- a measure of the entries of one node is a measure of all entries
pub holders-on : (n : ℕ) (xs : List TaggedRange) (a : ℕ) → holders_on n xs a ≡ total (λ x. cond (eqb x.tag n) (cond (holds x.range a) 1 0) 0) xs
holders-on n [] a = refl
holders-on n (x ∷ xs) a = go (eqb x.tag n) (holders-on n xs a)
  where
    go : (b : Bool) → holders_on n xs a ≡ total (λ y. cond (eqb y.tag n) (cond (holds y.range a) 1 0) 0) xs
        → holders (ranges_in (cond b (x ∷ on_node n xs) (on_node n xs))) a
        ≡ cond b (cond (holds x.range a) 1 0) 0 + total (λ y. cond (eqb y.tag n) (cond (holds y.range a) 1 0) 0) xs
    go true e = omega arith
    go false e = omega arith

pub bytes_on : (n : ℕ) (xs : List TaggedRange) → bytes_of (on_node n xs) ≡ total (λ x. cond (eqb x.tag n) (length_of x.range) 0) xs
bytes_on n [] = refl
bytes_on n (x ∷ xs) = go (eqb x.tag n) (bytes_on n xs)
  where
    go : (b : Bool) → bytes_of (on_node n xs) ≡ total (λ y. cond (eqb y.tag n) (length_of y.range) 0) xs
        → bytes_of (cond b (x ∷ on_node n xs) (on_node n xs))
        ≡ cond b (length_of x.range) 0 + total (λ y. cond (eqb y.tag n) (length_of y.range) 0) xs
    go true e = omega arith
    go false e = omega arith

pub sort-holders-on : (n : ℕ) (xs : List TaggedRange) (a : ℕ) → holders_on n (sort_by_start xs) a ≡ holders_on n xs a
sort-holders-on n xs a = holders-on n (sort_by_start xs) a ∙ sort_tag-total (λ x. cond (holds x.range a) 1 0) n xs ∙ sym (holders-on n xs a)

pub sort_bytes-on : (n : ℕ) (xs : List TaggedRange) → bytes_of (on_node n (sort_by_start xs)) ≡ bytes_of (on_node n xs)
sort_bytes-on n xs = bytes_on n (sort_by_start xs) ∙ sort_tag-total (λ x. length_of x.range) n xs ∙ sym (bytes_on n xs)

pub bytes_join : (xs ys : List TaggedRange) → bytes_of (xs ++ ys) ≡ bytes_of xs + bytes_of ys
bytes_join [] ys = omega arith
bytes_join (x ∷ xs) ys = omega (arith, bytes_join xs ys)

-- a number above every node
abbrev above_tags : List TaggedRange → ℕ
above_tags [] = 0
above_tags (x ∷ xs) = max (suc x.tag) (above_tags xs)

-- what all hold is the sum of what each node's hold
tally-nodes : (k : ℕ) (xs : List TaggedRange) (a : ℕ) → above_tags xs ≤ k → holders (ranges_in xs) a ≡ tally (λ n. holders_on n xs a) k
tally-nodes k [] a l = none k
  where
    none : (k : ℕ) → 0 ≡ tally (λ n. 0) k
    none zero = refl
    none (suc k) = omega (arith, none k)
tally-nodes k (x ∷ xs) a l =
    omega (
      arith,
      tally-nodes k xs a (omega arith),
      tally-one x.tag here k (omega arith),
      tally_add own rest k,
      tally-at_most (λ n. own n + rest n) (λ n. holders_on n (x ∷ xs) a) (λ n. omega (arith, split n)) k,
      tally-at_most (λ n. holders_on n (x ∷ xs) a) (λ n. own n + rest n) (λ n. omega (arith, split n)) k,
    )
  where
    here : ℕ
    here = cond (holds x.range a) 1 0

    own : ℕ → ℕ
    own n = cond (eqb x.tag n) here 0

    rest : ℕ → ℕ
    rest n = holders_on n xs a

    split : (n : ℕ) → holders_on n (x ∷ xs) a ≡ own n + rest n
    split n = go (eqb x.tag n)
      where
        go : (b : Bool) → holders (ranges_in (cond b (x ∷ on_node n xs) (on_node n xs))) a ≡ cond b here 0 + rest n
        go true = refl
        go false = omega arith

-- entries of which no node holds a byte more often than the same node of others hold it no more often in all
pub by-nodes : (xs ys : List TaggedRange) (a : ℕ) → ((n : ℕ) → holders_on n xs a ≤ holders_on n ys a)
    → holders (ranges_in xs) a ≤ holders (ranges_in ys) a
by-nodes xs ys a h =
    let k = max (above_tags xs) (above_tags ys) in
    omega (
      arith,
      tally-nodes k xs a (omega arith),
      tally-nodes k ys a (omega arith),
      tally-at_most (λ n. holders_on n xs a) (λ n. holders_on n ys a) h k,
    )
