-- What a list of tagged ranges says of a byte, by the tag of the range that holds it: in lists that are joined and, where
-- no byte lies in two ranges, sorted; and how many of its ranges hold the byte, of one tag or of all.
use Rattle.std.specs.Prelude.{ℕ, suc, ◌+◌, ◌≤◌, ◌≡◌, refl, Bool, true, false, cond, List, [], ◌∷◌, ◌++◌, eqb, get_or, Option, Some, None, option_map}
use Rattle.std.proofs.Common.{ap, sym, ◌∙◌, arith, zero-add, eqb-true, eq-eqb}
use Rattle.memory_range.specs.declared.range.MemoryRange.{MemoryRange}
use Rattle.memory_range.specs.declared.range.TaggedRange.{TaggedRange}
use Rattle.memory_range.specs.Bytes.{holders, item_found_from, item_at}
use Rattle.memory_range.specs.List.{ranges_in, tags_of}
use Rattle.memory_range.specs.Range.{holds}
use Rattle.range_lists.specs.Sort.{sort_by_start}
use Rattle.memory_range.specs.Laws.Bytes.{counted}
use Rattle.range_lists.specs.Laws.Picked.{counted_if}
use Rattle.range_lists.specs.Laws.Sort.{sort-holders}
use Rattle.boot_ram.specs.Held.{holders_on, on_node}
use Rattle.boot_ram.specs.Laws.ByNode.{sort-holders-on}
use Rattle.address_space.specs.declared.usage.ReservedMemoryType.{ReservedMemoryType}
use Rattle.memory.specs.Builder.{all_as}
use Rattle.memory_claims.specs.Claim.{tag_at}

-- ranges given as one type are those ranges
pub ranges_as : (t : ReservedMemoryType) (rs : List MemoryRange) → ranges_in (all_as t rs) ≡ rs
ranges_as t [] = refl
ranges_as t (r ∷ rs) = ap (r ∷◌) (ranges_as t rs)

-- the first of two answers, and where there is none the second
abbrev pub or_else : Option ℕ → Option ℕ → Option ℕ
or_else (Some t) v = Some t
or_else None v = v

pub tag_append : (xs ys : List TaggedRange) (a : ℕ) → tag_at (xs ++ ys) a ≡ or_else (tag_at xs a) (tag_at ys a)
tag_append [] ys a = refl
tag_append (x ∷ xs) ys a = rw (tag_append xs ys a) (go (holds x.range a))
  where
    go : (t : Bool) → cond t (Some x.tag) (or_else (tag_at xs a) (tag_at ys a)) ≡ or_else (cond t (Some x.tag) (tag_at xs a)) (tag_at ys a)
    go true = refl
    go false = refl

abbrev pub tag_of : List TaggedRange → ℕ → ℕ
tag_of xs i = get_or (tags_of xs) i 0

tag_from : (f : ℕ → ℕ) (k : ℕ) (xs : List TaggedRange) (a : ℕ) → ((i : ℕ) → tag_of xs i ≡ f (k + i)) → tag_at xs a ≡ option_map f (item_found_from k (ranges_in xs) a)
tag_from f k [] a h = refl
tag_from f k (x ∷ xs) a h = go (holds x.range a) (tag_from f (k + 1) xs a (λ i. h (suc i) ∙ ap f (omega arith)))
  where
    go : (t : Bool) → tag_at xs a ≡ option_map f (item_found_from (k + 1) (ranges_in xs) a)
        → cond t (Some x.tag) (tag_at xs a) ≡ option_map f (cond t (Some k) (item_found_from (k + 1) (ranges_in xs) a))
    go true e = ap Some (h 0 ∙ ap f (omega arith))
    go false e = e

-- the tag is that of the item that holds the byte
pub tag_item : (xs : List TaggedRange) (a : ℕ) → tag_at xs a ≡ option_map (tag_of xs) (item_at (ranges_in xs) a)
tag_item xs a = tag_from (tag_of xs) 0 xs a (λ i. rw zero-add)

on-at_most : (n : ℕ) (xs : List TaggedRange) (a : ℕ) → holders_on n xs a ≤ holders (ranges_in xs) a
on-at_most n [] a = omega arith
on-at_most n (x ∷ xs) a = go (eqb x.tag n) (on-at_most n xs a)
  where
    go : (b : Bool) → holders_on n xs a ≤ holders (ranges_in xs) a
        → holders (ranges_in (cond b (x ∷ on_node n xs) (on_node n xs))) a ≤ holders (ranges_in (x ∷ xs)) a
    go true i = omega arith
    go false i = omega arith

-- where at most one range holds the byte, one with the tag n does exactly where n is said of it
pub tag-on : (n : ℕ) (xs : List TaggedRange) (a : ℕ) → holders (ranges_in xs) a ≤ 1 → holders_on n xs a ≡ counted_if (λ t. eqb t n) (tag_at xs a)
tag-on n [] a once = refl
tag-on n (x ∷ xs) a once = go (eqb x.tag n) refl (holds x.range a) refl once (tag-on n xs a (omega arith))
  where
    go : (b : Bool) → eqb x.tag n ≡ b → (s : Bool) → holds x.range a ≡ s → cond s 1 0 + holders (ranges_in xs) a ≤ 1
        → holders_on n xs a ≡ counted_if (λ t. eqb t n) (tag_at xs a)
        → holders (ranges_in (cond b (x ∷ on_node n xs) (on_node n xs))) a ≡ counted_if (λ t. eqb t n) (cond s (Some x.tag) (tag_at xs a))
    go true p true q l i = rw (q, p) (omega (arith, on-at_most n xs a))
    go true p false q l i = rw q (omega arith)
    go false p true q l i = rw p (omega (arith, on-at_most n xs a))
    go false p false q l i = i

-- and one holds it exactly where something is said of it
pub tag-holders : (xs : List TaggedRange) (a : ℕ) → holders (ranges_in xs) a ≤ 1 → holders (ranges_in xs) a ≡ counted (tag_at xs a)
tag-holders [] a once = refl
tag-holders (x ∷ xs) a once = go (holds x.range a) refl once (tag-holders xs a (omega arith))
  where
    go : (s : Bool) → holds x.range a ≡ s → cond s 1 0 + holders (ranges_in xs) a ≤ 1 → holders (ranges_in xs) a ≡ counted (tag_at xs a)
        → holders (ranges_in (x ∷ xs)) a ≡ counted (cond s (Some x.tag) (tag_at xs a))
    go true q l i = rw q (omega arith)
    go false q l i = rw q (omega arith)

-- two answers that are the same number, or not, for every number are the same
same_tag : (u v : Option ℕ) → ((n : ℕ) → counted_if (λ t. eqb t n) u ≡ counted_if (λ t. eqb t n) v) → u ≡ v
same_tag None None h = refl
same_tag None (Some s) h = absurd (let z = rw (eq-eqb s s refl) at (h s) in omega arith)
same_tag (Some t) None h = absurd (let z = rw (eq-eqb t t refl) at (h t) in omega arith)
same_tag (Some t) (Some s) h = go (eqb s t) refl (rw (eq-eqb t t refl) at (h t))
  where
    go : (b : Bool) → eqb s t ≡ b → ◌≡◌ {A = ℕ} 1 (cond b 1 0) → Some t ≡ Some s
    go true e z = ap Some (sym (eqb-true s t e))
    go false e z = absurd (omega arith)

-- where at most one range holds the byte, a sort does not change what is said of it
pub tag-sort : (xs : List TaggedRange) (a : ℕ) → holders (ranges_in xs) a ≤ 1 → tag_at (sort_by_start xs) a ≡ tag_at xs a
tag-sort xs a once =
    same_tag (tag_at (sort_by_start xs) a) (tag_at xs a)
    (λ n. sym (tag-on n (sort_by_start xs) a (omega (arith, sort-holders xs a))) ∙ sort-holders-on n xs a ∙ tag-on n xs a once)
