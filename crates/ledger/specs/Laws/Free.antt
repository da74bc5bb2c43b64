-- The free entries of a table: they are in order where the table is, and say of a byte its node exactly where the table says that it is free; which of them
-- fit, and that a search finds the same in them as in the table.
use Rattle.std.specs.Prelude.{ℕ, ◌≡◌, refl, Bool, true, false, cond, ◌&&◌, ◌||◌, ◌↔◌, Option, Some, None}
use Rattle.std.proofs.Common.{ap, ◌∙◌, arith}
use mathlib.Core.List.{List, [], ◌∷◌, ◌++◌, reverse, reverse-cons, append-nil}
use Rattle.memory_range.specs.declared.range.TaggedRange.{TaggedRange}
use Rattle.memory_range.specs.Bytes.{Ordered, All}
use Rattle.memory_range.specs.List.{ranges_in}
use Rattle.memory_range.specs.Range.{holds}
use Rattle.memory_range.specs.Laws.Bytes.{ordered-before}
use Rattle.memory_range.specs.Laws.Range.{held}
use Rattle.host_params.specs.declared.AllocationPolicy.{AllocationPolicy}
use Rattle.host_params.specs.declared.AllocationPolicy.TheVariants.{LowMemory, HighMemory}
use Rattle.address_space.specs.declared.table.AddressRange.{AddressRange}
use Rattle.address_space.specs.Fit.{fits_in}
use Rattle.address_space.specs.Search.{Search, nothing, found, past, first_of, in_order_of}
use Rattle.address_space.specs.Table.{ranges_at}
use Rattle.address_space.specs.Usage.{is_free}
use Rattle.memory_claims.specs.Claim.{noded_range, Note, note, note_at, tag_at}
use Rattle.memory_claims.specs.Laws.Notes.{none_below}
use Rattle.ledger.specs.Search.{fits, some_entry_fits}
use Rattle.ledger.specs.Claim.{free_of}

-- what holds of the free entries, where it holds of every entry
pub free_all : (P : TaggedRange → Type 0) (es : List AddressRange) → All (λ e. P (noded_range e)) es → All P (free_of es)
free_all P [] h = tt
free_all P (e ∷ es) h = go (is_free e.usage) (free_all P es h.1)
  where
    go : (t : Bool) → All P (free_of es) → All P (cond t (noded_range e ∷ free_of es) (free_of es))
    go true rest = (h.0, rest)
    go false rest = rest

pub free-ordered : (b : ℕ) (es : List AddressRange) → Ordered b (ranges_at es) → Ordered b (ranges_in (free_of es))
free-ordered b [] o = tt
free-ordered b (e ∷ es) o = go (is_free e.usage) (free-ordered e.range.end es o.1.1)
  where
    go : (t : Bool) → Ordered e.range.end (ranges_in (free_of es)) → Ordered b (ranges_in (cond t (noded_range e ∷ free_of es) (free_of es)))
    go true rest = (o.0, (o.1.0, rest))
    go false rest = ordered-before b e.range.end (ranges_in (free_of es)) (omega arith) rest

-- the node of a byte that is said to be free
abbrev pub free_node : Option Note → Option ℕ
free_node None = None
free_node (Some x) = cond (is_free x.usage) (Some x.node) None

pub free_tag : (b : ℕ) (es : List AddressRange) (a : ℕ) → Ordered b (ranges_at es) → tag_at (free_of es) a ≡ free_node (note_at es a)
free_tag b [] a o = refl
free_tag b (e ∷ es) a o = go (is_free e.usage) refl (holds e.range a) refl (free_tag e.range.end es a o.1.1)
  where
    go : (f : Bool) → is_free e.usage ≡ f → (t : Bool) → holds e.range a ≡ t → tag_at (free_of es) a ≡ free_node (note_at es a)
        → tag_at (cond f (noded_range e ∷ free_of es) (free_of es)) a ≡ free_node (cond t (Some (note e.vnode e.usage)) (note_at es a))
    go true p true q i = rw (q, p)
    go true p false q i = rw q i
    go false p true q i = rw p (i ∙ ap free_node (none_below e.range.end es a o.1.1 ((held e.range a).0 q).1))
    go false p false q i = i

-- the free entries of lists that are joined, reversed or put in the order of a search
free_append : (xs ys : List AddressRange) → free_of (xs ++ ys) ≡ free_of xs ++ free_of ys
free_append [] ys = refl
free_append (e ∷ xs) ys = go (is_free e.usage) (free_append xs ys)
  where
    go : (t : Bool) → free_of (xs ++ ys) ≡ free_of xs ++ free_of ys
        → cond t (noded_range e ∷ free_of (xs ++ ys)) (free_of (xs ++ ys)) ≡ cond t (noded_range e ∷ free_of xs) (free_of xs) ++ free_of ys
    go true i = rw i
    go false i = i

free-reverse : (es : List AddressRange) → free_of (reverse es) ≡ reverse (free_of es)
free-reverse [] = refl
free-reverse (e ∷ es) = rw (reverse-cons e es, free_append, free-reverse es) (go (is_free e.usage))
  where
    go : (t : Bool) → reverse (free_of es) ++ cond t (noded_range e ∷ []) [] ≡ reverse (cond t (noded_range e ∷ free_of es) (free_of es))
    go true = rw (reverse-cons (noded_range e) (free_of es))
    go false = append-nil (reverse (free_of es))

pub free_in_order : (policy : AllocationPolicy) (es : List AddressRange) → free_of (in_order_of policy es) ≡ in_order_of policy (free_of es)
free_in_order LowMemory es = refl
free_in_order HighMemory es = free-reverse es

-- a search of a table, told of its free entries
abbrev pub free_search : Search AddressRange → Search TaggedRange
free_search nothing = nothing
free_search (found before e after) = found (free_of before) (noded_range e) (free_of after)

free-past : (e : AddressRange) (s : Search AddressRange)
    → free_search (past e s) ≡ cond (is_free e.usage) (past (noded_range e) (free_search s)) (free_search s)
free-past e s = go (is_free e.usage) refl s
  where
    go : (t : Bool) → is_free e.usage ≡ t → (s : Search AddressRange)
        → free_search (past e s) ≡ cond t (past (noded_range e) (free_search s)) (free_search s)
    go true p nothing = refl
    go true p (found before x after) = rw p
    go false p nothing = refl
    go false p (found before x after) = rw p

-- neither a test nor what stands for further ones passes
both_fail : {A : Type 0} (x s : Bool) → A ↔ (s ≡ false) → ((x ≡ false) × A) ↔ ((x || s) ≡ false)
both_fail true s i = ((λ h. h.0), (λ h. (h, i.1 (cc))))
both_fail false s i = ((λ h. i.0 h.1), (λ h. (refl, i.1 h)))

-- an entry that is not free does not fit, and a free one fits as its range does: no entry fits exactly where no free range does, and a
-- search finds the same
module _ (asked : Option ℕ) (len : ℕ) (alignment : Option ℕ) where
  pub fits-free : (es : List AddressRange)
      → All (λ e. fits_in asked len alignment e ≡ false) es ↔ (some_entry_fits asked len alignment (free_of es) ≡ false)
  fits-free [] = ((λ h. refl), (λ h. tt))
  fits-free (e ∷ es) = go (is_free e.usage) (fits-free es)
    where
      go : (t : Bool) → All (λ e. fits_in asked len alignment e ≡ false) es ↔ (some_entry_fits asked len alignment (free_of es) ≡ false)
          → (((t && fits asked len alignment (noded_range e)) ≡ false) × All (λ e. fits_in asked len alignment e ≡ false) es)
          ↔ (some_entry_fits asked len alignment (cond t (noded_range e ∷ free_of es) (free_of es)) ≡ false)
      go true i = both_fail (fits asked len alignment (noded_range e)) (some_entry_fits asked len alignment (free_of es)) i
      go false i = both_fail false (some_entry_fits asked len alignment (free_of es)) i

  pub first-free : (es : List AddressRange) → first_of (fits asked len alignment) (free_of es) ≡ free_search (first_of (fits_in asked len alignment) es)
  first-free [] = refl
  first-free (e ∷ es) = go (is_free e.usage) refl (fits asked len alignment (noded_range e)) refl (first-free es)
    where
      go : (t : Bool) → is_free e.usage ≡ t → (u : Bool) → fits asked len alignment (noded_range e) ≡ u
          → first_of (fits asked len alignment) (free_of es) ≡ free_search (first_of (fits_in asked len alignment) es)
          → first_of (fits asked len alignment) (free_of (e ∷ es)) ≡ free_search (first_of (fits_in asked len alignment) (e ∷ es))
      go true p true q i = rw (p, q)
      go true p false q i = rw (p, q, free-past, p, i)
      go false p u q i = rw (p, free-past, p) i
