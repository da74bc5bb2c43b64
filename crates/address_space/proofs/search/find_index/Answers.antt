-- The search finds the first entry that fits, from the bottom or from the top.
use Prim.Native.Nat.{ℕ, ◌+◌, ◌-◌, ◌<◌}
use mathlib.Core.Bool.{Bool, true, false}
use mathlib.Core.List.{List, [], ◌∷◌, reverse}
use mathlib.Core.Path.{◌≡◌, refl, ap, sym, ◌∙◌}
use native.Mathlib.Omega.{arith}
use denote.Param.Members.{Mut}
use lib.ListN.{length}
use Rattle.std.specs.Iterator.{YieldsThen}
use Rattle.std.specs.Slice.Iter.{iter_rest, iter_steps_back}
use Rattle.std.proofs.Common.{Option, Some, None, Iter, rules, tests, subst}
use Rattle.std.proofs.lemmas.Iterator.{YieldsList, YieldsList-from_slice, IsFirst-from_position}
use Rattle.std.proofs.lemmas.Iterator.Consumers.{YieldsList-from_shown}
use Rattle.std.proofs.lemmas.List.{reverse-append, length-reverse}
use Rattle.std.specs.Fn.{Called}
use Rattle.std.specs.List.{FoldsTo, AllWithin, HoldsAt}
use Rattle.std.specs.Option.{MatchOption, IsSomeAnd}
use Rattle.address_space.specs.Fit.{fits_in}
use Rattle.address_space.specs.Search.{searched, place_found}
use Rattle.address_space.specs.Table.{no_entry}
use Rattle.address_space.specs.Laws.Search.{first-none, first-at}
use Rattle.address_space.specs.declared.table.AddressRange.{AddressRange}
use Rattle.host_params.specs.declared.AllocationPolicy.TheVariants.{LowMemory, HighMemory}
use Rattle.address_space.proofs.search.find_index.Goals as goal

-- the items of a slice from its end are those of the list in reverse
from_end : {A : Type 0} {s : Iter A} (xs : List A) → iter_rest s ≡ xs → YieldsList iter_steps_back (λ y. y.now) s (reverse xs)
from_end {A} {s} xs e = subst (λ k. YieldsList iter_steps_back (λ y. y.now) s (reverse k)) e
    (YieldsList-from_shown iter_steps_back (λ y. y.now) (λ u. reverse (iter_rest u)) (λ u t p. length-reverse _ ∙ p.0)
    (λ u x t p. ap reverse p ∙ reverse-append (iter_rest t) (x.now ∷ [])) s)

-- of `rposition`: how many items come before the first that passes, and that the index is so far from the end
abbrev FirstFromEnd : {B : Type 0} → (B → Type 0) → (B → Type 0) → ℕ → List B → Option ℕ → Type 0
FirstFromEnd Yes No n all r =
    MatchOption r (AllWithin No all 0 (length all)) (λ i. (k : ℕ) × (i + 1 + k ≡ n) × ((k < length all) × HoldsAt Yes all k × AllWithin No all 0 k))

module _ {S A B F : Type 0} {steps : S → Option A → S → Type 0} {v : A → B} {g : Mut F (A × Unit {0}) Bool} {s : S} {all : List B} (u : S) (f : F)
    (Yes No : B → Type 0) (n : ℕ) where
  first_from_end : (r : Option ℕ)
      → (xs : List A) × (o : Option A) × (j : F) × YieldsThen steps s xs o u × FoldsTo (λ p x q. Called g p (x, tt) false q) f xs j × MatchOption o (r ≡ None) (λ x. IsSomeAnd r (λ i. i + 1 + length xs ≡ n) × ((h : F) × Called g j (x, tt) true h))
      → YieldsList steps v s all → ((x : A) (q : F) → Called g f (x, tt) true q → Yes (v x)) → ((x : A) (q : F) → Called g f (x, tt) false q → (q ≡ f) × No (v x))
      → FirstFromEnd Yes No n all r
  first_from_end r d yields passes fails = go r d.0 d.1 d.2 d.3 d.4 d.5
    where
      go : (r : Option ℕ) (xs : List A) (o : Option A) (j : F) → YieldsThen steps s xs o u → FoldsTo (λ p x q. Called g p (x, tt) false q) f xs j
          → MatchOption o (r ≡ None) (λ x. IsSomeAnd r (λ i. i + 1 + length xs ≡ n) × ((h : F) × Called g j (x, tt) true h)) → FirstFromEnd Yes No n all r
      go r xs None j y c e =
          subst (FirstFromEnd Yes No n all) (sym e) (IsFirst-from_position u f None Yes No (xs, None, j, y, c, refl) yields passes fails)
      go None xs (Some x) j y c e = absurd e.0
      go (Some i) xs (Some x) j y c e =
          (length xs, e.0, IsFirst-from_position u f (Some (length xs)) Yes No (xs, Some x, j, y, c, (refl, e.1)) yields passes fails)

pub returns-in-LowMemory : goal.returns-in-LowMemory
returns-in-LowMemory c =
    let a = c.args in
    let f = fits_in a.required_vnode a.len a.alignment in
    let h = IsFirst-from_position _ _ c.position.result (λ y. f y ≡ true) (λ y. f y ≡ false) c.position.ensures.ran (YieldsList-from_slice a.entries.now cc) (λ x q k. search (rules, tests)) (λ x q k. search (rules, tests)) in
    rw c.in-LowMemory.is (go f a.entries.now c.position.result h)
  where
    go : (f : AddressRange → Bool) (es : List AddressRange) (r : Option ℕ)
        → MatchOption r (AllWithin (λ y. f y ≡ false) es 0 (length es)) (λ i. (i < length es) × HoldsAt (λ y. f y ≡ true) es i × AllWithin (λ y. f y ≡ false) es 0 i)
        → r ≡ place_found LowMemory (searched LowMemory f es)
    go f es None h = sym (first-none LowMemory f es h)
    go f es (Some i) h = sym (first-at LowMemory f es i no_entry h.0 h.1 h.2)

pub returns-in-HighMemory : goal.returns-in-HighMemory
returns-in-HighMemory c =
    let a = c.args in
    let f = fits_in a.required_vnode a.len a.alignment in
    let it = c.iter-in-HighMemory.result in
    let h = first_from_end _ _ (λ y. f y ≡ true) (λ y. f y ≡ false) (length it.rest.now) c.rposition.result c.rposition.ensures.ran (from_end a.entries.now cc) (λ x q k. search (rules, tests)) (λ x q k. search (rules, tests)) in
    rw c.in-HighMemory.is (go f a.entries.now (length it.rest.now) (cc) c.rposition.result h)
  where
    go : (f : AddressRange → Bool) (es : List AddressRange) (n : ℕ) → n ≡ length es → (r : Option ℕ)
        → FirstFromEnd (λ y. f y ≡ true) (λ y. f y ≡ false) n (reverse es) r
        → r ≡ place_found HighMemory (searched HighMemory f es)
    go f es n all None h = sym (first-none HighMemory f es h)
    go f es n all (Some i) h =
        let e : length es - 1 - h.0 ≡ i = omega (arith, h.1) in
        sym (first-at HighMemory f es h.0 no_entry h.2.0 h.2.1 h.2.2 ∙ ap Some e)
