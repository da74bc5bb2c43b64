-- Laws of Search.
use Rattle.std.specs.Prelude.{ℕ, zero, suc, ◌+◌, ◌-◌, ◌≤◌, ◌<◌, Bool, true, false, cond, ◌↔◌, ◌≡◌, refl, length, take, drop, get_or, Some, None}
use mathlib.Core.List.{List, [], ◌∷◌, ◌++◌, reverse, reverse-cons, reverse-append, reverse-reverse, append_assoc}
use Rattle.std.proofs.Common.{ap, sym, ◌∙◌, add-one, arith, length-append, length-drop, length-take-le, take_all, take-suc}
use Rattle.std.proofs.lemmas.List.{length-reverse, get_or_at}
use Rattle.std.proofs.Math.Seq.{split_at, take-append_seam, drop-append-add, get_or-append_seam}
use Rattle.std.specs.List.{AllWithin, HoldsAt}
use Rattle.memory_range.specs.Bytes.{All}
use Rattle.memory_range.specs.Laws.Bytes.{all_append, all-reverse}
use Rattle.host_params.specs.declared.AllocationPolicy.{AllocationPolicy}
use Rattle.host_params.specs.declared.AllocationPolicy.TheVariants.{LowMemory, HighMemory}
use Rattle.address_space.specs.Search.{Search, nothing, found, past, first_of, in_order_of, searched, below_in, above_in, place_at, place_found}

-- what holds of every element holds in the order of a search
module _ {A : Type 0} (P : A → Type 0) where
  pub in_order-all : (policy : AllocationPolicy) (es : List A) → All P (in_order_of policy es) ↔ All P es
  in_order-all LowMemory es = ((λ h. h), (λ h. h))
  in_order-all HighMemory es = ((λ h. rw (reverse-reverse es) at (all-reverse P (reverse es) h)), all-reverse P es)

-- what a search says of its list: all elements fail, or its parts are the list, with the first that passes in the middle
abbrev Parts : {A : Type 0} → (A → Bool) → List A → Search A → Type 0
Parts f l nothing = All (λ y. f y ≡ false) l
Parts f l (found before x after) = (l ≡ before ++ x ∷ after) × ((f x ≡ true) × All (λ y. f y ≡ false) before)

parts-past : {A : Type 0} (f : A → Bool) (x : A) (l : List A) (s : Search A) → f x ≡ false → Parts f l s → Parts f (x ∷ l) (past x s)
parts-past f x l nothing h p = (h, p)
parts-past f x l (found before y after) h p = (ap (λ t. x ∷ t) p.0, (p.1.0, (h, p.1.1)))

parts : {A : Type 0} (f : A → Bool) (l : List A) → Parts f l (first_of f l)
parts f [] = tt
parts f (x ∷ xs) = go (f x) refl (parts f xs)
  where
    go : (t : Bool) → f x ≡ t → Parts f xs (first_of f xs) → Parts f (x ∷ xs) (cond t (found [] x xs) (past x (first_of f xs)))
    go true h i = (refl, (h, tt))
    go false h i = parts-past f x xs (first_of f xs) h i

module _ {A : Type 0} (f : A → Bool) (l before : List A) (x : A) (after : List A) where
  parts-found : first_of f l ≡ found before x after → Parts f l (found before x after)
  parts-found h = rw h at (parts f l)

  -- the parts are the list
  pub found-splits : first_of f l ≡ found before x after → l ≡ before ++ x ∷ after
  found-splits h = (parts-found h).0

  -- the element found passes
  pub found-fits : first_of f l ≡ found before x after → f x ≡ true
  found-fits h = (parts-found h).1.0

  -- no element before it does
  pub none_before : first_of f l ≡ found before x after → All (λ y. f y ≡ false) before
  none_before h = (parts-found h).1.1

-- low: no entry below the one found fits; high: none above it
pub lowest_fit : {A : Type 0} (f : A → Bool) (es before : List A) (x : A) (after : List A) → searched LowMemory f es ≡ found before x after
    → All (λ y. f y ≡ false) (below_in LowMemory before after)
lowest_fit f es before x after h = none_before f es before x after h

pub highest_fit : {A : Type 0} (f : A → Bool) (es before : List A) (x : A) (after : List A) → searched HighMemory f es ≡ found before x after
    → All (λ y. f y ≡ false) (above_in HighMemory before after)
highest_fit f es before x after h = all-reverse (λ y. f y ≡ false) before (none_before f (reverse es) before x after h)

-- a search among elements that all fail ends at nothing
all_fail : {A : Type 0} (f : A → Bool) (l : List A) → All (λ y. f y ≡ false) l → first_of f l ≡ nothing
all_fail f [] h = refl
all_fail f (x ∷ xs) h = rw (h.0, all_fail f xs h.1)

-- a search ends at nothing exactly where all elements fail
pub nothing-fits : {A : Type 0} (f : A → Bool) (l : List A) → (first_of f l ≡ nothing) ↔ All (λ y. f y ≡ false) l
nothing-fits f l = ((λ h. rw h at (parts f l)), all_fail f l)

-- the first element that passes is the one found
found_first : {A : Type 0} (f : A → Bool) (before : List A) (x : A) (after : List A)
    → All (λ y. f y ≡ false) before → f x ≡ true → first_of f (before ++ x ∷ after) ≡ found before x after
found_first f [] x after h g = rw g
found_first f (y ∷ before) x after h g = rw (h.0, found_first f before x after h.1 g)

-- a list reversed around one of its elements
reverse_around : {A : Type 0} (xs : List A) (x : A) (ys : List A) → reverse (xs ++ x ∷ ys) ≡ reverse ys ++ x ∷ reverse xs
reverse_around xs x ys = rw (reverse-append xs (x ∷ ys), reverse-cons x ys, append_assoc)

-- an element that passes, where none that is looked at before it does, is the one found: low looks at those below it, high at those above it
pub low-found : {A : Type 0} (f : A → Bool) (below : List A) (x : A) (above : List A) → f x ≡ true → All (λ y. f y ≡ false) below
    → searched LowMemory f (below ++ x ∷ above) ≡ found below x above
low-found f below x above g h = found_first f below x above h g

pub high-found : {A : Type 0} (f : A → Bool) (below : List A) (x : A) (above : List A) → f x ≡ true → All (λ y. f y ≡ false) above
    → searched HighMemory f (below ++ x ∷ above) ≡ found (reverse above) x (reverse below)
high-found f below x above g h = rw (reverse_around below x above) (found_first f (reverse above) x (reverse below) (all-reverse (λ y. f y ≡ false) above h) g)

-- a list whose order of search has these parts
in_order-splits : {A : Type 0} (policy : AllocationPolicy) (es before : List A) (x : A) (after : List A)
    → in_order_of policy es ≡ before ++ x ∷ after → es ≡ below_in policy before after ++ x ∷ above_in policy before after
in_order-splits LowMemory es before x after h = h
in_order-splits HighMemory es before x after h = sym (reverse-reverse es) ∙ ap reverse h ∙ reverse_around before x after

-- the parts of a list around one of its elements, by the element's index
parts_at : {A : Type 0} (es below : List A) (x : A) (above : List A) (d : A) → es ≡ below ++ x ∷ above
    → (length below < length es) × ((take (length below) es ≡ below) × ((get_or es (length below) d ≡ x) × (drop (length below + 1) es ≡ above)))
parts_at es below x above d h = (
  omega (arith, simp length-append at (ap length h)),
  (
    rw h (take-append_seam below (x ∷ above)),
    (rw h (get_or-append_seam below x above d), rw h (drop-append-add below (x ∷ above) 1)),
  ),
)

module _ {A : Type 0} (policy : AllocationPolicy) (f : A → Bool) (es before : List A) (x : A) (after : List A) where
  -- what lies below the element found, it, and what lies above it are the list
  pub found_in-table : searched policy f es ≡ found before x after → es ≡ below_in policy before after ++ x ∷ above_in policy before after
  found_in-table h = in_order-splits policy es before x after (found-splits f (in_order_of policy es) before x after h)

  -- the same by its index
  pub found_at : (d : A) → searched policy f es ≡ found before x after
      → (length (below_in policy before after) < length es)
      × ((take (length (below_in policy before after)) es ≡ below_in policy before after)
      × ((get_or es (length (below_in policy before after)) d ≡ x)
      × (drop (length (below_in policy before after) + 1) es ≡ above_in policy before after)))
  found_at d h = parts_at es (below_in policy before after) x (above_in policy before after) d (found_in-table h)

-- the index of an element looked at lies in the list
pub place_below : (policy : AllocationPolicy) (n k : ℕ) → k < n → place_at policy n k < n
place_below LowMemory n k h = h
place_below HighMemory n k h = omega arith

length_in_order : {A : Type 0} (policy : AllocationPolicy) (es : List A) → length (in_order_of policy es) ≡ length es
length_in_order LowMemory es = refl
length_in_order HighMemory es = length-reverse es

-- the element looked at after so many others
in_order-at : {A : Type 0} (policy : AllocationPolicy) (es : List A) (seen : ℕ) (d : A) → seen < length es
    → get_or (in_order_of policy es) seen d ≡ get_or es (place_at policy (length es) seen) d
in_order-at LowMemory es seen d h = refl
in_order-at HighMemory es seen d h =
    let at = length es - 1 - seen in
    let x = get_or es at d in
    let e = ap reverse (split_at es at d (omega arith)) ∙ reverse_around (take at es) x (drop (suc at) es) in
    ap (λ l. get_or l seen d) e
    ∙ get_or_at (reverse (drop (suc at) es)) x (reverse (take at es)) d seen (simp (length-reverse, length-drop) (omega arith))

-- how many lie below it
below_at : {A : Type 0} (policy : AllocationPolicy) (es : List A) (seen : ℕ) → seen < length es
    → length (below_in policy (take seen (in_order_of policy es)) (drop (suc seen) (in_order_of policy es))) ≡ place_at policy (length es) seen
below_at LowMemory es seen h = length-take-le seen es (omega arith)
below_at HighMemory es seen h = simp (length-reverse, length-drop) (omega arith)

-- a search that has gone past so many elements: how it ends at the next one, goes past it, or ends where there is none
module _ {A : Type 0} (policy : AllocationPolicy) (f : A → Bool) (es : List A) (seen : ℕ)
    (failed : All (λ y. f y ≡ false) (take seen (in_order_of policy es))) where
  pub search_hit : (d : A) → seen < length es → f (get_or es (place_at policy (length es) seen) d) ≡ true
      → place_found policy (searched policy f es) ≡ Some (place_at policy (length es) seen)
  search_hit d h t =
      let l = in_order_of policy es in
      let e = split_at l seen d (rw (length_in_order policy es) h) in
      let fits = ap f (in_order-at policy es seen d h) ∙ t in
      ap (λ r. place_found policy (first_of f r)) e
      ∙ ap (place_found policy) (found_first f (take seen l) (get_or l seen d) (drop (suc seen) l) failed fits)
      ∙ ap Some (below_at policy es seen h)

  pub search_miss : (d : A) → seen < length es → f (get_or es (place_at policy (length es) seen) d) ≡ false
      → All (λ y. f y ≡ false) (take (seen + 1) (in_order_of policy es))
  search_miss d h t =
      let l = in_order_of policy es in
      rw (add-one seen, take-suc l seen d (rw (length_in_order policy es) h))
      (all_append (λ y. f y ≡ false) (take seen l) (get_or l seen d ∷ []) failed (ap f (in_order-at policy es seen d h) ∙ t, tt))

  pub search-end : length es ≤ seen → place_found policy (searched policy f es) ≡ None
  search-end h =
      let l = in_order_of policy es in
      ap (place_found policy) (all_fail f l (rw (take_all seen l (rw (length_in_order policy es) h)) at failed))

-- what holds at each of the first indices holds of the first elements
all-within : {A : Type 0} (P : A → Type 0) (l : List A) (n : ℕ) → n ≤ length l → AllWithin P l 0 n → All P (take n l)
all-within P l zero h w = tt
all-within P [] (suc n) h w = absurd (omega arith)
all-within P (x ∷ xs) (suc n) h w =
    (w 0 x (omega arith) (omega arith), all-within P xs n (omega arith) (λ k d a b. w (suc k) d (omega arith) (omega arith)))

-- a search by the index of the first element that passes, in its order
module _ {A : Type 0} (policy : AllocationPolicy) (f : A → Bool) (es : List A) where
  pub first-none : AllWithin (λ y. f y ≡ false) (in_order_of policy es) 0 (length (in_order_of policy es))
      → place_found policy (searched policy f es) ≡ None
  first-none w =
      let l = in_order_of policy es in
      let n = length_in_order policy es in
      search-end policy f es (length l) (all-within (λ y. f y ≡ false) l (length l) (omega arith) w) (omega arith)

  pub first-at : (i : ℕ) (d : A) → i < length (in_order_of policy es) → HoldsAt (λ y. f y ≡ true) (in_order_of policy es) i
      → AllWithin (λ y. f y ≡ false) (in_order_of policy es) 0 i
      → place_found policy (searched policy f es) ≡ Some (place_at policy (length es) i)
  first-at i d h t w =
      let l = in_order_of policy es in
      let n = length_in_order policy es in
      let below : i < length es = omega arith in
      search_hit policy f es i (all-within (λ y. f y ≡ false) l i (omega arith) w) d below (sym (ap f (in_order-at policy es i d below)) ∙ t d)
