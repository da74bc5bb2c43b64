-- The search (docs/SPEC.md, section 22): low looks at the entries from the bottom up, high from the top down.
use Rattle.std.specs.Prelude.{ℕ, ◌-◌, Bool, cond, List, [], ◌∷◌, reverse, length, Option, None, Some}
use Rattle.host_params.specs.declared.AllocationPolicy.{AllocationPolicy}
use Rattle.host_params.specs.declared.AllocationPolicy.TheVariants.{LowMemory, HighMemory}

-- a search ends at nothing, or at an element, with those looked at before it and those not looked at
pub data Search (A : Type 0) : Type 0 where
  nothing : Search A
  found : List A → A → List A → Search A

-- the search goes past x
abbrev pub past : {A : Type 0} → A → Search A → Search A
past x nothing = nothing
past x (found before y after) = found (x ∷ before) y after

-- the first element that passes
abbrev pub first_of : {A : Type 0} → (A → Bool) → List A → Search A
first_of f [] = nothing
first_of f (x ∷ xs) = cond (f x) (found [] x xs) (past x (first_of f xs))

-- a list in the order in which a policy looks at it
abbrev pub in_order_of : {A : Type 0} → AllocationPolicy → List A → List A
in_order_of LowMemory l = l
in_order_of HighMemory l = reverse l

abbrev pub searched : {A : Type 0} → AllocationPolicy → (A → Bool) → List A → Search A
searched policy f l = first_of f (in_order_of policy l)

-- those that lie below the element found, and those above it, in the order of the list
abbrev pub below_in : {A : Type 0} → AllocationPolicy → List A → List A → List A
below_in LowMemory before after = before
below_in HighMemory before after = reverse after

abbrev pub above_in : {A : Type 0} → AllocationPolicy → List A → List A → List A
above_in LowMemory before after = after
above_in HighMemory before after = reverse before

-- the index in a list of n elements of the one looked at after k others
abbrev pub place_at : AllocationPolicy → ℕ → ℕ → ℕ
place_at LowMemory n k = k
place_at HighMemory n k = n - 1 - k

-- the index of the element found, if there is one
abbrev pub place_found : {A : Type 0} → AllocationPolicy → Search A → Option ℕ
place_found policy nothing = None
place_found policy (found before x after) = Some (length (below_in policy before after))
