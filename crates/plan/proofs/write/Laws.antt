-- Laws of the lists as they are written: what an iterator gives is what is put, and the lines of each list are those that its iterator gives.
use Prim.Native.Nat.{ℕ, ◌≤◌}
use mathlib.Core.Path.{◌≡◌, refl, ap, sym, ◌∙◌}
use mathlib.Core.List.{List, [], ◌∷◌, map}
use native.Mathlib.Omega.{arith}
use lib.ListN.{length}
use Rattle.std.specs.Prelude.{Option}
use Rattle.std.specs.Iterator.{AlwaysYields, Drains, HoldsAlong, Yields}
use Rattle.std.proofs.lemmas.Iterator.{YieldsList, items_from_drains}
use Rattle.host_params.specs.declared.MemoryVtlType.{MemoryVtlType}
use Rattle.host_params.specs.declared.MemoryVtlType.TheVariants as vtl
use Rattle.address_space.specs.declared.list.Vtl2Range.{Vtl2Range}
use Rattle.address_space.specs.List.{numbered_ranges}
use Rattle.address_space.specs.Usage.{type_number}
use Rattle.plan.specs.declared.line.OutputLine.TheVariants.{Map}
use Rattle.plan.specs.Line.{Room}
use Rattle.plan.specs.Write.{type_of, typed_lines}

-- an iterator that gives a list gives no more at any time
module _ {S A B : Type 0} (steps : S → Option A → S → Type 0) (v : A → B) where
  few : (ys : List B) (s : S) → AlwaysYields steps v s ys → (xs : List A) (t : S) → Yields steps s xs t → length xs ≤ length ys
  few [] s a [] t y = omega arith
  few [] s a (x ∷ xs) t y = absurd (a x y.0 y.1)
  few (z ∷ ys) s a [] t y = omega arith
  few (z ∷ ys) s a (x ∷ xs) t y = omega (arith, few ys y.0 (a.1 x y.0 y.1).1 xs t y.2)

pub room_for : {S A B : Type 0} {steps : S → Option A → S → Type 0} {v : A → B} {s : S} {all : List B} (at : ℕ) (b : List ℕ)
    → Room (length all) at b → YieldsList steps v s all → HoldsAlong steps s (λ ls. Room (length ls) at b)
room_for {steps = steps} {v = v} {s = s} {all = all} at b room y xs t run = omega (arith, room, few steps v all s y.runs xs t run)

map_same : {A : Type 0} (xs : List A) → map (λ x. x) xs ≡ xs
map_same [] = refl
map_same (x ∷ xs) = ap (λ l. x ∷ l) (map_same xs)

-- what it gave up to its end is that list
pub drained : {S A : Type 0} {steps : S → Option A → S → Type 0} {s : S} {all : List A} (xs : List A) → Drains steps s xs
    → YieldsList steps (λ x. x) s all → xs ≡ all
drained xs d y = sym (map_same xs) ∙ items_from_drains xs (d.1.0, d.1.1, λ _. (d.0, d.1.2)) y

-- a type is found again by its number
type-again : (t : MemoryVtlType) → type_of (type_number t) ≡ t
type-again vtl.Ram = refl
type-again vtl.Config = refl
type-again vtl.SidecarImage = refl
type-again vtl.SidecarNode = refl
type-again vtl.Reserved = refl
type-again vtl.GpaPool = refl
type-again vtl.TdxPageTables = refl
type-again vtl.BootshimLogBuffer = refl
type-again vtl.PersistedStateHeader = refl
type-again vtl.PersistedStatePayload = refl

-- the joined ranges of a table, as they are handed over
pub map_handed : (xs : List Vtl2Range) → map (λ x. Map x.range x.vtl_type) xs ≡ typed_lines (numbered_ranges xs)
map_handed [] = refl
map_handed (x ∷ xs) = rw (type-again x.vtl_type) (ap (λ ls. Map x.range x.vtl_type ∷ ls) (map_handed xs))
