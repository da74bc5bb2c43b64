-- An absent first field shows in the first two bytes.
use Rattle.std.specs.Prelude.{Option, Some, None}
use Prim.Native.Nat.{ℕ, ◌<◌}
use mathlib.Core.Path.{◌≡◌, refl, sym, ◌∙◌}
use mathlib.Core.Bool.{Bool, true, false, ◌&&◌}
use mathlib.Core.List.{List, [], ◌∷◌}
use native.Mathlib.Omega.{arith}
use native.Mathlib.Decide.{dec_lt}
use borrow.Author.Tests.{eqb-true, eqb-false, eq-eqb, ne_eqb, lt-ltb, le-ltb}
use lib.Dec.{eqb}
use lib.Pointwise.{pointwise}
use Rattle.std.specs.List.{starts_with}
use lib.ListN.{length, take}
use Rattle.plan_fields.specs.Cut.{tab, first_part, first_of}
use Rattle.plan_fields.specs.Laws.Word.{same_eq, same_refl}
use Rattle.plan_fields.specs.Number.{number_of}
use Rattle.plan_fields.specs.Word.{same_bytes, after}
use Rattle.plan_record.specs.Value.{absent, absent_first, optional_of}

absent_there : (bs : List ℕ) → same_bytes (take 2 bs) absent_first ≡ true → first_of optional_of bs ≡ Some (None, 1)
unfolding first_of
absent_there [] h = let z : ◌≡◌ {A = ℕ} 0 1 = cc in absurd (omega arith)
absent_there (b ∷ []) h = let e = same_eq (b ∷ []) absent_first h in let z : ◌≡◌ {A = ℕ} 0 1 = cc in absurd (omega arith)
absent_there (b ∷ c ∷ bs) h =
    let e = same_eq (b ∷ c ∷ []) absent_first h in
    let f : b ≡ 45 = cc in
    let g : c ≡ tab = cc in
    rw (f, g, lt-ltb 1 (length (b ∷ c ∷ bs)) (omega arith))

-- a first field that is absent has a tab behind it
shows : (bs : List ℕ) → first_part tab bs ≡ absent → 1 < length bs → take 2 bs ≡ absent_first
shows [] e h = absurd (omega arith)
shows (b ∷ []) e h = absurd (omega arith)
shows (b ∷ c ∷ bs) e h = go (eqb b tab) (eqb c tab) refl refl
  where
    go : (s t : Bool) → eqb b tab ≡ s → eqb c tab ≡ t → take 2 (b ∷ c ∷ bs) ≡ absent_first
    go true t f g = let k = rw f at e in let z : ◌≡◌ {A = ℕ} 0 1 = cc in absurd (omega arith)
    go false true f g = let k = rw (f, g) at e in let i : c ≡ tab = eqb-true c tab g in cc
    go false false f g = let k = rw (f, g) at e in let z : ◌≡◌ {A = ℕ} 0 1 = cc in absurd (omega arith)

number_there : (bs : List ℕ) → same_bytes (take 2 bs) absent_first ≡ false
    → first_of optional_of bs ≡ after {B = (Option ℕ) × ℕ} (first_of number_of bs) (λ s. Some (Some s.0, s.1))
unfolding first_of
number_there bs h = elim (dec_lt (length (first_part tab bs)) (length bs)) [
  | yes k ↦ rw (lt-ltb (length (first_part tab bs)) (length bs) k) (go (same_bytes (first_part tab bs) absent) (number_of (first_part tab bs)) refl refl k)
  | no k ↦ rw (le-ltb (length (first_part tab bs)) (length bs) (omega arith))
]
  where
    go : (t : Bool) (o : Option ℕ) → same_bytes (first_part tab bs) absent ≡ t → number_of (first_part tab bs) ≡ o → length (first_part tab bs) < length bs
        → after {B = (Option ℕ) × ℕ} (optional_of (first_part tab bs)) (λ v. Some (v, length (first_part tab bs)))
        ≡ after {B = (Option ℕ) × ℕ} (after {B = ℕ × ℕ} (number_of (first_part tab bs)) (λ n. Some (n, length (first_part tab bs)))) (λ s. Some (Some s.0, s.1))
    go true o e f k =
        let p = same_eq (first_part tab bs) absent e in
        let q = shows bs p (rw p at k) in
        let r : true ≡ false = sym (same_refl absent_first) ∙ rw q at h in
        let z : ◌≡◌ {A = ℕ} 0 1 = cc in absurd (omega arith)
    go false None e f k = rw (e, f)
    go false (Some n) e f k = rw (e, f)

-- the code compares the other way round
turned : (a b : List ℕ) → pointwise eqb a b ≡ same_bytes b a
turned [] [] = refl
turned [] (y ∷ b) = refl
turned (x ∷ a) [] = refl
turned (x ∷ a) (y ∷ b) = go (eqb x y) refl (turned a b)
  where
    go : (t : Bool) → eqb x y ≡ t → pointwise eqb a b ≡ same_bytes b a → (eqb x y && pointwise eqb a b) ≡ (eqb y x && same_bytes b a)
    go true e i = let same = eqb-true x y e in rw (e, eq-eqb y x (sym same)) i
    go false e i = let other = eqb-false x y e in rw (e, ne_eqb y x (λ h. other (sym h)))

-- the two as steps of a search, by the answer `r` to whether the field is absent
pub is-absent : (bs : List ℕ) (r : Bool) → r ≡ starts_with eqb bs absent_first → r ≡ true → Some (None, 1) ≡ first_of optional_of bs
is-absent bs r e h = sym (absent_there bs (sym (turned absent_first (take 2 bs)) ∙ sym e ∙ h))

pub is_number : (bs : List ℕ) (r : Bool) (x : Option (Option ℕ × ℕ)) → r ≡ starts_with eqb bs absent_first → r ≡ false
    → x ≡ after (first_of number_of bs) (λ s. Some (Some s.0, s.1)) → x ≡ first_of optional_of bs
is_number bs r x e h p = p ∙ sym (number_there bs (sym (turned absent_first (take 2 bs)) ∙ sym e ∙ h))
