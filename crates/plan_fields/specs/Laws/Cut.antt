-- Laws of cut bytes: what the first part and the later ones are, that the parts with the separator between
-- them are the bytes again, that no part holds the separator, and that parts so joined are cut apart again.
use Rattle.std.specs.Prelude.{ℕ, zero, suc, ◌+◌, ◌≤◌, ◌<◌, ◌≡◌, refl, Bool, true, false, List, [], ◌∷◌, ◌++◌, eqb, length, take, drop}
use Rattle.std.proofs.Common.{ap, ◌∙◌, arith, add-one, eqb-true, eq-eqb}
use Rattle.std.proofs.Math.Decide.{dec_lt}
use Rattle.plan_fields.specs.Cut.{on_first, split_on, first_part, join_with}

-- the first part is no longer than the bytes
pub first-length : (c : ℕ) (bs : List ℕ) → length (first_part c bs) ≤ length bs
first-length c [] = omega arith
first-length c (b ∷ bs) = go (eqb b c) refl (first-length c bs)
  where
    go : (t : Bool) → eqb b c ≡ t → length (first_part c bs) ≤ length bs → length (first_part c (b ∷ bs)) ≤ length (b ∷ bs)
    go true e i = rw e (omega arith)
    go false e i = rw e (omega arith)

-- the first part of the first n bytes is the first n bytes of the first part
pub first-take : (c n : ℕ) (bs : List ℕ) → first_part c (take n bs) ≡ take n (first_part c bs)
first-take c zero bs = refl
first-take c (suc n) [] = refl
first-take c (suc n) (b ∷ bs) = go (eqb b c) refl (first-take c n bs)
  where
    go : (t : Bool) → eqb b c ≡ t → first_part c (take n bs) ≡ take n (first_part c bs)
        → first_part c (b ∷ take n bs) ≡ take (suc n) (first_part c (b ∷ bs))
    go true e i = rw e
    go false e i = rw e (ap (λ (l : List ℕ). b ∷ l) i)

-- a byte in front of the first part makes no new one
pub first_count : (b : ℕ) (ps : List (List ℕ)) → 1 ≤ length ps → length (on_first b ps) ≡ length ps
first_count b [] h = absurd (omega arith)
first_count b (p ∷ ps) h = refl

-- there is always a part
pub split-some : (c : ℕ) (bs : List ℕ) → 1 ≤ length (split_on c bs)
split-some c [] = omega arith
split-some c (b ∷ bs) = go (eqb b c) refl (split-some c bs)
  where
    go : (t : Bool) → eqb b c ≡ t → 1 ≤ length (split_on c bs) → 1 ≤ length (split_on c (b ∷ bs))
    go true e i = rw e (omega arith)
    go false e i = rw e (omega (arith, first_count b (split_on c bs) i))

-- where there is no separator, the bytes are the only part
pub split-none : (c : ℕ) (bs : List ℕ) → length bs ≤ length (first_part c bs) → split_on c bs ≡ bs ∷ []
split-none c [] h = refl
split-none c (b ∷ bs) h = go (eqb b c) refl (split-none c bs)
  where
    go : (t : Bool) → eqb b c ≡ t → (length bs ≤ length (first_part c bs) → split_on c bs ≡ bs ∷ []) → split_on c (b ∷ bs) ≡ (b ∷ bs) ∷ []
    go true e i = let k = rw e at h in absurd (omega arith)
    go false e i = let k = rw e at h in rw (e, i (omega arith))

-- where there is one, it stands right behind the first part
pub first_ends : (c : ℕ) (bs : List ℕ) → length (first_part c bs) < length bs
    → bs ≡ first_part c bs ++ c ∷ drop (length (first_part c bs) + 1) bs
first_ends c [] h = absurd (omega arith)
first_ends c (b ∷ bs) h = go (eqb b c) refl (first_ends c bs)
  where
    go : (t : Bool) → eqb b c ≡ t
        → (length (first_part c bs) < length bs → bs ≡ first_part c bs ++ c ∷ drop (length (first_part c bs) + 1) bs)
        → b ∷ bs ≡ first_part c (b ∷ bs) ++ c ∷ drop (length (first_part c (b ∷ bs)) + 1) (b ∷ bs)
    go true e i = rw (e, eqb-true b c e)
    go false e i = let k = rw e at h in let behind = rw add-one at (i (omega arith)) in rw (e, add-one _) (ap (λ (l : List ℕ). b ∷ l) behind)

-- behind the first separator, the bytes left are cut in the same way
pub split-first : (c : ℕ) (bs : List ℕ) → length (first_part c bs) < length bs
    → split_on c bs ≡ first_part c bs ∷ split_on c (drop (length (first_part c bs) + 1) bs)
split-first c [] h = absurd (omega arith)
split-first c (b ∷ bs) h = go (eqb b c) refl (split-first c bs)
  where
    go : (t : Bool) → eqb b c ≡ t
        → (length (first_part c bs) < length bs → split_on c bs ≡ first_part c bs ∷ split_on c (drop (length (first_part c bs) + 1) bs))
        → split_on c (b ∷ bs) ≡ first_part c (b ∷ bs) ∷ split_on c (drop (length (first_part c (b ∷ bs)) + 1) (b ∷ bs))
    go true e i = rw e
    go false e i = let k = rw e at h in rw (e, i (omega arith), add-one _, add-one _)

-- the same by the count of parts
pub split_one : (c : ℕ) (bs : List ℕ) → length (split_on c bs) ≡ 1 → split_on c bs ≡ bs ∷ []
split_one c bs h = elim (dec_lt (length (first_part c bs)) (length bs)) [
  | yes k ↦ absurd (omega (arith, ap length (split-first c bs k), split-some c (drop (length (first_part c bs) + 1) bs)))
  | no k ↦ split-none c bs (omega arith)
]

join-cons : (c : ℕ) (p : List ℕ) (ps : List (List ℕ)) → 1 ≤ length ps → join_with c (p ∷ ps) ≡ p ++ c ∷ join_with c ps
join-cons c p [] h = absurd (omega arith)
join-cons c p (q ∷ ps) h = refl

join_first : (c b : ℕ) (ps : List (List ℕ)) → join_with c (on_first b ps) ≡ b ∷ join_with c ps
join_first c b [] = refl
join_first c b (p ∷ []) = refl
join_first c b (p ∷ q ∷ ps) = refl

-- the parts with the separator between each two are the bytes
pub join_split : (c : ℕ) (bs : List ℕ) → join_with c (split_on c bs) ≡ bs
join_split c [] = refl
join_split c (b ∷ bs) = go (eqb b c) refl (join_split c bs)
  where
    go : (t : Bool) → eqb b c ≡ t → join_with c (split_on c bs) ≡ bs → join_with c (split_on c (b ∷ bs)) ≡ b ∷ bs
    go true e i = rw (e, join-cons c [] (split_on c bs) (split-some c bs), i, eqb-true b c e)
    go false e i = rw (e, join_first, i)

-- no byte of the part is c
abbrev pub Without : ℕ → List ℕ → Type 0
Without c [] = Unit {0}
Without c (b ∷ bs) = (eqb b c ≡ false) × Without c bs

-- no byte of any of the parts is c
abbrev pub AllWithout : ℕ → List (List ℕ) → Type 0
AllWithout c [] = Unit {0}
AllWithout c (p ∷ ps) = Without c p × AllWithout c ps

first-without : (c b : ℕ) (ps : List (List ℕ)) → eqb b c ≡ false → AllWithout c ps → AllWithout c (on_first b ps)
first-without c b [] e a = ((e, tt), tt)
first-without c b (p ∷ ps) e a = ((e, a.0), a.1)

-- no part holds the separator
pub split_clean : (c : ℕ) (bs : List ℕ) → AllWithout c (split_on c bs)
split_clean c [] = (tt, tt)
split_clean c (b ∷ bs) = go (eqb b c) refl (split_clean c bs)
  where
    go : (t : Bool) → eqb b c ≡ t → AllWithout c (split_on c bs) → AllWithout c (split_on c (b ∷ bs))
    go true e i = rw e (tt, i)
    go false e i = rw e (first-without c b (split_on c bs) e i)

pub first_clean : (c : ℕ) (bs : List ℕ) → Without c (first_part c bs)
first_clean c [] = tt
first_clean c (b ∷ bs) = go (eqb b c) refl (first_clean c bs)
  where
    go : (t : Bool) → eqb b c ≡ t → Without c (first_part c bs) → Without c (first_part c (b ∷ bs))
    go true e i = rw e tt
    go false e i = rw e (e, i)

-- bytes without the separator are one part
split-without : (c : ℕ) (p : List ℕ) → Without c p → split_on c p ≡ p ∷ []
split-without c [] h = refl
split-without c (b ∷ p) h = rw (h.0, split-without c p h.1)

-- and in front of a separator they are the first
pub split_append : (c : ℕ) (p rest : List ℕ) → Without c p → split_on c (p ++ c ∷ rest) ≡ p ∷ split_on c rest
split_append c [] rest h = rw (eq-eqb c c refl)
split_append c (b ∷ p) rest h = rw (h.0, split_append c p rest h.1)

-- parts that are joined are cut again into the same parts
pub split_join : (c : ℕ) (p : List ℕ) (ps : List (List ℕ)) → AllWithout c (p ∷ ps) → split_on c (join_with c (p ∷ ps)) ≡ p ∷ ps
split_join c p [] h = split-without c p h.0
split_join c p (q ∷ ps) h = split_append c p (join_with c (q ∷ ps)) h.0 ∙ ap (λ (l : List (List ℕ)). p ∷ l) (split_join c q ps h.1)
