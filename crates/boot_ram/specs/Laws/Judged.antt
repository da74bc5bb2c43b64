-- What verdicts come to. Where they are accepted, nothing is lost: the free and the chosen pieces are all of
-- theirs, and none refuses. Accepted or not, the pieces that are held fit the bounds. Where they are refused, one
-- of them refuses, or all their pieces together do not fit.
use Rattle.std.specs.Prelude.{ℕ, ◌+◌, ◌≤◌, ◌<◌, ◌≡◌, refl, Bool, true, false, cond, List, [], ◌∷◌, ◌++◌, map, ◌⊎◌, ltb, length, Some, None}
use Rattle.std.proofs.Common.{sym, ap, inl, inr, ⊎_elim, arith, ltb-true, ltb-false}
use Rattle.memory_range.specs.declared.range.TaggedRange.{TaggedRange}
use Rattle.memory_range.specs.Bytes.{All}
use Rattle.boot_ram.specs.Verdict.{Verdict, free, choose, refuse, pass, max_free, max_chosen, Judged, ends, with_free, with_chosen, judged}
use Rattle.boot_ram.specs.Held.{free_in, chosen_in, Fits}
use Rattle.refusal.specs.declared.Refusal.{Refusal}
use Rattle.refusal.specs.Number.{too_many_pieces}
use Rattle.std.proofs.lemmas.Option.{none-some}

-- what holds of the verdict on each piece holds of all verdicts
pub verdicts-all : {A : Type 0} (P : Verdict → Type 0) (f : A → Verdict) (ps : List A) → All (λ p. P (f p)) ps → All P (map f ps)
verdicts-all P f [] h = tt
verdicts-all P f (p ∷ ps) h = (h.0, verdicts-all P f ps h.1)

abbrev pub NotRefused : Verdict → Type 0
NotRefused (free x) = Unit {0}
NotRefused (choose x) = Unit {0}
NotRefused (refuse n) = ⊥
NotRefused pass = Unit {0}

-- what is accepted under a bound keeps the bound
within : (b : Bool) (j : Judged) → (cond b j (ends (Some too_many_pieces))).refusal ≡ None
    → (cond b j (ends (Some too_many_pieces)) ≡ j) × (j.refusal ≡ None)
within true j h = (refl, h)
within false j h = absurd (none-some too_many_pieces (sym h))

-- an accepted list has all its pieces
pub judged-accepted : (f c : ℕ) (vs : List Verdict) → (judged f c vs).refusal ≡ None
    → ((judged f c vs).free ≡ free_in vs) × ((judged f c vs).chosen ≡ chosen_in vs)
judged-accepted f c [] h = (refl, refl)
judged-accepted f c (free x ∷ vs) h =
    let w = within (ltb f max_free) (with_free x (judged (f + 1) c vs)) h in
    let i = judged-accepted (f + 1) c vs w.1 in
    rw w.0 (ap (λ (l : List TaggedRange). x ∷ l) i.0, i.1)
judged-accepted f c (choose x ∷ vs) h =
    let w = within (ltb c max_chosen) (with_chosen x (judged f (c + 1) vs)) h in
    let i = judged-accepted f (c + 1) vs w.1 in
    rw w.0 (i.0, ap (λ (l : List TaggedRange). x ∷ l) i.1)
judged-accepted f c (refuse n ∷ vs) h = absurd (none-some n (sym h))
judged-accepted f c (pass ∷ vs) h = judged-accepted f c vs h

pub accepted-none_refused : (f c : ℕ) (vs : List Verdict) → (judged f c vs).refusal ≡ None → All NotRefused vs
accepted-none_refused f c [] h = tt
accepted-none_refused f c (free x ∷ vs) h =
    (tt, accepted-none_refused (f + 1) c vs (within (ltb f max_free) (with_free x (judged (f + 1) c vs)) h).1)
accepted-none_refused f c (choose x ∷ vs) h =
    (tt, accepted-none_refused f (c + 1) vs (within (ltb c max_chosen) (with_chosen x (judged f (c + 1) vs)) h).1)
accepted-none_refused f c (refuse n ∷ vs) h = absurd (none-some n (sym h))
accepted-none_refused f c (pass ∷ vs) h = (tt, accepted-none_refused f c vs h)

-- with those that are held already there are no more pieces than the bounds
abbrev pub WithinBounds : ℕ → ℕ → Judged → Type 0
WithinBounds f c j = (f + length j.free ≤ max_free) × (c + length j.chosen ≤ max_chosen)

-- what is shown of a piece that still fits holds where the list ends at one that does not, too
bounded : (f c a m : ℕ) (j : Judged) → f ≤ max_free → c ≤ max_chosen → (a + 1 ≤ m → WithinBounds f c j)
    → WithinBounds f c (cond (ltb a m) j (ends (Some too_many_pieces)))
bounded f c a m j hf hc fits = go (ltb a m) refl
  where
    go : (b : Bool) → ltb a m ≡ b → WithinBounds f c (cond b j (ends (Some too_many_pieces)))
    go true e = fits (omega (arith, ltb-true a m e))
    go false e = (omega arith, omega arith)

pub judged_bounds : (f c : ℕ) (vs : List Verdict) → f ≤ max_free → c ≤ max_chosen
    → (f + length (judged f c vs).free ≤ max_free) × (c + length (judged f c vs).chosen ≤ max_chosen)
judged_bounds f c [] hf hc = (omega arith, omega arith)
judged_bounds f c (free x ∷ vs) hf hc =
    bounded f c f max_free (with_free x (judged (f + 1) c vs)) hf hc (λ h. let i = judged_bounds (f + 1) c vs h hc in (omega arith, i.1))
judged_bounds f c (choose x ∷ vs) hf hc =
    bounded f c c max_chosen (with_chosen x (judged f (c + 1) vs)) hf hc (λ h. let i = judged_bounds f (c + 1) vs hf h in (i.0, omega arith))
judged_bounds f c (refuse n ∷ vs) hf hc = (omega arith, omega arith)
judged_bounds f c (pass ∷ vs) hf hc = judged_bounds f c vs hf hc

-- a verdict that refuses does so with this refusal
abbrev pub RefusesAs : Refusal → Verdict → Type 0
RefusesAs k (free x) = Unit {0}
RefusesAs k (choose x) = Unit {0}
RefusesAs k (refuse n) = n ≡ k
RefusesAs k pass = Unit {0}

-- of verdicts that refuse with k alone, k is told only where one of them refuses, and any other only where they
-- are too many
abbrev pub Told : Refusal → ℕ → ℕ → List Verdict → Refusal → Type 0
Told k f c vs n = ((n ≡ k) × (All NotRefused vs → ⊥)) ⊎ ((n ≡ too_many_pieces) × (Fits f c vs → ⊥))

told-behind : {k n : Refusal} (f c g d : ℕ) (v : Verdict) (vs : List Verdict) → (Fits f c (v ∷ vs) → Fits g d vs) → Told k g d vs n
    → Told k f c (v ∷ vs) n
told-behind f c g d v vs fits t = ⊎_elim (λ x. inl (x.0, λ a. x.1 a.1)) (λ x. inr (x.0, λ h. x.1 (fits h))) t

-- the first of the verdicts is held where its bound has room, and else it is the piece too many
told_by : {k n : Refusal} (f c a m : ℕ) (vs : List Verdict) (j : Judged) → (Fits f c vs → a < m) → (j.refusal ≡ Some n → Told k f c vs n)
    → (cond (ltb a m) j (ends (Some too_many_pieces))).refusal ≡ Some n → Told k f c vs n
told_by {k} {n} f c a m vs j room behind = go (ltb a m) refl
  where
    go : (b : Bool) → ltb a m ≡ b → (cond b j (ends (Some too_many_pieces))).refusal ≡ Some n → Told k f c vs n
    go true e h = behind h
    go false e h = inr (cc, λ q. absurd (omega (arith, ltb-false a m e, room q)))

pub judged-told : (k : Refusal) (f c : ℕ) (vs : List Verdict) → All (RefusesAs k) vs → {n : Refusal} → (judged f c vs).refusal ≡ Some n → Told k f c vs n
judged-told k f c [] r e = absurd (none-some _ e)
judged-told k f c (free x ∷ vs) r e =
    told_by f c f max_free (free x ∷ vs) (with_free x (judged (f + 1) c vs)) (λ h. omega arith)
    (λ h. told-behind f c (f + 1) c (free x) vs (λ q. (omega arith, q.1)) (judged-told k (f + 1) c vs r.1 h)) e
judged-told k f c (choose x ∷ vs) r e =
    told_by f c c max_chosen (choose x ∷ vs) (with_chosen x (judged f (c + 1) vs)) (λ h. omega arith)
    (λ h. told-behind f c f (c + 1) (choose x) vs (λ q. (q.0, omega arith)) (judged-told k f (c + 1) vs r.1 h)) e
judged-told k f c (refuse m ∷ vs) r e = let same = r.0 in inl (cc, λ a. a.0)
judged-told k f c (pass ∷ vs) r e = told-behind f c f c pass vs (λ h. h) (judged-told k f c vs r.1 e)

-- what is accepted fits
pub accepted-fits : (f c : ℕ) (vs : List Verdict) → f ≤ max_free → c ≤ max_chosen → (judged f c vs).refusal ≡ None → Fits f c vs
accepted-fits f c vs hf hc h =
    let all = judged-accepted f c vs h in
    let bounds = judged_bounds f c vs hf hc in
    (rw (← all.0) bounds.0, rw (← all.1) bounds.1)

-- the chosen pieces of verdicts joined
pub chosen_append : (vs ws : List Verdict) → chosen_in (vs ++ ws) ≡ chosen_in vs ++ chosen_in ws
chosen_append [] ws = refl
chosen_append (free x ∷ vs) ws = chosen_append vs ws
chosen_append (choose x ∷ vs) ws = rw (chosen_append vs ws)
chosen_append (refuse n ∷ vs) ws = chosen_append vs ws
chosen_append (pass ∷ vs) ws = chosen_append vs ws
