-- Of the search for rows: the nearest rows are all rows of one count, the greatest in the table that is at most the one
-- asked for; and the exact answer is the hint of the first row of just that count and memory.
use Rattle.std.specs.Prelude.{ℕ, zero, suc, ◌-◌, ◌≤◌, ◌<◌, max, ◌≡◌, refl, List, [], ◌∷◌, length, get_or}
use Rattle.std.proofs.Common.{sym, ◌∙◌, arith, lt-ltb, le-ltb, eq-eqb, ne_eqb}
use Rattle.std.proofs.Math.Decide.{dec_lt, ℕ_discrete}
use Rattle.dma_hint.specs.Table.{Row, processors_of, mib_of, hint_of}
use Rattle.dma_hint.specs.Lookup.{Found, exact, rows_with, next_lower, or_else, nearest_rows, exact_or}

-- the count of processors of the row at place k
abbrev pub count_at : List Row → ℕ → ℕ
count_at rows k = processors_of (get_or rows k [])

-- a row has this count
abbrev pub Has : ℕ → List Row → Type 0
Has count rows = (k : ℕ) × (k < length rows) × (count_at rows k ≡ count)

-- the greatest count of a row that is at most the bound, or 0 if there is none
pub record Greatest (bound : ℕ) (rows : List Row) (count : ℕ) : Type 0 where
  pub low : count ≤ bound
  pub most : (k : ℕ) → k < length rows → count_at rows k ≤ bound → count_at rows k ≤ count
  pub held : 0 < count → Has count rows

pub greatest_le : {bound m n : ℕ} {rows : List Row} → Greatest bound rows m → Greatest bound rows n → m ≤ n
greatest_le {m = m} g h =
    elim (dec_lt 0 m) [
      | yes l ↦ let w = g.held l in omega (arith, h.most w.0 w.1 (omega arith))
      | no l ↦ omega arith
    ]

-- with a row more in front: of a count within the bound, or of one that changes nothing
greatest_in : {bound m : ℕ} (r : Row) {rs : List Row} → processors_of r ≤ bound → Greatest bound rs m
    → Greatest bound (r ∷ rs) (max (processors_of r) m)
greatest_in {m = m} r l g =
    record {
      low = omega arith;
      most = elim [ zero ↦ λ h b. omega arith | suc k ↦ λ h b. omega (arith, g.most k (omega arith) b) ];
      held = λ h. elim (dec_lt (processors_of r) m) [
        | yes a ↦ let w = g.held (omega arith) in (suc w.0, omega arith, omega arith)
        | no a ↦ (0, omega arith, omega arith)
      ];
    }

greatest_out : {bound m : ℕ} (r : Row) {rs : List Row} → (processors_of r ≤ bound → processors_of r ≤ m)
    → Greatest bound rs m → Greatest bound (r ∷ rs) m
greatest_out r l g =
    record {
      low = g.low;
      most = elim [ zero ↦ λ h. l | suc k ↦ λ h. g.most k (omega arith) ];
      held = λ h. let w = g.held h in (suc w.0, omega arith, w.2);
    }

-- the next lower count is the greatest of a row that is at most one less
pub next-lower : (count : ℕ) (rows : List Row) → Greatest (count - 1) rows (next_lower count rows)
next-lower count [] = record { low = omega arith; most = λ k h. absurd (omega arith); held = λ h. absurd (omega arith) }
next-lower count (r ∷ rs) =
    elim (dec_lt (processors_of r) count) [
      | yes h ↦ rw (lt-ltb (processors_of r) count h) (greatest_in r (omega arith) (next-lower count rs))
      | no h ↦ rw (le-ltb (processors_of r) count (omega arith)) (greatest_out r (λ b. omega arith) (next-lower count rs))
    ]

-- there are rows of a count just where a row has it
module _ (count : ℕ) where
  pub rows-has : (rows : List Row) → 0 < length (rows_with count rows) → Has count rows
  rows-has [] h = absurd (omega arith)
  rows-has (r ∷ rs) h =
      elim (ℕ_discrete (processors_of r) count) [
        | yes e ↦ (0, omega arith, e)
        | no e ↦ let w = rows-has rs (rw (ne_eqb (processors_of r) count e) at h) in (suc w.0, omega arith, w.2)
      ]

  has-rows : (rows : List Row) (k : ℕ) → k < length rows → count_at rows k ≡ count → 0 < length (rows_with count rows)
  has-rows [] k h e = absurd (omega arith)
  has-rows (r ∷ rs) zero h e = rw (eq-eqb (processors_of r) count e) (omega arith)
  has-rows (r ∷ rs) (suc k) h e =
      elim (ℕ_discrete (processors_of r) count) [
        | yes q ↦ rw (eq-eqb (processors_of r) count q) (omega arith)
        | no q ↦ rw (ne_eqb (processors_of r) count q) (has-rows rs k (omega arith) e)
      ]

  pub no_rows : (rows : List Row) → rows_with count rows ≡ [] → (k : ℕ) → k < length rows → count_at rows k ≡ count → ⊥
  no_rows rows e k h q = omega (arith, rw e at (has-rows rows k h q))

-- the nearest rows are the rows of the greatest count of a row that is at most the count asked for
pub nearest-rows : (count : ℕ) (rows : List Row)
    → (k : ℕ) × Greatest count rows k × (nearest_rows count rows ≡ rows_with k rows)
nearest-rows count rows = go (rows_with count rows) refl
  where
    go : (l : List Row) → rows_with count rows ≡ l
        → (k : ℕ) × Greatest count rows k × (or_else l (rows_with (next_lower count rows) rows) ≡ rows_with k rows)
    go [] e =
        let g = next-lower count rows in
        let low : next_lower count rows ≤ count = omega arith in
        (_, record { low = low; most = λ k h b. g.most k h (omega (arith, no_rows count rows e k h)); held = g.held }, refl)
    go (q ∷ qs) e =
        (count, record { low = omega arith; most = λ k h b. b; held = λ h. rows-has count rows (rw e (omega arith)) }, sym e)

-- The exact answer.
module _ (count mib : ℕ) where
  -- the row is of just this count and memory
  abbrev pub Matches : Row → Type 0
  Matches r = (processors_of r ≡ count) × (mib_of r ≡ mib)

  first_miss : (r : Row) (rs : List Row) (x : Found) → (Matches r → ⊥)
      → exact_or count mib (r ∷ rs) x ≡ exact_or count mib rs x
  first_miss r rs x miss =
      elim (ℕ_discrete (processors_of r) count) [
        | yes e ↦ rw (eq-eqb (processors_of r) count e, ne_eqb (mib_of r) mib (λ f. miss (e, f)))
        | no e ↦ rw (ne_eqb (processors_of r) count e)
      ]

  -- the first row that matches gives its hint
  pub exact-first : (rows : List Row) (x : Found) (k : ℕ) → k < length rows → Matches (get_or rows k [])
      → ((j : ℕ) → j < k → Matches (get_or rows j []) → ⊥) → exact_or count mib rows x ≡ exact (hint_of (get_or rows k []))
  exact-first [] x k h m before = absurd (omega arith)
  exact-first (r ∷ rs) x zero h m before = rw (eq-eqb (processors_of r) count m.0, eq-eqb (mib_of r) mib m.1)
  exact-first (r ∷ rs) x (suc k) h m before =
      first_miss r rs x (before 0 (omega arith)) ∙ exact-first rs x k (omega arith) m (λ j l. before (suc j) (omega arith))

  -- and without one there is no exact answer
  pub no_exact : (rows : List Row) (x : Found) → ((k : ℕ) → k < length rows → Matches (get_or rows k []) → ⊥)
      → exact_or count mib rows x ≡ x
  no_exact [] x miss = refl
  no_exact (r ∷ rs) x miss = first_miss r rs x (miss 0 (omega arith)) ∙ no_exact rs x (λ k h. miss (suc k) (omega arith))

  -- so what holds of the hint of each row that matches, and of the answer for none, holds of the answer
  pub exact_either : (P : Found → Type 0) (rows : List Row) (x : Found)
      → ((k : ℕ) → k < length rows → Matches (get_or rows k []) → P (exact (hint_of (get_or rows k []))))
      → P x → P (exact_or count mib rows x)
  exact_either P [] x each none = none
  exact_either P (r ∷ rs) x each none =
      elim (ℕ_discrete (processors_of r) count) [
        | yes e ↦ elim (ℕ_discrete (mib_of r) mib) [
          | yes f ↦ rw (eq-eqb (processors_of r) count e, eq-eqb (mib_of r) mib f) (each 0 (omega arith) (e, f))
          | no f ↦ rw (first_miss r rs x (λ m. f m.1)) (exact_either P rs x (λ k h. each (suc k) (omega arith)) none)
        ]
        | no e ↦ rw (first_miss r rs x (λ m. e m.0)) (exact_either P rs x (λ k h. each (suc k) (omega arith)) none)
      ]
