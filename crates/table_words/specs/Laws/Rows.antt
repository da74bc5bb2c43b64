-- Laws of rows: how many there are, and the row at an index.
use Rattle.std.specs.Prelude.{ℕ, zero, suc, ◌+◌, ◌*◌, ◌/◌, ◌-◌, ◌<◌, ◌≤◌, ◌≡◌, refl, List, [], ◌∷◌, ◌++◌, length, take, drop}
use Rattle.std.proofs.Common.{ap, sym, ◌∙◌, mul-zero, mul-one, mul-suc, add_comm, add-one, arith, length-drop, drop-drop, length-take-le}
use Rattle.std.proofs.Math.Nat.{add-mul-div_left, div-eq_of_lt}
use Rattle.std.proofs.Math.Seq.{take-append_seam, drop-append_seam}
use Rattle.std.proofs.lemmas.List.{length-append}
use Rattle.table_words.specs.Rows.{rows}

module _ (width : ℕ) where
  pub length-rows : (k : ℕ) (ws : List ℕ) → length (rows width k ws) ≡ k
  length-rows zero ws = refl
  length-rows (suc k) ws = ap suc (length-rows k (drop width ws))

  -- the row at an index, and those behind it
  pub next_row : (k : ℕ) (ws : List ℕ) (i : ℕ) → i < k
      → drop i (rows width k ws) ≡ take width (drop (width * i) ws) ∷ drop (i + 1) (rows width k ws)
  next_row zero ws i h = absurd (omega arith)
  next_row (suc k) ws zero h = rw (mul-zero width)
  next_row (suc k) ws (suc i) h =
      next_row k (drop width ws) i (omega arith)
      ∙ rw (drop-drop (width * i) width ws, mul-suc width i, add_comm (width * i) width, add-one (suc i), add-one i)

  -- the row as a part of the words from a place on, and its length
  pub row_at : (from k : ℕ) (ws : List ℕ) (i : ℕ) {at stop : ℕ} → i < k → at ≡ from + width * i → stop ≡ at + width
      → drop i (rows width k (drop from ws)) ≡ take (stop - at) (drop at ws) ∷ drop (i + 1) (rows width k (drop from ws))
  row_at from k ws i {at} {stop} h e f =
      let w : stop - at ≡ width = omega arith in
      next_row k (drop from ws) i h ∙ rw (w, e, drop-drop (width * i) from ws)

  pub row-length : (ws : List ℕ) (at stop : ℕ) → stop ≡ at + width → stop ≤ length ws → length (take (stop - at) (drop at ws)) ≡ width
  row-length ws at stop f h = length-take-le (stop - at) (drop at ws) (omega (arith, length-drop at ws)) ∙ omega arith

  -- a row and those behind it, so many of them
  pub row_before : (k : ℕ) (r ws : List ℕ) → length r ≡ width → rows width (suc k) (r ++ ws) ≡ r ∷ rows width k ws
  row_before k r ws e =
      let first : take width (r ++ ws) ≡ r = ap (λ n. take n (r ++ ws)) (sym e) ∙ take-append_seam r ws in
      let others : drop width (r ++ ws) ≡ ws = ap (λ n. drop n (r ++ ws)) (sym e) ∙ drop-append_seam r ws in
      rw (first, others)

  -- the same of all rows that words have, and where the words are too few for one
  module _ (some : 0 < width) where
    pub first_row : (r ws : List ℕ) → length r ≡ width
        → rows width (length (r ++ ws) / width) (r ++ ws) ≡ r ∷ rows width (length ws / width) ws
    first_row r ws e =
        let n : length (r ++ ws) / width ≡ suc (length ws / width) =
        rw (length-append r ws, e) (ap (λ k. k / width) (add_comm width (length ws) ∙ ap (λ k. length ws + k) (sym (mul-one width))) ∙ add-mul-div_left (length ws) 1 some ∙ omega arith)
        in
        rw n (row_before (length ws / width) r ws e)

    pub no_row : (ws : List ℕ) → length ws < width → rows width (length ws / width) ws ≡ []
    no_row ws h = rw (div-eq_of_lt h)

-- the places behind an index, as stores one after the other have them
pub add-two : (n : ℕ) → n + 2 ≡ suc (suc n)
add-two n = omega arith

pub add-three : (n : ℕ) → n + 3 ≡ suc (suc (suc n))
add-three n = omega arith
