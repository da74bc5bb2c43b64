-- Laws of the map and of the RAM as words: what stands at a place of a list, and what is behind it.
use Prim.Native.Nat.{ℕ, suc, ◌*◌, ◌/◌, ◌≤◌, ◌<◌, ◌^◌}
use Rattle.std.proofs.Common.{map}
use Rattle.std.proofs.Math.Nat.{div-eq_of_lt, add-div_left}
use Rattle.std.proofs.Math.Seq.{take-append_seam, drop-append_seam}
use Rattle.memory_range.specs.Range.{range}
use Rattle.host_map.specs.Map.{map_ranges}
use Rattle.table_words.specs.List.{range_in}
use Rattle.table_words.specs.Rows.{rows}
use mathlib.Core.Path.{◌≡◌, refl, ap, ◌∙◌}
use mathlib.Core.Bool.{true, and-eq-true_iff}
use mathlib.Core.List.{List, [], ◌∷◌, ◌++◌}
use native.Mathlib.Nat.{zero-add}
use native.Mathlib.Omega.{arith}
use borrow.Author.Tests.{ltb-true}
use lib.Dec.{ltb, leb}
use lib.ListN.{length, take, drop, get_or, length-append}
use lib.Seq.{sets, sets-eq}
use Rattle.memory_range.specs.declared.range.TaggedRange.{TaggedRange}
use Rattle.selection_calls.specs.Selection.{entry_stands, entry_of, word_entries, map_stands, ram_words}

-- a row of four words, and the words behind it
pub four-words : (row rest : List ℕ) → length row ≡ 4
    → row ++ rest ≡ get_or row 0 0 ∷ get_or row 1 0 ∷ get_or row 2 0 ∷ get_or row 3 0 ∷ rest
four-words [] rest h = absurd (omega arith)
four-words (s ∷ []) rest h = absurd (omega arith)
four-words (s ∷ e ∷ []) rest h = absurd (omega arith)
four-words (s ∷ e ∷ n ∷ []) rest h = absurd (omega arith)
four-words (s ∷ e ∷ n ∷ t ∷ []) rest h = refl
four-words (s ∷ e ∷ n ∷ t ∷ w ∷ row) rest h = absurd (omega arith)

-- words that stand for a map, from a row on: its entry's node has 32 bits, and those behind it stand for a map
pub row-stands : (row rest : List ℕ) {ws : List ℕ} → length row ≡ 4 → ws ≡ row ++ rest → map_stands ws ≡ true
    → (get_or row 2 0 < 2 ^ 32) × (map_stands rest ≡ true)
row-stands row rest h w e =
    let both = (and-eq-true_iff (entry_stands (get_or row 2 0) (get_or row 3 0)) (map_stands rest)).0 (rw (w, four-words row rest h) at e) in
    let entry = (and-eq-true_iff (ltb (get_or row 2 0) (2 ^ 32)) (leb (get_or row 3 0) 1)).0 both.0 in
    (ltb-true _ _ entry.0, both.1)

-- the entry of a row, and those behind it
pub row-entry : (row rest : List ℕ) {ws : List ℕ} → length row ≡ 4 → ws ≡ row ++ rest
    → word_entries ws ≡ entry_of (get_or row 0 0) (get_or row 1 0) (get_or row 2 0) (get_or row 3 0) ∷ word_entries rest
row-entry row rest h w = ap word_entries (w ∙ four-words row rest h)

pub no-entries : (ws : List ℕ) → length ws < 4 → word_entries ws ≡ []
no-entries [] h = refl
no-entries (s ∷ []) h = refl
no-entries (s ∷ e ∷ []) h = refl
no-entries (s ∷ e ∷ n ∷ []) h = refl
no-entries (s ∷ e ∷ n ∷ t ∷ ws) h = absurd (omega arith)

-- a map has as many entries as there are rows
pub entries-length : (ws : List ℕ) → length ws / 4 ≡ length (word_entries ws)
entries-length [] = omega arith
entries-length (s ∷ []) = omega arith
entries-length (s ∷ e ∷ []) = omega arith
entries-length (s ∷ e ∷ n ∷ []) = omega arith
entries-length (s ∷ e ∷ n ∷ t ∷ ws) = omega (arith, entries-length ws)

-- rows of any size: the first one and those behind it, and none in fewer words
module _ (size : ℕ) where
  pub next-row : (row rest : List ℕ) {ws : List ℕ} → 0 < size → length row ≡ size → ws ≡ row ++ rest
      → rows size (length ws / size) ws ≡ row ∷ rows size (length rest / size) rest
  next-row row rest z h w =
      let one : length (row ++ rest) / size ≡ suc (length rest / size) = rw (length-append, h) (omega (arith, add-div_left (length rest) z)) in
      let here : take size (row ++ rest) ≡ row = rw (← h) (take-append_seam row rest) in
      let behind : drop size (row ++ rest) ≡ rest = rw (← h) (drop-append_seam row rest) in
      rw (w, one, here, behind)

  pub no-rows : (ws : List ℕ) → length ws < size → rows size (length ws / size) ws ≡ []
  no-rows ws h = rw (div-eq_of_lt h)

-- the ranges of a map are those of its rows
pub rows-ranges : (ws : List ℕ) → map range_in (rows 4 (length ws / 4) ws) ≡ map_ranges (word_entries ws)
rows-ranges [] = refl
rows-ranges (s ∷ []) = refl
rows-ranges (s ∷ e ∷ []) = refl
rows-ranges (s ∷ e ∷ n ∷ []) = refl
rows-ranges (s ∷ e ∷ n ∷ t ∷ ws) =
    rw (next-row 4 (s ∷ e ∷ n ∷ t ∷ []) ws (omega arith) refl refl) (ap (range s e ∷◌) (rows-ranges ws))

-- a map has no more entries than words for them
pub entries_few : (ws : List ℕ) → length (word_entries ws) * 4 ≤ length ws
entries_few [] = omega arith
entries_few (s ∷ []) = omega arith
entries_few (s ∷ e ∷ []) = omega arith
entries_few (s ∷ e ∷ n ∷ []) = omega arith
entries_few (s ∷ e ∷ n ∷ t ∷ ws) = omega (arith, entries_few ws)

-- the RAM has three words for each entry
pub words-length : (xs : List TaggedRange) → length (ram_words xs) ≡ 3 * length xs
words-length [] = refl
words-length (x ∷ xs) = omega (arith, words-length xs)

-- words that there is room for, stored from the first place on: those behind them are as they were
pub sets_first : (l vs : List ℕ) → length vs ≤ length l → sets l 0 vs ≡ vs ++ drop (length vs) l
sets_first l vs h = sets-eq vs l 0 (omega arith) ∙ rw zero-add
