-- Laws of the search over plain variables: what holds of the rows passed, how one more row keeps it, and
-- what the search has found where it ends.
use Prim.Native.Nat.{ℕ, suc, ◌+◌, ◌-◌, ◌≤◌, ◌<◌}
use mathlib.Core.Path.{◌≡◌, refl, ap, sym, ◌∙◌}
use mathlib.Core.List.{List, [], ◌∷◌, ◌++◌, append_assoc, append-nil}
use native.Mathlib.Decide.{dec_lt}
use native.Mathlib.Numerals.{add-one}
use native.Mathlib.Omega.{arith}
use borrow.Author.Tests.{eq-eqb, ne_eqb, le-leb}
use borrow.Author.Count.{below_more}
use lib.Dec.{T, leb, leb→le}
use lib.Ieee.Fits.{and_l, and_r}
use lib.ListN.{length, drop, get_or, length-take, length-drop}
use lib.Seq.{take-suc, drop-cons, get_or-drop}
use Rattle.dma_hint.specs.Table.{Row, processors_of, hint_of, ascends_from}
use Rattle.dma_hint.specs.Lookup.{exact, nearest, rows_with, lookup, part}
use Rattle.dma_hint.specs.Laws.Lookup.{count_at, Greatest, greatest_le, rows-has, no_rows, nearest-rows}
use Rattle.dma_hint.specs.Laws.Lookup.{Matches, exact-first, no_exact}

ascends-first : (c : ℕ) (r : Row) (rs : List Row) → T (ascends_from c (r ∷ rs))
    → (c ≤ processors_of r) × T (ascends_from (processors_of r) rs)
ascends-first c r rs a =
    let p = leb c (processors_of r) in
    let q = ascends_from (processors_of r) rs in
    (leb→le c (processors_of r) (and_l p q a), and_r p q a)

-- rows that ascend from above a count hold no row of it
none_above : (n c : ℕ) (rows : List Row) → n < c → T (ascends_from c rows) → rows_with n rows ≡ []
none_above n c [] h a = refl
none_above n c (r ∷ rs) h a =
    let w = ascends-first c r rs a in
    rw (ne_eqb (processors_of r) n (omega arith)) (none_above n (processors_of r) rs (omega arith) w.1)

part_more : (first i : ℕ) (rows : List Row) → first ≤ i → i < length rows
    → part first (i + 1) rows ≡ part first i rows ++ (get_or rows i [] ∷ [])
part_more first i rows o h =
    let m : i + 1 - first ≡ suc (i - first) = omega arith in
    let l : i - first < length (drop first rows) = omega (arith, length-drop first rows) in
    let q : first + (i - first) ≡ i = omega arith in
    rw (m, take-suc (drop first rows) (i - first) [] l, get_or-drop, q)

-- Of the first i rows none matches; `near` is their highest count (0 if there are none), and the rows of that count stand
-- from the place `first` on. The rows to come ascend from there.
pub record Passed (rows : List Row) (count mib near first i : ℕ) : Type 0 where
  pub begins : first ≤ i
  pub ends : i ≤ length rows
  pub low : near ≤ count
  pub some : 0 < near → first < i
  pub misses : (k : ℕ) → k < i → Matches count mib (get_or rows k []) → ⊥
  pub same : rows_with near rows ≡ part first i rows ++ rows_with near (drop i rows)
  pub more : (n : ℕ) → near < n → rows_with n rows ≡ rows_with n (drop i rows)
  pub rest : T (ascends_from near (drop i rows))

module _ {rows : List Row} {count mib near first i : ℕ} (p : Passed rows count mib near first i) where
  -- the search ends where each row to come has a larger count
  module _ (a : T (ascends_from (suc count) (drop i rows))) where
    none_left : (n : ℕ) → n ≤ count → rows_with n (drop i rows) ≡ []
    none_left n h = none_above n (suc count) (drop i rows) (omega arith) a

    no_match : (k : ℕ) → k < length rows → Matches count mib (get_or rows k []) → ⊥
    no_match k l m =
        elim (dec_lt k i) [
          | yes h ↦ p.misses k h m
          | no h ↦
              let e : i + (k - i) ≡ k = omega arith in
              no_rows count (drop i rows) (none_left count (omega arith)) (k - i) (omega (arith, length-drop i rows))
              (rw (get_or-drop, e) m.0)
        ]

    found : rows_with near rows ≡ part first i rows
    found = p.same ∙ rw (none_left near p.low, append-nil)

    greatest : Greatest count rows near
    greatest =
        record {
          low = p.low;
          most = λ k l b. elim (dec_lt near (count_at rows k)) [
            | yes h ↦ absurd (no_rows (count_at rows k) rows (p.more _ h ∙ none_left _ b) k l refl)
            | no h ↦ omega arith
          ];
          held = λ h. rows-has near rows (rw found (simp (length-take, length-drop) (omega (arith, p.some h))));
        }

    pub found_nearest : nearest (part first i rows) ≡ lookup count mib rows
    found_nearest =
        let w = nearest-rows count rows in
        let e : near ≡ w.0 = omega (arith, greatest_le w.1 greatest, greatest_le greatest w.1) in
        sym (no_exact count mib rows _ no_match ∙ ap nearest (w.2 ∙ rw (← e) found))

  -- the next row matches, or ends the search, or is passed: as one more of the count, or as the first of a larger one
  module _ (h : i < length rows) where
    pub found_exact : Matches count mib (get_or rows i []) → exact (hint_of (get_or rows i [])) ≡ lookup count mib rows
    found_exact m = sym (exact-first count mib rows _ i h m p.misses)

    split : drop i rows ≡ get_or rows i [] ∷ drop (i + 1) rows
    split = rw (add-one, drop-cons rows i [])

    here : (near ≤ count_at rows i) × T (ascends_from (count_at rows i) (drop (i + 1) rows))
    here = ascends-first near (get_or rows i []) (drop (i + 1) rows) (rw split at p.rest)

    pub larger-left : count < count_at rows i → T (ascends_from (suc count) (drop i rows))
    larger-left l = rw (split, le-leb (suc count) (count_at rows i) l) here.1

    module _ (l : count_at rows i ≤ count) (miss : Matches count mib (get_or rows i []) → ⊥) where
      passed : {n f : ℕ} → count_at rows i ≡ n → f ≤ i → rows_with n rows ≡ part f i rows ++ rows_with n (drop i rows)
          → Passed rows count mib n f (i + 1)
      passed {n} e o s =
          record {
            begins = omega arith;
            ends = omega arith;
            low = omega arith;
            some = λ _. omega arith;
            misses = below_more _ _ p.misses miss;
            same = s ∙ rw (split, eq-eqb (count_at rows i) n e, part_more, append_assoc);
            more = λ m g. p.more m (omega (arith, here.0)) ∙ rw (split, ne_eqb (count_at rows i) m (omega arith));
            rest = rw e at here.1;
          }

      pub next-same : count_at rows i ≡ near → Passed rows count mib near first (i + 1)
      next-same e = passed e p.begins p.same

      pub next_new : (count_at rows i ≡ near → ⊥) → Passed rows count mib (count_at rows i) i (i + 1)
      next_new e =
          let z : i - i ≡ 0 = omega arith in
          passed refl (omega arith) (p.more (count_at rows i) (omega (arith, here.0)) ∙ rw z)
