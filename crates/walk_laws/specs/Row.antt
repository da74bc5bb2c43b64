-- An array in a local, and the row of its elements: whole, and its front apart from what follows.
use Prim.Native.Nat.{ℕ, zero, suc, ◌+◌}
use Rattle.std.specs.Prelude.{◌≡◌, refl, List, [], ◌∷◌, length, take, drop}
use seplogic.Ra.Ura.{Ura}
use base.Fraction.{full_share}
use mir.Val.{Val}
use base.Logic.{ent, sep, guard}
use base.Fml.{Fml, ftrue, fsep}
use types.Logic.{Logic, sem}
use types.Kit.{given, ‵, ◌⊛◌, ◌$◌, ◌∵◌, !, qed, move, drop as let_go, use1, use2, split, check, fsplit, fjoin, fpick, fpack, feq_i, done}
use types.Share.{arr_parts}
use Rattle.std.specs.Borrow.{RattleType}
use denote.Laws.{Is, Tells, Makes, shows}
use denote.Memory.{mem, shares, cell_at, part_at, part_of}
use denote.Array.{Array, array_vals, Array-Tells, Array-Makes}
use denote.ArrayMemory.{Single, Array-apart, Array-whole}
use denote.Index.{row, place}
use denote.Steps.{owned, peeks, nothing}
use denote.Struct.Steps.{spelt}

-- a row is its front and what follows, and back
module _ {M : Type 1} {𝓤 : Ura M} (𝓛 : Logic 𝓤) (R : RattleType) where
  abbrev behind : ℕ → ℕ → ℕ
  behind o k = place (mem R).size o k

  front_out : (k : ℕ) (xs : List R.Denot) (b o : ℕ)
      → ent 𝓤 (sem 𝓛 (row R full_share xs b o)) (sep 𝓤 (sem 𝓛 (row R full_share (take k xs) b o)) (sem 𝓛 (row R full_share (drop k xs) b (behind o k))))
  front_out zero xs b o = qed 𝓛 (‵ (row R full_share xs b o) ∷ []) ∵ nothing ! $ done !
  front_out (suc k) [] b o = qed 𝓛 (‵ ftrue ∷ []) ∵ nothing ! $ done !
  front_out (suc k) (x ∷ xs) b o =
      let p = o + (mem R).size in
      qed 𝓛 (‵ (row R full_share (x ∷ xs) b o) ∷ []) ∵ fsplit ! $ move ! (1 ∷ []) $
      use1 𝓛 (‵ (row R full_share (take k xs) b p) ⊛ ‵ (row R full_share (drop k xs) b (behind p k))) (front_out k xs b p) $ split ! $ move ! (2 ∷ 0 ∷ []) $ fjoin ! $ done !

  front_in : (k : ℕ) (xs : List R.Denot) (b o : ℕ)
      → ent 𝓤 (sep 𝓤 (sem 𝓛 (row R full_share (take k xs) b o)) (sem 𝓛 (row R full_share (drop k xs) b (behind o k)))) (sem 𝓛 (row R full_share xs b o))
  front_in zero xs b o = qed 𝓛 (‵ ftrue ∷ ‵ (row R full_share xs b o) ∷ []) ∵ let_go ! $ done !
  front_in (suc k) [] b o = qed 𝓛 (‵ ftrue ∷ ‵ ftrue ∷ []) ∵ let_go ! $ done !
  front_in (suc k) (x ∷ xs) b o =
      let p = o + (mem R).size in
      qed 𝓛 (‵ (row R full_share (x ∷ take k xs) b o) ∷ ‵ (row R full_share (drop k xs) b (behind p k)) ∷ []) ∵ fsplit ! $ move ! (1 ∷ 2 ∷ []) $
      use2 𝓛 (‵ (row R full_share xs b p)) (front_in k xs b p) $ move ! (1 ∷ 0 ∷ []) $ fjoin ! $ done !

module _ (R : RattleType) (vals : R.Denot → List Val) where
  abbrev pub row-vals : List R.Denot → List Val
  row-vals = array_vals vals

  abbrev pub RowIs : ℕ → List R.Denot → Type 0
  RowIs n xs = Is (Array R n) xs (row-vals xs)

  -- a local that holds the array
  abbrev pub local_at : ℕ → List R.Denot → ℕ → Fml
  local_at n xs l = cell_at full_share (Array R n).mir (row-vals xs) l 0

  module _ {M : Type 1} {𝓤 : Ura M} (𝓛 : Logic 𝓤) (single : Single R.mir) (tells : Tells R (Is R) vals) (makes : Makes 𝓛 R (Is R)) (n : ℕ) where
    pub apart : (xs : List R.Denot) → RowIs n xs → (l : ℕ) → ent 𝓤 (sem 𝓛 (local_at n xs l)) (sem 𝓛 (row R full_share xs l 0))
    unfolding part_of
    apart xs g l =
        qed 𝓛 (‵ (local_at n xs l) ∷ []) ∵ owned ! (Array R n) (Is (Array R n)) (Array-Makes 𝓛 R makes n) xs _ g $ move ! (1 ∷ 0 ∷ []) $ fjoin ! $
        fpack ! (List Val) (λ us. fsep (cell_at full_share (Array R n).mir us l 0) ((Array R n).own_val xs us)) (row-vals xs) $
        use1 𝓛 (‵ ((arr_parts (shares R) n).part full_share xs l 0)) (Array-apart 𝓛 R full_share single n xs l 0) $ fsplit ! $ let_go ! $ done !

    pub together : (xs : List R.Denot) → length xs ≡ n → (l : ℕ) → ent 𝓤 (sem 𝓛 (row R full_share xs l 0)) (guard 𝓤 (RowIs n xs) (sem 𝓛 (local_at n xs l)))
    unfolding part_of
    together xs e l =
        qed 𝓛 (‵ (row R full_share xs l 0) ∷ []) ∵ feq_i ! ℕ (length xs) n e $ fjoin ! $
        use1 𝓛 (‵ (part_at (Array R n) full_share xs l 0)) (Array-whole 𝓛 R full_share n xs l 0) $ fpick ! (λ vs. fsplit ! $
        spelt ! (Array R n) (Is (Array R n)) (shows 𝓛 (Array R n)) row-vals (Array-Tells R vals tells n) full_share xs vs l 0 $
        move ! (1 ∷ []) $ peeks ! (Array R n) (Is (Array R n)) (shows 𝓛 (Array R n)) xs (row-vals xs) (λ g. let_go ! $ check ! g $ done !))

    -- the first k elements, as they are lent, and those behind them, which are kept
    abbrev pub Front : ℕ → List R.Denot → ℕ → Fml
    Front k xs l = (arr_parts (shares R) (length (take k xs))).part full_share (take k xs) l 0

    abbrev pub Behind : ℕ → List R.Denot → ℕ → Fml
    Behind k xs l = row R full_share (drop k xs) l (place (mem R).size 0 k)

    pub lend_front : (k : ℕ) (xs : List R.Denot) → RowIs n xs → (l : ℕ) → ent 𝓤 (sem 𝓛 (local_at n xs l)) (sep 𝓤 (sem 𝓛 (Front k xs l)) (sem 𝓛 (Behind k xs l)))
    lend_front k xs g l =
        qed 𝓛 (‵ (local_at n xs l) ∷ []) ∵ use1 𝓛 (‵ (row R full_share xs l 0)) (apart xs g l) $
        use1 𝓛 (‵ (row R full_share (take k xs) l 0) ⊛ ‵ (Behind k xs l)) (front_out 𝓛 R k xs l 0) $ split ! $
        feq_i ! ℕ (length (take k xs)) (length (take k xs)) refl $ fjoin ! $ done !

    pub front_back : (k : ℕ) (xs : List R.Denot) → length xs ≡ n → (l : ℕ) → ent 𝓤 (sep 𝓤 (sem 𝓛 (Front k xs l)) (sem 𝓛 (Behind k xs l))) (guard 𝓤 (RowIs n xs) (sem 𝓛 (local_at n xs l)))
    front_back k xs e l =
        qed 𝓛 (‵ (Front k xs l) ∷ ‵ (Behind k xs l) ∷ []) ∵ fsplit ! $ let_go ! $ use2 𝓛 (‵ (row R full_share xs l 0)) (front_in 𝓛 R k xs l 0) $
        use1 𝓛 (given (RowIs n xs) (‵ (local_at n xs l))) (together xs e l) $ done !
