-- What bytes spell, by the digits in front of them and the byte behind these.
use Rattle.std.specs.Prelude.{Option, Some, None}
use Prim.Native.Nat.{ℕ, zero, suc, ◌+◌, ◌*◌, ◌^◌, ◌≤◌, ◌<◌}
use mathlib.Core.Path.{◌≡◌, refl, ap, sym, ◌∙◌}
use mathlib.Core.Bool.{Bool, true, false, cond, ◌&&◌, not, and-false, and-true}
use mathlib.Core.List.{List, [], ◌∷◌, ◌++◌, append-nil}
use native.Mathlib.Omega.{arith}
use native.Mathlib.Nat.{pow-le-pow_right}
use native.Mathlib.Numerals.{add-one}
use native.Mathlib.Decide.{dec_lt}
use borrow.Author.Tests.{eqb-true, ne_eqb, le-leb, lt-leb, lt-ltb, le-ltb}
use lib.Dec.{leb, eqb}
use lib.ListN.{length, take, drop, get_or, length-append, take-append-drop, drop_of_length-le}
use lib.Seq.{drop-cons, take-suc, take_all, length-take-le}
use Rattle.std.specs.Bool.{then_some}
use Rattle.plan_fields.specs.declared.number.Digits.{Digits}
use Rattle.plan_fields.specs.Cut.{tab, first_part, first_of}
use Rattle.plan_fields.specs.Word.{after}
use Rattle.plan_fields.specs.Number.{FrontDigits, between, digit_of, spelled_from, zero_in_front, number_of}
use Rattle.plan_fields.specs.Laws.Number.{spelled_none, none_either}
use Rattle.plan_fields.proofs.cut.Laws.{first_ends}

pub within : (a b x : ℕ) → a ≤ x → x ≤ b → between a b x ≡ true
within a b x h k = rw (le-leb a x h, le-leb x b k)

pub under : (a b x : ℕ) → x < a → between a b x ≡ false
under a b x h = rw (lt-leb a x h)

pub over : (a b x : ℕ) → b < x → between a b x ≡ false
over a b x h = rw (lt-leb x b h) (and-false (leb a x))

-- with at most 15 digits before it there is room for one more
pub room : (v i : ℕ) → v < 16 ^ i → i < 16 → v < 16 ^ 15
room v i h k =
    let most : 16 ^ i ≤ 16 ^ 15 = pow-le-pow_right (omega arith) {j = 15} (omega arith) in
    omega arith

-- bytes behind digits are spelled behind what these spell
spelled_append : (ps qs : List ℕ) (w v : ℕ) → spelled_from w ps ≡ Some v → spelled_from w (ps ++ qs) ≡ spelled_from v qs
spelled_append [] qs w v h = let e : w ≡ v = cc in rw e
spelled_append (p ∷ ps) qs w v h = go (digit_of p) refl (λ d. spelled_append ps qs (w * 16 + d) v)
  where
    go : (o : Option ℕ) → digit_of p ≡ o → ((d : ℕ) → spelled_from (w * 16 + d) ps ≡ Some v → spelled_from (w * 16 + d) (ps ++ qs) ≡ spelled_from v qs)
        → spelled_from w (p ∷ (ps ++ qs)) ≡ spelled_from v qs
    go None e i = let z : ◌≡◌ {A = ℕ} 0 1 = cc (spelled_none w p ps e) in absurd (omega arith)
    go (Some d) e i = rw e (i d (rw e at h))

-- a turn of the loop
pub one_digit : (bs : List ℕ) (i v d : ℕ) → i < length bs → spelled_from 0 (take i bs) ≡ Some v → digit_of (get_or bs i 0) ≡ Some d
    → spelled_from 0 (take (i + 1) bs) ≡ Some (v * 16 + d)
one_digit bs i v d h e k =
    rw (add-one i, take-suc bs i 0 h, spelled_append (take i bs) (get_or bs i 0 ∷ []) 0 v e, k)

-- no digit is a tab, so the first field begins with all the digits in front
digits-first : (bs : List ℕ) (n w v : ℕ) → spelled_from w (take n bs) ≡ Some v → first_part tab bs ≡ take n bs ++ first_part tab (drop n bs)
digits-first bs zero w v h = refl
digits-first [] (suc n) w v h = refl
digits-first (b ∷ bs) (suc n) w v h = go (digit_of b) (eqb b tab) refl refl (λ d. digits-first bs n (w * 16 + d) v)
  where
    go : (o : Option ℕ) (t : Bool) → digit_of b ≡ o → eqb b tab ≡ t
        → ((d : ℕ) → spelled_from (w * 16 + d) (take n bs) ≡ Some v → first_part tab bs ≡ take n bs ++ first_part tab (drop n bs))
        → first_part tab (b ∷ bs) ≡ b ∷ (take n bs ++ first_part tab (drop n bs))
    go None t e f i = let z : ◌≡◌ {A = ℕ} 0 1 = cc (spelled_none w b (take n bs) e) in absurd (omega arith)
    go (Some d) true e f i =
        let same : b ≡ tab = eqb-true b tab f in
        let k : digit_of tab ≡ Some d = rw same at e in
        let z : ◌≡◌ {A = ℕ} 0 1 = cc in absurd (omega arith)
    go (Some d) false e f i = rw f (ap (λ (l : List ℕ). b ∷ l) (i d (rw e at h)))

-- bytes that spell nothing, and bytes that are too many
no_number : (qs : List ℕ) → spelled_from 0 qs ≡ None → number_of qs ≡ None
no_number qs h = rw h (simp none_either)

too_many : (qs : List ℕ) → 16 < length qs → number_of qs ≡ None
too_many qs h = rw (over 1 16 (length qs) h)

module _ (bs : List ℕ) (d : Digits) (front : FrontDigits bs d) where
  -- the digits are no number with a byte behind them, which is no digit or one too many
  stopped : (rest : List ℕ) → d.size < length bs → number_of (take d.size bs ++ get_or bs d.size 0 ∷ rest) ≡ None
  stopped rest h =
      let qs : List ℕ = take d.size bs ++ get_or bs d.size 0 ∷ rest in
      elim (dec_lt d.size 16) [
        | yes k ↦ no_number qs (spelled_append (take d.size bs) (get_or bs d.size 0 ∷ rest) 0 d.value front.spells
            ∙ spelled_none d.value (get_or bs d.size 0) rest (front.ends h k))
        | no k ↦ too_many qs (simp length-append (omega (arith, length-take-le d.size bs front.within)))
      ]

  -- by themselves they are a number where they are well formed
  alone : (t : Bool) → t ≡ (leb 1 d.size && not (zero_in_front (take d.size bs)))
      → number_of (take d.size bs) ≡ cond t (Some d.value) None
  alone t e = rw (length-take-le d.size bs front.within, le-leb d.size 16 front.few, and-true, ← e, front.spells)

  pub field_stops : d.size < length bs → number_of bs ≡ None
  field_stops h =
      ap number_of (sym (take-append-drop d.size bs) ∙ ap (λ (l : List ℕ). take d.size bs ++ l) (drop-cons bs d.size 0 h))
      ∙ stopped (drop (suc d.size) bs) h

  -- what the first of several fields is, by the byte behind its digits
  pub only-field : length bs ≤ d.size → first_of number_of bs ≡ None
  unfolding first_of
  only-field h =
      let all : first_part tab bs ≡ bs =
      digits-first bs d.size 0 d.value front.spells
      ∙ rw (drop_of_length-le bs {i = d.size} h, take_all d.size bs h) (append-nil bs) in
      rw (all, le-ltb (length bs) (length bs) (omega arith))

  pub other_byte : d.size < length bs → (get_or bs d.size 0 ≡ tab → ⊥) → first_of number_of bs ≡ None
  unfolding first_of
  other_byte h n =
      let part : first_part tab bs ≡ take d.size bs ++ get_or bs d.size 0 ∷ first_part tab (drop (suc d.size) bs) =
      digits-first bs d.size 0 d.value front.spells
      ∙ rw (drop-cons bs d.size 0 h, ne_eqb (get_or bs d.size 0) tab n) in
      rw (part, stopped (first_part tab (drop (suc d.size) bs)) h) (simp none_either)

  pub tab-behind : d.size < length bs → get_or bs d.size 0 ≡ tab
      → (t : Bool) → t ≡ (leb 1 d.size && not (zero_in_front (take d.size bs)))
      → first_of number_of bs ≡ then_some t (d.value, d.size)
  unfolding first_of
  tab-behind h b t e =
      let part : first_part tab bs ≡ take d.size bs =
      digits-first bs d.size 0 d.value front.spells
      ∙ rw (first_ends tab bs d.size h b) (append-nil (take d.size bs)) in
      rw (part, alone t e, length-take-le d.size bs front.within, lt-ltb d.size (length bs) h) (either t)
    where
      either : (t : Bool) → after {B = ℕ × ℕ} (cond t (Some d.value) None) (λ v. Some (v, d.size)) ≡ then_some t (d.value, d.size)
      either true = refl
      either false = refl
