-- The number that a field spells (docs/SPEC.md, section 11): lowercase hexadecimal, 1 to 16 digits, the first
-- of several not `0`.
use Rattle.std.specs.Prelude.{ℕ, ◌+◌, ◌*◌, ◌-◌, ◌≤◌, ◌<◌, ◌≡◌, Bool, false, cond, ◌&&◌, not, List, [], ◌∷◌, eqb, leb, length, take, get_or, Option, Some, None}
use Rattle.plan_fields.specs.declared.number.Digits.{Digits}
use Rattle.plan_fields.specs.Word.{after}

-- whether x is from a to b
abbrev pub between : ℕ → ℕ → ℕ → Bool
between a b x = leb a x && leb x b

-- the value of a digit, by its byte: `0` to `9` are 48 to 57, `a` to `f` are 97 to 102
abbrev pub digit_of : ℕ → Option ℕ
digit_of b = cond (between 48 57 b) (Some (b - 48)) (cond (between 97 102 b) (Some (b - 87)) None)

-- the number that digits spell behind others that spell v
abbrev pub spelled_from : ℕ → List ℕ → Option ℕ
spelled_from v [] = Some v
spelled_from v (b ∷ bs) = after (digit_of b) (λ d. spelled_from (v * 16 + d) bs)

-- whether a `0` stands in front of other digits
abbrev pub zero_in_front : List ℕ → Bool
zero_in_front [] = false
zero_in_front (b ∷ []) = false
zero_in_front (b ∷ c ∷ bs) = eqb b 48

-- the number that a field spells
abbrev pub number_of : List ℕ → Option ℕ
number_of bs = cond (between 1 16 (length bs) && not (zero_in_front bs)) (spelled_from 0 bs) None

-- the digits in front of other bytes, sixteen at most, as many as there are
pub record FrontDigits (bs : List ℕ) (d : Digits) : Type 0 where
  pub within : d.size ≤ length bs
  pub few : d.size ≤ 16
  pub spells : spelled_from 0 (take d.size bs) ≡ Some d.value
  pub ends : d.size < length bs → d.size < 16 → digit_of (get_or bs d.size 0) ≡ None
