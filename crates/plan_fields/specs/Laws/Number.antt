-- A number that digits spell is below the power of 16 that their count gives, so that of a field is below
-- 2 ^ 64. Bytes that hold a tab spell none.
use Rattle.std.specs.Prelude.{ℕ, suc, ◌+◌, ◌*◌, ◌-◌, ◌^◌, ◌≤◌, ◌<◌, ◌≡◌, refl, Bool, true, false, cond, ◌&&◌, not, List, [], ◌∷◌, leb, eqb, length, Option, Some, None}
use Rattle.std.proofs.Common.{◌∙◌, arith, add-zero, pow-suc, leb-true, eqb-true}
use Rattle.std.proofs.Math.Bool.{and-eq-true_iff}
use Rattle.std.proofs.Math.Nat.{pow-le-pow_right}
use Rattle.plan_fields.specs.Cut.{tab, split_on}
use Rattle.plan_fields.specs.Laws.Cut.{first_count, split-some}
use Rattle.plan_fields.specs.Number.{between, digit_of, spelled_from, zero_in_front, number_of}

pub between-true : (a b x : ℕ) → between a b x ≡ true → (a ≤ x) × (x ≤ b)
between-true a b x h =
    let both = (and-eq-true_iff (leb a x) (leb x b)).0 h in
    (leb-true a x both.0, leb-true x b both.1)

pub digit-bound : (b d : ℕ) → digit_of b ≡ Some d → d < 16
digit-bound b d h = go (between 48 57 b) (between 97 102 b) refl refl
  where
    go : (s t : Bool) → between 48 57 b ≡ s → between 97 102 b ≡ t → d < 16
    go true t e f =
        let same : b - 48 ≡ d = let k = rw e at h in cc in
        omega (arith, between-true 48 57 b e)
    go false true e f =
        let same : b - 87 ≡ d = let k = rw (e, f) at h in cc in
        omega (arith, between-true 97 102 b f)
    go false false e f = let z : ◌≡◌ {A = ℕ} 0 1 = (let k = rw (e, f) at h in cc) in absurd (omega arith)

-- one more digit makes the bound 16 times as large
pub digit-behind : (v k d : ℕ) → v < 16 ^ k → d < 16 → v * 16 + d < 16 ^ suc k
digit-behind v k d h l = omega (arith, pow-suc 16 k)

-- a digit goes behind those before it, and where a byte is none, no number is spelled
pub spelled_digit : (v b d : ℕ) (bs : List ℕ) → digit_of b ≡ Some d → spelled_from v (b ∷ bs) ≡ spelled_from (v * 16 + d) bs
spelled_digit v b d bs e = rw e

pub spelled_none : (v b : ℕ) (bs : List ℕ) → digit_of b ≡ None → spelled_from v (b ∷ bs) ≡ None
spelled_none v b bs e = rw e

pub spelled-bound : (bs : List ℕ) (v k n : ℕ) → spelled_from v bs ≡ Some n → v < 16 ^ k → n < 16 ^ (k + length bs)
spelled-bound [] v k n h l = let e : v ≡ n = cc in rw (add-zero k, ← e) l
spelled-bound (b ∷ bs) v k n h l = go (digit_of b) refl (λ w. spelled-bound bs w (suc k) n)
  where
    go : (o : Option ℕ) → digit_of b ≡ o → ((w : ℕ) → spelled_from w bs ≡ Some n → w < 16 ^ suc k → n < 16 ^ (suc k + length bs))
        → n < 16 ^ (k + suc (length bs))
    go None e i = let z : ◌≡◌ {A = ℕ} 0 1 = cc (spelled_none v b bs e) in absurd (omega arith)
    go (Some d) e i =
        let same : suc k + length bs ≡ k + suc (length bs) = omega arith in
        rw same at (i (v * 16 + d) (cc (spelled_digit v b d bs e)) (digit-behind v k d l (digit-bound b d e)))

pub number_bound : (bs : List ℕ) (n : ℕ) → number_of bs ≡ Some n → n < 2 ^ 64
number_bound bs n h = go (between 1 16 (length bs) && not (zero_in_front bs)) refl
  where
    go : (t : Bool) → (between 1 16 (length bs) && not (zero_in_front bs)) ≡ t → n < 2 ^ 64
    go true e =
        let sized = between-true 1 16 (length bs) ((and-eq-true_iff _ _).0 e).0 in
        let most : 16 ^ (0 + length bs) ≤ 16 ^ 16 = pow-le-pow_right (omega arith) {j = 16} (omega arith) in
        omega (arith, spelled-bound bs 0 0 n (rw e at h) (omega arith))
    go false e = let z : ◌≡◌ {A = ℕ} 0 1 = (let k = rw e at h in cc) in absurd (omega arith)

spelled-tab : (bs : List ℕ) (v : ℕ) → 2 ≤ length (split_on tab bs) → spelled_from v bs ≡ None
spelled-tab [] v h = absurd (omega arith)
spelled-tab (b ∷ bs) v h = go (eqb b tab) (digit_of b) refl refl (λ w. spelled-tab bs w)
  where
    go : (t : Bool) (o : Option ℕ) → eqb b tab ≡ t → digit_of b ≡ o → ((w : ℕ) → 2 ≤ length (split_on tab bs) → spelled_from w bs ≡ None)
        → spelled_from v (b ∷ bs) ≡ None
    go t None e f i = spelled_none v b bs f
    go true (Some d) e f i =
        let same : b ≡ tab = eqb-true b tab e in
        let k : digit_of tab ≡ Some d = rw same at f in
        let z : ◌≡◌ {A = ℕ} 0 1 = cc in absurd (omega arith)
    go false (Some d) e f i =
        let k = rw e at h in
        spelled_digit v b d bs f ∙ i (v * 16 + d) (omega (arith, first_count b (split_on tab bs) (split-some tab bs)))

pub none_either : {A : Type 0} (t : Bool) → ◌≡◌ {A = Option A} (cond t None None) None
none_either true = refl
none_either false = refl

pub number-tab : (bs : List ℕ) → 2 ≤ length (split_on tab bs) → number_of bs ≡ None
number-tab bs h = rw (spelled-tab bs 0 h) (simp none_either)
