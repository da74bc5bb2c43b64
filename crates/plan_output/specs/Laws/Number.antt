-- Laws of the numbers as they are written: the digits are those that the contracts of `io::decimal` and `io::hex` give, and few
-- enough; a number of 64 bits in hexadecimal is read again, and what is read as a number is written again.
use Rattle.std.specs.Prelude.{ℕ, zero, suc, ◌+◌, ◌*◌, ◌-◌, ◌/◌, ◌%◌, ◌^◌, ◌≤◌, ◌<◌, ◌≡◌, refl, Bool, true, false, ◌&&◌, not, List, [], ◌∷◌, ◌++◌, ltb, length, Option, Some, None}
use Rattle.std.proofs.Common.{ap, ap₂, sym, ◌∙◌, append-nil, append_assoc, arith, pow-suc, le-mul_of_pos_right, mod-eq_of_lt, div-lt_iff_lt-mul, le-div_iff_mul-le, ltb-false, lt-ltb, le-ltb, le-leb, ne_eqb, length-append}
use Rattle.std.proofs.Math.Bool.{and-eq-true_iff}
use Rattle.std.proofs.Math.Decide.{dec_lt}
use Rattle.std.proofs.Math.Nat.{pow-zero, pow-succ', pow-le-pow_right, one-le-pow}
use Rattle.std.proofs.lemmas.Bool.{lt-leb, eqb-false, not-true}
use Rattle.io.specs.Digits.{hex_digit_ascii, last_digits, IsDigitCount}
use Rattle.plan_fields.specs.Number.{between, digit_of, spelled_from, zero_in_front, number_of}
use Rattle.plan_fields.specs.Laws.Number.{between-true, digit-bound, spelled_digit, spelled_none}
use Rattle.plan_output.specs.Number.{digits_for, hex_of, decimal_of}

-- the two cases of the definition
one_digit : (base most n : ℕ) → n < base → digits_for (suc most) base n ≡ hex_digit_ascii n ∷ []
one_digit base most n h = rw (lt-ltb n base h)

more_digits : (base most n : ℕ) → base ≤ n → digits_for (suc most) base n ≡ digits_for most base (n / base) ++ hex_digit_ascii (n % base) ∷ []
more_digits base most n h = rw (le-ltb n base h)

-- a power above the first is no smaller than the base
base_le : (base k : ℕ) → 0 < base → base ≤ base ^ suc k
base_le base k h = rw pow-succ' (le-mul_of_pos_right base (one-le-pow k base h))

power-one : (base : ℕ) → base ^ 1 ≡ base
power-one base = rw (pow-suc base 0, pow-zero) (omega arith)

div_below : (base n k : ℕ) → 0 < base → n < base ^ suc k → n / base < base ^ k
div_below base n k h l = (div-lt_iff_lt-mul h).1 (rw pow-suc at l)

div_above : (base n k : ℕ) → 0 < base → base ^ suc k ≤ n → base ^ k ≤ n / base
div_above base n k h l = (le-div_iff_mul-le h).1 (rw pow-suc at l)

pub digits_of : (base most n k : ℕ) → 1 < base → k ≤ most → IsDigitCount base 1 n k → last_digits base k n ≡ digits_for most base n
digits_of base most n zero h l f = absurd (omega arith)
digits_of base zero n (suc k) h l f = absurd (omega arith)
digits_of base (suc most) n (suc zero) h l f =
    let small : n < base = rw power-one at f.1 in
    ap (λ (d : ℕ). hex_digit_ascii d ∷ []) (mod-eq_of_lt small) ∙ sym (one_digit base most n small)
digits_of base (suc most) n (suc (suc k)) h l f =
    let large : base ^ suc k ≤ n = (let same : suc (suc k) - 1 ≡ suc k = omega arith in rw same at (f.2 (omega arith))) in
    let more : base ≤ n = omega (arith, base_le base k (omega arith)) in
    let less : suc k - 1 ≡ k = omega arith in
    let front : IsDigitCount base 1 (n / base) (suc k)
    = (omega arith, div_below base n (suc k) (omega arith) f.1, λ m. rw less (div_above base n k (omega arith) large)) in
    ap (λ (l : List ℕ). l ++ hex_digit_ascii (n % base) ∷ []) (digits_of base most (n / base) (suc k) h (omega arith) front)
    ∙ sym (more_digits base most n more)

-- the fewest digits that hold a number below a power of the base are no more than the exponent
fewest_most : (base most n k : ℕ) → 0 < base → 1 ≤ most → n < base ^ most → IsDigitCount base 1 n k → k ≤ most
fewest_most base most n k h l b f = elim (dec_lt most k) [
  | yes m ↦ absurd (omega (arith, f.2 (omega arith), pow-le-pow_right h {i = most} {j = k - 1} (omega arith)))
  | no m ↦ omega arith
]

-- nor are more written
digits-length : (base most n k : ℕ) → 0 < base → 1 ≤ k → n < base ^ k → length (digits_for most base n) ≤ k
digits-length base zero n k h l b = omega arith
digits-length base (suc most) n k h l b = go (ltb n base) refl k l b (λ j. digits-length base most (n / base) j h)
  where
    go : (t : Bool) → ltb n base ≡ t → (j : ℕ) → 1 ≤ j → n < base ^ j
        → ((j : ℕ) → 1 ≤ j → n / base < base ^ j → length (digits_for most base (n / base)) ≤ j) → length (digits_for (suc most) base n) ≤ j
    go true e j l b i = rw e l
    go false e zero l b i = absurd (omega arith)
    go false e (suc zero) l b i = absurd (omega (arith, ltb-false n base e, rw power-one at b))
    go false e (suc (suc j)) l b i = rw e (simp length-append (omega (arith, i (suc j) (omega arith) (div_below base n (suc j) h b))))

-- whatever the number, no more are written than allowed, and at least one
digits_most : (most base n : ℕ) → length (digits_for most base n) ≤ most
digits_most zero base n = omega arith
digits_most (suc most) base n = go (ltb n base) refl (digits_most most base (n / base))
  where
    go : (t : Bool) → ltb n base ≡ t → length (digits_for most base (n / base)) ≤ most → length (digits_for (suc most) base n) ≤ suc most
    go true e i = rw e (omega arith)
    go false e i = rw e (simp length-append (omega arith))

digits-some : (most base n : ℕ) → 1 ≤ length (digits_for (suc most) base n)
digits-some most base n = elim (dec_lt n base) [
  | yes l ↦ omega (arith, ap length (one_digit base most n l))
  | no l ↦ omega (arith, simp length-append at (ap length (more_digits base most n (omega arith))))
]

pub hex_digits : (n k : ℕ) → n < 2 ^ 64 → IsDigitCount 16 1 n k → last_digits 16 k n ≡ hex_of n
unfolding hex_of
hex_digits n k h f = digits_of 16 16 n k (omega arith) (fewest_most 16 16 n k (omega arith) (omega arith) (omega arith) f) f

pub hex-length : (n k : ℕ) → 1 ≤ k → k ≤ 16 → n < 16 ^ k → length (hex_of n) ≤ k
unfolding hex_of
hex-length n k l m b = digits-length 16 16 n k (omega arith) l b

pub decimal_digits : (n k : ℕ) → n < 256 → IsDigitCount 10 1 n k → last_digits 10 k n ≡ decimal_of n
unfolding decimal_of
decimal_digits n k h f = digits_of 10 3 n k (omega arith) (fewest_most 10 3 n k (omega arith) (omega arith) (omega arith) f) f

pub decimal-length : (n : ℕ) → length (decimal_of n) ≤ 3
unfolding decimal_of
decimal-length n = digits_most 3 10 n

-- the byte of a digit is read as that digit, and no other byte is
read_glyph : (d : ℕ) → d < 16 → digit_of (hex_digit_ascii d) ≡ Some d
read_glyph d h = elim (dec_lt d 10) [
  | yes l ↦ rw (lt-ltb d 10 l, le-leb 48 (48 + d) (omega arith), le-leb (48 + d) 57 (omega arith)) (ap Some (omega arith))
  | no l ↦
      rw (
        le-ltb d 10 (omega arith),
        le-leb 48 (87 + d) (omega arith),
        lt-leb (87 + d) 57 (omega arith),
        le-leb 97 (87 + d) (omega arith),
        le-leb (87 + d) 102 (omega arith),
      ) (ap Some (omega arith))
]

glyph-read : (b d : ℕ) → digit_of b ≡ Some d → hex_digit_ascii d ≡ b
glyph-read b d h = go (between 48 57 b) (between 97 102 b) refl refl
  where
    go : (s t : Bool) → between 48 57 b ≡ s → between 97 102 b ≡ t → hex_digit_ascii d ≡ b
    go true t e f =
        let same : b - 48 ≡ d = let k = rw e at h in cc in
        let fits = between-true 48 57 b e in
        rw (lt-ltb d 10 (omega arith)) (omega arith)
    go false true e f =
        let same : b - 87 ≡ d = let k = rw (e, f) at h in cc in
        let fits = between-true 97 102 b f in
        rw (le-ltb d 10 (omega arith)) (omega arith)
    go false false e f = let z : ◌≡◌ {A = ℕ} 0 1 = (let k = rw (e, f) at h in cc) in absurd (omega arith)

-- digits behind others go on from what those spell
spelled-behind : (xs ys : List ℕ) (v w : ℕ) → spelled_from v xs ≡ Some w → spelled_from v (xs ++ ys) ≡ spelled_from w ys
spelled-behind [] ys v w h = let e : v ≡ w = cc in rw e
spelled-behind (b ∷ xs) ys v w h = go (digit_of b) refl (λ u. spelled-behind xs ys u w)
  where
    go : (o : Option ℕ) → digit_of b ≡ o → ((u : ℕ) → spelled_from u xs ≡ Some w → spelled_from u (xs ++ ys) ≡ spelled_from w ys)
        → spelled_from v (b ∷ (xs ++ ys)) ≡ spelled_from w ys
    go None e i = let z : ◌≡◌ {A = ℕ} 0 1 = cc (spelled_none v b xs e) in absurd (omega arith)
    go (Some d) e i = spelled_digit v b d (xs ++ ys) e ∙ i (v * 16 + d) (sym (spelled_digit v b d xs e) ∙ h)

digits_spell : (most n : ℕ) → n < 16 ^ most → spelled_from 0 (digits_for most 16 n) ≡ Some n
digits_spell zero n h = ap Some (omega arith)
digits_spell (suc most) n h = elim (dec_lt n 16) [
  | yes l ↦ ap (spelled_from 0) (one_digit 16 most n l) ∙ spelled_digit 0 (hex_digit_ascii n) n [] (read_glyph n l) ∙ ap Some (omega arith)
  | no l ↦
      let front = digits_spell most (n / 16) (div_below 16 n most (omega arith) h) in
      ap (spelled_from 0) (more_digits 16 most n (omega arith))
      ∙ spelled-behind (digits_for most 16 (n / 16)) (hex_digit_ascii (n % 16) ∷ []) 0 (n / 16) front
      ∙ spelled_digit (n / 16) (hex_digit_ascii (n % 16)) (n % 16) [] (read_glyph (n % 16) (omega arith))
      ∙ ap Some (omega arith)
]

-- a number above 0 is written with no `0` in front, whatever stands behind it
other_front : (b : ℕ) (bs : List ℕ) → (b ≡ 48 → ⊥) → zero_in_front (b ∷ bs) ≡ false
other_front b [] h = refl
other_front b (c ∷ bs) h = ne_eqb b 48 h

glyph-zero : (d : ℕ) → hex_digit_ascii d ≡ 48 → d ≡ 0
glyph-zero d h = elim (dec_lt d 10) [
  | yes l ↦ omega (arith, rw (lt-ltb d 10 l) at h)
  | no l ↦ absurd (omega (arith, rw (le-ltb d 10 (omega arith)) at h))
]

digits_front : (most n : ℕ) (bs : List ℕ) → 0 < n → n < 16 ^ most → zero_in_front (digits_for most 16 n ++ bs) ≡ false
digits_front zero n bs p h = absurd (omega arith)
digits_front (suc most) n bs p h = elim (dec_lt n 16) [
  | yes l ↦ ap (λ (xs : List ℕ). zero_in_front (xs ++ bs)) (one_digit 16 most n l) ∙ other_front (hex_digit_ascii n) bs (λ e. omega (arith, glyph-zero n e))
  | no l ↦
      ap (λ (xs : List ℕ). zero_in_front (xs ++ bs)) (more_digits 16 most n (omega arith))
      ∙ ap zero_in_front (append_assoc (digits_for most 16 (n / 16)) (hex_digit_ascii (n % 16) ∷ []) bs)
      ∙ digits_front most (n / 16) (hex_digit_ascii (n % 16) ∷ bs) (omega arith) (div_below 16 n most (omega arith) h)
]

hex_front : (n : ℕ) → n < 2 ^ 64 → zero_in_front (digits_for 16 16 n) ≡ false
hex_front n h = elim (dec_lt 0 n) [
  | yes p ↦ ap zero_in_front (sym (append-nil (digits_for 16 16 n))) ∙ digits_front 16 n [] p (omega arith)
  | no p ↦ let e : n ≡ 0 = omega arith in ap (λ (x : ℕ). zero_in_front (digits_for 16 16 x)) e
]

-- what makes a field spell a number
number-of : (bs : List ℕ) (n : ℕ) → 1 ≤ length bs → length bs ≤ 16 → zero_in_front bs ≡ false → spelled_from 0 bs ≡ Some n → number_of bs ≡ Some n
number-of bs n l m z e = rw (le-leb 1 (length bs) l, le-leb (length bs) 16 m, z) e

pub read-hex : (n : ℕ) → n < 2 ^ 64 → number_of (hex_of n) ≡ Some n
unfolding hex_of
read-hex n h =
    number-of (digits_for 16 16 n) n (digits-some 15 16 n) (digits_most 16 16 n) (hex_front n h) (digits_spell 16 n (omega arith))

-- what digits spell behind a number above 0 is written with those digits behind it
behind-written : (bs : List ℕ) (most v n : ℕ) → 0 < v → spelled_from v bs ≡ Some n
    → digits_for (most + length bs) 16 n ≡ digits_for most 16 v ++ bs
behind-written [] most v n p h =
    let e : v ≡ n = cc in
    let m : most + 0 ≡ most = omega arith in
    rw (m, e, append-nil)
behind-written (b ∷ bs) most v n p h = go (digit_of b) refl (λ w. behind-written bs (suc most) w n)
  where
    go : (o : Option ℕ) → digit_of b ≡ o
        → ((w : ℕ) → 0 < w → spelled_from w bs ≡ Some n → digits_for (suc most + length bs) 16 n ≡ digits_for (suc most) 16 w ++ bs)
        → digits_for (most + suc (length bs)) 16 n ≡ digits_for most 16 v ++ (b ∷ bs)
    go None e i = let z : ◌≡◌ {A = ℕ} 0 1 = cc (spelled_none v b bs e) in absurd (omega arith)
    go (Some d) e i =
        let small = digit-bound b d e in
        let count : most + suc (length bs) ≡ suc most + length bs = omega arith in
        let whole : (v * 16 + d) / 16 ≡ v = omega arith in
        let last : hex_digit_ascii ((v * 16 + d) % 16) ≡ b = (let r : (v * 16 + d) % 16 ≡ d = omega arith in ap hex_digit_ascii r ∙ glyph-read b d e) in
        ap (λ (m : ℕ). digits_for m 16 n) count
        ∙ i (v * 16 + d) (omega arith) (sym (spelled_digit v b d bs e) ∙ h)
        ∙ ap (λ (xs : List ℕ). xs ++ bs) (more_digits 16 most (v * 16 + d) (omega arith))
        ∙ append_assoc (digits_for most 16 ((v * 16 + d) / 16)) (hex_digit_ascii ((v * 16 + d) % 16) ∷ []) bs
        ∙ ap₂ (λ (w c : ℕ). digits_for most 16 w ++ c ∷ bs) whole last

-- digits with no `0` in front of others are those that their number is written with
spelled-written : (bs : List ℕ) (n : ℕ) → 1 ≤ length bs → length bs ≤ 16 → zero_in_front bs ≡ false → spelled_from 0 bs ≡ Some n
    → digits_for 16 16 n ≡ bs
spelled-written [] n l m z h = absurd (omega arith)
spelled-written (b ∷ bs) n l m z h = go (digit_of b) refl bs m z h
  where
    go : (o : Option ℕ) → digit_of b ≡ o → (cs : List ℕ) → suc (length cs) ≤ 16 → zero_in_front (b ∷ cs) ≡ false
        → spelled_from 0 (b ∷ cs) ≡ Some n → digits_for 16 16 n ≡ b ∷ cs
    go None e cs m z h = let z : ◌≡◌ {A = ℕ} 0 1 = cc (spelled_none 0 b cs e) in absurd (omega arith)
    go (Some d) e [] m z h =
        let same : 0 * 16 + d ≡ n = (let k = sym (spelled_digit 0 b d [] e) ∙ h in cc) in
        let this : d ≡ n = omega arith in
        one_digit 16 15 n (omega (arith, digit-bound b d e)) ∙ ap (λ (x : ℕ). x ∷ []) (ap hex_digit_ascii (sym this) ∙ glyph-read b d e)
    go (Some d) e (c ∷ cs) m z h =
        let rest : spelled_from d (c ∷ cs) ≡ Some n
        = (let same : 0 * 16 + d ≡ d = omega arith in
        ap (λ (v : ℕ). spelled_from v (c ∷ cs)) (sym same) ∙ sym (spelled_digit 0 b d (c ∷ cs) e) ∙ h) in
        let front : 0 < d = elim (dec_lt 0 d) [
          | yes p ↦ p
          | no p ↦
              let zero-digit : d ≡ 0 = omega arith in
              absurd (eqb-false b 48 z (sym (glyph-read b d e) ∙ ap hex_digit_ascii zero-digit))
        ] in
        let count : suc (15 - suc (length cs)) + suc (length cs) ≡ 16 = omega arith in
        ap (λ (k : ℕ). digits_for k 16 n) (sym count)
        ∙ behind-written (c ∷ cs) (suc (15 - suc (length cs))) d n front rest
        ∙ ap (λ (xs : List ℕ). xs ++ (c ∷ cs)) (one_digit 16 (15 - suc (length cs)) d (digit-bound b d e))
        ∙ ap (λ (x : ℕ). x ∷ c ∷ cs) (glyph-read b d e)

pub hex-read : (bs : List ℕ) (n : ℕ) → number_of bs ≡ Some n → hex_of n ≡ bs
unfolding hex_of
hex-read bs n h = go (between 1 16 (length bs) && not (zero_in_front bs)) refl
  where
    go : (t : Bool) → (between 1 16 (length bs) && not (zero_in_front bs)) ≡ t → digits_for 16 16 n ≡ bs
    go true e =
        let both = (and-eq-true_iff _ _).0 e in
        let sized = between-true 1 16 (length bs) both.0 in
        spelled-written bs n sized.0 sized.1 (not-true _ both.1) (rw e at h)
    go false e = let z : ◌≡◌ {A = ℕ} 0 1 = (let k = rw e at h in cc) in absurd (omega arith)
