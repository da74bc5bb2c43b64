-- Laws of the count of set bits: it is the count that `count_ones` gives, and it is 1 for the powers of
-- two and for no other number.
use Rattle.std.specs.Prelude.{ℕ, suc, zero, ◌+◌, ◌/◌, ◌%◌, ◌^◌, ◌<◌, ◌≡◌, refl, ◌↔◌, true}
use Rattle.std.proofs.Common.{ap, sym, ◌∙◌, arith, pow-suc, eqb-true, eq-eqb}
use Rattle.std.proofs.Math.Arith.{lt-one}
use Rattle.std.specs.Int.Count.{ones, ones_step}
use Rattle.memory_range.specs.Power.{bit_count, is_power_of_two}

half_lt : (w n : ℕ) → n < 2 ^ suc w → n / 2 < 2 ^ w
half_lt w n h = omega (arith, pow-suc 2 w)

-- w bits are enough for a number below 2 ^ w
pub count_is_ones : (w n : ℕ) → n < 2 ^ w → bit_count w n ≡ ones n
unfolding bit_count ones
count_is_ones zero n h = ap ones (sym (lt-one h))
count_is_ones (suc w) n h = ap (λ (x : ℕ). n % 2 + x) (count_is_ones w (n / 2) (half_lt w n h)) ∙ sym (ones_step n)

-- 0 is the only number with no bit set
count-zero : (w : ℕ) → bit_count w 0 ≡ 0
unfolding bit_count
count-zero zero = refl
count-zero (suc w) = omega (arith, count-zero w)

none-set : (w n : ℕ) → n < 2 ^ w → bit_count w n ≡ 0 → n ≡ 0
unfolding bit_count
none-set zero n h e = lt-one h
none-set (suc w) n h e = omega (arith, none-set w (n / 2) (half_lt w n h) (omega arith))

-- the powers of two are the only numbers with one bit set
count_power : (w k : ℕ) → k < w → bit_count w (2 ^ k) ≡ 1
unfolding bit_count
count_power zero k h = absurd (omega arith)
count_power (suc w) zero h = omega (arith, count-zero w)
count_power (suc w) (suc k) h =
    let half : 2 ^ suc k / 2 ≡ 2 ^ k = omega (arith, pow-suc 2 k) in
    rw half (omega (arith, pow-suc 2 k, count_power w k (omega arith)))

one_set : (w n : ℕ) → n < 2 ^ w → bit_count w n ≡ 1 → (k : ℕ) × (k < w) × (n ≡ 2 ^ k)
unfolding bit_count
one_set zero n h e = absurd (omega arith)
one_set (suc w) n h e = go (n % 2) refl (one_set w (n / 2) (half_lt w n h))
  where
    go : (b : ℕ) → n % 2 ≡ b → (bit_count w (n / 2) ≡ 1 → (k : ℕ) × (k < w) × (n / 2 ≡ 2 ^ k)) → (k : ℕ) × (k < suc w) × (n ≡ 2 ^ k)
    go zero z rest = let t = rest (omega arith) in (suc t.0, omega arith, omega (arith, pow-suc 2 t.0))
    go (suc b) z rest = (0, omega arith, omega (arith, none-set w (n / 2) (half_lt w n h) (omega arith)))

-- a number of 64 bits passes exactly where it is a power of two
pub power_of-two : (n : ℕ) → n < 2 ^ 64 → (is_power_of_two n ≡ true) ↔ ((k : ℕ) × (k < 64) × (n ≡ 2 ^ k))
power_of-two n h = (
  λ e. one_set 64 n h (eqb-true (bit_count 64 n) 1 e),
  λ t. eq-eqb (bit_count 64 n) 1 (ap (bit_count 64) t.2 ∙ count_power 64 t.0 t.1),
)
