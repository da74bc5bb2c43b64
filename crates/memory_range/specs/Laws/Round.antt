-- Laws of rounding: a rounded number is a multiple, and of the multiples on its side the nearest one. Of
-- two multiples of m, one that is below the other plus m is not above it: all rests on this.
use Rattle.std.specs.Prelude.{ℕ, zero, suc, ◌+◌, ◌-◌, ◌*◌, ◌/◌, ◌%◌, ◌^◌, ◌≤◌, ◌<◌, ◌≡◌, refl, Option, Some, None}
use Rattle.std.proofs.Math.Bool.{and-false}
use Rattle.std.proofs.Common.{sym, ◌∙◌, arith, mul-zero, suc-mul, div-add-mod', mod-lt, mul-le-mul_right, lt_of_mul-lt-mul_right, lt-ltb, le-ltb, le-leb}
use Rattle.std.proofs.Math.Decide.{dec_lt}
use Rattle.std.proofs.lemmas.Bool.{lt-leb}
use Rattle.memory_range.specs.Round.{round_down, round_up, rounded_up}

-- n is a multiple of m
abbrev pub Multiple : ℕ → ℕ → Type 0
Multiple m n = (k : ℕ) × (n ≡ k * m)

pub up_multiple : (m n : ℕ) → Multiple m (round_up m n)
up_multiple m n = ((n + (m - 1)) / m, refl)

pub down_multiple : (m n : ℕ) → Multiple m (round_down m n)
down_multiple m n = (n / m, refl)

-- the only multiple of 0 is 0
pub multiple-zero : (n : ℕ) → Multiple 0 n → n ≡ 0
multiple-zero n h = h.1 ∙ mul-zero h.0

pub up-zero : (n : ℕ) → round_up 0 n ≡ 0
up-zero n = multiple-zero (round_up 0 n) (up_multiple 0 n)

pub down-zero : (n : ℕ) → round_down 0 n ≡ 0
down-zero n = multiple-zero (round_down 0 n) (down_multiple 0 n)

pub multiple_le : (m a b : ℕ) → Multiple m a → Multiple m b → a < b + m → a ≤ b
multiple_le m a b p q h =
    let lt : p.0 < suc q.0 = lt_of_mul-lt-mul_right m (omega (arith, suc-mul q.0 m)) in
    let le : p.0 ≤ q.0 = omega arith in
    omega (arith, mul-le-mul_right m le)

module _ (m n : ℕ) (pos : 0 < m) where
  pub up_above : n ≤ round_up m n
  up_above = omega (arith, div-add-mod' (n + (m - 1)) m, mod-lt (n + (m - 1)) pos)

  pub up_near : round_up m n < n + m
  up_near = omega (arith, div-add-mod' (n + (m - 1)) m)

  pub up_least : (k : ℕ) → Multiple m k → n ≤ k → round_up m n ≤ k
  up_least k p h = multiple_le m (round_up m n) k (up_multiple m n) p (omega (arith, up_near))

  pub down_below : round_down m n ≤ n
  down_below = omega (arith, div-add-mod' n m)

  pub down_near : n < round_down m n + m
  down_near = omega (arith, div-add-mod' n m, mod-lt n pos)

  pub down-largest : (k : ℕ) → Multiple m k → k ≤ n → k ≤ round_down m n
  down-largest k p h = multiple_le m k (round_down m n) p (down_multiple m n) (omega (arith, down_near))

  -- rounding by the remainder: down takes it away; up adds what it lacks to m, or nothing where it is 0
  pub down_sub : round_down m n ≡ n - n % m
  down_sub = omega (arith, div-add-mod' n m)

  pub up_exact : n % m ≡ 0 → round_up m n ≡ n
  up_exact e = omega (arith, up_above, up_least n (n / m, omega (arith, div-add-mod' n m)) (omega arith))

  pub up_more : 0 < n % m → round_up m n ≡ n + (m - n % m)
  up_more h =
      let whole = div-add-mod' n m in
      let next : Multiple m (round_down m n + m) = (suc (n / m), sym (suc-mul (n / m) m)) in
      let least = up_least (round_down m n + m) next (omega (arith, down_near)) in
      let most = multiple_le m (round_down m n + m) (round_up m n) next (up_multiple m n) (omega (arith, up_above)) in
      omega (arith, mod-lt n pos)

-- the answer, by whether there is such a multiple and 64 bits hold it
pub rounded_to : (m n : ℕ) → n ≤ round_up m n → round_up m n < 2 ^ 64 → rounded_up m n ≡ Some (round_up m n)
unfolding rounded_up
rounded_to m n l h = rw (le-leb n (round_up m n) l, lt-ltb (round_up m n) (2 ^ 64) h)

pub rounded-over : (m n : ℕ) → 2 ^ 64 ≤ round_up m n → rounded_up m n ≡ None
unfolding rounded_up
rounded-over m n h = rw (le-ltb (round_up m n) (2 ^ 64) h, and-false)

pub rounded-none : (m n : ℕ) → round_up m n < n → rounded_up m n ≡ None
unfolding rounded_up
rounded-none m n h = rw (lt-leb n (round_up m n) h)

-- what an answer says of a length n and every m, 0 among them: the least multiple of m that is not
-- below n; or that n is above all multiples of m that 64 bits hold
abbrev pub Rounded : ℕ → ℕ → Option ℕ → Type 0
Rounded m n (Some k) = Multiple m k × (n ≤ k) × (k < 2 ^ 64) × ((j : ℕ) → Multiple m j → n ≤ j → k ≤ j)
Rounded m n None = (j : ℕ) → Multiple m j → j < 2 ^ 64 → j < n

pub rounded_least : (m n : ℕ) → Rounded m n (rounded_up m n)
rounded_least zero zero = rw (rounded_to 0 0 (omega arith) (omega (arith, up-zero 0)), up-zero) ((0, omega arith), omega arith, omega arith, λ j p h. omega arith)
rounded_least zero (suc n) = rw (rounded-none 0 (suc n) (omega (arith, up-zero (suc n)))) (λ j p h. omega (arith, multiple-zero j p))
rounded_least (suc m) n = go (dec_lt (round_up (suc m) n) (2 ^ 64))
  where
    pos : 0 < suc m
    pos = omega arith

    go : Dec (round_up (suc m) n < 2 ^ 64) → Rounded (suc m) n (rounded_up (suc m) n)
    go (yes h) =
        let above = up_above (suc m) n pos in
        rw (rounded_to (suc m) n above h) (up_multiple (suc m) n, above, h, up_least (suc m) n pos)
    go (no h) =
        rw (rounded-over (suc m) n (omega arith))
        (λ j p l. elim (dec_lt j n) [ yes q ↦ q | no q ↦ absurd (omega (arith, up_least (suc m) n pos j p (omega arith))) ])

-- For a step m that divides 2^64, as pages and 32,768 bytes do, the answer is too large exactly where n is
-- above 2^64 - m.
module _ (m n : ℕ) (pos : 0 < m) (divides : Multiple m (2 ^ 64)) where
  pub rounded_within : n ≤ 2 ^ 64 - m → rounded_up m n ≡ Some (round_up m n)
  rounded_within h =
      let most = multiple_le m m (2 ^ 64) (1, omega arith) divides (omega arith) in
      rounded_to m n (up_above m n pos) (omega (arith, up_near m n pos))

  pub rounded-beyond : 2 ^ 64 - m < n → rounded_up m n ≡ None
  rounded-beyond h =
      rounded-over m n (multiple_le m (2 ^ 64) (round_up m n) divides (up_multiple m n) (omega (arith, up_above m n pos)))

pub page_divides : Multiple 4096 (2 ^ 64)
page_divides = (2 ^ 52, refl)

pub share_divides : Multiple 32768 (2 ^ 64)
share_divides = (2 ^ 49, refl)
