-- Numbers of a loop over a slice: its test, and that places and counts fit.
use Rattle.std.specs.Prelude.{ℕ, ◌+◌, ◌*◌, ◌≤◌, ◌<◌, ◌^◌, ◌≡◌, Bool, true, false, not, T, ltb}
use Rattle.std.proofs.Common.{sym, subst, arith, mul-le-mul_right, ltb→lt, nltb→le}

pub le_of : (i n : ℕ) → ltb i n ≡ false → n ≤ i
le_of i n e = nltb→le i n (subst (λ (v : Bool). T (not v)) (sym e) tt)

pub lt_of : (i n : ℕ) → ltb i n ≡ true → i < n
lt_of i n e = ltb→lt i n (subst T (sym e) tt)

pub next_fits : (i n : ℕ) → i < n → n < 2 ^ 64 → i + 1 < 2 ^ 64
next_fits i n h g = omega arith

pub count_fits : (i n : ℕ) → i ≤ n → n < 2 ^ 64 → i < 2 ^ 64
count_fits i n h g = omega arith

-- an element's place in bytes, for elements of s bytes
pub place-fits : (s i n : ℕ) → i < n → n * s < 2 ^ 63 → i * s < 2 ^ 64
place-fits s i n h g = let below : i * s ≤ n * s = mul-le-mul_right s (omega arith) in omega arith
