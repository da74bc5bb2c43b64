-- What an answer says of the refusal that it was made of.
use Rattle.std.specs.Prelude.{ℕ, ◌≡◌, refl, Option, Some, None, Ok, Err}
use Rattle.std.proofs.Common.{arith}
use Rattle.refusal.specs.declared.Refusal.{Refusal}
use Rattle.refusal.specs.Answer.{counted_as, rows_as}

pub counted_refused : (o : Option Refusal) (k : ℕ) {r : Refusal} → counted_as o k ≡ Err r → o ≡ Some r
counted_refused None k e = absurd (grind arith)
counted_refused (Some r) k e = cc

pub counted-count : (o : Option Refusal) (k : ℕ) {n : ℕ} → counted_as o k ≡ Ok n → (o ≡ None) × (k ≡ n)
counted-count None k e = (refl, cc)
counted-count (Some r) k e = absurd (grind arith)

pub rows_refused : (o : Option Refusal) {r : Refusal} → rows_as o ≡ Err r → o ≡ Some r
rows_refused None e = absurd (grind arith)
rows_refused (Some r) e = cc

pub rows_none : (o : Option Refusal) → rows_as o ≡ Ok tt → o ≡ None
rows_none None e = refl
rows_none (Some r) e = absurd (grind arith)
