-- The comparison of bytes passes exactly where the two are equal. A value that goes on from another has that one.
use Rattle.std.specs.Prelude.{ℕ, ◌≡◌, refl, true, List, [], ◌∷◌, eqb, length, Option, Some, None}
use Rattle.std.proofs.Common.{ap, eqb-true, eq-eqb}
use Rattle.std.proofs.lemmas.Bool.{false≢true}
use Rattle.std.proofs.Math.Bool.{and-eq-true_iff}
use Rattle.plan_fields.specs.Word.{same_bytes, after}
use Rattle.std.proofs.lemmas.Option.{none-some}

pub same_eq : (a b : List ℕ) → same_bytes a b ≡ true → a ≡ b
same_eq [] [] h = refl
same_eq [] (y ∷ b) h = absurd (false≢true h)
same_eq (x ∷ a) [] h = absurd (false≢true h)
same_eq (x ∷ a) (y ∷ b) h =
    let both = (and-eq-true_iff (eqb x y) (same_bytes a b)).0 h in
    rw (eqb-true x y both.0, same_eq a b both.1)

pub same_refl : (a : List ℕ) → same_bytes a a ≡ true
same_refl [] = refl
same_refl (x ∷ a) = rw (eq-eqb x x refl) (same_refl a)

pub same_length : (a b : List ℕ) → same_bytes a b ≡ true → length a ≡ length b
same_length a b h = ap length (same_eq a b h)

pub after-some : {A B : Type 0} (o : Option A) (f : A → Option B) {y : B} → after o f ≡ Some y → (x : A) × (o ≡ Some x) × (f x ≡ Some y)
after-some None f {y} e = absurd (none-some y e)
after-some (Some x) f e = (x, refl, e)
