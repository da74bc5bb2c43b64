-- What a row that does not refuse shows, how rows are passed over, and which one a number comes from.
use Rattle.std.specs.Prelude.{◌≡◌, refl, Bool, true, false, not, List, [], ◌∷◌, Option, Some, None}
use Rattle.std.proofs.Common.{sym, ap, ◌∙◌, true≢false}
use Rattle.std.proofs.lemmas.Bool.{not-true}
use Rattle.refusal.specs.Rows.{refused_if, downward, unless}
use Rattle.std.proofs.lemmas.Option.{none-some, same_Some}
use Rattle.refusal.specs.declared.Refusal.{Refusal}

-- a rule that does not refuse is kept
pub not_refused : (b : Bool) (n : Refusal) → refused_if b n ≡ None → b ≡ false
not_refused false n e = refl
not_refused true n e = absurd (none-some n (sym e))

-- where no row refuses, neither the first one does nor those below it
pub downward-none : (u : Option Refusal) (us : List (Option Refusal)) → downward (u ∷ us) ≡ None → (u ≡ None) × (downward us ≡ None)
downward-none None us e = (refl, e)
downward-none (Some n) us e = absurd (none-some n (sym e))

-- the same of a first row that is a rule: the rule is kept
pub first-kept : (broken : Bool) (n : Refusal) (rows : List (Option Refusal)) → downward (refused_if broken n ∷ rows) ≡ None → (broken ≡ false) × (downward rows ≡ None)
first-kept false n rows e = (refl, e)
first-kept true n rows e = absurd (none-some n (sym e))

-- a rule that refuses is broken: what is shown of its number then holds of the number that is told
pub rule_told : (P : Refusal → Type 0) (broken : Bool) (k : Refusal) {n : Refusal} → (broken ≡ true → P k) → refused_if broken k ≡ Some n → P n
rule_told P true k here e = rw (same_Some k _ e) at (here refl)
rule_told P false k here e = absurd (none-some _ e)

-- what is shown of the first row's number, where its rule is broken, and of whatever those below it tell, holds of the
-- number that is told
pub told_in-turn : (P : Refusal → Type 0) (broken : Bool) (k : Refusal) (rows : List (Option Refusal)) {n : Refusal} → (broken ≡ true → P k)
    → (broken ≡ false → downward rows ≡ Some n → P n) → downward (refused_if broken k ∷ rows) ≡ Some n → P n
told_in-turn P true k rows here below e = rule_told P true k here e
told_in-turn P false k rows here below e = below refl e

-- the last row alone
pub downward_last : (row : Option Refusal) → downward (row ∷ []) ≡ row
downward_last None = refl
downward_last (Some n) = refl

-- what is shown of a refusal that comes first, and of one that comes after, holds of the number that is told
pub unless-told : {A : Type 0} (refused : Refusal → A) → ((k n : Refusal) → refused k ≡ refused n → k ≡ n) → (P : Refusal → Type 0) (u : Option Refusal) (x : A) {n : Refusal}
    → (u ≡ Some n → P n) → (u ≡ None → x ≡ refused n → P n) → unless refused u x ≡ refused n → P n
unless-told refused same P (Some k) x here after e = here (ap Some (same k _ e))
unless-told refused same P None x here after e = after refl e

-- a test that says false of what is true
pub contrary : (b : Bool) → b ≡ true → not b ≡ true → ⊥
contrary b e f = true≢false (sym e ∙ not-true b f)
