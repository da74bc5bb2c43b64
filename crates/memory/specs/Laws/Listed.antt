-- Laws of tagged ranges that are put into three lists of numbers beside each other, as callers may hold them; and of
-- ranges that are listed, and ranges that are not, since a row refuses.
use Rattle.std.specs.Prelude.{ℕ, suc, zero, ◌+◌, ◌<◌, ◌≡◌, refl, List, [], ◌∷◌, ◌++◌, length, set, Option, Some, None, Ok, Err}
use Rattle.std.proofs.Common.{ap, sym, ◌∙◌, arith, add-one}
use Rattle.std.proofs.lemmas.Option.{none-some}
use Rattle.refusal.specs.declared.Refusal.{Refusal}
use Rattle.memory_range.specs.declared.range.MemoryRange.{MemoryRange}
use Rattle.memory_range.specs.declared.range.TaggedRange.{TaggedRange}
use Rattle.memory_range.specs.List.{tagged, first_tagged}
use Rattle.memory.specs.Used.{ListedIn}

put-at : (k : ℕ) (ss es ts : List ℕ) (s e t : ℕ) → k < length ss → k < length es → k < length ts
    → first_tagged (suc k) (set ss k s) (set es k e) (set ts k t) ≡ first_tagged k ss es ts ++ tagged s e t ∷ []
put-at k [] es ts s e t hs he ht = absurd (omega arith)
put-at k (s₀ ∷ ss) [] ts s e t hs he ht = absurd (omega arith)
put-at k (s₀ ∷ ss) (e₀ ∷ es) [] s e t hs he ht = absurd (omega arith)
put-at zero (s₀ ∷ ss) (e₀ ∷ es) (t₀ ∷ ts) s e t hs he ht = refl
put-at (suc k) (s₀ ∷ ss) (e₀ ∷ es) (t₀ ∷ ts) s e t hs he ht =
    ap (λ l. tagged s₀ e₀ t₀ ∷ l) (put-at k ss es ts s e t (omega arith) (omega arith) (omega arith))

-- a range put at an index stands behind those before it
pub first_tagged-put : (k : ℕ) (ss es ts : List ℕ) (s e t : ℕ) → k < length ss → k < length es → k < length ts
    → first_tagged (k + 1) (set ss k s) (set es k e) (set ts k t) ≡ first_tagged k ss es ts ++ tagged s e t ∷ []
first_tagged-put k ss es ts s e t hs he ht = rw add-one (put-at k ss es ts s e t hs he ht)

-- the same of a range, by what the arrays hold afterwards
pub put-behind : (k : ℕ) (ss es ts : List ℕ) (r : MemoryRange) (t : ℕ) {ss' es' ts' : List ℕ}
    → ss' ≡ set ss k r.start → es' ≡ set es k r.end → ts' ≡ set ts k t → k < length ss → k < length es → k < length ts
    → first_tagged (k + 1) ss' es' ts' ≡ first_tagged k ss es ts ++ record { range = r; tag = t } ∷ []
put-behind k ss es ts r t s e g hs he ht = rw (s, e, g) (first_tagged-put k ss es ts r.start r.end t hs he ht)

-- ranges that are not listed, since a row refuses, and ranges that are
pub listed-not : {xs list : List TaggedRange} {refusal : Option Refusal} {r : Refusal} → refusal ≡ Some r → ListedIn refusal xs (Err r) list
listed-not {r = r} e = record { answered = rw e; found = λ f. absurd (none-some r (sym (sym e ∙ f))) }

pub listed_as : {xs list : List TaggedRange} {refusal : Option Refusal} → refusal ≡ None → list ≡ xs → ListedIn refusal xs (Ok tt) list
listed_as e f = record { answered = rw e; found = λ _. f }
