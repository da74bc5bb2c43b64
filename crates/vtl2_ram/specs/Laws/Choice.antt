-- What an accepted selection shows, that nothing refused it; and what a refused one shows.
use Rattle.std.specs.Prelude.{◌≡◌, refl, Bool, true, false, List, Option, Some, None}
use Rattle.std.proofs.Common.{ap, sym, true≢false}
use Rattle.refusal.specs.declared.Refusal.{Refusal}
use Rattle.refusal.specs.Rows.{unless}
use Rattle.refusal.specs.Laws.Rows.{unless-told}
use Rattle.memory_range.specs.declared.range.TaggedRange.{TaggedRange}
use Rattle.vtl2_ram.specs.Choice.{Choice, refused, chosen}

abbrev is_refused : Choice → Bool
is_refused (refused n) = true
is_refused (chosen xs) = false

pub chosen-not_refused : {n : Refusal} {xs : List TaggedRange} → chosen xs ≡ refused n → ⊥
chosen-not_refused e = true≢false (sym (ap is_refused e))

pub unless-chosen : (u : Option Refusal) (c : Choice) {ram : List TaggedRange} → unless refused u c ≡ chosen ram → (u ≡ None) × (c ≡ chosen ram)
unless-chosen None c e = (refl, e)
unless-chosen (Some n) c e = absurd (true≢false (ap is_refused e))

pub same-number : {k n : Refusal} → refused k ≡ refused n → k ≡ n
same-number e = cc

-- what is shown of a refusal that comes first, and of one that comes after, holds of the one that is told
abbrev pub choice-told : (P : Refusal → Type 0) (u : Option Refusal) (c : Choice) {n : Refusal} → (u ≡ Some n → P n) → (u ≡ None → c ≡ refused n → P n)
    → unless refused u c ≡ refused n → P n
choice-told = unless-told refused (λ k n e. same-number e)
