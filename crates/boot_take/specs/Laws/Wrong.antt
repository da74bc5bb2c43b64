-- Wrong answers of the taking, each refuted (docs/PROVED.md).
use Rattle.std.specs.Prelude.{ℕ, List, [], ◌∷◌, ◌≢◌, eqb, length, Option, Some, None}
use Rattle.std.proofs.Common.{ap, true≢false}
use Rattle.memory_range.specs.declared.range.TaggedRange.{TaggedRange}
use Rattle.memory_range.specs.List.{tagged}
use Rattle.boot_nodes.specs.Node.{count_up}
use Rattle.boot_ram.specs.Verdict.{Judged, judged, ends}
use Rattle.refusal.specs.declared.Refusal.{Refusal}
use Rattle.refusal.specs.Number.{number_of, too_many_pieces, node_too_small}
use Rattle.boot_take.specs.Take.{take_on, taking}

-- what the answers are told apart by
abbrev told_number : Option Refusal → ℕ
told_number None = 0
told_number (Some r) = number_of r

abbrev first_start : List TaggedRange → ℕ
first_start [] = 0
first_start (x ∷ xs) = x.range.start

-- 13 told from a sum beforehand: 64 pieces are chosen, and of the two pages that it needs the node has one
pub short_by-sum : judged 0 64 (take_on 0 0x2000 (tagged 0x1000 0x2000 0 ∷ [])) ≢ ends (Some node_too_small)
short_by-sum e = true≢false (ap (λ (j : Judged). eqb (told_number j.refusal) (number_of too_many_pieces)) e)

-- node 0 passed over
pub node-0-passed-over :
    (taking 0x8000 [] (tagged 0 0x8000 0 ∷ tagged 0x8000 0x10000 1 ∷ []) (count_up 0 2)).chosen ≢ tagged 0x8000 0x10000 1 ∷ []
unfolding taking
node-0-passed-over e = true≢false (ap (λ (xs : List TaggedRange). eqb (length xs) 2) e)

-- from the bottom: of two entries that have enough the lower one is taken
pub from_the_bottom :
    (taking 0x8000 [] (tagged 0x8000 0x10000 0 ∷ tagged 0x20000 0x28000 0 ∷ []) (count_up 0 1)).chosen ≢ tagged 0x8000 0x10000 0 ∷ []
unfolding taking
from_the_bottom e = true≢false (ap (λ (xs : List TaggedRange). eqb (first_start xs) 0x20000) e)
