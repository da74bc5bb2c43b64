-- Wrong answers of the walks, each refuted (docs/PROVED.md).
use Rattle.std.specs.Prelude.{ℕ, Bool, true, false, List, [], ◌∷◌, ◌≢◌, eqb, length, Option, Some, None}
use Rattle.std.proofs.Common.{ap, true≢false}
use Rattle.std.proofs.lemmas.Bool.{false≢true}
use Rattle.memory_range.specs.declared.range.TaggedRange.{TaggedRange}
use Rattle.memory_range.specs.List.{tagged}
use Rattle.memory_range.specs.Range.{range, contains_range, overlap_ranges}
use Rattle.range_lists.specs.Walk.{walk_from}
use Rattle.host_params.specs.declared.IsolationType.TheVariants as isolation
use Rattle.refusal.specs.Number.{import_not_in_map}
use Rattle.boot_ram.specs.File.{file_walk}
use Rattle.boot_ram.specs.Import.{import_walk, imports_clear}
use Rattle.boot_ram.specs.Verdict.{Verdict, free, Judged, judged, ends, with_free}
use Rattle.refusal.specs.declared.Refusal.{Refusal}

-- what the answers are told apart by
abbrev is_none : List TaggedRange → Bool
is_none [] = true
is_none (x ∷ xs) = false

abbrev first_node : List TaggedRange → ℕ
first_node [] = 0
first_node (x ∷ xs) = x.tag

-- how many are chosen, and how many are free
abbrev counts : Judged → ℕ × ℕ
counts j = (length j.chosen, length j.free)

abbrev passes : Option Refusal → Bool
passes None = true
passes (Some n) = false

-- a 1,025th free piece passes: 1,024 are held
pub free-not_bounded : (c : ℕ) (x : TaggedRange) (vs : List Verdict) (j : Judged) → judged 1024 c (free x ∷ vs) ≢ with_free x j
free-not_bounded c x vs j e = true≢false (ap (λ (k : Judged). is_none k.free) e)

-- the two counts exchanged: the file lies in the middle of an entry, so that one piece is chosen and two are free
pub counts_exchanged : counts (file_walk (range 0x2000 0x3000) (tagged 0x1000 0x5000 0 ∷ [])) ≢ (2, 1)
unfolding file_walk walk_from
counts_exchanged e = true≢false (ap (λ (p : ℕ × ℕ). eqb p.0 1) e)

-- a piece with another entry's node: the file lies in the second entry
pub node_of_another : (file_walk (range 0x3000 0x4000) (tagged 0x1000 0x2000 0 ∷ tagged 0x3000 0x4000 1 ∷ [])).chosen ≢ tagged 0x3000 0x4000 0 ∷ []
unfolding file_walk walk_from
node_of_another e = true≢false (ap (λ (xs : List TaggedRange). eqb (first_node xs) 1) e)

-- an imported range that holds the file passes
pub holding_clear : imports_clear (range 0x2000 0x3000) (range 0x1000 0x4000 ∷ []) ≢ true
unfolding contains_range overlap_ranges
holding_clear e = false≢true e

-- imported ranges free: one lies in the middle of a free entry
pub imports-free :
    (import_walk isolation.None (range 0x8000 0x9000) (range 0x2000 0x3000 ∷ []) (tagged 0x1000 0x4000 0 ∷ [])).free
    ≢ tagged 0x1000 0x2000 0 ∷ tagged 0x2000 0x3000 0 ∷ tagged 0x3000 0x4000 0 ∷ []
unfolding import_walk walk_from
imports-free e = true≢false (ap (λ (xs : List TaggedRange). eqb (length xs) 2) e)

-- an imported range inside the file refused
pub inside_refused : import_walk isolation.None (range 0x1000 0x4000) (range 0x2000 0x3000 ∷ []) [] ≢ ends (Some import_not_in_map)
unfolding import_walk walk_from contains_range
inside_refused e = true≢false (ap (λ (j : Judged). passes j.refusal) e)
