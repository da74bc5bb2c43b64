-- Wrong answers of what is read of a text, each refuted (docs/PROVED.md).
use Rattle.std.specs.Prelude.{ℕ, ◌≡◌, Bool, true, false, List, [], ◌∷◌, ◌≢◌, length, Option, Some, None}
use Rattle.std.proofs.Common.{ap, sym, ◌∙◌, arith}
use Rattle.std.proofs.lemmas.Bool.{false≢true}
use Rattle.memory_range.specs.declared.range.MemoryRange.{MemoryRange}
use Rattle.memory_range.specs.Range.{range}
use Rattle.plan_record.specs.declared.record.Record.{Record}
use Rattle.plan_record.specs.declared.record.Record.TheVariants.{Side, Tables}
use Rattle.plan_input.specs.declared.selection.SelectionRead.{SelectionRead}
use Rattle.plan_input.specs.Build.{build_in}
use Rattle.plan_input.specs.Record.{records_at, behind_one}
use Rattle.plan_input.specs.Selection.{SelectionIn, SelectionHeld}

-- what the answers are told apart by
abbrev is_given_in : Option MemoryRange → Bool
is_given_in (Some r) = true
is_given_in None = false

-- entries above the array's room not counted
pub above_room-not-counted : (text : List ℕ) (s : SelectionIn) (r : SelectionRead) → SelectionHeld text s r → length s.map ≡ 1026
    → r.map_count ≢ 1025
above_room-not-counted text s r held h e = omega (arith, held.map-count)

-- page tables taken for the log buffer: a second record of page tables
pub tables_as_log : (build_in (Tables (range 0x1000 0x2000) ∷ Tables (range 0x2000 0x3000) ∷ [])).builder.log_buffer ≢ Some (range 0x2000 0x3000)
unfolding build_in
tables_as_log e = false≢true (ap is_given_in e)

-- a range of another word: a sidecar image taken for the reserved range
pub range_of_another : (build_in (Side (range 0x1000 0x2000) ∷ [])).builder.reserved_range ≢ Some (range 0x1000 0x2000)
unfolding build_in
range_of_another e = false≢true (ap is_given_in e)

-- another record's place answered: that of the record itself
pub place_of_another : (text : List ℕ) (at next : ℕ) (r : Record) (rs : List Record) → records_at text at ≡ r ∷ rs
    → records_at text next ≡ behind_one (records_at text at) → next ≢ at
place_of_another text at next r rs h behind e =
    let same : records_at text next ≡ r ∷ rs = ap (records_at text) e ∙ h in
    let less : records_at text next ≡ rs = behind ∙ ap behind_one h in
    omega (arith, ap length (sym same ∙ less))
