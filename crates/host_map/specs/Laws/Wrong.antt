-- Wrong answers about the map: the definition gives another one.
use Rattle.std.specs.Prelude.{ℕ, ◌<◌, ◌≢◌, true, List, [], ◌∷◌, length, get_or, take}
use Rattle.std.proofs.Common.{ap, sym, ◌∙◌, arith}
use Rattle.std.proofs.lemmas.Bool.{false≢true}
use Rattle.memory_range.specs.Range.{range}
use Rattle.host_params.specs.declared.MemoryEntry.{MemoryEntry}
use Rattle.host_params.specs.declared.MemoryMapEntryType.TheVariants.{Vtl2Protectable, Memory}
use Rattle.host_map.specs.declared.rows.RangeCheck.{RangeCheck}
use Rattle.host_map.specs.Map.{max_entries, is_protectable}
use Rattle.host_map.specs.Rows.{check_start, checked_with}
use Rattle.host_map.specs.Entries.{no_entry, entries_held}
use Rattle.host_map.specs.Laws.Entries.{stored-first}

-- a range that is not valid passed over
pub invalid-passed-over : checked_with check_start (range 0x1000 0x1800) ≢ record { valid = true; ascending = true; above = 0x1800 }
invalid-passed-over e = false≢true (ap (λ (c : RangeCheck). c.valid) e)

-- a map that is too long told as one of 1,024 entries
pub cut-at_the-bound : (map : List MemoryEntry) → max_entries < length map → (entries_held map).count ≢ 1_024
cut-at_the-bound map h = omega arith

abbrev entry : ℕ → ℕ → MemoryEntry
entry start end = record { range = range start end; vnode = 0; mem_type = Memory }

-- the end of the entry at place k
abbrev end_at : ℕ → List MemoryEntry → ℕ
end_at k es = (get_or es k no_entry).range.end

-- an entry one place up
pub entry-one-place_up : take 1 (entries_held (entry 0x1000 0x2000 ∷ [])).entries ≢ no_entry ∷ []
entry-one-place_up e = omega (arith, ap (end_at 0) (sym (stored-first (entry 0x1000 0x2000 ∷ []) (omega arith)) ∙ e))

-- the last entry not copied
pub last-entry-not_copied :
    take 2 (entries_held (entry 0x1000 0x2000 ∷ entry 0x2000 0x3000 ∷ [])).entries ≢ entry 0x1000 0x2000 ∷ no_entry ∷ []
last-entry-not_copied e =
    omega (arith, ap (end_at 1) (sym (stored-first (entry 0x1000 0x2000 ∷ entry 0x2000 0x3000 ∷ []) (omega arith)) ∙ e))

-- an entry that is protectable
pub no-entry-protectable : no_entry ≢ record { range = range 0 0; vnode = 0; mem_type = Vtl2Protectable }
no-entry-protectable e = false≢true (ap (λ (x : MemoryEntry). is_protectable x.mem_type) e)

-- a range with bytes
pub no-entry_with_bytes : no_entry ≢ entry 0 0x1000
no-entry_with_bytes e = omega (arith, ap (λ (x : MemoryEntry). x.range.end) e)
