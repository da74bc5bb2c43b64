-- A turn adds the bytes of the next entry, if it is protectable.
use Rattle.std.proofs.Common.{ℕ, ◌+◌, ◌-◌, ◌≡◌, sym, ◌∙◌, true, false, List, ◌∷◌, add-one, arith, drop-cons}
use Rattle.memory_range.specs.Bytes.{Ordered}
use Rattle.memory_range.specs.Range.{range}
use Rattle.boot_ram.specs.Held.{bytes_of}
use Rattle.host_params.specs.declared.MemoryEntry.{MemoryEntry}
use Rattle.host_params.specs.declared.MemoryMapEntryType.TheVariants.{Vtl2Protectable}
use Rattle.host_map.specs.Map.{is_protectable, map_ranges, protectable_in}
use Rattle.vtl2_ram.specs.Laws.Ram.{ordered-sum, ordered-behind}
use Rattle.vtl2_ram.proofs.host.protectable_bytes.Goals.{then-is_protectable, else-is_protectable}
use Rattle.vtl2_ram.proofs.host.protectable_bytes.Goals as goal

-- what a read past the end gives
abbrev none : MemoryEntry
none = record { range = range 0 0; vnode = 0; mem_type = Vtl2Protectable }

-- the bytes so far, and the entries that are left
abbrev Summed : ℕ → ℕ → List MemoryEntry → Type 0
Summed total bytes left = (bytes + bytes_of (protectable_in left) ≡ total) × Ordered bytes (map_ranges left)

module _ (total bytes : ℕ) (e : MemoryEntry) (left : List MemoryEntry) where
  taken : is_protectable e.mem_type ≡ true → Summed total bytes (e ∷ left) → Summed total (bytes + (e.range.end - e.range.start)) left
  taken p s = let t = rw p at s.0 in (omega (arith, t), ordered-sum bytes e.range (map_ranges left) s.1)

  passed : is_protectable e.mem_type ≡ false → Summed total bytes (e ∷ left) → Summed total bytes left
  passed p s = (rw p at s.0, ordered-behind bytes e.range (map_ranges left) s.1)

pub loop-entry-preserved : goal.loop-entry-preserved
loop-entry-preserved c =
    let map = c.args.map.now in
    let l = c.loop-entry in
    let i = rw (drop-cons map l.entry-index none c.loop-entry-test.true) at l.invariant in
    elim c.if-is_protectable.branch [
      | then-is_protectable w ↦ rw (w.bytes-is, add-one) (taken _ l.bytes _ _ (sym c.is_protectable.ensures ∙ w.if-is_protectable.true) i)
      | else-is_protectable w ↦ rw (w.bytes-is, add-one) (passed _ l.bytes _ _ (sym c.is_protectable.ensures ∙ w.if-is_protectable.false) i)
    ]
