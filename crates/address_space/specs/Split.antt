-- The split of the chosen entry (docs/SPEC.md, section 22).
use Rattle.std.specs.Prelude.{ℕ, ◌+◌, ◌-◌, cond, List, [], ◌∷◌, ◌++◌, ltb}
use Rattle.memory_range.specs.declared.range.MemoryRange.{MemoryRange}
use Rattle.memory_range.specs.Range.{range, length_of, split_range_at}
use Rattle.host_params.specs.declared.AllocationPolicy.{AllocationPolicy}
use Rattle.host_params.specs.declared.AllocationPolicy.TheVariants.{LowMemory, HighMemory}
use Rattle.address_space.specs.declared.split.SplitParts.{SplitParts}
use Rattle.address_space.specs.declared.table.AddressRange.{AddressRange}
use Rattle.address_space.specs.declared.usage.AddressUsage.{AddressUsage}
use Rattle.address_space.specs.declared.usage.AddressUsage.TheVariants.{Free}
use Rattle.address_space.specs.Table.{entry}

-- so many bytes of a range: low its first ones, high its last ones
abbrev pub allotted : AllocationPolicy → ℕ → MemoryRange → MemoryRange
allotted LowMemory len r = (split_range_at r len).left
allotted HighMemory len r = (split_range_at r (length_of r - len)).right

-- entries are made in two places: what is left free, and what is handed out
abbrev pub free_entry : ℕ → MemoryRange → AddressRange
free_entry n r = entry r n Free

abbrev pub handed_out : ℕ → AddressUsage → MemoryRange → AddressRange
handed_out n u r = entry r n u

-- what is left free from s to e, nothing where no byte lies between
abbrev pub left_free : ℕ → ℕ → ℕ → List AddressRange
left_free n s e = cond (ltb s e) (free_entry n (range s e) ∷ []) []

-- how many entries that is
abbrev pub part_count : ℕ → ℕ → ℕ
part_count s e = cond (ltb s e) 1 0

-- an entry as what is left below the range handed out, that range, and what is left above it
abbrev pub split_entry : MemoryRange → AddressUsage → AddressRange → List AddressRange
split_entry used usage e =
    left_free e.vnode e.range.start used.start
    ++ handed_out e.vnode usage used
    ∷ left_free e.vnode used.end e.range.end

-- what is left free from s to e, or another entry where no byte lies between
abbrev pub free_or : ℕ → ℕ → ℕ → AddressRange → AddressRange
free_or n s e other = cond (ltb s e) (free_entry n (range s e)) other

-- the same by its first part, its last part and the one handed out, with how many are below that and how many
-- there are besides one: with nothing left below, the one handed out is the first, and with nothing above, the last
abbrev pub parts_of : MemoryRange → AddressUsage → AddressRange → SplitParts
parts_of used usage e =
    let handed = handed_out e.vnode usage used in
    let below = part_count e.range.start used.start in record {
      first = free_or e.vnode e.range.start used.start handed;
      used = handed;
      last = free_or e.vnode used.end e.range.end handed;
      below = below;
      added = below + part_count used.end e.range.end;
    }
