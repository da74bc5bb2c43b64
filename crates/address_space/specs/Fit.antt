-- Which entries can serve a request (docs/SPEC.md, section 22; document 01's fit).
use Rattle.std.specs.Prelude.{ℕ, Bool, true, ◌&&◌, leb, eqb, Option, Some, None}
use Rattle.memory_range.specs.declared.range.MemoryRange.{MemoryRange}
use Rattle.memory_range.specs.Align.{aligned_part}
use Rattle.memory_range.specs.Range.{length_of}
use Rattle.address_space.specs.declared.table.AddressRange.{AddressRange}
use Rattle.address_space.specs.Usage.{is_free}

-- a request that names no node takes any
abbrev pub on_asked_node : Option ℕ → ℕ → Bool
on_asked_node (Some n) m = eqb n m
on_asked_node None m = true

-- the part of a range that may be handed out: its aligned part, all of it where no alignment is given
abbrev pub aligned_to : Option ℕ → MemoryRange → MemoryRange
aligned_to (Some a) r = aligned_part a r
aligned_to None r = r

-- an entry fits where it is free, on the node asked for, and has room for the length both in its range and in the aligned part of it
abbrev pub fits_in : Option ℕ → ℕ → Option ℕ → AddressRange → Bool
fits_in asked len alignment e =
    is_free e.usage
    && (on_asked_node asked e.vnode && (leb len (length_of e.range) && leb len (length_of (aligned_to alignment e.range))))
