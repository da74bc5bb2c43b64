-- One range, and two ranges (docs/SPEC.md, section 2).
use Rattle.std.specs.Prelude.{ℕ, ◌+◌, ◌-◌, min, max, Bool, ◌&&◌, ◌||◌, leb, ltb}
use Rattle.memory_range.specs.declared.range.MemoryRange.{MemoryRange}
use Rattle.memory_range.specs.declared.range.SplitRange.{SplitRange}

-- a range from its two ends
abbrev pub range : ℕ → ℕ → MemoryRange
range s e = record { start = s; end = e }

-- the number of bytes: none where the start is not below the end
abbrev pub length_of : MemoryRange → ℕ
length_of r = r.end - r.start

-- whether the byte at the address a lies in the range: the end is excluded
abbrev pub holds : MemoryRange → ℕ → Bool
holds r a = leb r.start a && ltb a r.end

-- whether every byte of s is one of r: s has none, or both its ends lie between those of r
unfoldable pub contains_range : MemoryRange → MemoryRange → Bool
contains_range r s = leb s.end s.start || (leb r.start s.start && leb s.end r.end)

-- whether some byte lies in both: the later start is below the earlier end
unfoldable pub overlap_ranges : MemoryRange → MemoryRange → Bool
overlap_ranges r s = ltb (max r.start s.start) (min r.end s.end)

-- the first n bytes and the rest; all of it and nothing, where there are fewer
abbrev pub split_range_at : MemoryRange → ℕ → SplitRange
split_range_at r n =
    let at = r.start + min n (length_of r) in
    record { left = range r.start at; right = range at r.end }
