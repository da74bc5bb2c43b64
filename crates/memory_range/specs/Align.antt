-- The aligned part of a range (docs/SPEC.md, section 3; document 01, Port order 1).
use Rattle.std.specs.Prelude.{ℕ, cond, ltb}
use Rattle.memory_range.specs.declared.range.MemoryRange.{MemoryRange}
use Rattle.memory_range.specs.Range.{range}
use Rattle.memory_range.specs.Round.{round_down, round_up}

-- the largest range inside r with both ends multiples of m; 0 to 0 where there is none
unfoldable pub aligned_part : ℕ → MemoryRange → MemoryRange
aligned_part m r =
    cond (ltb (round_up m r.start) (round_down m r.end))
    (range (round_up m r.start) (round_down m r.end))
    (range 0 0)
