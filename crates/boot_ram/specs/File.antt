-- The walk of the file's range with the map (docs/SPEC.md, section 19).
use Rattle.std.specs.Prelude.{ℕ, List, [], ◌∷◌, map, get_or}
use Rattle.memory_range.specs.declared.range.MemoryRange.{MemoryRange}
use Rattle.memory_range.specs.declared.range.TaggedRange.{TaggedRange}
use Rattle.range_lists.specs.declared.walk.RangeWalkResult.{RangeWalkResult}
use Rattle.range_lists.specs.declared.walk.RangeWalkResult.TheVariants.{Left, Right, Both}
use Rattle.range_lists.specs.declared.walk.WalkPiece.{WalkPiece}
use Rattle.memory_range.specs.List.{ranges_in, tags_of}
use Rattle.range_lists.specs.Walk.{walk}
use Rattle.boot_ram.specs.Verdict.{Verdict, free, choose, refuse, Judged, judged}
use Rattle.refusal.specs.Number.{file_not_in_map}

-- a piece, with the node of the entry of that index
abbrev pub on_node_of : List TaggedRange → ℕ → MemoryRange → TaggedRange
on_node_of m j r = record { range = r; tag = get_or (tags_of m) j 0 }

-- a piece of an entry is chosen where it is the file's too, and else free; a piece of the file in no entry
-- is refused
abbrev pub file_verdict : List TaggedRange → MemoryRange → RangeWalkResult → Verdict
file_verdict m r (Left i) = refuse file_not_in_map
file_verdict m r (Right j) = free (on_node_of m j r)
file_verdict m r (Both i j) = choose (on_node_of m j r)

abbrev pub file_verdicts : List TaggedRange → List WalkPiece → List Verdict
file_verdicts m ps = map (λ p. file_verdict m p.range p.result) ps

-- part 1: the file walk
unfoldable pub file_walk : MemoryRange → List TaggedRange → Judged
file_walk file m = judged 0 0 (file_verdicts m (walk (file ∷ []) (ranges_in m)))
