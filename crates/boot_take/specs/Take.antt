-- The taking of free memory, node by node, from the top (docs/SPEC.md, section 19).
use Rattle.std.specs.Prelude.{ℕ, ◌-◌, max, cond, List, [], ◌∷◌, ◌++◌, reverse, eqb, length}
use Rattle.memory_range.specs.declared.range.MemoryRange.{MemoryRange}
use Rattle.memory_range.specs.declared.range.TaggedRange.{TaggedRange}
use Rattle.memory_range.specs.Range.{range, length_of}
use Rattle.memory_range.specs.Round.{round_down}
use Rattle.boot_nodes.specs.Share.{share_step}
use Rattle.boot_ram.specs.Held.{on_node, bytes_of}
use Rattle.boot_ram.specs.Verdict.{Verdict, choose, refuse, Judged, judged}
use Rattle.refusal.specs.Number.{node_too_small}

-- where the piece starts that a need takes from the top of an entry: as far below the entry's end as is needed, then
-- down to a multiple of 32,768; where that lies below the entry, the whole entry is taken
abbrev pub taken_start : ℕ → MemoryRange → ℕ
taken_start need r = max r.start (round_down share_step (r.end - need))

-- the piece ends where the entry does
abbrev pub taken_of : ℕ → MemoryRange → MemoryRange
taken_of need r = range (taken_start need r) r.end

-- what a node needs beside the file's pieces on it
abbrev pub need_on : ℕ → List TaggedRange → ℕ → ℕ
need_on share pieces n = share - bytes_of (on_node n pieces)

-- a need is met from entries, the first one first; where they are used up before it is met, the node is too small
abbrev pub take_from : ℕ → ℕ → List TaggedRange → List Verdict
take_from n need [] = cond (eqb need 0) [] (refuse node_too_small ∷ [])
take_from n need (e ∷ es) =
    let r = taken_of need e.range in
    cond (eqb need 0) [] (choose (record { range = r; tag = n }) ∷ take_from n (need - length_of r) es)

-- what a node takes of the free entries: its own, from the top
abbrev pub take_on : ℕ → ℕ → List TaggedRange → List Verdict
take_on n need free = take_from n need (on_node n (reverse free))

-- every node in turn
abbrev pub take_all_of : ℕ → List TaggedRange → List TaggedRange → List ℕ → List Verdict
take_all_of share pieces free [] = []
take_all_of share pieces free (n ∷ ns) = take_on n (need_on share pieces n) free ++ take_all_of share pieces free ns

-- part 4: the taking, by the share, the file's pieces, the free entries and the nodes
unfoldable pub taking : ℕ → List TaggedRange → List TaggedRange → List ℕ → Judged
taking share pieces free nodes = judged 0 (length pieces) (take_all_of share pieces free nodes)
