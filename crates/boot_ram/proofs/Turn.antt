-- A turn of a walk: it takes the next piece, whose items exist. And the node of an item.
use Rattle.std.proofs.Common.{ℕ, zero, suc, ◌<◌, ◌≡◌, refl, ap, List, [], ◌∷◌, map, length, get_or, arith, Option, Some}
use Rattle.memory_range.specs.declared.range.MemoryRange.{MemoryRange}
use Rattle.memory_range.specs.declared.range.TaggedRange.{TaggedRange}
use Rattle.memory_range.specs.List.{tags_of}
use Rattle.range_lists.specs.declared.walk.RangeWalkResult.{RangeWalkResult}
use Rattle.range_lists.specs.declared.walk.WalkCursor.{WalkCursor}
use Rattle.range_lists.specs.declared.walk.WalkPiece.{WalkPiece}
use Rattle.range_lists.specs.Laws.Entries.{next-piece}
use Rattle.range_lists.specs.Laws.Walk.{InLists, walk_items}
use Rattle.range_lists.specs.Walk.{walk_from, walk_stepped}
use Rattle.host_params.specs.declared.MemoryEntry.{MemoryEntry}
use Rattle.host_map.specs.Map.{entries_in, map_ranges}

-- what the code knows of a turn: the piece that it yields and which items hold it
pub record Turn (ls rs : List MemoryRange) (at : WalkCursor) (p : WalkPiece) (next : WalkCursor) (x : RangeWalkResult) : Type 0 where
  pub left : walk_from ls rs at ≡ record { range = p.range; result = x } ∷ walk_from ls rs next
  pub items : InLists (length ls) (length rs) (record { range = p.range; result = x })

pub turn : (ls rs : List MemoryRange) (at : WalkCursor) {step : Option (WalkPiece × WalkCursor)} {p : WalkPiece} {next : WalkCursor} {x : RangeWalkResult}
    → walk_from ls rs at ≡ walk_stepped ls rs step → step ≡ Some (p, next) → p.result ≡ x → Turn ls rs at p next x
turn ls rs at h s r =
    let e = next-piece ls rs at h s r in
    record { left = e; items = (rw e at (walk_items ls rs at)).0 }

-- the ranges of a map's entries
pub entry_ranges : (m : List MemoryEntry) → map (λ e. e.range) m ≡ map_ranges m
entry_ranges [] = refl
entry_ranges (e ∷ es) = ap (e.range ∷◌) (entry_ranges es)

-- the node of an entry of a map, and of a tagged range
pub entry_node : (m : List MemoryEntry) (j : ℕ) (d : MemoryEntry) → j < length m → get_or (tags_of (entries_in m)) j 0 ≡ (get_or m j d).vnode
entry_node [] j d h = absurd (omega arith)
entry_node (e ∷ es) zero d h = refl
entry_node (e ∷ es) (suc j) d h = entry_node es j d (omega arith)

pub range_tag : (m : List TaggedRange) (j : ℕ) (d : TaggedRange) → j < length m → get_or (tags_of m) j 0 ≡ (get_or m j d).tag
range_tag [] j d h = absurd (omega arith)
range_tag (e ∷ es) zero d h = refl
range_tag (e ∷ es) (suc j) d h = range_tag es j d (omega arith)
