-- Laws of the entries of a map that is lent as slices, and of a walk over their ranges.
use Rattle.std.specs.Prelude.{ℕ, zero, suc, ◌<◌, ◌≡◌, refl, List, [], ◌∷◌, length, take, get_or, Option, Some}
use Rattle.std.proofs.Common.{ap, ◌∙◌, arith}
use Rattle.std.proofs.lemmas.List.{length-map}
use Rattle.memory_range.specs.declared.range.MemoryRange.{MemoryRange}
use Rattle.memory_range.specs.declared.range.TaggedRange.{TaggedRange}
use Rattle.range_lists.specs.declared.walk.RangeWalkResult.{RangeWalkResult}
use Rattle.range_lists.specs.declared.walk.WalkCursor.{WalkCursor}
use Rattle.range_lists.specs.declared.walk.WalkPiece.{WalkPiece}
use Rattle.memory_range.specs.Bytes.{All}
use Rattle.memory_range.specs.List.{ranges_in, ranges_of, tagged_of, tags_of}
use Rattle.memory_range.specs.Range.{range}
use Rattle.range_lists.specs.Walk.{walk_from, walk_stepped}
use Rattle.range_lists.specs.Laws.Walk.{InLists, walk_items}

pub length-ranges_in : (m : List TaggedRange) → length (ranges_in m) ≡ length m
length-ranges_in xs = length-map xs _

-- as many starts and ends as there are entries are the entries' ranges
pub ranges-tagged : (ss es ts : List ℕ) → let n = length (tagged_of ss es ts) in ranges_of (take n ss) (take n es) ≡ ranges_in (tagged_of ss es ts)
ranges-tagged [] es ts = refl
ranges-tagged (s ∷ ss) [] ts = refl
ranges-tagged (s ∷ ss) (e ∷ es) [] = refl
ranges-tagged (s ∷ ss) (e ∷ es) (t ∷ ts) = ap (λ (l : List MemoryRange). range s e ∷ l) (ranges-tagged ss es ts)

-- the node of an entry is that of its index
pub tag-tagged : (ss es ts : List ℕ) (j : ℕ) → j < length (tagged_of ss es ts) → get_or (tags_of (tagged_of ss es ts)) j 0 ≡ get_or ts j 0
tag-tagged [] es ts j h = absurd (omega arith)
tag-tagged (s ∷ ss) [] ts j h = absurd (omega arith)
tag-tagged (s ∷ ss) (e ∷ es) [] j h = absurd (omega arith)
tag-tagged (s ∷ ss) (e ∷ es) (t ∷ ts) zero h = refl
tag-tagged (s ∷ ss) (e ∷ es) (t ∷ ts) (suc j) h = tag-tagged ss es ts j (omega arith)

-- a step of a walk with as many starts and ends as there are entries is one of the walk with the entries
pub entries_step : (ls : List MemoryRange) (ss es ts : List ℕ) (at : WalkCursor) (step : (Option (WalkPiece × WalkCursor))) {n : ℕ} → n ≡ length (tagged_of ss es ts)
    → let rs = ranges_of (take n ss) (take n es) in walk_from ls rs at ≡ walk_stepped ls rs step
    → let rs = ranges_in (tagged_of ss es ts) in walk_from ls rs at ≡ walk_stepped ls rs step
entries_step ls ss es ts at step e h = rw (e, ranges-tagged ss es ts) at h

-- the next piece of a walk, with the items that hold it
pub next-piece : (ls rs : List MemoryRange) (at : WalkCursor) {next : WalkCursor} {step : (Option (WalkPiece × WalkCursor))} {p : WalkPiece} {x : RangeWalkResult}
    → walk_from ls rs at ≡ walk_stepped ls rs step → step ≡ Some (p, next) → p.result ≡ x
    → walk_from ls rs at ≡ record { range = p.range; result = x } ∷ walk_from ls rs next
next-piece ls rs at {next} {p = p} h s r =
    h ∙ ap (walk_stepped ls rs) s ∙ ap (λ (y : RangeWalkResult). record { range = p.range; result = y } ∷ walk_from ls rs next) r

-- the items that the next piece names exist
pub entries_items : (ls : List MemoryRange) (m : List TaggedRange) (at : WalkCursor) {p : WalkPiece} {ps : List WalkPiece}
    → walk_from ls (ranges_in m) at ≡ p ∷ ps → InLists (length ls) (length m) p
entries_items ls m at {p} {ps} h =
    let items : All (InLists (length ls) (length (ranges_in m))) (p ∷ ps) = rw h at (walk_items ls (ranges_in m) at) in
    rw (length-ranges_in m) at items.0
