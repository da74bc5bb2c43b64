-- A turn of the loop that joins: the next range continues the one made so far, and is joined to it.
use Rattle.std.specs.Prelude.{◌≡◌, List, ◌∷◌}
use Rattle.memory_range.specs.declared.range.TaggedRange.{TaggedRange}
use Rattle.memory_range.specs.List.{tagged}
use Rattle.range_lists.specs.Merge.{merge_first, merge_adjacent}
use Rattle.range_lists.specs.Laws.Merge.{join_first}

pub joined : (x y : TaggedRange) (ys : List TaggedRange) → x.range.end ≡ y.range.start → x.tag ≡ y.tag
    → merge_first x (merge_adjacent (y ∷ ys)) ≡ merge_first (tagged x.range.start y.range.end x.tag) (merge_adjacent ys)
joined x y ys e t = rw (← e, ← t) (join_first x.range.start x.range.end y.range.end x.tag (merge_adjacent ys))
