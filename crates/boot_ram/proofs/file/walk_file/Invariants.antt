-- The loop's invariant: what the whole walk comes to is what the pieces left at `at` come to behind those that are held. A turn takes the
-- walk's next piece, so fewer pieces are left.
use Rattle.std.proofs.Common.{◌≡◌, length}
use Rattle.memory_range.specs.List.{ranges_in}
use Rattle.range_lists.specs.Walk.{walk, walk_from}
use Rattle.host_map.specs.Map.{entries_in, map_ranges}
use Rattle.boot_ram.specs.File.{file_verdicts}
use Rattle.boot_ram.specs.Verdict.{judged}
use Rattle.boot_ram.specs.Laws.Verdict.{so_far}
use Rattle.boot_ram.proofs.file.walk_file.Given as goal

abbrev pub invariant-loop-piece : goal.invariant-loop-piece
invariant-loop-piece l =
    let m = entries_in l.map in
    judged 0 0 (file_verdicts m (walk l.file (ranges_in m))) ≡ so_far l.free.items l.chosen.items (file_verdicts m (walk_from l.file (ranges_in m) l.at))

abbrev pub decreases-loop-piece : goal.decreases-loop-piece
decreases-loop-piece l = length (walk_from l.file (map_ranges l.map) l.at)
