-- The loop's invariant: what the whole walk comes to is what the pieces left at `at` come to behind the free ones that are held. A turn takes
-- the walk's next piece, so fewer pieces are left.
use Rattle.std.proofs.Common.{◌≡◌, [], length}
use Rattle.memory_range.specs.List.{ranges_in}
use Rattle.range_lists.specs.Walk.{walk, walk_from}
use Rattle.boot_ram.specs.Import.{import_verdicts}
use Rattle.boot_ram.specs.Verdict.{judged}
use Rattle.boot_ram.specs.Laws.Verdict.{so_far}
use Rattle.boot_ram.proofs.import.walk_imports.Given as goal

abbrev pub invariant-loop-piece : goal.invariant-loop-piece
invariant-loop-piece l =
    let verdicts = import_verdicts l.isolation l.file l.imports l.found in
    judged 0 0 (verdicts (walk l.imports (ranges_in l.found))) ≡ so_far l.free.items [] (verdicts (walk_from l.imports (ranges_in l.found) l.at))

abbrev pub decreases-loop-piece : goal.decreases-loop-piece
decreases-loop-piece l = length (walk_from l.imports (ranges_in l.found) l.at)
