-- `selection::check_long` meets its contract: the ranges of both lists are those of their rows.
use Rattle.std.proofs.Common.{◌≡◌, ◌*◌, ◌&&◌, false, leb, length}
use Rattle.std.proofs.lemmas.Bool.{lt-leb, le-leb}
use Rattle.plan_input.specs.Room.{map_room, import_room}
use Rattle.selection_calls.proofs.selection.Laws.{rows-ranges}
use Rattle.selection_calls.proofs.selection.check_long.Goals.{else-map-le-MAP_WORDS-via-then-map-le-MAP_WORDS+else-imports-le-IMPORT_WORDS, else-map-le-MAP_WORDS-via-else-map-le-MAP_WORDS}
use Rattle.selection_calls.proofs.selection.check_long.Goals as goal

pub returns : goal.returns
returns c =
    let a = c.args in
    let long : (leb (length a.map.now) (map_room * 4) && leb (length a.imports.now) (import_room * 2)) ≡ false =
    elim c.else-map-le-MAP_WORDS.branch [
      | else-map-le-MAP_WORDS-via-then-map-le-MAP_WORDS+else-imports-le-IMPORT_WORDS w ↦
          rw (le-leb _ _ w.if-map-le-MAP_WORDS.true, lt-leb _ _ w.if-imports-le-IMPORT_WORDS.false)
      | else-map-le-MAP_WORDS-via-else-map-le-MAP_WORDS w ↦ rw (lt-leb _ _ w.if-map-le-MAP_WORDS.false)
    ] in
    rw (long, ← rows-ranges, ← c.check_ranges.ensures, ← c.check_ranges-2.ensures) c.check_rows.ensures
