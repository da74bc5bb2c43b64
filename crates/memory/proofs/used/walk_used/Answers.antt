-- A turn takes the walk's next piece.
use mathlib.Core.Bool.{false}
use mathlib.Core.List.{[], ◌∷◌}
use mathlib.Core.Path.{◌≡◌}
use native.Mathlib.Omega.{arith}
use Rattle.range_lists.specs.Laws.Entries.{entries_items}
use Rattle.memory.specs.Used.{is_right}
use Rattle.memory.specs.Laws.Walked.{used_below}
use Rattle.memory.proofs.used.walk_used.Goals.{in-Left, in-Both}
use Rattle.memory.proofs.used.walk_used.Goals as goal

pub offset_bounds-reserved-item : goal.offset_bounds-reserved-item
offset_bounds-reserved-item c =
    let a = c.args in
    let item = (rw c.in-Both.is at (entries_items (a.used ∷ []) a.reserved.now c.loop-piece.at c.in-Some.ensures)).1 in
    omega (arith, c.well_formed)

pub bounds-reserved-item : goal.bounds-reserved-item
bounds-reserved-item c =
    let a = c.args in
    (rw c.in-Both.is at (entries_items (a.used ∷ []) a.reserved.now c.loop-piece.at c.in-Some.ensures)).1

pub push-requires : goal.push-requires
push-requires c =
    let held : is_right c.in-Some.piece.result ≡ false = elim c.match-piece.branch [ in-Left w ↦ rw w.in-Left.is | in-Both w ↦ rw w.in-Both.is ] in
    (omega arith, used_below (rw c.in-Some.ensures at c.loop-piece.invariant) held c.requires)
