-- A turn takes the walk's next piece.
use Prim.Native.Nat.{◌<◌}
use mathlib.Core.Bool.{false}
use mathlib.Core.List.{[], ◌∷◌}
use mathlib.Core.Path.{◌≡◌, refl, ◌∙◌}
use native.Mathlib.Omega.{arith}
use borrow.Author.Rules.{rules}
use lib.ListN.{length}
use Rattle.memory_range.specs.List.{ranges_in}
use Rattle.range_lists.specs.Laws.Entries.{length-ranges_in, entries_items}
use Rattle.memory.specs.Build.{table_entry, table_of}
use Rattle.memory.specs.Used.{is_right}
use Rattle.memory.specs.Laws.Walked.{tag-at, filled_below, filled_next, filled_refused, filled_done}
use Rattle.memory.proofs.fill.fill_table.Goals.{in-Left, in-Both}
use Rattle.memory.proofs.fill.fill_table.Goals as goal

pub loop-piece-init : goal.loop-piece-init
unfolding table_of
loop-piece-init c =
    let n : length c.args.manager.address_space ≡ 256 = search rules in
    rw c.start-at.ensures record { room = n; within = omega arith; outside = refl; entries = refl; behind = refl; flag = refl }

pub returns-in-Right : goal.returns-in-Right
returns-in-Right c = c.refused.ensures ∙ filled_refused (rw c.in-Some.ensures at c.loop-piece.invariant) c.args.pool (rw c.in-Right.is)

pub offset_bounds-used-used_item : goal.offset_bounds-used-used_item
offset_bounds-used-used_item c =
    let a = c.args in
    let item = (rw c.in-Both.is at (entries_items (ranges_in a.ram.now) a.used.now c.loop-piece.at c.in-Some.ensures)).1 in
    omega (arith, c.well_formed)

pub bounds-used-used_item : goal.bounds-used-used_item
bounds-used-used_item c =
    let a = c.args in
    (rw c.in-Both.is at (entries_items (ranges_in a.ram.now) a.used.now c.loop-piece.at c.in-Some.ensures)).1

-- the item of the RAM that a piece names exists
ram_item : (c : goal.After-built_entry-arg-1-unread) → c.match-piece.item.0 < length c.args.ram.now
ram_item c =
    let a = c.args in
    let items = rw (length-ranges_in a.ram.now) at (entries_items (ranges_in a.ram.now) a.used.now c.loop-piece.at c.in-Some.ensures) in
    elim c.match-piece.branch [
      | in-Left w ↦ rw w.item-is (rw w.in-Left.is at items).0
      | in-Both w ↦ rw w.item-is (rw w.in-Both.is at items).0
    ]

pub offset_bounds-ram-item : goal.offset_bounds-ram-item
offset_bounds-ram-item c = omega (arith, c.well_formed, ram_item c)

pub bounds-ram-item : goal.bounds-ram-item
bounds-ram-item c = ram_item c

-- the entry that is built is that of the piece
built : (c : goal.After-built_entry)
    → table_entry c.args.ram.now c.args.used.now c.in-Some.piece.range c.in-Some.piece.result ≡ c.built_entry.result ∷ []
built c =
    elim c.match-piece.branch [
      | in-Left w ↦ rw (w.in-Left.is, c.built_entry.ensures, w.item-is, tag-at c.args.ram.now w.in-Left.item)
      | in-Both w ↦ rw (w.in-Both.is, c.built_entry.ensures, w.item-is, w.usage_of.ensures, tag-at c.args.ram.now w.in-Both.item, tag-at c.args.used.now w.in-Both.used_item)
    ]

pub bounds-table-count : goal.bounds-table-count
bounds-table-count c = filled_below (rw c.in-Some.ensures at c.loop-piece.invariant) c.requires.ram_fits c.requires.used_fits (built c)

pub loop-piece-preserved : goal.loop-piece-preserved
loop-piece-preserved c =
    let held : is_right c.in-Some.piece.result ≡ false = elim c.match-piece.branch [ in-Left w ↦ rw w.in-Left.is | in-Both w ↦ rw w.in-Both.is ] in
    filled_next (rw c.in-Some.ensures at c.loop-piece.invariant) c.requires.ram_fits c.requires.used_fits (built c) held

pub returns : goal.returns
returns c = c.finished.ensures ∙ filled_done c.args.pool (rw c.in_default.ensures at c.loop-piece.invariant)
