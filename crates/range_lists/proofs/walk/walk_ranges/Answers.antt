-- What is left of the walk at `at` is what was left at the cursor that was given. A turn passes one
-- boundary, so fewer are ahead; it yields the piece before that boundary, if there is one.
use Rattle.std.proofs.Common.{◌≡◌, sym, ◌∙◌, map, List, length, ◌++◌}
use Rattle.std.proofs.lemmas.List.{length-map}
use Rattle.std.specs.Prelude.{Option, Some}
use Rattle.memory_range.specs.declared.range.MemoryRange.{MemoryRange}
use Rattle.range_lists.specs.declared.walk.WalkCursor.{WalkCursor}
use Rattle.range_lists.specs.declared.walk.WalkPiece.{WalkPiece}
use Rattle.range_lists.specs.WalkStep.{passed_by, piece_to}
use Rattle.range_lists.specs.Walk.{walk_from}
use Rattle.range_lists.proofs.walk.Laws.{found_pieces, walk_end, walk_to}
use Rattle.range_lists.proofs.walk.walk_ranges.Goals as goal

turn : {X Y : Type 0} (f : X → MemoryRange) (h : Y → MemoryRange) (xs : List X) (ys : List Y) (c d : WalkCursor) {p : Option WalkPiece}
    → passed_by (map f xs) (map h ys) c ≡ Some d → piece_to (length xs) (length ys) c d.at ≡ p
    → walk_from (map f xs) (map h ys) c ≡ found_pieces p ++ walk_from (map f xs) (map h ys) d
turn f h xs ys c d {p} e q = walk_to (map f xs) (map h ys) c d p e (rw (length-map xs f, length-map ys h) q)

pub returns-in-Some-piece_to : goal.returns-in-Some-piece_to
returns-in-Some-piece_to g c =
    c.loop-next.invariant
    ∙ turn g.L.HasRange.range_in g.R.HasRange.range_in c.args.left.now c.args.right.now c.loop-next.at c.in-Some.next
    (sym c.pass_next.ensures ∙ c.in-Some.is) (sym c.piece_to.ensures ∙ c.in-Some-piece_to.is)

pub loop-next-preserved : goal.loop-next-preserved
loop-next-preserved g c =
    c.loop-next.invariant
    ∙ turn g.L.HasRange.range_in g.R.HasRange.range_in c.args.left.now c.args.right.now c.loop-next.at c.in-Some.next
    (sym c.pass_next.ensures ∙ c.in-Some.is) (sym c.piece_to.ensures ∙ c.in_default-piece_to.is)

pub returns : goal.returns
returns g c =
    c.loop-next.invariant
    ∙ walk_end (map g.L.HasRange.range_in c.args.left.now) (map g.R.HasRange.range_in c.args.right.now) c.loop-next.at
    (sym c.pass_next.ensures ∙ c.in_default.is)
