-- A count of passed boundaries is raised only where one is left, so it stays below twice the number of items, of which
-- a slice has fewer than 2^63.
use Rattle.std.proofs.Common.{◌<◌, ◌^◌, arith, sym, ◌∙◌, length}
use Rattle.range_lists.proofs.walk.Laws.{room}
use Rattle.range_lists.proofs.walk.pass_next.Goals as goal

pub pass_right-requires : goal.pass_right-requires
pass_right-requires g c =
    let few : length c.args.right.now < 2 ^ 63 = grind (arith, g.met.R.HasRange.sized) in
    room g.R.HasRange.range_in c.args.right.now _ _ few (sym c.boundary_at-next_right.ensures ∙ c.in-Some-Some.is-1)

pub pass_left-requires : goal.pass_left-requires
pass_left-requires g c =
    let few : length c.args.left.now < 2 ^ 63 = grind (arith, g.met.L.HasRange.sized) in
    room g.L.HasRange.range_in c.args.left.now _ _ few (sym c.boundary_at-next_left.ensures ∙ c.in-Some-default.is-0)

pub pass_right-requires-in-None-Some : goal.pass_right-requires-in-None-Some
pass_right-requires-in-None-Some g c =
    let few : length c.args.right.now < 2 ^ 63 = grind (arith, g.met.R.HasRange.sized) in
    room g.R.HasRange.range_in c.args.right.now _ _ few (sym c.boundary_at-next_right.ensures ∙ c.in-None-Some.is-1)
