-- The entries above are copied up by as many places as the split adds, and its parts stored in front of them.
use mathlib.Core.Bool.{◌||◌}
use mathlib.Core.Path.{◌≡◌, ◌∙◌}
use Prim.Native.Nat.{◌+◌}
use native.Mathlib.Omega.{arith}
use lib.ListN.{length}
use Rattle.address_space.specs.Laws.Split.{copied-up, placed_within}
use Rattle.address_space.proofs.request.allocate_range.Goals as goal

pub returns : goal.returns
returns c =
    let a = c.args in
    let m = a.manager.now in
    let p = c.split_parts-parts in
    let n : length m.address_space ≡ 256 = omega arith in
    placed_within
    m
    a.at
    a.len
    a.allocation_type
    a.allocation_policy
    a.alignment
    c.allotted_part-used.result
    p.result
    c.len-count.result
    c.requires
    c.len-count.ensures
    (rw c.aligned_to.ensures at c.allotted_part-used.ensures)
    (rw c.usage_for.ensures at p.ensures)
    c.copy_within.new.self
    (m.vtl2_pool || c.is_pool.result)
    c.if-count-parts-gt-MAX_ADDRESS_RANGES.false
    n
    (c.copy_within.ensures.after ∙ copied-up (a.at + 1) c.len-count.result p.result.added m.address_space (omega (arith, c.requires, c.len-count.ensures)))
    (rw c.is_pool.ensures)
