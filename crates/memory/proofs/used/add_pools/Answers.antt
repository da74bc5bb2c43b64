-- The list holds the used pieces and the pool ranges behind them, sorted. It ascends where no pool range overlaps another or the
-- used range.
use mathlib.Core.Bool.{not}
use mathlib.Core.List.{◌∷◌, ◌++◌}
use mathlib.Core.Path.{◌≡◌, sym, ◌∙◌}
use native.Mathlib.Omega.{arith}
use borrow.Author.Tests.{not-true, not-false}
use lib.ListN.{length}
use Rattle.address_space.specs.declared.usage.ReservedMemoryType.TheVariants.{Vtl2GpaPool}
use Rattle.memory.specs.Builder.{all_as}
use Rattle.memory.specs.Used.{any_overlap}
use Rattle.memory.specs.Laws.Listed.{listed-not, listed_as}
use Rattle.memory.specs.Laws.Build.{sorted-in-place, pools-ascend, pools-overlap, pools_good}
use Rattle.memory.proofs.used.add_pools.Goals as goal

pub returns-then-not-ranges_ascend : goal.returns-then-not-ranges_ascend
returns-then-not-ranges_ascend c =
    let a = c.args in
    let pieces = a.list.now.items in
    let pools = a.pools.now in
    let found = sorted-in-place {xs = pieces ++ all_as Vtl2GpaPool pools} c.push_all.ensures c.as_mut_slice.ensures.value c.sort_by_start.ensures in
    let ascends : c.ranges_ascend.result ≡ not (any_overlap (a.used ∷ pools)) =
    c.ranges_ascend.ensures ∙ rw (c.as_slice.ensures.value, found) (pools-ascend a.used pieces pools c.requires.cut_up c.requires.pools_valid) in
    let overlaps = not-false _ (sym ascends ∙ c.if-not-ranges_ascend.true) in
    listed-not (rw (pools-overlap a.used (length pieces) pools overlaps))

pub returns : goal.returns
returns c =
    let a = c.args in
    let pieces = a.list.now.items in
    let pools = a.pools.now in
    let found = sorted-in-place {xs = pieces ++ all_as Vtl2GpaPool pools} c.push_all.ensures c.as_mut_slice.ensures.value c.sort_by_start.ensures in
    let ascends : c.ranges_ascend.result ≡ not (any_overlap (a.used ∷ pools)) =
    c.ranges_ascend.ensures ∙ rw (c.as_slice.ensures.value, found) (pools-ascend a.used pieces pools c.requires.cut_up c.requires.pools_valid) in
    let apart = not-true _ (sym ascends ∙ c.if-not-ranges_ascend.false) in
    listed_as (rw (pools_good a.used (length pieces) pools (omega arith) (omega arith) apart)) found
