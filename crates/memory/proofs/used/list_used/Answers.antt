-- The reserved ranges are listed and sorted; where they ascend, the pieces of the used range are put, and the pool ranges behind
-- them.
use mathlib.Core.Bool.{Bool, true, not}
use mathlib.Core.List.{List}
use mathlib.Core.Path.{◌≡◌, sym, ◌∙◌}
use borrow.Author.Tests.{not-true, not-false}
use Rattle.std.proofs.lemmas.Result.{err_from_is_err_and}
use Rattle.refusal.specs.Laws.Answer.{rows_refused, rows_none}
use Rattle.memory_range.specs.declared.range.MemoryRange.{MemoryRange}
use Rattle.memory_range.specs.declared.range.TaggedRange.{TaggedRange}
use Rattle.memory_range.specs.List.{ranges_in}
use Rattle.memory_range.specs.Valid.{all_valid_of, ascend}
use Rattle.range_lists.specs.Sort.{sort_by_start}
use Rattle.memory.specs.declared.builder.AddressSpaceManagerBuilder.{AddressSpaceManagerBuilder}
use Rattle.memory.specs.Builder.{singles_valid, reserved_of}
use Rattle.memory.specs.Laws.Listed.{listed-not}
use Rattle.memory.specs.Laws.Build.{sorted-in-place, overlap, reserved-ascend, used-cut_up, used-overlap, used-outside, used-listed}
use Rattle.memory.proofs.used.list_used.Goals as goal

-- the sorted ranges ascend exactly where no two overlap
tested : (b : AddressSpaceManagerBuilder) (configs : List MemoryRange) {list : List TaggedRange} {r : Bool} → singles_valid b ≡ true → all_valid_of configs ≡ true
    → list ≡ sort_by_start (reserved_of b configs) → r ≡ ascend (ranges_in list) → r ≡ not (overlap b configs)
tested b configs v w sorted e = e ∙ rw sorted (reserved-ascend b configs v w)

pub returns-then-not-ranges_ascend : goal.returns-then-not-ranges_ascend
returns-then-not-ranges_ascend c =
    let b = c.args.builder in
    let configs = c.args.configs.now in
    let h = c.requires in
    let sorted = c.as_slice-sorted.ensures.value ∙ sorted-in-place {xs = reserved_of b configs} c.list_reserved.ensures c.as_mut_slice.ensures.value c.sort_by_start.ensures in
    let overlaps = not-false _ (sym (tested b configs h.singles_valid h.configs_valid sorted c.ranges_ascend.ensures) ∙ c.if-not-ranges_ascend.true) in
    listed-not (used-overlap b configs c.args.pools.now overlaps)

pub returns-in_err-walk_used : goal.returns-in_err-walk_used
returns-in_err-walk_used c =
    let b = c.args.builder in
    let configs = c.args.configs.now in
    let h = c.requires in
    let sorted = c.as_slice-sorted.ensures.value ∙ sorted-in-place {xs = reserved_of b configs} c.list_reserved.ensures c.as_mut_slice.ensures.value c.sort_by_start.ensures in
    let apart = not-true _ (sym (tested b configs h.singles_valid h.configs_valid sorted c.ranges_ascend.ensures) ∙ c.if-not-ranges_ascend.false) in
    let outside = rows_refused _ (sym (rw sorted at c.in_err-walk_used.ensures.answered)) in
    let p = err_from_is_err_and c.from_residual.result c.from_residual.ensures.1 in
    rw (p.1, p.2) (listed-not (used-outside b configs c.args.pools.now apart outside))

pub add_pools-requires-clause-cut_up : goal.add_pools-requires-clause-cut_up
add_pools-requires-clause-cut_up c =
    let b = c.args.builder in
    let configs = c.args.configs.now in
    let h = c.requires in
    let sorted = c.as_slice-sorted.ensures.value ∙ sorted-in-place {xs = reserved_of b configs} c.list_reserved.ensures c.as_mut_slice.ensures.value c.sort_by_start.ensures in
    let apart = not-true _ (sym (tested b configs h.singles_valid h.configs_valid sorted c.ranges_ascend.ensures) ∙ c.if-not-ranges_ascend.false) in
    let walked = rw sorted at c.in_ok-walk_used.ensures in
    rw (walked.found (rows_none _ (sym walked.answered))) (used-cut_up b configs h.singles_valid h.configs_valid apart)

pub returns : goal.returns
returns c =
    let b = c.args.builder in
    let configs = c.args.configs.now in
    let h = c.requires in
    let sorted = c.as_slice-sorted.ensures.value ∙ sorted-in-place {xs = reserved_of b configs} c.list_reserved.ensures c.as_mut_slice.ensures.value c.sort_by_start.ensures in
    let apart = not-true _ (sym (tested b configs h.singles_valid h.configs_valid sorted c.ranges_ascend.ensures) ∙ c.if-not-ranges_ascend.false) in
    let walked = rw sorted at c.in_ok-walk_used.ensures in
    let passed = rows_none _ (sym walked.answered) in
    used-listed b configs c.args.pools.now apart passed (walked.found passed) c.add_pools.ensures
