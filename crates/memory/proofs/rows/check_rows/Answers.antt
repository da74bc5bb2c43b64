-- Each way out is a law of the rows, from what the checks before it found.
use mathlib.Core.Path.{sym, ◌∙◌}
use native.Mathlib.Omega.{arith}
use Rattle.memory_range.specs.List.{ranges_in}
use Rattle.range_lists.specs.Laws.Entries.{length-ranges_in}
use Rattle.memory.specs.Laws.Reserved.{options_few}
use Rattle.memory.specs.Laws.Rows.{rows_invalid, rows_descend, rows-ram, rows-table, rows-reserved, rows_good}
use Rattle.memory.proofs.rows.check_rows.Goals as goal

pub returns-then-not-all_valid : goal.returns-then-not-all_valid
returns-then-not-all_valid c =
    let a = c.args in
    rw (rows_invalid a.builder a.entries (ranges_in a.ram.now) a.configs.now a.pools.now (sym c.all_valid.ensures ∙ c.if-not-all_valid.true))

pub returns-then-not-ranges_ascend : goal.returns-then-not-ranges_ascend
returns-then-not-ranges_ascend c =
    let a = c.args in
    rw (rows_descend a.builder a.entries (ranges_in a.ram.now) a.configs.now a.pools.now
    (sym c.all_valid.ensures ∙ c.if-not-all_valid.false) (sym c.ranges_ascend.ensures ∙ c.if-not-ranges_ascend.true))

pub returns-then-ram-gt-MAX_VTL2_RAM_RANGES : goal.returns-then-ram-gt-MAX_VTL2_RAM_RANGES
returns-then-ram-gt-MAX_VTL2_RAM_RANGES c =
    let a = c.args in
    rw (rows-ram a.builder a.entries (ranges_in a.ram.now) a.configs.now a.pools.now
    (sym c.all_valid.ensures ∙ c.if-not-all_valid.false) (sym c.ranges_ascend.ensures ∙ c.if-not-ranges_ascend.false)
    (omega (arith, length-ranges_in a.ram.now)))

pub returns-then-entries-ne0 : goal.returns-then-entries-ne0
returns-then-entries-ne0 c =
    let a = c.args in
    rw (rows-table a.builder a.entries (ranges_in a.ram.now) a.configs.now a.pools.now
    (sym c.all_valid.ensures ∙ c.if-not-all_valid.false) (sym c.ranges_ascend.ensures ∙ c.if-not-ranges_ascend.false)
    (omega (arith, length-ranges_in a.ram.now)) c.if-entries-ne0.true)

pub returns-then-configs-others : goal.returns-then-configs-others
returns-then-configs-others c =
    let a = c.args in
    rw (rows-reserved a.builder a.entries (ranges_in a.ram.now) a.configs.now a.pools.now
    (sym c.all_valid.ensures ∙ c.if-not-all_valid.false) (sym c.ranges_ascend.ensures ∙ c.if-not-ranges_ascend.false)
    (omega (arith, length-ranges_in a.ram.now)) c.if-entries-ne0.false
    (omega (arith, options_few a.builder)))

pub returns : goal.returns
returns c =
    let a = c.args in
    rw (rows_good a.builder a.entries (ranges_in a.ram.now) a.configs.now a.pools.now
    (sym c.all_valid.ensures ∙ c.if-not-all_valid.false) (sym c.ranges_ascend.ensures ∙ c.if-not-ranges_ascend.false)
    (omega (arith, length-ranges_in a.ram.now)) c.if-entries-ne0.false
    (omega (arith, options_few a.builder)))
