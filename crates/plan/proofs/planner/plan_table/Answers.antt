-- What the pool's placement comes to is what the plan comes to; where it is placed, the lines have room in the output.
use Rattle.std.proofs.Common.{ℕ, ◌≡◌, List, take, ap, ◌∙◌}
use Rattle.std.proofs.lemmas.Result.{err_from_is_err_and}
use Rattle.memory_range.specs.declared.range.TaggedRange.{TaggedRange}
use Rattle.address_space.specs.Table.{entries_of}
use Rattle.plan_record.specs.declared.record.Get.{Get}
use Rattle.private_pool.specs.Pool.{Placement}
use Rattle.private_pool.specs.declared.pool.PrivatePool.{PrivatePool}
use Rattle.plan.specs.Pool.{pages_wanted}
use Rattle.plan.specs.Planner.{plan_of, plan_lines, lines, after_pool}
use Rattle.plan.specs.Laws.Planner.{answers_refused, answers-lines, plan_room}
use Rattle.plan.specs.Laws.Pool.{PoolHeld, answer_refused, answer-placed}
use Rattle.plan.proofs.planner.plan_table.Goals as goal

-- the lines of a plan whose pool is placed, as the pool's answer holds it
planned : (text : List ℕ) (ram : List TaggedRange) (gets : List Get) {p : Placement} {pool : PrivatePool} {k : ℕ}
    → plan_of text ≡ after_pool ram gets p → PoolHeld p pool k
    → plan_of text ≡ lines (plan_lines ram (take k pool.ranges) gets (entries_of pool.manager))
planned text ram gets e held = rw (held.stored, held.table) (e ∙ ap (after_pool ram gets) held.placement)

pub write_plan-requires-clause-room : goal.write_plan-requires-clause-room
write_plan-requires-clause-room c =
    let a = c.args in
    let held = answer-placed a.table (pages_wanted a.isolation a.pool.pool a.ram.now.bytes) a.pool.pool.split c.place_pool-placed.ensures c.in_ok-count.was in
    let p = planned a.text.now _ _ (rw (← c.requires.total) at c.requires.plan) held in
    rw c.as_slice-entries.ensures (plan_room a.text.now _ a.output.now c.requires.suffices p)

pub returns-in_err-count : goal.returns-in_err-count
returns-in_err-count c =
    let a = c.args in
    let p = err_from_is_err_and c.from_residual.result c.from_residual.ensures.1 in
    let e = answer_refused a.table (pages_wanted a.isolation a.pool.pool a.ram.now.bytes) a.pool.pool.split c.place_pool-placed.ensures c.in_err-count.was in
    rw (p.1, p.2) (answers_refused ((rw (← c.requires.total) at c.requires.plan) ∙ ap (after_pool _ _) e))

pub returns : goal.returns
returns c =
    let a = c.args in
    let held = answer-placed a.table (pages_wanted a.isolation a.pool.pool a.ram.now.bytes) a.pool.pool.split c.place_pool-placed.ensures c.in_ok-count.was in
    answers-lines (planned a.text.now _ _ (rw (← c.requires.total) at c.requires.plan) held) (rw c.as_slice-entries.ensures at c.write_plan.ensures)
