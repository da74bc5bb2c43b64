-- The lists are written one behind the other, and each leaves the room for those behind it.
use Rattle.std.proofs.Common.{ℕ, ◌+◌, List, length, take, length-append, arith}
use Rattle.memory_range.specs.declared.range.TaggedRange.{TaggedRange}
use Rattle.address_space.specs.declared.request.AllocatedRange.{AllocatedRange}
use Rattle.address_space.specs.declared.table.AddressRange.{AddressRange}
use Rattle.address_space.specs.Table.{entries_of}
use Rattle.plan_record.specs.declared.record.Get.{Get}
use Rattle.plan_input.specs.Record.{records_at}
use Rattle.plan_input.specs.Input.{gets_first}
use Rattle.plan.specs.Line.{Room}
use Rattle.plan.specs.Write.{ram_lines, pool_lines, map_lines}
use Rattle.plan.specs.Get.{get_lines, after_gets}
use Rattle.plan.specs.Planner.{plan_lines}
use Rattle.plan.specs.Laws.Write.{wrote_append, wrote_room}
use Rattle.plan.specs.Laws.Planner.{plan-count}
use Rattle.plan.proofs.planner.write_plan.Goals as goal

-- how many lines stand behind those of the pool, and behind those of the RAM
abbrev after_pool : List Get → List AddressRange → ℕ
after_pool gets table = length (get_lines gets table) + length (map_lines (after_gets gets table))

abbrev after_ram : List AllocatedRange → List Get → List AddressRange → ℕ
after_ram pieces gets table = length (pool_lines pieces) + after_pool gets table

-- the room for all lists
room : (ram : List TaggedRange) (pieces : List AllocatedRange) (gets : List Get) (table : List AddressRange) (output : List ℕ)
    → Room (length (plan_lines ram pieces gets table)) 0 output → Room (length (ram_lines ram) + after_ram pieces gets table) 0 output
room ram pieces gets table output r = rw plan-count at r

pub write_ram_lines-pool_at-requires : goal.write_ram_lines-pool_at-requires
write_ram_lines-pool_at-requires c =
    let a = c.args in
    let all = room a.ram.now (take a.pool_count a.pool.ranges) (gets_first (records_at a.text.now a.gets)) (entries_of a.pool.manager) a.output.now c.requires.room in
    omega (arith, all)

pub write_pool_lines-gets_at-requires : goal.write_pool_lines-gets_at-requires
write_pool_lines-gets_at-requires c =
    let a = c.args in
    let all = room a.ram.now (take a.pool_count a.pool.ranges) (gets_first (records_at a.text.now a.gets)) (entries_of a.pool.manager) a.output.now c.requires.room in
    omega (arith, wrote_room _ c.write_ram_lines-pool_at.ensures all)

pub answer_gets-map_at-requires : goal.answer_gets-map_at-requires
answer_gets-map_at-requires c =
    let a = c.args in
    let all = room a.ram.now (take a.pool_count a.pool.ranges) (gets_first (records_at a.text.now a.gets)) (entries_of a.pool.manager) a.output.now c.requires.room in
    let behind = wrote_room _ c.write_pool_lines-gets_at.ensures (wrote_room _ c.write_ram_lines-pool_at.ensures all) in
    omega (arith, behind)

pub write_map_lines-requires : goal.write_map_lines-requires
write_map_lines-requires c =
    let a = c.args in
    let all = room a.ram.now (take a.pool_count a.pool.ranges) (gets_first (records_at a.text.now a.gets)) (entries_of a.pool.manager) a.output.now c.requires.room in
    let behind = wrote_room _ c.write_pool_lines-gets_at.ensures (wrote_room _ c.write_ram_lines-pool_at.ensures all) in
    rw c.answer_gets-map_at.ensures.1 (wrote_room _ c.answer_gets-map_at.ensures.0 behind)

pub returns : goal.returns
unfolding plan_lines
returns c =
    let a = c.args in
    let all = room a.ram.now (take a.pool_count a.pool.ranges) (gets_first (records_at a.text.now a.gets)) (entries_of a.pool.manager) a.output.now c.requires.room in
    let behind-ram = wrote_room _ c.write_ram_lines-pool_at.ensures all in
    let behind-pool = wrote_room _ c.write_pool_lines-gets_at.ensures behind-ram in
    let table = rw c.answer_gets-map_at.ensures.1 at c.write_map_lines.ensures in
    wrote_append c.write_ram_lines-pool_at.ensures
    (wrote_append c.write_pool_lines-gets_at.ensures (wrote_append c.answer_gets-map_at.ensures.0 table behind-pool) (simp length-append behind-ram))
    (simp length-append all)
