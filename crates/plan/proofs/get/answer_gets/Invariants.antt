-- `get::answer_gets` meets its contract. The loop's invariant: the lines of the requests from `place` on, answered on the table as it is
-- now, are left to write, and what these requests leave is what all leave. The measure is how many requests these are.
use Rattle.std.proofs.Common.{ℕ, ◌≡◌, List, length}
use Rattle.address_space.specs.Table.{entries_of}
use Rattle.plan_record.specs.declared.record.Get.{Get}
use Rattle.plan_input.specs.Input.{gets_first}
use Rattle.plan_input.specs.Record.{records_at}
use Rattle.plan.specs.Get.{get_lines, after_gets}
use Rattle.plan.specs.Laws.Write.{Writing}
use Rattle.plan.proofs.get.answer_gets.Given as goal

abbrev pub gets_from : List ℕ → ℕ → List Get
gets_from text at = gets_first (records_at text at)

abbrev pub invariant-loop-get : goal.invariant-loop-get
invariant-loop-get l =
    let all = gets_from l.text l.from in
    let left = gets_from l.text l.place in
    Writing (get_lines all (entries_of l.initial.manager)) (get_lines left (entries_of l.manager)) l.at l.initial.output l.next l.output
    × (after_gets all (entries_of l.initial.manager) ≡ after_gets left (entries_of l.manager))

abbrev pub decreases-loop-get : goal.decreases-loop-get
decreases-loop-get l = length (gets_from l.text l.place)
