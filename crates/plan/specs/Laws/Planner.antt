-- Laws of the plan's lines: how many there are, list by list; and of the answer.
use Rattle.std.specs.Prelude.{ℕ, ◌+◌, ◌≤◌, ◌≡◌, List, length, take, Ok, Err}
use Rattle.std.proofs.Common.{◌∙◌, arith, length-append, length-take-le}
use Rattle.refusal.specs.declared.Refusal.{Refusal}
use Rattle.memory_range.specs.declared.range.TaggedRange.{TaggedRange}
use Rattle.address_space.specs.declared.request.AllocatedRange.{AllocatedRange}
use Rattle.address_space.specs.declared.table.AddressRange.{AddressRange}
use Rattle.plan_record.specs.declared.record.Get.{Get}
use Rattle.plan.specs.Write.{ram_lines, pool_lines, map_lines}
use Rattle.plan.specs.Get.{get_lines, after_gets}
use Rattle.plan_output.specs.Laws.Line.{put-start}
use Rattle.plan.specs.declared.line.OutputLine.{OutputLine}
use Rattle.plan.specs.Line.{lines_bytes, Room, Wrote}
use Rattle.plan.specs.Planner.{Plan, refused, lines, plan_lines, plan_of, planned_as, output_as, Answers, output_size_for}
use Rattle.plan.specs.Laws.Few.{ram-lines, pool-lines, lines_few}

-- a line for each entry of the RAM, and for each range of the pool
pub ram-count : (n : ℕ) (xs : List TaggedRange) → n ≤ length xs → length (ram_lines (take n xs)) ≡ n
ram-count n xs h = ram-lines (take n xs) ∙ length-take-le n xs h

pub pool-count : (n : ℕ) (xs : List AllocatedRange) → n ≤ length xs → length (pool_lines (take n xs)) ≡ n
pool-count n xs h = pool-lines (take n xs) ∙ length-take-le n xs h

-- the lines of a plan, list by list
pub plan-count : (ram : List TaggedRange) (pool : List AllocatedRange) (gets : List Get) (es : List AddressRange)
    → length (plan_lines ram pool gets es)
    ≡ length (ram_lines ram) + (length (pool_lines pool) + (length (get_lines gets es) + length (map_lines (after_gets gets es))))
unfolding plan_lines
plan-count ram pool gets es = simp length-append

-- the answer of a refusal, with the output as found, and that of lines that are written
pub answers_refused : {p : Plan} {n : Refusal} {output : List ℕ} → p ≡ refused n → Answers p output output (Err n)
answers_refused e = record { answer = rw e; output = rw e }

pub answers-lines : {p : Plan} {ls : List OutputLine} {before after : List ℕ} {r : ℕ} → p ≡ lines ls → Wrote ls 0 before after r
    → Answers p before after (Ok r)
answers-lines {p} {ls} {before} {after} {r} e w =
    let n : r ≡ length (lines_bytes ls) = omega (arith, w.place) in
    record { answer = rw (e, n); output = rw e (w.bytes ∙ put-start (lines_bytes ls) before) }

-- the output has room for the lines of every plan
pub plan_room : (text : List ℕ) (ls : List OutputLine) (output : List ℕ) → output_size_for (length text) ≤ length output → plan_of text ≡ lines ls → Room (length ls) 0 output
plan_room text ls output h e = omega (arith, lines_few text ls e)

-- the bytes that are written lie within the output
pub written_within : (p : Plan) (before : List ℕ) {n : ℕ} {after : List ℕ} → Ok n ≡ planned_as p → after ≡ output_as p before → n ≤ length after
written_within (refused k) before e f = absurd cc
written_within (lines ls) before {n} e f =
    let h : n ≡ length (lines_bytes ls) = cc in
    rw f (simp length-append (omega arith))
