-- `line::put_lines`: what came so far is written.
use Rattle.plan.specs.Line.{Wrote}
use Rattle.plan.proofs.line.put_lines.Given as goal

abbrev pub invariant-loop-line : goal.invariant-loop-line
invariant-loop-line g l =
    (goal.iterator-loop-line g).can_next l.line-iterator
    × (goal.iterator-loop-line g).is_finite l.line-iterator
    × Wrote l.yielded l.at l.initial.output l.output l.next
