-- `text::check_from` meets its contract. The loop's invariant: the whole answer is that of the records from `next` on,
-- judged at the order kept so far. The measure is what is left of the text: each record's step goes on.
use Prim.Native.Nat.{◌-◌}
use mathlib.Core.Path.{◌≡◌}
use lib.ListN.{length}
use Rattle.plan_text.specs.Text.{check_from, records_from}
use Rattle.plan_text.proofs.text.check_from.Given as goal

abbrev pub invariant-loop-record : goal.invariant-loop-record
invariant-loop-record l = check_from l.after (records_from l.next l.text) ≡ check_from l.order (records_from l.at l.text)

abbrev pub decreases-loop-record : goal.decreases-loop-record
decreases-loop-record l = length l.text - l.next
