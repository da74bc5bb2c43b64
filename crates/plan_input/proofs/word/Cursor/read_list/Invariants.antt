-- `list::Cursor::read_list` meets its contract. The loop's invariant: the whole answer is what the records from the cursor on
-- come to with the count, the check and the list as they are. The measure is how many records are left.
use Prim.Native.Nat.{◌+◌}
use mathlib.Core.Path.{◌≡◌}
use mathlib.Core.List.{map}
use lib.ListN.{length}
use Rattle.plan_input.specs.Record.{records_at, Moved}
use Rattle.plan_input.specs.Word.{words_first, behind_words}
use Rattle.host_map.specs.Rows.{check_start, checked_all}
use Rattle.plan_input.specs.Laws.Stores.{Stores}
use Rattle.plan_input.proofs.word.Cursor.read_list.Given as goal

abbrev pub invariant-loop-record : goal.invariant-loop-record
invariant-loop-record g l =
    let before = records_at l.text l.initial.self.at in
    let now = records_at l.text l.self.at in
    let all = map g.T.Item.item_of (words_first l.place before) in
    let left = map g.T.Item.item_of (words_first l.place now) in
    (l.count + length left ≡ length all)
    × (checked_all l.check (map g.T.HasRange.range_in left) ≡ checked_all check_start (map g.T.HasRange.range_in all))
    × (behind_words l.place now ≡ behind_words l.place before)
    × Moved l.text l.initial.self l.self now
    × Stores l.initial.list all l.count l.list left

abbrev pub decreases-loop-record : goal.decreases-loop-record
decreases-loop-record g l = length (records_at l.text l.self.at)
