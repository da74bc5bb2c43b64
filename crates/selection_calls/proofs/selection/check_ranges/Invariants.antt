-- `selection::check_ranges` meets its contract. The loop's invariant: the whole answer is what the words that are left come to with the
-- check as it is.
use Rattle.std.proofs.Common.{◌≡◌, ◌/◌, length, map}
use Rattle.std.specs.Slice.Iter.{chunks_exact_rest, chunks_exact_size}
use Rattle.host_map.specs.Rows.{check_start, checked_all}
use Rattle.table_words.specs.List.{range_in}
use Rattle.table_words.specs.Rows.{rows}
use Rattle.selection_calls.proofs.selection.check_ranges.Given as goal

abbrev pub invariant-loop-row : goal.invariant-loop-row
invariant-loop-row l =
    let left = chunks_exact_rest l.row-iterator in
    (chunks_exact_size l.row-iterator ≡ l.size)
    × (checked_all l.check (map range_in (rows l.size (length left / l.size) left))
    ≡ checked_all check_start (map range_in (rows l.size (length l.words / l.size) l.words)))
