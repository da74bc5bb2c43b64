-- The loop's invariant: the ranges of the rows to come are left to store.
use Rattle.std.proofs.Common.{◌≡◌, map}
use Rattle.std.proofs.lemmas.List.Edits.{sets}
use Rattle.table_words.specs.List.{range_in, ranges_in}
use Rattle.table_words.specs.Laws.Chunks.{rows_left}
use Rattle.table_words.proofs.list.read_ranges.Given as goal

abbrev pub invariant-loop-i : goal.invariant-loop-i
invariant-loop-i l = record {
  width : l.i-iterator.iter.size ≡ 2;
  left : sets l.ranges l.i-iterator.count (map range_in (rows_left l.i-iterator.iter)) ≡ sets l.initial.ranges 0 (ranges_in l.words);
}
