-- The loop's invariant: the ranges of the rows to come are left to store.
use Rattle.std.proofs.Common.{◌≡◌, map}
use Rattle.std.proofs.lemmas.List.Edits.{sets}
use Rattle.table_words.specs.List.{ram_rows, ram_low}
use Rattle.table_words.specs.Laws.Chunks.{rows_left}
use Rattle.table_words.proofs.list.read_ram.Given as goal

abbrev pub invariant-loop-i : goal.invariant-loop-i
invariant-loop-i l = record {
  width : l.i-iterator.iter.size ≡ 3;
  left : sets l.ram l.i-iterator.count (map ram_low (rows_left l.i-iterator.iter)) ≡ sets l.initial.ram 0 (map ram_low (ram_rows l.words));
}
