-- The loop's invariant: the values to come are left to store, from the next place on.
use Rattle.std.proofs.Common.{◌≡◌, length}
use Rattle.std.proofs.lemmas.List.Edits.{sets}
use Rattle.table_words.proofs.write.put_words.Given as goal

abbrev pub invariant-loop-place : goal.invariant-loop-place
invariant-loop-place l = record {
  room : l.place-iterator.a.end ≡ length l.words;
  left : sets l.words l.place-iterator.a.start l.place-iterator.b.rest.now ≡ sets l.initial.words l.at l.values;
}
