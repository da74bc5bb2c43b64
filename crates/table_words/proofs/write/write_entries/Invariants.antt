-- The loop's invariant: the words of the entries from index `i` on are left to store.
use Rattle.std.proofs.Common.{◌+◌, ◌*◌, drop}
use Rattle.std.proofs.lemmas.List.Edits.{sets}
use Rattle.table_words.specs.Table.{entries_words}
use Rattle.table_words.specs.Laws.Stores.{Stores}
use Rattle.table_words.proofs.write.write_entries.Given as goal

abbrev pub invariant-loop-i : goal.invariant-loop-i
invariant-loop-i l = Stores (sets l.initial.words 2 (entries_words l.entry-items)) (2 + 4 * l.i) l.words (entries_words (drop l.i l.entry-items))
