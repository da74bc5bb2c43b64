-- The loop's invariant: the words of the entries from index `i` on are left to store.
use Rattle.std.proofs.Common.{◌*◌, drop}
use Rattle.std.proofs.lemmas.List.Edits.{sets}
use Rattle.table_words.specs.Laws.Stores.{Stores}
use Rattle.selection_calls.specs.Selection.{ram_words}
use Rattle.selection_calls.proofs.selection.write_ram.Given as goal

abbrev pub invariant-loop-i : goal.invariant-loop-i
invariant-loop-i l = Stores (sets l.initial.ram 0 (ram_words l.entries)) (3 * l.i) l.ram (ram_words (drop l.i l.entries))
