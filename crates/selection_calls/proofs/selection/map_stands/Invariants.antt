-- `selection::map_stands` meets its contract. The loop's invariant: the words stand for a map where those that are left do.
use Rattle.std.proofs.Common.{◌≡◌, ◌%◌, length}
use Rattle.std.specs.Slice.Iter.{chunks_exact_rest, chunks_exact_size}
use Rattle.selection_calls.specs.Selection.{map_stands}
use Rattle.selection_calls.proofs.selection.map_stands.Given as goal

abbrev pub invariant-loop-entry : goal.invariant-loop-entry
invariant-loop-entry l =
    (chunks_exact_size l.entry-iterator ≡ 4)
    × (map_stands (chunks_exact_rest l.entry-iterator) ≡ map_stands l.words)
    × (length (chunks_exact_rest l.entry-iterator) % 4 ≡ length l.words % 4)
