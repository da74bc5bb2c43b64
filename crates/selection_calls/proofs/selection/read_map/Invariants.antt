-- The loop's invariant: the whole answer is what the words that are left come to with the map as it is.
use Rattle.std.proofs.Common.{◌≡◌, true}
use Rattle.std.proofs.lemmas.List.Edits.{sets}
use Rattle.std.specs.Iterator.Adapters.{enumerate_source, enumerate_count}
use Rattle.std.specs.Slice.Iter.{chunks_exact_rest, chunks_exact_size}
use Rattle.selection_calls.specs.Selection.{map_stands, word_entries}
use Rattle.selection_calls.proofs.selection.read_map.Given as goal

abbrev pub invariant-loop-at : goal.invariant-loop-at
invariant-loop-at l =
    let words = chunks_exact_rest (enumerate_source l.at-iterator) in
    (chunks_exact_size (enumerate_source l.at-iterator) ≡ 4)
    × (map_stands words ≡ true)
    × (sets l.map (enumerate_count l.at-iterator) (word_entries words) ≡ sets l.initial.map 0 (word_entries l.words))
