-- The loop's invariant: the words of the ranges from index `i` on are left to store.
use Rattle.std.proofs.Common.{◌*◌, drop}
use Rattle.std.proofs.lemmas.List.Edits.{sets}
use Rattle.address_space.specs.List.{numbered_ranges}
use Rattle.table_words.specs.Laws.Stores.{Stores}
use Rattle.table_calls.specs.Ranges.{ranges_words}
use Rattle.table_calls.proofs.ranges.write_vtl2_ranges.Given as goal

abbrev pub invariant-loop-i : goal.invariant-loop-i
invariant-loop-i l =
    Stores (sets l.initial.words 0 (ranges_words (numbered_ranges l.found-items))) (3 * l.i) l.words (ranges_words (numbered_ranges (drop l.i l.found-items)))
