-- The loop's invariant: the words of the pieces from index `i` on are left to store.
use Rattle.std.proofs.Common.{◌*◌, drop}
use Rattle.std.proofs.lemmas.List.Edits.{sets}
use Rattle.table_words.specs.Laws.Stores.{Stores}
use Rattle.table_calls.specs.Pool.{pieces_words}
use Rattle.table_calls.proofs.pool.write_pieces.Given as goal

abbrev pub invariant-loop-i : goal.invariant-loop-i
invariant-loop-i l = Stores (sets l.initial.words 0 (pieces_words l.pieces)) (3 * l.i) l.words (pieces_words (drop l.i l.pieces))
