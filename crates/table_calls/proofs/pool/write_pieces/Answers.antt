-- `pool::write_pieces` meets its contract: a turn stores the next piece's words.
use Rattle.std.proofs.Common.{refl, ap, arith, add-one, get_or, drop-cons, drop_of_length-le}
use Rattle.memory_range.specs.Range.{range}
use Rattle.address_space.specs.declared.request.AllocatedRange.{AllocatedRange}
use Rattle.table_words.specs.Laws.Stores.{stores_more, stores-end}
use Rattle.table_calls.specs.Pool.{piece_words, pieces_words}
use Rattle.table_calls.proofs.pool.write_pieces.Goals as goal

abbrev no_piece : AllocatedRange
no_piece = record { range = range 0 0; vnode = 0 }

pub loop-i-init : goal.loop-i-init
loop-i-init c = record { all = refl }

pub loop-i-preserved : goal.loop-i-preserved
loop-i-preserved c =
    let ps = c.args.pieces.now in
    let l = c.loop-i in
    let s = rw (drop-cons ps l.i no_piece (omega arith)) at l.invariant in
    let put = rw c.from.ensures at c.put_words.ensures in
    rw add-one (stores_more (piece_words (get_or ps l.i no_piece)) _ put (omega arith) s)

pub returns : goal.returns
returns c =
    stores-end (ap pieces_words (drop_of_length-le c.args.pieces.now {i = c.loop-i.i} (omega arith))) c.loop-i.invariant
