-- `pool::place_pool` meets its contract: where there is room and a table, the call is the placement.
use Rattle.std.proofs.Common.{◌≡◌, Some, length, sym, ap, ◌∙◌, arith}
use Rattle.std.proofs.lemmas.Result.{err_from_is_err_and}
use Rattle.address_space.specs.Table.{entries_of}
use Rattle.private_pool.specs.Pool.{pool_placed}
use Rattle.table_words.specs.Table.{written}
use Rattle.bootplan_c.specs.Laws.Pool.{pool-read, answer_refused, answer-placed}
use Rattle.bootplan_c.proofs.pool.place_pool.Goals as goal

pub returns-in_err-placed : goal.returns-in_err-placed
returns-in_err-placed c =
    let a = c.args in
    let k = c.in_ok-manager.manager in
    let m : c.read_table.result ≡ Some k = grind arith in
    let read = pool-read a.pages a.split a.table.now (length a.pieces.now) c.if-pieces-lt-PIECES_ROOM.false (sym m ∙ c.read_table.ensures) in
    let refused = answer_refused k (pool_placed a.pages a.split (entries_of k)) c.allocate_private_pool-pool.ensures c.in_err-placed.was in
    let told = err_from_is_err_and c.from_residual-in_err-placed.result c.from_residual-in_err-placed.ensures.1 in
    record {
      value = rw (read, refused, told.1, told.2);
      table_after = rw (read, refused);
      pieces_after = rw (read, refused);
      count_after = rw (read, refused);
    }

pub returns : goal.returns
returns c =
    let a = c.args in
    let k = c.in_ok-manager.manager in
    let m : c.read_table.result ≡ Some k = grind arith in
    let read = pool-read a.pages a.split a.table.now (length a.pieces.now) c.if-pieces-lt-PIECES_ROOM.false (sym m ∙ c.read_table.ensures) in
    let held = answer-placed k (pool_placed a.pages a.split (entries_of k)) c.allocate_private_pool-pool.ensures c.in_ok-placed.was in
    let stored = written a.table.now (entries_of c.allocate_private_pool-pool.result.manager) in
    record {
      value = rw (read, held.0);
      table_after = rw (read, held.0) (c.write_table.ensures ∙ ap stored held.1);
      pieces_after = rw (read, held.0) c.write_pieces.ensures;
      count_after = rw (read, held.0) (sym held.2);
    }
