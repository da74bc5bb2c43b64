-- The loop's invariant: what the node needs beside all the pieces is what it still needs beside those that are left. A piece of the
-- node lessens it, another one does not.
use Rattle.std.proofs.Common.{◌≡◌, drop}
use Rattle.boot_take.specs.Take.{need_on}
use Rattle.boot_take.proofs.take.need_on.Given as goal

abbrev pub invariant-loop-piece : goal.invariant-loop-piece
invariant-loop-piece l = need_on l.share l.pieces l.node ≡ need_on l.need (drop l.piece-index l.pieces) l.node
