use Rattle.std.proofs.Common.{rules, sym, subst}
use Rattle.std.specs.Io.KnownBytes.{Consumes}
use Rattle.std.proofs.KnownBytes.{Consumes-trans}
use Rattle.bootplan.proofs.Known.{take-put_mid_more}
use Rattle.bootplan.proofs.read_input.Goals as goal

pub loop-len-preserved : goal.loop-len-preserved
loop-len-preserved g c =
    let before = c.loop-len.invariant in
    let more = take-put_mid_more c.loop-len.len _ c.in-Ok.more c.loop-len.buffer c.read.new.buf before.0 c.in-Ok.ensures.bound.0 in
    (search rules, search rules, subst (Consumes _ _) (sym more) (Consumes-trans _ _ _ _ _ before.2 c.in-Ok.ensures.bytes.0))
