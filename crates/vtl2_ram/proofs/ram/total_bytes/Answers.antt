-- A turn adds the bytes of the next entry.
use Rattle.std.proofs.Common.{suc, add-one, arith, drop-cons}
use Rattle.std.proofs.Common.{drop}
use Rattle.memory_range.specs.List.{tagged, ranges_in}
use Rattle.vtl2_ram.specs.Laws.Ram.{ordered-sum}
use Rattle.vtl2_ram.proofs.ram.total_bytes.Goals as goal

pub loop-entry-preserved : goal.loop-entry-preserved
loop-entry-preserved c =
    let entries = c.args.entries.now in
    let l = c.loop-entry in
    let next = drop-cons entries l.entry-index (tagged 0 0 0) c.loop-entry-test.true in
    let i = rw next at l.invariant in
    rw add-one (omega (arith, i.0, i.1), ordered-sum l.bytes _ (ranges_in (drop (suc l.entry-index) entries)) i.1)
