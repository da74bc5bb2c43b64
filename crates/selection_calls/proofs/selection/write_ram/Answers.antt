-- A turn stores the next entry's words.
use Rattle.std.proofs.Common.{refl, ap, arith, add-one, drop-cons, drop_of_length-le, get_or, [], ◌∷◌}
use Rattle.memory_range.specs.List.{tagged}
use Rattle.table_words.specs.Laws.Stores.{stores_more, stores-end}
use Rattle.selection_calls.specs.Selection.{ram_words}
use Rattle.selection_calls.proofs.selection.write_ram.Goals as goal

pub loop-i-init : goal.loop-i-init
loop-i-init c = record { all = refl }

pub loop-i-preserved : goal.loop-i-preserved
loop-i-preserved c =
    let es = c.args.entries.now in
    let i = c.loop-i.i in
    let x = get_or es i (tagged 0 0 0) in
    let s = rw (drop-cons es i (tagged 0 0 0) (omega arith)) at c.loop-i.invariant in
    rw add-one (stores_more (x.range.start ∷ x.range.end ∷ x.tag ∷ []) _ (rw c.from.ensures at c.put_words.ensures) (omega arith) s)

pub returns : goal.returns
returns c = stores-end (ap ram_words (drop_of_length-le c.args.entries.now {i = c.loop-i.i} (omega arith))) c.loop-i.invariant
