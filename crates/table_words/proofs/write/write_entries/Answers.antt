-- `write::write_entries` meets its contract: a turn stores the next entry's words.
use Rattle.std.proofs.Common.{refl, ap, arith, add-one, drop-cons, drop_of_length-le, get_or}
use Rattle.address_space.specs.Table.{no_entry}
use Rattle.table_words.specs.Table.{entry_words, entries_words}
use Rattle.table_words.specs.Laws.Stores.{stores_more, stores-end}
use Rattle.table_words.proofs.write.write_entries.Goals as goal

pub loop-i-init : goal.loop-i-init
loop-i-init c = record { all = refl }

pub loop-i-preserved : goal.loop-i-preserved
loop-i-preserved c =
    let es = c.entries-entry-items.result.now in
    let l = c.loop-i in
    let s = rw (drop-cons es l.i no_entry (omega arith)) at l.invariant in
    let put = rw (c.usage_word.ensures, c.from.ensures) at c.put_words.ensures in
    rw add-one (stores_more (entry_words (get_or es l.i no_entry)) _ put (omega arith) s)

pub returns : goal.returns
returns c =
    let es = c.entries-entry-items.result.now in
    let none = drop_of_length-le es {i = c.loop-i.i} (omega arith) in
    rw (← c.entries-entry-items.ensures) (stores-end (ap entries_words none) c.loop-i.invariant)
