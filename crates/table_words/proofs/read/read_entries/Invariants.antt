-- The loop's invariant: all rows are good where those to come are, and the entries of these are left to store.
use Rattle.std.proofs.Common.{◌≡◌, ◌-◌, ◌*◌, ◌≤◌, map, length, drop}
use Rattle.std.proofs.lemmas.List.Edits.{sets}
use Rattle.table_words.specs.Rows.{rows}
use Rattle.table_words.specs.Table.{entry_of, all_good}
use Rattle.table_words.specs.Laws.Stores.{Stores}
use Rattle.table_words.specs.Laws.Table.{no_entries}
use Rattle.table_words.proofs.read.read_entries.Given as goal

abbrev pub invariant-loop-i : goal.invariant-loop-i
invariant-loop-i l =
    let all = rows 4 l.count (drop 2 l.words) in
    let i = l.i-iterator.a.start in
    let left = rows 4 (l.count - i) l.i-iterator.b.rest.now in
    record {
      width : l.i-iterator.b.size ≡ 4;
      end : l.i-iterator.a.end ≡ l.count;
      within : i ≤ l.count;
      enough : 4 * (l.count - i) ≤ length l.i-iterator.b.rest.now;
      good : all_good all ≡ all_good left;
      entries_left : Stores (sets no_entries 0 (map entry_of all)) i l.manager.address_space (map entry_of left);
    }
